-- How a cursor goes on. Assumes nothing.
use Rattle.base.specs.declared.Refusal.{Refusal}
use mathlib.Core.Path.{◌≡◌, refl, sym, ap, ◌∙◌, subst}
use mathlib.Core.List.{List, [], ◌∷◌}
use Prim.Native.Nat.{ℕ, suc, ◌-◌, ◌≤◌, ◌<◌}
use native.Mathlib.Omega.{arith}
use lib.ListN.{length, drop}
use borrow.Author.Tests.{le-ltb}
use Rattle.base.specs.Parsed.{got, bind, prepend, many, behind}
use Rattle.base.specs.Moment.{Finite, end_of_time}
use Rattle.base.proofs.Tests.{clash}
use Rattle.base.proofs.ParseLaws.{bad-got, bind-good}
use Rattle.places.specs.Placed.{at, no, Stands}
use Rattle.recurrence.specs.Tails.{TailOk, lookup}
use Rattle.recurrence.proofs.IntervalLaws.{lookup-in}
use Rattle.intervals.specs.declared.Interval.{Interval}
use Rattle.intervals.specs.Interval.{parse_interval, start_of}
use Rattle.tails.specs.Sound.{NamedTailOk}
use Rattle.tails.specs.declared.NamedTail.{NamedTail}
use Rattle.zones.specs.Content.{Ending, untailed, tailed}
use Rattle.zones.specs.Intervals.{Holds}
use Rattle.zones.specs.Lookup.{until, holding, in_list, in_tail, behind_list, in_body}
use Rattle.zones.specs.Sound.{EndOk}
use Rattle.zones.proofs.PartitionLaws.{behind-start}
use Rattle.zones.specs.declared.Found.{Found}
use Rattle.zones.specs.declared.ZoneEnd.{ZoneEnd}
use Rattle.zones.specs.declared.ZoneEnd.TheVariants.{Untailed, Tailed, Refused as EndRefused}
use Rattle.cursors.specs.declared.Cursor.{Cursor}
use Rattle.cursors.specs.Cursors.{found_at, list_end, read_of, Onward, ListAt, next_start, NextTo, TailOn, InList, Position, in-list, in-tail, Points}
use Rattle.cursors.proofs.CursorLaws.{start-before}

-- each way out of `list_end`
module _ (r : ZoneEnd) where
  pub end-untailed : r ≡ Untailed → end_of_time ≡ list_end r
  unfolding list_end
  end-untailed e = rw e

  pub end-tailed : (n : NamedTail) → r ≡ Tailed n → n.tail.start ≡ list_end r
  unfolding list_end
  end-tailed n e = rw e

  pub end_refused : (k : Refusal) → r ≡ EndRefused k → end_of_time ≡ list_end r
  unfolding list_end
  end_refused k e = rw e

-- the first of some intervals, and those behind it
pub record FirstOf (pool prev n : ℕ) (s : List ℕ) (list : List Interval) (rest : List ℕ) : Type 0 where
  pub one : Interval
  pub after : List ℕ
  pub more : List Interval
  pub is : parse_interval pool prev s ≡ got one after
  pub reads : many (parse_interval pool) start_of n one.start after ≡ got more rest
  pub list-is : one ∷ more ≡ list

pub first-of : (pool prev n : ℕ) (s : List ℕ) (list : List Interval) (rest : List ℕ) → many (parse_interval pool) start_of (suc n) prev s ≡ got list rest
    → FirstOf pool prev n s list rest
unfolding many
first-of pool prev n s list rest e =
    let a = bind-good (parse_interval pool prev s) (λ i r. bind (many (parse_interval pool) start_of n (start_of i) r) (prepend i)) list rest e in
    let b = bind-good (many (parse_interval pool) start_of n (start_of a.first) a.rest) (prepend a.first) list rest a.on in
    let f : got (a.first ∷ b.first) b.rest ≡ got list rest = b.on in
    let g : a.first ∷ b.first ≡ list = cc in
    let h : b.rest ≡ rest = cc in
    record { one = a.first; after = a.rest; more = b.first; is = a.is; reads = b.is ∙ ap (got b.first) h; list-is = g }

-- where the list ends, by its ending
list-ends : (pool : ℕ) (is : List Interval) (end : ℕ) (e : Ending) → EndOk pool is end e → list_end (read_of e) ≡ end
unfolding list_end
list-ends pool is end untailed h = sym h
list-ends pool is end (tailed n) h = h.2.starts

module _ (pool : ℕ) (s : List ℕ) where
  -- a cursor at a listed interval
  module _ (i : Interval) (left place : ℕ) (ending : ZoneEnd) (a : ListAt pool s i left place ending) where
    list-points : (c : Cursor) → InList pool s ending c i a.list a.end a.behind → Points pool s ending c × Holds c.held i.start
    list-points c k = (
      record { whole = a.whole; position = in-list i a.list a.end a.behind k },
      record {
        from = omega (arith, ap (λ (x : Found). x.start) k.held-is);
        to = omega (arith, ap (λ (x : Found). x.end) k.held-is, start-before pool s i a.end a.list a.behind a.onward);
      },
    )

    pub at_last : left ≡ 0 → (x : Found) (m : ℕ) → m ≡ list_end ending → x ≡ until i m
        → Points pool s ending (record { held = x; left = 0; next = i; place = place }) × Holds x i.start
    unfolding next_start
    at_last z x m e f = go a.list refl
      where
        ends : m ≡ a.end
        ends = e ∙ ap list_end a.ending-is ∙ list-ends pool (i ∷ a.list) a.end a.behind a.onward.end-ok

        here : Cursor
        here = record { held = x; left = 0; next = i; place = place }

        go : (is : List Interval) → a.list ≡ is → Points pool s ending here × Holds x i.start
        go [] l = list-points here (record {
          onward = a.onward;
          held-is = f ∙ ap (until i) ends ∙ ap (λ (is : List Interval). until i (next_start a.end is)) (sym l);
          count = ap length (sym l);
          next-is = subst (λ (is : List Interval). NextTo pool s is here) (sym l) tt;
          ending-is = a.ending-is;
        })
        go (j ∷ js) l = absurd (omega (arith, a.count, ap length l))

    pub at_inner : (left ≡ 0 → ⊥) → (j : Interval) (e : ℕ) → Stands s (parse_interval pool i.start (drop place s)) (at j e) → (x : Found) → x ≡ until i j.start
        → Points pool s ending (record { held = x; left = left; next = j; place = e }) × Holds x i.start
    unfolding next_start
    at_inner z j e h x f = go a.list refl
      where
        here : Cursor
        here = record { held = x; left = left; next = j; place = e }

        go : (is : List Interval) → a.list ≡ is → Points pool s ending here × Holds x i.start
        go [] l = absurd (z (a.count ∙ ap length l))
        go (k ∷ ks) l =
            let r : many (parse_interval pool) start_of (suc (length ks)) i.start (drop place s) ≡ got (k ∷ ks) a.stand.rest =
            subst (λ (is : List Interval). many (parse_interval pool) start_of (length is) i.start (drop place s) ≡ got is a.stand.rest) l a.stand.read in
            let o = first-of pool i.start (length ks) (drop place s) (k ∷ ks) a.stand.rest r in
            let p : got o.one o.after ≡ got j (drop e s) = sym o.is ∙ h.means in
            let j-is : o.one ≡ j = cc in
            let after_is : o.after ≡ drop e s = cc in
            let both-are : o.one ∷ o.more ≡ k ∷ ks = o.list-is in
            let k-is : j ≡ k = cc in
            let ks-is : o.more ≡ ks = cc in
            let reads : many (parse_interval pool) start_of (length ks) k.start (drop e s) ≡ got ks a.stand.rest =
            subst (λ (q : List ℕ). many (parse_interval pool) start_of (length ks) k.start q ≡ got ks a.stand.rest) after_is
            (subst (λ (y : Interval). many (parse_interval pool) start_of (length ks) y.start o.after ≡ got ks a.stand.rest) (j-is ∙ k-is)
            (o.reads ∙ ap (λ (is : List Interval). got is a.stand.rest) ks-is)) in
            list-points here (record {
              onward = a.onward;
              held-is = f ∙ ap (λ (y : Interval). until i y.start) k-is ∙ ap (λ (is : List Interval). until i (next_start a.end is)) (sym l);
              count = a.count;
              next-is = subst (λ (is : List Interval). NextTo pool s is here) (sym l) (k-is, record { rest = a.stand.rest; read = reads; inside = h.within });
              ending-is = a.ending-is;
            })

    pub at_none : {G : Type 0} → (left ≡ 0 → ⊥) → (k : Refusal) → Stands s (parse_interval pool i.start (drop place s)) (no k) → G
    at_none {G} z k h = go a.list refl
      where
        go : (is : List Interval) → a.list ≡ is → G
        go [] l = absurd (z (a.count ∙ ap length l))
        go (j ∷ js) l =
            let r : many (parse_interval pool) start_of (suc (length js)) i.start (drop place s) ≡ got (j ∷ js) a.stand.rest =
            subst (λ (is : List Interval). many (parse_interval pool) start_of (length is) i.start (drop place s) ≡ got is a.stand.rest) l a.stand.read in
            let o = first-of pool i.start (length js) (drop place s) (j ∷ js) a.stand.rest r in
            bad-got (sym h.means ∙ o.is)

  -- the zone from the next listed interval on
  onward-next : (i j : Interval) (js : List Interval) (end : ℕ) (e : Ending) → Onward pool s i (j ∷ js) end e → Onward pool s j js end e
  unfolding in_body in_list holding behind
  onward-next i j js end e o = record {
    id = o.id;
    on = λ t f h. o.on t f (omega (arith, o.rising.0.rises)) ∙ rw (le-ltb t j.start h);
    first = omega (arith, o.rising.0.finite.high);
    rising = o.rising.1;
    end-ok = ends e o.end-ok;
  }
    where
      ends : (e : Ending) → EndOk pool (i ∷ j ∷ js) end e → EndOk pool (j ∷ js) end e
      ends untailed h = h
      ends (tailed n) h = h

  -- the tail behind a list
  list-tail : (i : Interval) (is : List Interval) (end : ℕ) (n : NamedTail) → Onward pool s i is end (tailed n) → TailOn pool s n
  unfolding in_body behind_list behind
  list-tail i is end n o =
      let b : n.tail.start ≡ end = o.end-ok.2.starts in
      record {
        on = λ u f l. o.on u f (omega (arith, o.end-ok.0, behind-start pool i.start is o.rising)) ∙ rw (le-ltb u end (omega arith));
        named = subst (λ (m : ℕ). NamedTailOk pool m n) (sym b) o.end-ok.2;
      }

  module _ (ending : ZoneEnd) (c : Cursor) (p : Points pool s ending c) where
    pub tail-on : (n : NamedTail) → ending ≡ Tailed n → TailOn pool s n
    tail-on n h = go p.position
      where
        by_end : (i : Interval) (is : List Interval) (end : ℕ) (e : Ending) → InList pool s ending c i is end e → TailOn pool s n
        by_end i is end untailed k = let f : Untailed ≡ Tailed n = sym k.ending-is ∙ h in clash cc
        by_end i is end (tailed m) k =
            let f : Tailed m ≡ Tailed n = sym k.ending-is ∙ h in
            let g : m ≡ n = cc in
            subst (TailOn pool s) g (list-tail i is end m k.onward)

        go : Position pool s ending c → TailOn pool s n
        go (in-list i is end e k) = by_end i is end e k
        go (in-tail m t k) =
            let f : Tailed m ≡ Tailed n = sym k.ending-is ∙ h in
            let g : m ≡ n = cc in
            subst (TailOn pool s) g k.tail-on

    pub record NextIs : Type 0 where
      pub list_at : ListAt pool s c.next (c.left - 1) c.place ending
      pub start_is : c.next.start ≡ c.held.end

    -- the next listed interval
    pub next-listed : 0 < c.left → NextIs
    unfolding next_start
    next-listed h = go p.position
      where
        by-list : (i : Interval) (is : List Interval) (end : ℕ) (e : Ending) → InList pool s ending c i is end e → NextIs
        by-list i [] end e k = absurd (omega (arith, k.count))
        by-list i (j ∷ js) end e k =
            let n : c.next ≡ j = k.next-is.0 in
            record {
              list_at = subst (λ (y : Interval). ListAt pool s y (c.left - 1) c.place ending) (sym n) (record {
                list = js;
                end = end;
                behind = e;
                onward = onward-next i j js end e k.onward;
                count = omega (arith, k.count);
                stand = k.next-is.1;
                ending-is = k.ending-is;
                whole = p.whole;
              });
              start_is = ap (λ (y : Interval). y.start) n ∙ sym (ap (λ (x : Found). x.end) k.held-is);
            }

        go : Position pool s ending c → NextIs
        go (in-list i is end e k) = by-list i is end e k
        go (in-tail n t k) = absurd (omega (arith, k.count))

    -- the tail, from the end of what is held on
    pub record TailNext : Type 0 where
      pub tail : NamedTail
      pub ending-is : ending ≡ Tailed tail
      pub on : TailOn pool s tail
      pub from : tail.tail.start ≤ c.held.end

    pub next-tailed : c.left ≡ 0 → c.held.end < end_of_time → TailNext
    unfolding next_start in_tail lookup
    next-tailed z h = go p.position
      where
        by_end : (i : Interval) (end : ℕ) (e : Ending) → InList pool s ending c i [] end e → TailNext
        by_end i end untailed k = absurd (omega (arith, k.onward.end-ok, ap (λ (x : Found). x.end) k.held-is))
        by_end i end (tailed n) k =
            let o = k.onward in
            let e : c.held.end ≡ end = ap (λ (x : Found). x.end) k.held-is in
            let b : n.tail.start ≡ end = o.end-ok.2.starts in
            record {
              tail = n;
              ending-is = k.ending-is;
              on = list-tail i [] end n o;
              from = omega arith;
            }

        by-list : (i : Interval) (is : List Interval) (end : ℕ) (e : Ending) → InList pool s ending c i is end e → TailNext
        by-list i [] end e k = by_end i end e k
        by-list i (j ∷ js) end e k = absurd (omega (arith, k.count))

        go : Position pool s ending c → TailNext
        go (in-list i is end e k) = by-list i is end e k
        go (in-tail n t k) =
            let b : t < (lookup n.tail t).end = (lookup-in n.tail k.tail-on.named.tail-ok t k.from k.finite).1.to in
            let e : c.held.end ≡ (lookup n.tail t).end = ap (λ (x : Found). x.end) k.held-is in
            record {
              tail = n;
              ending-is = k.ending-is;
              on = k.tail-on;
              from = omega (arith, k.from);
            }

    -- an instant from there on
    module _ (w : TailNext) (m : NamedTail) (e : ending ≡ Tailed m) (t : ℕ) (f : Finite t) (l : c.held.end ≤ t) where
      same-tail : w.tail ≡ m
      same-tail = let g : Tailed w.tail ≡ Tailed m = sym w.ending-is ∙ e in cc

      pub tail-asks : Finite t × TailOk m.tail
      tail-asks = (f, subst (λ (n : NamedTail). TailOk n.tail) same-tail w.on.named.tail-ok)

      pub tail-points : (x : Found) (next : Interval) (place : ℕ) → x ≡ in_tail t m
          → Points pool s ending (record { held = x; left = 0; next = next; place = place }) × (x.start ≤ t) × (c.held.end < x.end)
      unfolding in_tail
      tail-points x next place h =
          let g : x ≡ in_tail t w.tail = h ∙ ap (in_tail t) (sym same-tail) in
          let o : w.tail.tail.start ≤ t = omega (arith, w.from) in
          let b = (lookup-in w.tail.tail w.on.named.tail-ok t o f).1 in (
            record {
              whole = p.whole;
              position = in-tail w.tail t (record {
                tail-on = w.on;
                finite = f;
                from = o;
                held-is = g;
                count = refl;
                ending-is = w.ending-is;
              });
            },
            omega (arith, b.from, ap (λ (y : Found). y.start) g),
            omega (arith, b.to, ap (λ (y : Found). y.end) g),
          )

    -- without a tail the last interval has no end
    pub no-untailed : {G : Type 0} → TailNext → ending ≡ Untailed → G
    no-untailed w e = let f : Tailed w.tail ≡ Untailed = sym w.ending-is ∙ e in clash cc

    pub no-refused : {G : Type 0} → TailNext → (k : Refusal) → ending ≡ EndRefused k → G
    no-refused w k e = let f : Tailed w.tail ≡ EndRefused k = sym w.ending-is ∙ e in clash cc
