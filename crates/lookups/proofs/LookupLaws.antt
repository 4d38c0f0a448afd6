-- The lookup: what one walk keeps gives the interval that holds the instant, and no other interval of the zone does. Assumes nothing.
use Rattle.base.specs.declared.Refusal.{Refusal}
use Rattle.std.specs.Prelude.{Err, Ok, Result}
use mathlib.Core.Path.{◌≡◌, refl, sym, ap, ◌∙◌, subst}
use mathlib.Core.Bool.{Bool}
use mathlib.Core.List.{List, [], ◌∷◌}
use Prim.Native.Nat.{ℕ, ◌≤◌, ◌<◌}
use native.Mathlib.Omega.{arith}
use lib.Dec.{ltb}
use borrow.Author.Tests.{lt-ltb, le-ltb}
use Rattle.base.specs.Pick.{pick}
use Rattle.base.specs.Parsed.{Parsed, got, bad}
use Rattle.base.specs.Moment.{Finite, start_of_time, end_of_time}
use Rattle.base.proofs.Tests.{by_order}
use Rattle.recurrence.specs.Tails.{TailOk}
use Rattle.intervals.specs.declared.Interval.{Interval}
use Rattle.intervals.specs.declared.Scan.{Scan}
use Rattle.intervals.specs.Scan.{scan_from, unscanned, scanned}
use Rattle.intervals.proofs.ScanLaws.{advance-closed, advance-next, advance-over}
use Rattle.intervals.specs.Sound.{Rising, ListOk}
use Rattle.tails.specs.declared.NamedTail.{NamedTail}
use Rattle.zones.specs.Content.{Ending, untailed, tailed, Body, fixed, listed, Zone}
use Rattle.zones.specs.Parse.{parse_zone}
use Rattle.zones.specs.Sound.{BodyOk}
use Rattle.zones.specs.Editions.{nameless, under}
use Rattle.zones.specs.Lookup.{zero_offset, until, holding, in_list, in_tail, behind_list, fixed_name_of, in_body, in_zone, answer_of}
use Rattle.lookups.specs.View.{held_until, body_read, read_of, fixed_name}
use Rattle.zones.proofs.SoundLaws.{zone-sound}
use Rattle.zones.specs.declared.Edition.{Edition}
use Rattle.zones.specs.declared.Edition.TheVariants.{One, Two}
use Rattle.zones.specs.declared.Found.{Found}
use Rattle.lookups.specs.declared.ZoneRead.{ZoneRead}
use Rattle.lookups.specs.declared.ZoneRead.TheVariants.{Fixed, Listed, Tailed, Refused}

-- once a start after the instant is met, the scan keeps what it holds
closed : (t end : ℕ) (i : Interval) (m last : ℕ) (is : List Interval) → m < end_of_time
    → held_until (scan_from t (record { held = i; end = m; last = last }) is) end ≡ until i m
unfolding scan_from held_until
closed t end i m last [] h = rw (lt-ltb m end_of_time h)
closed t end i m last (j ∷ is) h =
    ap (λ (c : Scan). held_until (scan_from t c is) end) (advance-closed t (record { held = i; end = m; last = last }) j h)
    ∙ closed t end i m j.start is h

-- until then it holds the latest start
opened : (pool t end : ℕ) (i : Interval) (last prev : ℕ) (is : List Interval) → Rising pool prev is
    → held_until (scan_from t (record { held = i; end = end_of_time; last = last }) is) end ≡ holding t end i is
unfolding scan_from holding held_until
opened pool t end i last prev [] h = refl
opened pool t end i last prev (j ∷ is) h =
    let c : Scan = record { held = i; end = end_of_time; last = last } in
    by_order t j.start
    (λ (l : t < j.start).
    ap (λ (x : Scan). held_until (scan_from t x is) end) (advance-next t c j (omega arith) l)
    ∙ closed t end i j.start j.start is (omega (arith, h.0.finite.high))
    ∙ rw (lt-ltb t j.start l))
    (λ (l : j.start ≤ t).
    ap (λ (x : Scan). held_until (scan_from t x is) end) (advance-over t c j (omega arith) l)
    ∙ opened pool t end j j.start j.start is h.1
    ∙ rw (le-ltb t j.start l))

held-is : (pool t end : ℕ) (is : List Interval) → ListOk pool is → held_until (scanned t is) end ≡ in_list t end is
unfolding scanned scan_from in_list
held-is pool t end [] h = absurd h
held-is pool t end (i ∷ is) h =
    ap (λ (x : Scan). held_until (scan_from t x is) end) (advance-over t unscanned i (omega arith) (omega (arith, h.0)))
    ∙ opened pool t end i i.start i.start is h.2

-- the answer, from what one walk keeps
abbrev pub tail_answer : ℕ → Scan → NamedTail → Found
tail_answer t c n = pick (ltb t n.tail.start) (held_until c n.tail.start) (in_tail t n)

abbrev pub answer_read : Edition → ℕ → ZoneRead → Result Found Refusal
answer_read ed t (Fixed id offset n form) = Ok (record { wall = offset; savings = zero_offset; name = fixed_name ed id n; start = start_of_time; end = end_of_time })
answer_read ed t (Listed id c form) = Ok (held_until c end_of_time)
answer_read ed t (Tailed id c n form) = Ok (tail_answer t c n)
answer_read ed t (Refused k) = Err k

list-answer : (ed : Edition) (pool t : ℕ) (form : Bool) (id : ℕ) (is : List Interval) (end : ℕ) (e : Ending) → Finite t → BodyOk pool (listed is end e)
    → answer_read ed t (body_read t form id (listed is end e)) ≡ Ok (in_body t id (listed is end e))
unfolding in_body behind_list
list-answer ed pool t form id is end untailed f h =
    rw (h.1, lt-ltb t end_of_time (omega (arith, f.high))) (ap Ok (held-is pool t end_of_time is h.0))
list-answer ed pool t form id is end (tailed n) f h =
    ap (λ (m : ℕ). Ok (pick (ltb t m) (held_until (scanned t is) m) (in_tail t n))) h.1.2.starts
    ∙ ap (λ (x : Found). Ok (pick (ltb t end) x (in_tail t n))) (held-is pool t end is h.0)

zone-answer : (ed : Edition) (pool t : ℕ) (form : Bool) (id : ℕ) (b : Body) → Finite t → BodyOk pool b
    → answer_read ed t (body_read t form id b) ≡ Ok (in_zone t (under ed (record { id = id; body = b })))
unfolding in_body fixed_name_of nameless under
zone-answer One pool t form id (fixed offset n) f h = refl
zone-answer Two pool t form id (fixed offset n) f h = refl
zone-answer One pool t form id (listed is end e) f h = list-answer One pool t form id is end e f h
zone-answer Two pool t form id (listed is end e) f h = list-answer Two pool t form id is end e f h

answer-read : (ed : Edition) (pool t : ℕ) (form : Bool) (s : List ℕ) (p : Parsed Zone) → p ≡ parse_zone pool s → Finite t
    → answer_read ed t (read_of t form p) ≡ answer_of ed t p
unfolding read_of
answer-read ed pool t form s (bad k) e f = refl
answer-read ed pool t form s (got z r) e f = zone-answer ed pool t form z.id z.body f (zone-sound pool s z r (sym e)).0.body_ok

pub answer-is : (ed : Edition) (pool t : ℕ) (form : Bool) (s : List ℕ) (r : ZoneRead) → Finite t → r ≡ read_of t form (parse_zone pool s)
    → answer_read ed t r ≡ answer_of ed t (parse_zone pool s)
answer-is ed pool t form s r f e = ap (answer_read ed t) e ∙ answer-read ed pool t form s (parse_zone pool s) refl f

pub fixed-is : (ed : Edition) (pool t : ℕ) (form : Bool) (s : List ℕ) (id offset n : ℕ) (b : Bool) (r : ℕ) → Finite t
    → Fixed id offset n b ≡ read_of t form (parse_zone pool s) → r ≡ fixed_name ed id n
    → Ok (record { wall = offset; savings = zero_offset; name = r; start = start_of_time; end = end_of_time }) ≡ answer_of ed t (parse_zone pool s)
fixed-is ed pool t form s id offset n b r f e g =
    ap (λ (m : ℕ). Ok (record { wall = offset; savings = zero_offset; name = m; start = start_of_time; end = end_of_time })) g
    ∙ answer-is ed pool t form s (Fixed id offset n b) f e

-- before the tail's start, and from it on
pub before-tail : (t : ℕ) (c : Scan) (n : NamedTail) (r : Found) → t < n.tail.start → r ≡ held_until c n.tail.start → ◌≡◌ {A = Result Found Refusal} (Ok r) (Ok (tail_answer t c n))
before-tail t c n r h e = rw (lt-ltb t n.tail.start h) (ap Ok e)

pub from_tail : (t : ℕ) (c : Scan) (n : NamedTail) (r : Found) → n.tail.start ≤ t → r ≡ in_tail t n → ◌≡◌ {A = Result Found Refusal} (Ok r) (Ok (tail_answer t c n))
from_tail t c n r h e = rw (le-ltb t n.tail.start h) (ap Ok e)

-- a tail that is read may be asked
pub tail-ok : (pool t : ℕ) (form : Bool) (s : List ℕ) (id : ℕ) (c : Scan) (n : NamedTail) (b : Bool) → Tailed id c n b ≡ read_of t form (parse_zone pool s) → TailOk n.tail
unfolding read_of
tail-ok pool t form s id c n b e = go (parse_zone pool s) refl e
  where
    no-tail : {A : Type 0} → ◌≡◌ {A = ℕ} 0 1 → A
    no-tail e = absurd (omega arith)

    by-body : (x : Body) (i : ℕ) → BodyOk pool x → Tailed id c n b ≡ body_read t form i x → TailOk n.tail
    by-body (fixed offset m) i h k = no-tail cc
    by-body (listed is end untailed) i h k = no-tail cc
    by-body (listed is end (tailed m)) i h k = let x : m ≡ n = cc in subst (λ (y : NamedTail). TailOk y.tail) x h.1.2.tail-ok

    go : (p : Parsed Zone) → p ≡ parse_zone pool s → Tailed id c n b ≡ read_of t form p → TailOk n.tail
    go (got z r) h k = by-body z.body z.id (zone-sound pool s z r (sym h)).0.body_ok k
    go (bad m) h k = no-tail cc
