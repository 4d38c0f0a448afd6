-- The walk over the intervals behind the first row. Assumes nothing.
use Rattle.base.specs.declared.Refusal.{Refusal}
use Rattle.base.specs.declared.Refusal.TheVariants.{OutOfRange}
use Rattle.base.specs.Coded.{Fault}
use Rattle.std.specs.Prelude.{Err, Ok, Result}
use mathlib.Core.Path.{◌≡◌, refl, sym, ap, ◌∙◌}
use mathlib.Core.Bool.{Bool}
use mathlib.Core.List.{List, [], ◌∷◌, ◌++◌}
use Prim.Native.Nat.{ℕ, zero, suc, ◌+◌, ◌-◌, ◌*◌, ◌/◌, ◌≤◌, ◌<◌}
use native.Mathlib.Omega.{arith}
use lib.IntN.{ℤ, pos}
use lib.ListN.{length, set}
use lib.Seq.{sets, length-sets}
use Rattle.base.specs.Parsed.{got, bad}
use Rattle.base.proofs.ParseLaws.{bad-got}
use Rattle.base.specs.Moment.{Finite, end_of_time}
use Rattle.signed.specs.Instant.{instant_of, ticks_of}
use Rattle.signed.proofs.IntegerLaws.{instant-ticks}
use Rattle.pool.specs.Index.{room_of}
use Rattle.pool.specs.declared.Span.{Span}
use Rattle.location_lookup.specs.Location.{lent_part, text_in}
use Rattle.zones.specs.Parse.{parse_zone}
use Rattle.zones.specs.Editions.{under}
use Rattle.zones.specs.Lookup.{in_zone}
use Rattle.zones.specs.Sound.{FoundOk}
use Rattle.zones.specs.declared.Edition.{Edition}
use Rattle.zones.specs.declared.Edition.TheVariants.{Two}
use Rattle.zones.specs.declared.Found.{Found as Interval}
use Rattle.zones.specs.declared.ZoneEnd.{ZoneEnd}
use Rattle.answers.specs.Answers.{answer_by}
use Rattle.answers.specs.declared.Found.{Found}
use Rattle.cursors.specs.Cursors.{found_in, Points, At}
use Rattle.cursors.specs.declared.Cursor.{Cursor}
use Rattle.cursors.proofs.CursorLaws.{held_same, held-ok}
use Rattle.found_zones.specs.FoundZone.{answer_in, zone_at, ask_zone}
use Rattle.found_zones.specs.declared.FoundZone.{FoundZone}
use Rattle.found_zones.proofs.AskLaws.{zone-outside}
use Rattle.found_zones.proofs.InsideLaws.{zone-name}
use Rattle.answer_tables.specs.Table.{row_of, rows_of}
use Rattle.answer_tables.specs.Lists.{answer_then, answers_from}
use Rattle.answer_tables.proofs.AnswerLaws.{end-out, answered, answers_at}
use Rattle.later_answers.specs.View.{behind, PutBehind, Walks}

-- the seven numbers of a row
pub row_put : (d : List ℤ) (at : ℕ) (x : Found) (n l : ℤ) → n ≡ pos x.name → l ≡ pos x.length
    → set (set (set (set (set (set (set d at x.wall) (at + 1) x.savings) (at + 2) x.standard) (at + 3) n) (at + 4) l) (at + 5) x.start) (at + 6) x.end
    ≡ sets d at (row_of x)
row_put d at x n l p q =
    let a : at + 1 ≡ suc at = omega arith in
    let b : at + 2 ≡ suc (suc at) = omega arith in
    let c : at + 3 ≡ suc (suc (suc at)) = omega arith in
    let e : at + 4 ≡ suc (suc (suc (suc at))) = omega arith in
    let g : at + 5 ≡ suc (suc (suc (suc (suc at)))) = omega arith in
    let h : at + 6 ≡ suc (suc (suc (suc (suc (suc at))))) = omega arith in
    rw (p, q, a, b, c, e, g, h)

-- and those behind it
pub row-then : (x : Found) (d : List ℤ) (at to : ℕ) (rs : List ℤ) → to ≡ at + 7 → sets (sets d at (row_of x)) to rs ≡ sets d at (row_of x ++ rs)
row-then x d at to rs e =
    let w : to ≡ suc (suc (suc (suc (suc (suc (suc at)))))) = omega arith in
    rw w

module _ (f : List ℕ) (v : FoundZone) (ed : Edition) where
  -- none from a tick at which the question is refused
  pub none_from : (z : ℤ) (n : Refusal) (p : ℕ) → ask_zone f v z ed ≡ Err (n, p) → (k : ℕ) → answers_from f v ed k z ≡ []
  unfolding answers_from
  none_from z n p e zero = refl
  none_from z n p e (suc k) = ap (λ (a : Result Found Fault). answer_then a (λ u. answers_from f v ed k u)) e

  pub none-outside : (z : ℤ) → instant_of z ≡ 0 → (k : ℕ) → answers_from f v ed k z ≡ []
  none-outside z e k = none_from z OutOfRange 0 (sym (zone-outside f v z ed (instant_of z) refl e)) k

  -- nor of a zone that is refused
  pub none-bad : (n : Refusal) → zone_at f v ≡ bad n → (z : ℤ) (k : ℕ) → answers_from f v ed k z ≡ []
  none-bad n e z k = go (ask_zone f v z ed) refl
    where
      go : (a : Result Found Fault) → ask_zone f v z ed ≡ a → answers_from f v ed k z ≡ []
      go (Ok x) q = let w : bad n ≡ got (answered f v ed z x q).zone (answered f v ed z x q).rest = sym e ∙ (answered f v ed z x q).zone-is in bad-got w
      go (Err (m, p)) q = none_from z m p q k

-- a cursor at an interval, and the answer there
module _ (f : List ℕ) (v : FoundZone) (count : ℕ) (ending : ZoneEnd) (counts : count ≡ room_of (lent_part f v.pool v.past)) where
  abbrev data-of : List ℕ
  data-of = lent_part f v.start v.end

  module _ (e : ℕ) (g : Finite e) (c : Cursor) (a : At count data-of ending e c) where
    held-is : in_zone e a.points.whole.zone ≡ c.held
    unfolding found_in
    held-is = ap (found_in e) (sym a.points.whole.is) ∙ held_same count data-of ending c a.points e g a.holds

    ask-at : ask_zone f v (ticks_of e) Two ≡ Ok (answer_in f v c.held)
    unfolding under
    ask-at =
        let w = a.points.whole in
        let q : zone_at f v ≡ got w.zone [] = ap (λ (n : ℕ). parse_zone n data-of) (sym counts) ∙ w.is in
        let t : instant_of (ticks_of e) ≡ e = instant-ticks e g in
        answers_at f v Two w.zone [] q (ticks_of e) (λ i. omega (arith, g.low))
        ∙ ap (λ (u : ℕ). Ok (answer_in f v (in_zone u w.zone))) t
        ∙ ap (λ (i : Interval). Ok (answer_in f v i)) held-is

    -- its name is a number of the pool, and its offsets fit
    pub at_ok : FoundOk count c.held
    at_ok = held-ok count data-of ending c e g a

    pub at_name : c.held.name < room_of (lent_part f v.pool v.past)
    at_name = omega (arith, at_ok.name-ok)

    module _ (name : Span) (y : Found) (n : name ≡ text_in f v.pool v.past c.held.name) (q : y ≡ answer_by name.at name.len c.held) where
      pub at-answer : ask_zone f v (ticks_of e) Two ≡ Ok y
      at-answer = ask-at ∙ ap Ok (sym (q ∙ ap (λ (s : Span). answer_by s.at s.len c.held) n))

      pub at-inside : y.name + y.length ≤ length f
      at-inside = zone-name f v (ticks_of e) Two y at-answer

      at-end : y.end ≡ ticks_of c.held.end
      at-end = ap (λ (x : Found). x.end) q

      -- the list goes on at its end
      at_next : (k : ℕ) → answers_from f v Two (suc k) (ticks_of e) ≡ y ∷ answers_from f v Two k (ticks_of c.held.end)
      unfolding answers_from
      at_next k = ap (λ (x : Result Found Fault). answer_then x (λ u. answers_from f v Two k u)) at-answer ∙ ap (λ (u : ℤ). y ∷ answers_from f v Two k u) at-end

-- where the walk stands: i rows are put, and the next interval starts at e; the table was d, and the interval behind the first row starts at m
module _ (f : List ℕ) (v : FoundZone) (count : ℕ) (ending : ZoneEnd) (m : ℕ) (d : List ℤ) where
  abbrev room : ℕ
  room = length d / 7

  pub record Listing (i e : ℕ) (c : Cursor) (out : List ℤ) : Type 0 where
    pub counts : count ≡ room_of (lent_part f v.pool v.past)
    pub points : Points count (lent_part f v.start v.end) ending c
    pub from : c.held.start ≤ e
    pub finite : e < end_of_time → Finite e
    pub few : i ≤ room
    pub some : 1 ≤ i
    pub size : length out ≡ length d
    pub counted : i + length (behind f v room i e) ≡ 1 + length (behind f v room 1 m)
    pub kept : sets out (7 * i) (rows_of (behind f v room i e)) ≡ sets d 7 (rows_of (behind f v room 1 m))

  pub listing_start : (c : Cursor) (ix : List ℕ) (b : Bool) → Walks f v count ending c m ix b d → Listing 1 m c d
  listing_start c ix b w = record {
    counts = w.counts;
    points = w.points;
    from = w.from;
    finite = λ h. w.finite;
    few = omega (arith, w.some);
    some = omega arith;
    size = refl;
    counted = refl;
    kept = refl;
  }

  module _ (i e : ℕ) (c : Cursor) (out : List ℤ) (g : Listing i e c out) where
    -- no row follows
    ends : behind f v room i e ≡ [] → PutBehind f v m d i out
    unfolding rows_of
    ends h = record {
      count = (let w : i ≡ i + length (behind f v room i e) = rw h (omega arith) in w) ∙ g.counted;
      rows = ap (λ (xs : List Found). sets out (7 * i) (rows_of xs)) (sym h) ∙ g.kept;
    }

    pub listing_full : room ≤ i → PutBehind f v m d i out
    unfolding answers_from
    listing_full h = ends (let w : room - i ≡ 0 = omega arith in rw w)

    pub listing-over : end_of_time ≤ e → PutBehind f v m d i out
    listing-over h = ends (none-outside f v Two (ticks_of e) (end-out e h) (room - i))

    module _ (l : i < room) where
      pub listing-room : 7 * i + 7 ≤ length out
      listing-room = omega (arith, g.size)

      module _ (h : e < end_of_time) (c' : Cursor) (a : At count (lent_part f v.start v.end) ending e c') (name : Span) (y : Found)
          (n : name ≡ text_in f v.pool v.past c'.held.name) (q : y ≡ answer_by name.at name.len c'.held) where
        goes-on : behind f v room i e ≡ y ∷ behind f v room (i + 1) c'.held.end
        goes-on =
            let w : room - i ≡ suc (room - (i + 1)) = omega arith in
            ap (λ (k : ℕ). answers_from f v Two k (ticks_of e)) w
            ∙ at_next f v count ending g.counts e (g.finite h) c' a name y n q (room - (i + 1))

        pub listing-inside : y.name + y.length ≤ length f
        listing-inside = at-inside f v count ending g.counts e (g.finite h) c' a name y n q

        pub listing-next : (out' : List ℤ) → out' ≡ sets out (7 * i) (row_of y) → Listing (i + 1) c'.held.end c' out'
        unfolding rows_of
        listing-next out' p =
            let xs : List Found = behind f v room (i + 1) c'.held.end in
            record {
              counts = g.counts;
              points = a.points;
              from = omega (arith, a.holds.from, a.holds.to);
              finite = λ k. record { low = omega (arith, (g.finite h).low, a.holds.to); high = omega arith };
              few = omega arith;
              some = omega arith;
              size = ap length p ∙ length-sets out (7 * i) (row_of y) ∙ g.size;
              counted =
                  (let w : i + 1 + length xs ≡ i + length (y ∷ xs) = omega arith in w)
                  ∙ ap (λ (zs : List Found). i + length zs) (sym goes-on) ∙ g.counted;
              kept =
                  ap (λ (o : List ℤ). sets o (7 * (i + 1)) (rows_of xs)) p
                  ∙ row-then y out (7 * i) (7 * (i + 1)) (rows_of xs) (omega arith)
                  ∙ ap (λ (zs : List Found). sets out (7 * i) (rows_of zs)) (sym goes-on) ∙ g.kept;
            }

-- the zone is refused: no row follows
pub no_rows : (f : List ℕ) (v : FoundZone) (m : ℕ) (d : List ℤ) (count : ℕ) (n : Refusal) → count ≡ room_of (lent_part f v.pool v.past)
    → parse_zone count (lent_part f v.start v.end) ≡ bad n → PutBehind f v m d 1 d
unfolding rows_of
no_rows f v m d count n c e =
    let q : zone_at f v ≡ bad n = ap (λ (k : ℕ). parse_zone k (lent_part f v.start v.end)) (sym c) ∙ e in
    let h : behind f v (length d / 7) 1 m ≡ [] = none-bad f v Two n q (ticks_of m) (length d / 7 - 1) in
    record { count = rw h refl; rows = rw h refl }
