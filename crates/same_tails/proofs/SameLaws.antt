-- Two zones in tails that are alike do not differ. Assumes nothing.
use Rattle.base.specs.declared.Refusal.{Refusal}
use mathlib.Core.Path.{◌≡◌, refl, sym, ap, ◌∙◌, subst}
use mathlib.Core.Bool.{Bool, true, false, not}
use mathlib.Core.List.{List, []}
use Prim.Native.Nat.{ℕ, ◌≤◌, max}
use native.Mathlib.Omega.{arith}
use lib.Dec.{eqb}
use lib.ListN.{length, get_or}
use borrow.Author.Tests.{eqb-true, eq-eqb, ne_eqb}
use Rattle.base.specs.Pick.{pick, both}
use Rattle.base.specs.Equal.{equal}
use Rattle.base.specs.Moment.{Finite, first_instant, end_of_time}
use Rattle.base.proofs.Tests.{never, both_left, both_right}
use Rattle.rules.specs.declared.Rule.{Rule}
use Rattle.recurrence.specs.declared.Tail.{Tail}
use Rattle.recurrence.specs.Tails.{standard_in, daylight_in, lookup}
use Rattle.pool.specs.Pool.{strings_of}
use Rattle.tails.specs.declared.NamedTail.{NamedTail}
use Rattle.zones.specs.Lookup.{in_tail}
use Rattle.zones.specs.declared.ZoneEnd.{ZoneEnd}
use Rattle.zones.specs.declared.ZoneEnd.TheVariants.{Untailed, Tailed, Refused}
use Rattle.cursors.specs.Cursors.{found_at, Points}
use Rattle.cursors.specs.declared.Cursor.{Cursor}
use Rattle.cursors.proofs.StepLaws.{tail-on}
use Rattle.zone_differences.specs.Differ.{unlike, found_by, differ_at}
use Rattle.same_tails.specs.SameTails.{same_test, same_date, same_rule, same_tail, same_text, alike, tails_from, same_from, EndNamed}

same-test : (a b : Bool) → same_test a b ≡ true → a ≡ b
same-test true b e = sym e
same-test false true e = never {t = false} e refl
same-test false false e = refl

-- two rules with the same numbers
rule-of : {m m' w w' o o' d d' t t' : ℕ} {f f' p p' l l' : Bool} → m ≡ m' → w ≡ w' → f ≡ f' → p ≡ p' → o ≡ o' → l ≡ l' → d ≡ d' → t ≡ t'
    → ◌≡◌ {A = Rule} (record { mode = m; weekday = w; after = f; plus = p; month = o; last = l; day = d; time = t })
    (record { mode = m'; weekday = w'; after = f'; plus = p'; month = o'; last = l'; day = d'; time = t' })
rule-of m w f p o l d t = rw (m, w, f, p, o, l, d, t)

rules-same : (a b : Rule) → same_rule a b ≡ true → a ≡ b
unfolding same_rule same_date
rules-same a b h =
    let h2 = both_right (eqb a.mode b.mode) _ h in
    let h3 = both_right (eqb a.time b.time) _ h2 in
    let h4 = both_right (eqb a.weekday b.weekday) _ h3 in
    let h5 = both_right (same_test a.after b.after) _ h4 in
    let h6 = both_right (same_test a.plus b.plus) _ h5 in
    let h7 = both_right (eqb a.month b.month) _ h6 in
    rule-of (eqb-true a.mode b.mode (both_left _ _ h)) (eqb-true a.weekday b.weekday (both_left _ _ h3))
    (same-test a.after b.after (both_left _ _ h4)) (same-test a.plus b.plus (both_left _ _ h5))
    (eqb-true a.month b.month (both_left _ _ h6)) (same-test a.last b.last (both_left _ _ h7))
    (eqb-true a.day b.day (both_right (same_test a.last b.last) _ h7)) (eqb-true a.time b.time (both_left _ _ h2))

-- two tails: the second with the start of the first
abbrev started_at : ℕ → Tail → Tail
started_at n b = record { start = n; offset = b.offset; savings = b.savings; standard = b.standard; daylight = b.daylight }

tail-of : {s o o' v v' : ℕ} {r r' q q' : Rule} → o ≡ o' → v ≡ v' → r ≡ r' → q ≡ q'
    → ◌≡◌ {A = Tail} (record { start = s; offset = o; savings = v; standard = r; daylight = q }) (record { start = s; offset = o'; savings = v'; standard = r'; daylight = q' })
tail-of o v r q = rw (o, v, r, q)

tails-same : (a b : Tail) → same_tail a b ≡ true → a ≡ started_at a.start b
unfolding same_tail
tails-same a b h =
    let h2 = both_right (eqb a.offset b.offset) _ h in
    let h3 = both_right (eqb a.savings b.savings) _ h2 in
    tail-of (eqb-true a.offset b.offset (both_left _ _ h)) (eqb-true a.savings b.savings (both_left _ _ h2))
    (rules-same a.standard b.standard (both_left _ _ h3)) (rules-same a.daylight b.daylight (both_right (same_rule a.standard b.standard) _ h3))

-- a start has no part in what is in force
module _ (n : ℕ) (b : Tail) (t : ℕ) where
  daylight-at : (lookup (started_at n b) t).daylight ≡ (lookup b t).daylight
  unfolding lookup standard_in daylight_in
  daylight-at = refl

  wall-at : (lookup (started_at n b) t).wall ≡ (lookup b t).wall
  unfolding lookup standard_in daylight_in
  wall-at = refl

  savings-at : (lookup (started_at n b) t).savings ≡ (lookup b t).savings
  unfolding lookup standard_in daylight_in
  savings-at = refl

-- the name of what is in force
text_same : (p q : List ℕ) (a b : NamedTail) (d : Bool) → same_text p a.standard q b.standard ≡ true → same_text p a.daylight q b.daylight ≡ true
    → same_text p (pick d a.daylight a.standard) q (pick d b.daylight b.standard) ≡ true
text_same p q a b true h k = k
text_same p q a b false h k = h

-- NOTHING OF TWO TAILS THAT ARE ALIKE DIFFERS AT AN INSTANT
module _ (p q : List ℕ) (a b : NamedTail) (h : alike p a q b ≡ true) (t : ℕ) where
  like-tails : unlike p (in_tail t a) q (in_tail t b) ≡ false
  unfolding alike unlike in_tail
  like-tails =
      let e = tails-same a.tail b.tail (both_left _ _ h) in
      let k = both_right (same_tail a.tail b.tail) _ h in
      let d : (lookup a.tail t).daylight ≡ (lookup b.tail t).daylight = ap (λ (x : Tail). (lookup x t).daylight) e ∙ daylight-at a.tail.start b.tail t in
      let w : (lookup a.tail t).wall ≡ (lookup b.tail t).wall = ap (λ (x : Tail). (lookup x t).wall) e ∙ wall-at a.tail.start b.tail t in
      let s : (lookup a.tail t).savings ≡ (lookup b.tail t).savings = ap (λ (x : Tail). (lookup x t).savings) e ∙ savings-at a.tail.start b.tail t in
      rw (eq-eqb (lookup a.tail t).wall (lookup b.tail t).wall w, eq-eqb (lookup a.tail t).savings (lookup b.tail t).savings s, d)
      (ap not (text_same p q a b (lookup b.tail t).daylight (both_left _ _ k) (both_right (same_text p a.standard q b.standard) _ k)))

-- two zones with cursors
module _ (zx px zy py : List ℕ) (ex ey : ZoneEnd) (x y : Cursor) (kx ky : ℕ) (i : kx ≡ length (strings_of px)) (j : ky ≡ length (strings_of py)) (g : Points kx zx ex x)
    (h : Points ky zy ey y) where
  -- FROM THERE ON THEY DO NOT DIFFER
  pub same-on : (t : ℕ) → Finite t → same_from px ex py ey ≤ t → differ_at zx px zy py t ≡ false
  unfolding same_from tails_from
  same-on t f = go ex refl ey refl
    where
      in-tails : (a b : NamedTail) → ex ≡ Tailed a → ey ≡ Tailed b → (l : Bool) → alike px a py b ≡ l
          → pick l (max a.tail.start b.tail.start) end_of_time ≤ t → differ_at zx px zy py t ≡ false
      in-tails a b u v true e l =
          let m : found_by zx px t ≡ in_tail t a = subst (λ (k : ℕ). found_at k zx t ≡ in_tail t a) i ((tail-on kx zx ex x g a u).on t f (omega arith)) in
          let n : found_by zy py t ≡ in_tail t b = subst (λ (k : ℕ). found_at k zy t ≡ in_tail t b) j ((tail-on ky zy ey y h b v).on t f (omega arith)) in
          rw (m, n) (like-tails px py a b e t)
      in-tails a b u v false e l = absurd (omega (arith, f.high))

      go : (e : ZoneEnd) → ex ≡ e → (d : ZoneEnd) → ey ≡ d → same_from px e py d ≤ t → differ_at zx px zy py t ≡ false
      go (Tailed a) u (Tailed b) v l = in-tails a b u v (alike px a py b) refl l
      go (Tailed a) u Untailed v l = absurd (omega (arith, f.high))
      go (Tailed a) u (Refused k) v l = absurd (omega (arith, f.high))
      go Untailed u d v l = absurd (omega (arith, f.high))
      go (Refused k) u d v l = absurd (omega (arith, f.high))

  -- and there is an instant, or the end of time
  pub same_low : first_instant ≤ same_from px ex py ey
  unfolding same_from tails_from
  same_low = go ex refl ey
    where
      in-tails : (a b : NamedTail) → ex ≡ Tailed a → (l : Bool) → first_instant ≤ pick l (max a.tail.start b.tail.start) end_of_time
      in-tails a b u true = omega (arith, (tail-on kx zx ex x g a u).named.tail-ok.start-ok.low)
      in-tails a b u false = omega arith

      go : (e : ZoneEnd) → ex ≡ e → (d : ZoneEnd) → first_instant ≤ same_from px e py d
      go (Tailed a) u (Tailed b) = in-tails a b u (alike px a py b)
      go (Tailed a) u Untailed = omega arith
      go (Tailed a) u (Refused k) = omega arith
      go Untailed u d = omega arith
      go (Refused k) u d = omega arith

-- the names of the tail behind a cursor
pub names-in : (k : ℕ) (z p : List ℕ) (d : ZoneEnd) (c : Cursor) → k ≡ length (strings_of p) → Points k z d c → EndNamed p d
names-in k z p d c i g n e =
    let w = (tail-on k z d c g n e).named in
    record { standard-in = omega (arith, w.standard-ok); daylight-in = omega (arith, w.daylight-ok) }

-- each way out of `tails_from`
module _ (p q : List ℕ) (a b : NamedTail) (l : Bool) (e : l ≡ alike p a q b) where
  pub from_start : l ≡ true → (m : ℕ) → m ≡ max a.tail.start b.tail.start → m ≡ tails_from p a q b
  unfolding tails_from
  from_start h m k = rw (sym e ∙ h) k

  pub from-never : l ≡ false → end_of_time ≡ tails_from p a q b
  unfolding tails_from
  from-never h = rw (sym e ∙ h)

-- and of `same_from`
module _ (p q : List ℕ) (e d : ZoneEnd) where
  pub none_left : e ≡ Untailed → end_of_time ≡ same_from p e q d
  unfolding same_from
  none_left h = rw h

  pub bad-left : (k : Refusal) → e ≡ Refused k → end_of_time ≡ same_from p e q d
  unfolding same_from
  bad-left k h = rw h

  module _ (a : NamedTail) (h : e ≡ Tailed a) where
    pub none_right : d ≡ Untailed → end_of_time ≡ same_from p e q d
    unfolding same_from
    none_right g = rw (h, g)

    pub bad-right : (k : Refusal) → d ≡ Refused k → end_of_time ≡ same_from p e q d
    unfolding same_from
    bad-right k g = rw (h, g)

    pub both-tailed : (b : NamedTail) → d ≡ Tailed b → (m : ℕ) → m ≡ tails_from p a q b → m ≡ same_from p e q d
    unfolding same_from
    both-tailed b g m k = rw (h, g) k
