-- The list of a file's whole fields: where they lie, and what more bytes do to it. Assumes nothing.
use Rattle.base.specs.declared.Refusal.TheVariants.{NotFound}
use mathlib.Core.Path.{◌≡◌, refl, ap}
use mathlib.Core.Bool.{Bool, true, false}
use mathlib.Core.List.{List, ◌∷◌, ◌++◌}
use Prim.Native.Nat.{ℕ, zero, suc, ◌+◌, ◌≤◌, ◌<◌}
use native.Mathlib.Omega.{arith}
use native.Mathlib.Nat.{zero-add, not-suc-le-zero}
use lib.ListN.{length, drop, length-append, length-drop}
use lib.Seq.{take-append-le, drop-append-le}
use Rattle.base.proofs.Tests.{never}
use Rattle.frames.specs.Frame.{frame, Field}
use Rattle.frames.specs.Machine.{field_at}
use Rattle.frames.specs.Fields.{Ending, refused_at, cut_at, end_at, Listing, no_field, before, listed, scan, listing}
use Rattle.frames.specs.declared.Frame.{Frame}
use Rattle.frames.specs.declared.Frame.TheVariants.{End, Cut, Refused, Version, Whole}
use Rattle.base.specs.All.{All, all_none, all-also}
use Rattle.base.proofs.AllLaws.{all_map}
use Rattle.frames.proofs.FrameLaws.{Long, Adds, frame-adds, frame-long}

-- a field that lies between the places a and b
pub record Between (a b : ℕ) (g : Field) : Type 0 where
  pub behind : a ≤ g.place
  pub some : g.place < g.past
  pub within : g.past ≤ b

abbrev pub StopsTo : ℕ → ℕ → Ending → Type 0
StopsTo a b (refused_at n p) = (a ≤ p) × (p < b)
StopsTo a b (cut_at p) = (a ≤ p) × (p ≤ b)
StopsTo a b (end_at p) = p ≡ b

-- the fields of bytes that go from a to b
pub record Spans (a b : ℕ) (l : Listing) : Type 0 where
  pub inside : All (Between a b) l.fields
  pub stops : StopsTo a b l.ending

stops-wide : (a a' b : ℕ) (e : Ending) → a' ≤ a → StopsTo a b e → StopsTo a' b e
stops-wide a a' b (refused_at n p) l h = (omega arith, h.1)
stops-wide a a' b (cut_at p) l h = (omega arith, h.1)
stops-wide a a' b (end_at p) l h = h

spans-wide : (a a' b : ℕ) (l : Listing) → a' ≤ a → Spans a b l → Spans a' b l
spans-wide a a' b l h s =
    record {
      inside = all_map (λ g k. record { behind = omega arith; some = k.some; within = k.within }) s.inside;
      stops = stops-wide a a' b l.ending h s.stops;
    }

-- what is left behind the first n bytes
rest-short : (n k : ℕ) (r : List ℕ) → 0 < n → n ≤ length r → length r < suc k → length (drop n r) < k
rest-short n k r a l f = rw length-drop (omega arith)

rest_more : (n k : ℕ) (r e : List ℕ) → 0 < n → n ≤ length r → length (r ++ e) < suc k → length (drop n r ++ e) < k
rest_more n k r e a l f = rw (length-append, length-drop) (omega (arith, rw length-append at f))

rest-place : (n at : ℕ) (r : List ℕ) → n ≤ length r → at + n + length (drop n r) ≡ at + length r
rest-place n at r l = rw length-drop (omega arith)

some_bytes : (h n : ℕ) → 0 < h → 0 < h + n
some_bytes h n l = omega arith

head-inside : (h n b : ℕ) → h + n ≤ b → h ≤ b
head-inside h n b l = omega arith

data-inside : (h n : ℕ) (r : List ℕ) → h + n ≤ length r → n ≤ length (drop h r)
data-inside h n r l = rw length-drop (omega arith)

four : 0 < 4
four = omega arith

module _ (last : ℕ) where
  pub scan-spans : (k at : ℕ) (seen : Bool) (prev : ℕ) (r : List ℕ) → length r < k → Spans at (at + length r) (scan k last at seen prev r)
  unfolding scan
  scan-spans zero at seen prev r f = absurd (not-suc-le-zero f)
  scan-spans (suc k) at seen prev r fuel = go (frame last at seen prev r) (frame-long last at seen prev r) (scan-spans k)
    where
      go : (f : Frame) → Long 0 (length r) f
          → ((a : ℕ) (s : Bool) (p : ℕ) (q : List ℕ) → length q < k → Spans a (a + length q) (scan k last a s p q))
          → Spans at (at + length r) (listed at r f (scan k last))
      go End l rec = record { inside = all_none; stops = omega (arith, l.by) }
      go Cut l rec = record { inside = all_none; stops = (omega arith, omega arith) }
      go (Refused n) l rec = record { inside = all_none; stops = (omega arith, omega (arith, l.by.0)) }
      go Version l rec =
          spans-wide _ _ _ _ (omega arith) (rw (rest-place 4 at r l.by.1) at (rec (at + 4) false 0 (drop 4 r) (rest-short 4 k r four l.by.1 fuel)))
      go (Whole i h n) l rec =
          let s = spans-wide _ at _ _ (omega arith) (rw (rest-place (h + n) at r l.by.2) at (rec (at + (h + n)) true i (drop (h + n) r) (rest-short (h + n) k r (some_bytes h n l.by.0) l.by.2 fuel))) in
          let g : Between at (at + length r) (field_at at r i h n)
          = record { behind = omega arith; some = omega (arith, l.by); within = omega (arith, l.by) } in
          record { inside = all-also g s.inside; stops = s.stops }

-- a refusal of version, ID or size is settled, whatever follows
abbrev pub settled : Ending → Bool
settled (refused_at n p) = true
settled (cut_at p) = false
settled (end_at p) = false

abbrev pub LateTo : ℕ → Ending → Type 0
LateTo b (refused_at n p) = n ≡ NotFound → b ≤ p
LateTo b (cut_at p) = Unit {0}
LateTo b (end_at p) = Unit {0}

-- all of it lies past b
pub record Late (b : ℕ) (l : Listing) : Type 0 where
  pub past : All (λ g. b < g.past) l.fields
  pub capped : LateTo b l.ending

-- y is the listing x of bytes that end at b after bytes are added: the same fields first, others that end past b, and no others where
-- x's ending is settled
pub record Grows (b : ℕ) (x y : Listing) : Type 0 where
  pub more : Listing
  pub joined : y.fields ≡ x.fields ++ more.fields
  pub ends : y.ending ≡ more.ending
  pub same : settled x.ending ≡ true → more ≡ no_field x.ending
  pub later : settled x.ending ≡ false → Late b more

late-end : (a b c : ℕ) (e : Ending) → b ≤ a → StopsTo a c e → LateTo b e
late-end a b c (refused_at n p) h s = λ z. omega arith
late-end a b c (cut_at p) h s = tt
late-end a b c (end_at p) h s = tt

spans-late : (a b c : ℕ) (l : Listing) → b ≤ a → Spans a c l → Late b l
spans-late a b c l h s =
    record { past = all_map (λ g k. omega arith) s.inside; capped = late-end a b c l.ending h s.stops }

module _ (last : ℕ) (e : List ℕ) where
  -- behind a frame that is longer than a
  listed-late : (k at a : ℕ) (s : List ℕ) (f : Frame) → length s ≤ k → Long a (length s) f
      → Late (at + a) (listed at s f (scan k last))
  listed-late k at a s End fuel l = record { past = all_none; capped = tt }
  listed-late k at a s Cut fuel l = record { past = all_none; capped = tt }
  listed-late k at a s (Refused n) fuel l = record { past = all_none; capped = λ z. omega (arith, l.by.1 z) }
  listed-late k at a s Version fuel l =
      let m : length (drop 4 s) < k = rw length-drop (omega (arith, l.by)) in
      spans-late (at + 4) _ _ _ (omega (arith, l.by)) (scan-spans last k (at + 4) false 0 (drop 4 s) m)
  listed-late k at a s (Whole i h n) fuel l =
      let m : length (drop (h + n) s) < k = rw length-drop (omega (arith, l.by)) in
      let g : at + a < at + (h + n) = omega (arith, l.by) in
      let q = spans-late (at + (h + n)) (at + a) _ _ (omega arith) (scan-spans last k (at + (h + n)) true i (drop (h + n) s) m) in
      record { past = all-also g q.past; capped = q.capped }

  grows-before : (b : ℕ) (g : Field) (x y : Listing) → Grows b x y → Grows b (before g x) (before g y)
  grows-before b g x y h =
      record { more = h.more; joined = ap (λ (gs : List Field). g ∷ gs) h.joined; ends = h.ends; same = h.same; later = h.later }

  pub scan-grows : (k k' at : ℕ) (seen : Bool) (prev : ℕ) (r : List ℕ) → length r < k → length (r ++ e) < k'
      → Grows (at + length r) (scan k last at seen prev r) (scan k' last at seen prev (r ++ e))
  unfolding scan
  scan-grows zero k' at seen prev r fuel fuel' = absurd (not-suc-le-zero fuel)
  scan-grows (suc k) zero at seen prev r fuel fuel' = absurd (not-suc-le-zero fuel')
  scan-grows (suc k) (suc k') at seen prev r fuel fuel' =
      go (frame last at seen prev r) (frame last at seen prev (r ++ e)) (frame-adds e last at seen prev r) (scan-grows k k')
    where
      waits : (x : Ending) (y : Frame) → settled x ≡ false → Long (length r) (length r + length e) y
          → Grows (at + length r) (no_field x) (listed at (r ++ e) y (scan k' last))
      waits x y w l =
          record {
            more = listed at (r ++ e) y (scan k' last);
            joined = refl;
            ends = refl;
            same = λ h. never h w;
            later = λ h. listed-late k' at (length r) (r ++ e) y (omega arith) (rw length-append l);
          }

      go : (x y : Frame) → Adds (length r) (length r + length e) x y
          → ((a : ℕ) (s : Bool) (p : ℕ) (q : List ℕ) → length q < k → length (q ++ e) < k'
          → Grows (a + length q) (scan k last a s p q) (scan k' last a s p (q ++ e)))
          → Grows (at + length r) (listed at r x (scan k last)) (listed at (r ++ e) y (scan k' last))
      go End y d rec = waits (end_at at) y refl (d.later refl)
      go Cut y d rec = waits (cut_at at) y refl (d.later refl)
      go (Refused n) y d rec =
          rw (d.same refl)
          (record { more = no_field (refused_at n at); joined = refl; ends = refl; same = λ h. refl; later = λ h. never refl h })
      go Version y d rec =
          let l : 4 ≤ length r = d.in_bytes.by.1 in
          rw (d.same refl, drop-append-le 4 r e l)
          (rw (rest-place 4 at r l) at (rec (at + 4) false 0 (drop 4 r) (rest-short 4 k r four l fuel) (rest_more 4 k' r e four l fuel')))
      go (Whole i h n) y d rec =
          let b = d.in_bytes.by in
          let l : h + n ≤ length r = b.2 in
          rw (
            d.same refl,
            drop-append-le (h + n) r e l,
            drop-append-le h r e (head-inside h n _ l),
            take-append-le n (drop h r) e (data-inside h n r l),
          )
          (grows-before _ _ _ _
          (rw (rest-place (h + n) at r l) at
          (rec (at + (h + n)) true i (drop (h + n) r) (rest-short (h + n) k r (some_bytes h n b.0) l fuel) (rest_more (h + n) k' r e (some_bytes h n b.0) l fuel'))))

-- of a whole file
pub listing-spans : (last : ℕ) (bs : List ℕ) → Spans 0 (length bs) (listing last bs)
unfolding listing
listing-spans last bs = rw (zero-add (length bs)) at (scan-spans last (suc (length bs)) 0 false 0 bs (omega arith))

pub listing-grows : (last : ℕ) (bs e : List ℕ) → Grows (length bs) (listing last bs) (listing last (bs ++ e))
unfolding listing
listing-grows last bs e =
    rw (zero-add (length bs)) at (scan-grows last e (suc (length bs)) (suc (length (bs ++ e))) 0 false 0 bs (omega arith) (omega arith))
