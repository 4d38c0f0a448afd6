-- What more bytes do to a frame: the three laws on which all that is said about parts of a file rests. What is whole lies within the
-- bytes; what is settled stays with bytes added; what waits ends later, past the old end. Assumes nothing.
use Rattle.base.specs.declared.Refusal.{Refusal}
use Rattle.std.specs.Prelude.{Err, Ok}
use Rattle.base.specs.Coded.{Coded}
use Rattle.std.specs.declared.option.Option.{Option}
use Rattle.std.specs.declared.option.Option.TheVariants.{Some, None}
use Rattle.base.specs.Refusals.{refusal_number}
use Rattle.base.specs.declared.Refusal.TheVariants.{BadCode, BadData, NotFound, TooLarge, WrongVersion}
use mathlib.Core.Path.{◌≡◌, refl, sym, ◌∙◌}
use mathlib.Core.Bool.{Bool, true, false}
use mathlib.Core.List.{List, [], ◌∷◌, ◌++◌}
use mathlib.Core.Logic.{◌⊎◌, inl, inr}
use Prim.Native.Nat.{ℕ, suc, ◌+◌, ◌≤◌, ◌<◌}
use native.Mathlib.Omega.{arith}
use native.Mathlib.Nat.{zero-add}
use lib.ListN.{length, take, length-append}
use lib.Seq.{take-append-le}
use lib.Dec.{ltb, leb, eqb}
use borrow.Author.Tests.{leb-true, leb-false, le-leb}
use Rattle.base.specs.Pick.{pick}
use Rattle.base.proofs.Tests.{never, pick-holds, clash}
use Rattle.frames.specs.Frame.{largest, order, zeros, version, read_size, sized, allowed, field, frame}
use Rattle.frames.specs.declared.Frame.{Frame}
use Rattle.frames.specs.declared.Frame.TheVariants.{End, Cut, Refused, Version, Whole}
use Rattle.frames.proofs.SizeLaws.{size_same, size-past, size-refused}

-- the bytes end before the frame does
abbrev pub waiting : Frame → Bool
waiting End = true
waiting Cut = true
waiting (Refused n) = false
waiting Version = false
waiting (Whole i h n) = false

abbrev pub LongTo : ℕ → ℕ → Frame → Type 0
LongTo a b End = b ≡ 0
LongTo a b Cut = Unit {0}
LongTo a b (Refused n) = (0 < b) × (n ≡ NotFound → a ≡ 0)
LongTo a b Version = (a < 4) × (4 ≤ b)
LongTo a b (Whole i h n) = (0 < h) × (a < h + n) × (h + n ≤ b)

-- a frame of b bytes: what is whole is longer than a and at most b long, what is refused has a byte, and 12 comes with the first byte
pub record Long (a b : ℕ) (f : Frame) : Type 0 where
  pub by : LongTo a b f

-- y is the frame x of a bytes after bytes are added, b in all
pub record Adds (a b : ℕ) (x y : Frame) : Type 0 where
  pub in_bytes : Long 0 a x
  pub same : waiting x ≡ false → y ≡ x
  pub later : waiting x ≡ true → Long a b y

adds-settled : (a b : ℕ) (x : Frame) → waiting x ≡ false → Long 0 a x → Adds a b x x
adds-settled a b x w l = record { in_bytes = l; same = λ h. refl; later = λ h. never h w }

adds-refused : (a b : ℕ) (n : Refusal) → 0 < a → Adds a b (Refused n) (Refused n)
adds-refused a b n h = adds-settled a b (Refused n) refl (record { by = (h, λ z. refl) })

adds-cut : (a b : ℕ) (y : Frame) → Long a b y → Adds a b Cut y
adds-cut a b y l = record { in_bytes = record { by = tt }; same = λ h. never refl h; later = λ h. l }

adds-pick : (t : Bool) {a b : ℕ} {x y x' y' : Frame} → Adds a b x x' → Adds a b y y' → Adds a b (pick t x y) (pick t x' y')
adds-pick true p q = p
adds-pick false p q = q

adds-allowed : (o : Option Refusal) {a b : ℕ} {x x' : Frame} → 0 < a → Adds a b x x' → Adds a b (allowed o x) (allowed o x')
adds-allowed None h p = p
adds-allowed (Some k) h p = adds-refused _ _ k h

module _ (e : List ℕ) where
  version-adds : (r : List ℕ) → Adds (length r) (length r + length e) (version r) (version (r ++ e))
  unfolding version
  version-adds r = go (leb 4 (length r)) refl
    where
      go : (t : Bool) → leb 4 (length r) ≡ t
          → Adds (length r) (length r + length e) (pick t (pick (zeros (take 4 r)) Version (Refused WrongVersion)) Cut) (version (r ++ e))
      go true h =
          let l : 4 ≤ length r = leb-true _ _ h in
          let m : 4 ≤ length (r ++ e) = simp length-append (omega arith) in
          rw (le-leb _ _ m, take-append-le 4 r e l)
          (adds-pick (zeros (take 4 r))
          (adds-settled _ _ Version refl (record { by = (omega arith, l) }))
          (adds-refused _ _ WrongVersion (omega arith)))
      go false h =
          adds-cut _ _ _
          (pick-holds (Long (length r) (length r + length e)) (leb 4 (length (r ++ e)))
          (λ k.
          let l : 4 ≤ length r + length e = rw length-append at (leb-true 4 (length (r ++ e)) k) in
          pick-holds (Long _ _) (zeros (take 4 (r ++ e)))
          (λ j. record { by = (omega (arith, leb-false 4 (length r) h), l) })
          (λ j. record { by = (omega arith, λ z. clash cc) }))
          (λ k. record { by = tt }))

  -- a field whose size reads as x from s, a code of at least a bytes
  sized-long : (at i a : ℕ) (s : List ℕ) (x : Coded ℕ) → ((v u : ℕ) → x ≡ Ok (v, u) → a ≤ u) → Long a (suc (length s)) (sized at i s x)
  unfolding sized
  sized-long at i a s (Err n) h =
      pick-holds (Long _ _) (eqb (refusal_number n) 9) (λ k. record { by = tt }) (λ k. record { by = (omega arith, λ z. clash cc) })
  sized-long at i a s (Ok (v, u)) h =
      pick-holds (Long _ _) (ltb largest (at + (1 + u + v))) (λ k. record { by = (omega arith, λ z. clash cc) })
      (λ k. pick-holds (Long _ _) (leb (u + v) (length s))
      (λ j. record { by = (omega arith, omega (arith, h v u refl), omega (arith, leb-true (u + v) (length s) j)) })
      (λ j. record { by = tt }))

  module _ (at i : ℕ) (r : List ℕ) where
    abbrev SizeAdds : Frame → Frame → Type 0
    SizeAdds x y = Adds (suc (length r)) (suc (length r) + length e) x y

    sized-adds : (x : Coded ℕ) → read_size r ≡ x → SizeAdds (sized at i r x) (sized at i (r ++ e) (read_size (r ++ e)))
    unfolding sized
    sized-adds (Err n) h = go (size-refused r (sym h))
      where
        go : (n ≡ BadCode) ⊎ (n ≡ BadData) → SizeAdds (sized at i r (Err n)) (sized at i (r ++ e) (read_size (r ++ e)))
        go (inr k) =
            let short : Err BadData ≡ read_size r = rw h (rw k) in
            let all : suc (length (r ++ e)) ≡ suc (length r) + length e = simp length-append (omega arith) in
            rw k (adds-cut _ _ _ (rw all at (sized-long at i (suc (length r)) (r ++ e) _ (λ v u j. size-past e r short (sym j)))))
        go (inl k) =
            let s : read_size (r ++ e) ≡ Err n = size_same e r (λ z. clash cc) ∙ h in
            rw (s, k) (adds-refused _ _ BadCode (omega arith))
    sized-adds (Ok (v, u)) h =
        let s : read_size (r ++ e) ≡ Ok (v, u) = size_same e r (λ z. clash cc) ∙ h in
        rw s (adds-pick (ltb largest (at + (1 + u + v))) (adds-refused _ _ TooLarge (omega arith)) (go (leb (u + v) (length r)) refl))
      where
        go : (t : Bool) → leb (u + v) (length r) ≡ t
            → SizeAdds (pick t (Whole i (1 + u) v) Cut) (pick (leb (u + v) (length (r ++ e))) (Whole i (1 + u) v) Cut)
        go true k =
            let l : u + v ≤ length r = leb-true _ _ k in
            let m : u + v ≤ length (r ++ e) = simp length-append (omega arith) in
            rw (le-leb _ _ m) (adds-settled _ _ _ refl (record { by = (omega arith, omega arith, omega arith) }))
        go false k =
            adds-cut _ _ _
            (pick-holds (Long _ _) (leb (u + v) (length (r ++ e)))
            (λ j.
            let l : u + v ≤ length r + length e = rw length-append at (leb-true (u + v) (length (r ++ e)) j) in
            record { by = (omega arith, omega (arith, leb-false (u + v) (length r) k), omega arith) })
            (λ j. record { by = tt }))

  module _ (last at : ℕ) (seen : Bool) (prev : ℕ) where
    field-long : (r : List ℕ) → Long 0 (length r) (field last at seen prev r)
    unfolding field
    field-long [] = record { by = refl }
    field-long (i ∷ r) = go (order seen prev i)
      where
        go : (o : Option Refusal) → Long 0 (suc (length r)) (allowed o (pick (ltb last i) (Refused NotFound) (sized at i r (read_size r))))
        go None =
            pick-holds (Long _ _) (ltb last i)
            (λ j. record { by = (omega arith, λ z. refl) })
            (λ j. sized-long at i 0 r (read_size r) (λ v u z. omega arith))
        go (Some k) = record { by = (omega arith, λ z. refl) }

    field-adds : (r : List ℕ) → Adds (length r) (length r + length e) (field last at seen prev r) (field last at seen prev (r ++ e))
    unfolding field
    field-adds [] =
        record { in_bytes = record { by = refl }; same = λ h. never refl h; later = λ h. rw (zero-add (length e)) (field-long e) }
    field-adds (i ∷ r) =
        adds-allowed (order seen prev i) (omega arith)
        (adds-pick (ltb last i) (adds-refused _ _ NotFound (omega arith)) (sized-adds at i r (read_size r) refl))

    pub frame-adds : (r : List ℕ) → Adds (length r) (length r + length e) (frame last at seen prev r) (frame last at seen prev (r ++ e))
    unfolding frame
    frame-adds r = adds-pick (eqb at 0) (version-adds r) (field-adds r)

pub frame-long : (last at : ℕ) (seen : Bool) (prev : ℕ) (r : List ℕ) → Long 0 (length r) (frame last at seen prev r)
frame-long last at seen prev r = (frame-adds [] last at seen prev r).in_bytes
