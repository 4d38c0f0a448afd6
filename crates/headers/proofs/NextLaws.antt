-- A zone behind a zone, by its first bytes. Assumes nothing.
use Rattle.std.specs.Prelude.{Ok}
use Rattle.std.specs.declared.option.Option.TheVariants.{None}
use mathlib.Core.Path.{◌≡◌, refl, sym, ap, ◌∙◌}
use mathlib.Core.Bool.{true, false}
use mathlib.Core.List.{List}
use Prim.Native.Nat.{ℕ, ◌+◌, ◌*◌, ◌%◌, ◌≤◌, ◌<◌}
use native.Mathlib.Omega.{arith}
use lib.ListN.{length, get_or, drop, length-drop}
use lib.Seq.{get_or-drop}
use borrow.Author.Tests.{le-ltb, ne_eqb}
use Rattle.frames.specs.declared.Frame.TheVariants.{Whole}
use Rattle.frames.specs.Frame.{largest, order, read_size, sized, frame}
use Rattle.frames.proofs.SizeLaws.{size-byte, size-two}
use Rattle.frames.proofs.ReadLaws.{size-whole, field-sized}

module _ (r : List ℕ) (last at : ℕ) (low : 0 < last) (past : 0 < at) (far : at < 4177919) (three : 2 < length r) (is_one : get_or r 0 0 ≡ 1) where
  allowed : order true 1 1 ≡ None
  unfolding order
  allowed = refl

  -- a whole field of the size v, whose code has u bytes
  whole : (v u : ℕ) → Ok (v, u) ≡ read_size (drop 1 r) → v < 16384 → u ≤ 2 → 1 + u + v ≤ length r → Whole 1 (1 + u) v ≡ frame last at true 1 r
  unfolding frame
  whole v u e m n w =
      let x = size-whole at 1 (drop 1 r) v u e false (sym (le-ltb largest (at + (1 + u + v)) (omega arith))) refl (omega (arith, length-drop 1 r)) in
      let y = field-sized last at true 1 r None (omega arith) (sym (ap (order true 1) is_one ∙ allowed)) refl (omega arith) in
      let z : at ≡ 0 → ⊥ = λ q. omega arith in
      rw (ne_eqb at 0 z) (x ∙ ap (λ (i : ℕ). sized at i (drop 1 r) (read_size (drop 1 r))) (sym is_one) ∙ y)

  pub zone-one : get_or r 1 0 < 128 → 2 + get_or r 1 0 ≤ length r → Whole 1 2 (get_or r 1 0) ≡ frame last at true 1 r
  zone-one l w =
      let x = get_or-drop 1 r 0 0 in
      whole (get_or r 1 0) 1 (rw x at (size-byte (drop 1 r) (omega (arith, length-drop 1 r)) (omega (arith, x)))) (omega arith) (omega arith) (omega arith)

  pub zone-two : 128 ≤ get_or r 1 0 → get_or r 2 0 < 128 → 3 + (get_or r 1 0 % 128 + 128 * get_or r 2 0) ≤ length r
      → Whole 1 3 (get_or r 1 0 % 128 + 128 * get_or r 2 0) ≡ frame last at true 1 r
  zone-two l k w =
      let x = get_or-drop 1 r 0 0 in
      let y = get_or-drop 1 r 1 0 in
      whole (get_or r 1 0 % 128 + 128 * get_or r 2 0) 2
      (rw (x, y) at (size-two (drop 1 r) (omega (arith, length-drop 1 r)) (omega (arith, x)) (omega (arith, y)))) (omega arith) (omega arith) (omega arith)
