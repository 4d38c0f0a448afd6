-- A string at a place of some bytes. Assumes nothing.
use Rattle.base.specs.declared.Refusal.{Refusal}
use Rattle.std.specs.Prelude.{Err, Ok, Result}
use mathlib.Core.Path.{◌≡◌, sym, ◌∙◌, ap, ap₂}
use mathlib.Core.List.{List}
use Prim.Native.Nat.{ℕ, ◌+◌, ◌-◌, ◌≤◌}
use native.Mathlib.Omega.{arith}
use lib.ListN.{length, take, drop, length-drop}
use lib.Seq.{drop-drop}
use Rattle.base.specs.Parsed.{got, bad}
use Rattle.base.proofs.Parts.{part-from}
use Rattle.texts.specs.Text.{behind_text}
use Rattle.old_texts.specs.OldText.{read_old_text, parse_old_text}
use Rattle.old_texts.proofs.OldTextLaws.{held}

module _ (s : List ℕ) (place : ℕ) (h : place ≤ length s) (r : Result (ℕ × ℕ) Refusal) (q : r ≡ read_old_text (take (length s - place) (drop place s))) where
  read : r ≡ read_old_text (drop place s)
  read = q ∙ ap read_old_text (part-from place s)

  pub text-bad : (k : Refusal) → r ≡ Err k → parse_old_text (drop place s) ≡ bad k
  text-bad k e = ap (behind_text (drop place s)) (sym read ∙ e)

  module _ (a n : ℕ) (e : r ≡ Ok (a, n)) where
    pub text-in : place + a + n ≤ length s
    text-in =
        let i = (held (drop place s) a n (sym read ∙ e)).inside in
        omega (arith, i, length-drop place s)

    pub text-got : parse_old_text (drop place s) ≡ got (take (place + a + n - (place + a)) (drop (place + a) s)) (drop (place + a + n) s)
    text-got =
        let z : place + a + n - (place + a) ≡ n = omega arith in
        let y : place + (a + n) ≡ place + a + n = omega arith in
        ap (behind_text (drop place s)) (sym read ∙ e)
        ∙ ap₂ got (rw z (ap (take n) (drop-drop a place s))) (drop-drop (a + n) place s ∙ ap (λ (x : ℕ). drop x s) y)
