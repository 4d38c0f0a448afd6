-- What the check makes of the version text at the end of a file. Assumes nothing.
use mathlib.Core.Path.{◌≡◌}
use Prim.Native.Nat.{ℕ}
use borrow.Author.Tests.{eq-eqb, ne_eqb}
use Rattle.field_checks.specs.Check.{concluded}
use Rattle.field_checks.specs.declared.Conclusion.TheVariants.{Bare, WithText}
use Rattle.field_readers.specs.Remembered.{text_of}
use Rattle.field_readers.specs.declared.Kept.{Kept}

-- at the bytes' end, behind a field
module _ (k : Kept) (p : ℕ) (o : p ≡ 4 → ⊥) where
  pub text-seen : (k.text ≡ 0 → ⊥) → WithText k.text k.len ≡ concluded (text_of k) p
  unfolding concluded
  text-seen q = rw (ne_eqb k.text 0 q, ne_eqb p 4 o)

  pub text-unseen : k.text ≡ 0 → Bare p ≡ concluded (text_of k) p
  unfolding concluded
  text-unseen q = rw (eq-eqb k.text 0 q, ne_eqb p 4 o)
