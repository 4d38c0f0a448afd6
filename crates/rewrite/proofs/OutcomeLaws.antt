-- What normalizing gives, by the check's verdict and the room. Assumes nothing.
use Rattle.base.specs.declared.Refusal.TheVariants.{TooShort}
use Rattle.base.specs.declared.Refusal.{Refusal}
use Rattle.base.specs.Coded.{Fault}
use Rattle.std.specs.Prelude.{Err, Ok, Result}
use mathlib.Core.Path.{◌≡◌, refl, sym, ap, ◌∙◌}
use mathlib.Core.Bool.{Bool, true, false}
use mathlib.Core.List.{List, []}
use Prim.Native.Nat.{ℕ, ◌+◌, ◌<◌}
use native.Mathlib.Omega.{arith}
use lib.ListN.{length}
use lib.Dec.{leb}
use borrow.Author.Tests.{lt-leb}
use Rattle.field_checks.specs.Check.{check_of}
use Rattle.pieces.specs.View.{Put}
use Rattle.rewrite.specs.Preferred.{content, print_fields, print_file, preferred, rewrite_of, output_of}

-- the version, then the fields
pub file-length : (f : List ℕ) → length (preferred f) ≡ 4 + length (print_fields (content f))
unfolding print_file
file-length f = omega arith

-- the three ways out of a rewrite
module _ (f d : List ℕ) (v : Result (Unit {0}) Fault) (e : v ≡ check_of f) where
  pub rewrite-refused : (n : Refusal) (p : ℕ) → v ≡ Err (n, p) → (Err (n, p) ≡ rewrite_of f d) × (d ≡ output_of f d)
  unfolding rewrite_of output_of
  rewrite-refused n p h = (rw (sym e ∙ h), rw (sym e ∙ h))

  module _ (g : v ≡ Ok tt) (b : Bool) (r : b ≡ leb (length (preferred f)) (length d)) where
    pub rewrite-short : b ≡ false → (Err (TooShort, 0) ≡ rewrite_of f d) × (d ≡ output_of f d)
    unfolding rewrite_of output_of
    rewrite-short h = (rw (sym e ∙ g, sym r ∙ h), rw (sym e ∙ g, sym r ∙ h))

    pub rewrite-put : (n : ℕ) (o : List ℕ) → b ≡ true → Put (preferred f) d n o → (Ok n ≡ rewrite_of f d) × (o ≡ output_of f d)
    unfolding rewrite_of output_of
    rewrite-put n o h p = (rw (sym e ∙ g, sym r ∙ h) (ap Ok p.size), rw (sym e ∙ g, sym r ∙ h) p.left)

-- an output without room for the version
pub rewrite-little : (f d : List ℕ) → length d < 4 → check_of f ≡ Ok tt → (Err (TooShort, 0) ≡ rewrite_of f d) × (d ≡ output_of f d)
rewrite-little f d l g = rewrite-short f d (check_of f) refl g (leb (length (preferred f)) (length d)) refl (lt-leb (length (preferred f)) (length d) (omega (arith, file-length f)))

pub only-checked : (f d : List ℕ) → length d < 4 → (r : Result ℕ Fault) → r ≡ rewrite_of f [] → (r ≡ rewrite_of f d) × (d ≡ output_of f d)
only-checked f d l r e = go (check_of f) refl
  where
    go : (v : Result (Unit {0}) Fault) → check_of f ≡ v → (r ≡ rewrite_of f d) × (d ≡ output_of f d)
    go (Err (n, p)) h =
        let x = rewrite-refused f d (check_of f) refl n p h in
        (e ∙ sym (rewrite-refused f [] (check_of f) refl n p h).0 ∙ x.0, x.1)
    go (Ok tt) h =
        let x = rewrite-little f d l h in
        (e ∙ sym (rewrite-little f [] (omega arith) h).0 ∙ x.0, x.1)
