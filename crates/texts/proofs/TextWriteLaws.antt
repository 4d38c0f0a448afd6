-- What the writer of a text leaves. Assumes nothing.
use Rattle.base.specs.declared.Refusal.{Refusal}
use Rattle.std.specs.Prelude.{Err, Result}
use Rattle.base.specs.declared.Refusal.TheVariants.{BadText, TooLarge}
use mathlib.Core.Path.{◌≡◌, sym, ◌∙◌}
use mathlib.Core.List.{List}
use mathlib.Core.Bool.{Bool, true, false}
use Prim.Native.Nat.{ℕ, ◌≤◌, ◌<◌}
use native.Mathlib.Omega.{arith}
use lib.ListN.{length}
use borrow.Author.Tests.{lt-ltb, le-ltb, le-leb}
use Rattle.base.specs.Writing.{bytes, placed, Writes}
use Rattle.base.proofs.WriteLaws.{not_carried}
use Rattle.counts.specs.Count.{write_count, count_form}
use Rattle.utf8.specs.Utf8.{utf8}
use Rattle.texts.specs.Text.{write_text, text_form}

-- the length's code that stands in the output
pub length-written : (n : ℕ) (d out : List ℕ) → n ≤ 1024 → out ≡ placed (count_form n) d → out ≡ placed (bytes (write_count n)) d
length-written n d out l q = q ∙ rw (le-leb n 2147483647 (omega arith))

-- the tests of the writer
pub form-long : (t d : List ℕ) → 1024 < length t → Writes (text_form t) d (Err TooLarge) d
form-long t d h = rw (lt-ltb 1024 (length t) h) (not_carried TooLarge d)

module _ (t d : List ℕ) (l : length t ≤ 1024) (b : Bool) (q : b ≡ utf8 t) where
  pub form-invalid : b ≡ false → Writes (text_form t) d (Err BadText) d
  form-invalid e = rw (le-ltb 1024 (length t) l, sym q ∙ e) (not_carried BadText d)

  pub form-valid : b ≡ true → (r : Result ℕ Refusal) (o : List ℕ) → Writes (bytes (write_text t)) d r o → Writes (text_form t) d r o
  form-valid e r o h = rw (le-ltb 1024 (length t) l, sym q ∙ e) h
