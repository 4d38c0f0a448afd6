-- The result of a writer. Assumes nothing.
use Rattle.std.specs.Prelude.{Result}
use Rattle.base.specs.declared.Refusal.{Refusal}
use mathlib.Core.Path.{◌≡◌, ap, ◌∙◌, subst⁻¹}
use mathlib.Core.List.{List}
use Prim.Native.Nat.{ℕ}
use Rattle.base.specs.Writing.{Form, Writes}
use Rattle.replies.specs.Small.{SmallWrote}
use Rattle.replies.specs.Reply.{written_of, Puts}
use Rattle.capi.proofs.FormLaws.{SmallForm, wrote-small}

pub puts : (x : Form) (d : List ℕ) (w : Result ℕ Refusal) (r : ℕ) (e : List ℕ) → Writes x d w e → r ≡ written_of w → Puts x d r e
puts x d w r e h q = record { result = q ∙ ap written_of h.0; output = h.1 }

pub result-small : (x : Form) (d : List ℕ) (w : Result ℕ Refusal) (e : List ℕ) → Writes x d w e → SmallForm x → SmallWrote w
result-small x d w e h s = subst⁻¹ SmallWrote h.0 (wrote-small x d s)
