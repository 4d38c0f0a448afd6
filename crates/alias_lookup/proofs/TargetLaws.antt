-- Laws of a dictionary's targets. Assumes nothing.
use mathlib.Core.Path.{◌≡◌, refl, ◌∙◌}
use mathlib.Core.Bool.{Bool, true, false}
use mathlib.Core.List.{List, [], ◌∷◌, ◌++◌}
use mathlib.Core.Option.{none, some}
use Prim.Native.Nat.{ℕ}
use Rattle.base.specs.Pick.{pick}
use Rattle.base.specs.Equal.{equal}
use Rattle.base.proofs.Tests.{clash}
use Rattle.aliases.specs.Dictionary.{Entry, Dictionary, target_of}

-- where no key of the first entries is x, the others decide
pub target-behind : (pre es : Dictionary) (x : List ℕ) → target_of pre x ≡ none → target_of (pre ++ es) x ≡ target_of es x
unfolding target_of
target-behind [] es x h = refl
target-behind (e ∷ pre) es x h = go (equal e.key x) h (target-behind pre es x)
  where
    go : (b : Bool) → pick b (some e.target) (target_of pre x) ≡ none → (target_of pre x ≡ none → target_of (pre ++ es) x ≡ target_of es x)
        → pick b (some e.target) (target_of (pre ++ es) x) ≡ target_of es x
    go true k rec = clash cc
    go false k rec = rec k

pub target-here : (e : Entry) (es : Dictionary) (x : List ℕ) → equal e.key x ≡ true → target_of (e ∷ es) x ≡ some e.target
unfolding target_of
target-here e es x h = rw h

pub target_past : (pre : Dictionary) (e : Entry) (x : List ℕ) → target_of pre x ≡ none → equal e.key x ≡ false → target_of (pre ++ (e ∷ [])) x ≡ none
unfolding target_of
target_past pre e x h k = target-behind pre (e ∷ []) x h ∙ rw k
