-- Laws of a dictionary's keys. Assumes nothing.
use mathlib.Core.Path.{◌≡◌, refl, sym, ◌∙◌}
use mathlib.Core.Bool.{Bool, true, false}
use mathlib.Core.List.{List, [], ◌∷◌, ◌++◌}
use Prim.Native.Nat.{ℕ}
use Rattle.base.specs.Pick.{pick}
use Rattle.base.specs.Equal.{equal}
use Rattle.base.proofs.Tests.{pick_same}
use Rattle.ids.specs.Ids.{among}
use Rattle.ids.specs.Memory.{Keeps}
use Rattle.aliases.specs.Dictionary.{Entry, Dictionary, keys}

or_swap : (a b c : Bool) → pick a true (pick b true c) ≡ pick b true (pick a true c)
or_swap true b c = sym (pick_same b true)
or_swap false b c = refl

-- one key more, wherever it stands
pub keys-more : (pre : Dictionary) (e : Entry) (x : List ℕ) → among x (e.key ∷ keys pre) ≡ among x (keys (pre ++ (e ∷ [])))
unfolding keys among
keys-more [] e x = refl
keys-more (f ∷ pre) e x = or_swap (equal e.key x) (equal f.key x) (among x (keys pre)) ∙ rw (keys-more pre e x)

-- the array stands for strings in any order
pub keeps_same : (ts : List (List ℕ)) (od : List ℕ) (n : ℕ) (xs ys : List (List ℕ)) → ((x : List ℕ) → among x xs ≡ among x ys) → Keeps ts od n xs → Keeps ts od n ys
keeps_same ts od n xs ys h k = record { sorted = k.sorted; same = λ x. sym (h x) ∙ k.same x }
