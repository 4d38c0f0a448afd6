-- Parts of a list of which all elements have something. Assumes nothing.
use mathlib.Core.List.{List, [], ◌∷◌, ◌++◌}
use Rattle.base.specs.All.{All, all_none, all-also}

module _ {A : Type 0} {P : A → Type 0} where
  pub all_head : {x : A} {xs : List A} → All P (x ∷ xs) → P x
  all_head (all-also h t) = h

  pub all_tail : {x : A} {xs : List A} → All P (x ∷ xs) → All P xs
  all_tail (all-also h t) = t

  pub all_map : {Q : A → Type 0} → ((x : A) → P x → Q x) → {xs : List A} → All P xs → All Q xs
  all_map f all_none = all_none
  all_map f (all-also {x = x} h t) = all-also (f x h) (all_map f t)

  pub all_append : {xs ys : List A} → All P xs → All P ys → All P (xs ++ ys)
  all_append all_none k = k
  all_append (all-also h t) k = all-also h (all_append t k)

  pub all_left : (xs ys : List A) → All P (xs ++ ys) → All P xs
  all_left [] ys h = all_none
  all_left (x ∷ xs) ys h = all-also (all_head h) (all_left xs ys (all_tail h))

  pub all_right : (xs ys : List A) → All P (xs ++ ys) → All P ys
  all_right [] ys h = h
  all_right (x ∷ xs) ys h = all_right xs ys (all_tail h)
