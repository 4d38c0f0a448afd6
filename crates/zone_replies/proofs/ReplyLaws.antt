-- What the reply of a table of answers says of an answer and of a refusal, where the function that gives it is shared. Assumes nothing.
use Rattle.base.specs.declared.Refusal.{Refusal}
use Rattle.std.specs.Prelude.{Err, Ok, pos}
use mathlib.Core.Path.{◌≡◌, refl}
use mathlib.Core.List.{[], ◌∷◌}
use Prim.Native.Nat.{ℕ}
use Rattle.replies.specs.Reply.{numbers, refused}
use Rattle.zone_replies.specs.Zones.{listed_reply}

pub listed-rows : (n : ℕ) → listed_reply (Ok n) ≡ numbers (pos n ∷ [])
listed-rows n = refl

pub listed-refused : (k : Refusal) (p : ℕ) → listed_reply (Err (k, p)) ≡ refused k p
listed-refused k p = refl
