-- A machine that takes steps until it stops, for any state and outcome: the walk over a file's fields is one.
-- To be believed; that `run` is never short of steps is `run-stop` and `run-next` (proofs/RunLaws.antt).
use Rattle.std.specs.Prelude.{ℕ, zero, suc}

pub data Step (S O : Type 0) : Type 0 where
  stop : O → Step S O
  next : S → Step S O

abbrev pub follow : {S O : Type 0} → Step S O → (S → O) → O
follow (stop o) k = o
follow (next s) k = k s

-- at most n steps; d where they do not suffice
unfoldable pub iterate : {S O : Type 0} → (S → Step S O) → O → ℕ → S → O
iterate f d zero s = d
iterate f d (suc n) s = follow (f s) (λ t. iterate f d n t)

-- all the steps: a state of size n takes at most n (run-next in proofs/RunLaws.antt says that these suffice)
module _ {S O : Type 0} (f : S → Step S O) (d : O) (size : S → ℕ) where
  abbrev pub run : S → O
  run s = iterate f d (suc (size s)) s
