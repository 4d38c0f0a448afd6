-- The walk over the frames of a file, for any job: the whole-file check, the question, the version text, the rewriter.
-- To be believed; `walk-fields` (proofs/PartLaws.antt) says it of the list of fields.
use Rattle.std.specs.Prelude.{ℕ, ◌+◌, Bool, true, false, List, length, take, drop}
use Rattle.base.specs.declared.Refusal.{Refusal}
use Rattle.base.specs.Run.{Step, stop, next, run}
use Rattle.frames.specs.Frame.{frame, Field}
use Rattle.frames.specs.declared.Frame.{Frame}
use Rattle.frames.specs.declared.Frame.TheVariants.{End, Cut, Refused, Version, Whole}

-- What a walk comes to: an answer, and the place just past its field; a refusal and its place, "the place of the faulty field's
-- ID byte"; the bytes end "in the version or in a field", at that one's place; they end "at the version's or a field's end", with
-- what is remembered then. The mark turns the last two into 1, 2, 6 or 12; nothing else depends on it.
pub data Out (M A : Type 0) : Type 0 where
  found : A → ℕ → Out M A
  refused : Refusal → ℕ → Out M A
  cut : ℕ → Out M A
  ended : M → ℕ → Out M A

-- what no bytes behind these can change
abbrev pub final : {M A : Type 0} → Out M A → Bool
final (found v p) = true
final (refused n p) = true
final (cut p) = false
final (ended m p) = false

-- what a whole field says to a job: a refusal, the job's answer, or what it remembers from here on
pub data Content (M A : Type 0) : Type 0 where
  bad : Refusal → Content M A
  answer : A → Content M A
  keep : M → Content M A

-- A job: the largest ID that it goes to ("for a question 12 if the ID is above 1"), and what it makes of a whole field. A field that
-- isn't whole is never shown to it.
pub record Job (M A : Type 0) : Type 0 where
  pub last : ℕ
  pub content : M → Field → Content M A

-- a place in the file, the bytes from there on, whether a field came before it, that one's ID, and what the job remembers
pub record State (M : Type 0) : Type 0 where
  pub at : ℕ
  pub rest : List ℕ
  pub seen : Bool
  pub prev : ℕ
  pub mem : M

abbrev pub state_at : {M : Type 0} → ℕ → List ℕ → Bool → ℕ → M → State M
state_at at r seen prev m = record { at = at; rest = r; seen = seen; prev = prev; mem = m }

-- the whole field at a place, where r is the bytes from there on, by its ID and the lengths of head and data
abbrev pub field_at : ℕ → List ℕ → ℕ → ℕ → ℕ → Field
field_at at r i h n = record { place = at; id = i; start = at + h; past = at + (h + n); body = take n (drop h r) }

-- what a field's content comes to: a stop at the field, or what the job remembers
abbrev pub verdict : {M A : Type 0} → Field → Content M A → Step M (Out M A)
verdict g (bad n) = stop (refused n g.place)
verdict g (answer v) = stop (found v g.past)
verdict g (keep m) = next m

-- on from what is remembered, unless it stopped
abbrev pub onward : {S T O : Type 0} → Step S O → (S → Step T O) → Step T O
onward (stop o) k = stop o
onward (next s) k = k s

module _ {M A : Type 0} (J : Job M A) where
  -- by the frame at a place, where r is the bytes from there on
  unfoldable pub act : ℕ → List ℕ → M → Frame → Step (State M) (Out M A)
  act at r m End = stop (ended m at)
  act at r m Cut = stop (cut at)
  act at r m (Refused n) = stop (refused n at)
  act at r m Version = next (state_at (at + 4) (drop 4 r) false 0 m)
  act at r m (Whole i h n) =
      onward (verdict (field_at at r i h n) (J.content m (field_at at r i h n)))
      (λ m'. next (state_at (at + (h + n)) (drop (h + n) r) true i m'))

  -- one frame
  unfoldable pub step : State M → Step (State M) (Out M A)
  step σ = act σ.at σ.rest σ.mem (frame J.last σ.at σ.seen σ.prev σ.rest)

  -- "version; then fields in file order": each step takes a byte at least, so the bytes left bound the steps
  abbrev pub from : State M → Out M A
  from σ = run step (cut 0) (λ τ. length τ.rest) σ

  -- of all the bytes
  abbrev pub begin : M → List ℕ → State M
  begin m bs = state_at 0 bs false 0 m

  unfoldable pub walk : M → List ℕ → Out M A
  walk m bs = from (begin m bs)
