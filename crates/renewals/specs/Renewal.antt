-- "An auditor asks if a screen renewed only at interval ends can miss a change. Start at year 1 and ask again at each interval's end." Said of
-- any question q, which gives an answer or a refusal at each tick: marks, and what else a question takes, are its own. To be believed.
use Rattle.base.specs.Coded.{Fault}
use Rattle.std.specs.Prelude.{Ok, Result, ◌≡◌, List, [], ◌∷◌, map, ℤ, pos, neg_ℤ, ◌≤ℤ◌, ◌<ℤ◌}
use Rattle.std.specs.Int.Signed.{lt_z}
use Rattle.base.specs.All.{All}
use Rattle.base.specs.Pick.{pick}
use Rattle.signed.specs.Instant.{InRange}
use Rattle.answers.specs.declared.Found.{Found}
use Rattle.wall_times.specs.WallTime.{Ascending}

-- "Start at year 1": its first tick
abbrev pub first_tick : ℤ
first_tick = neg_ℤ (pos 621355968000000000)

-- end of time, where an answer ends with it
abbrev pub no_end : ℤ
no_end = pos 9223372036854775807

abbrev pub end_of : Found → ℤ
end_of x = x.end

-- "at each interval's end": when the next question is asked
abbrev pub renewal : Found → ℤ
renewal x = end_of x

-- "ask again at each interval's end": xs are the answers from the tick z on, up to the one that ends with time. The list is finite: the asking
-- ends.
pub data Renewed (q : ℤ → Result Found Fault) : ℤ → List Found → Type 0 where
  last : {z : ℤ} {x : Found} → q z ≡ Ok x → end_of x ≡ no_end → Renewed q z (x ∷ [])
  again : {z : ℤ} {x : Found} {xs : List Found} → q z ≡ Ok x → InRange (renewal x) → Renewed q (renewal x) xs → Renewed q z (x ∷ xs)

-- "An interval holds its start and not its end": start of time is the least number and end of time the largest
pub record Meets (x : Found) (z : ℤ) : Type 0 where
  pub from : x.start ≤ℤ z
  pub to : z <ℤ end_of x

-- P of exactly one element, by its place in the list
pub data Once {A : Type 0} (P : A → Type 0) : List A → Type 0 where
  here : {x : A} {xs : List A} → P x → All (λ y. P y → ⊥) xs → Once P (x ∷ xs)
  there : {x : A} {xs : List A} → (P x → ⊥) → Once P xs → Once P (x ∷ xs)

-- each starts where the one before ends
pub data Joined : List Found → Type 0 where
  alone : {x : Found} → Joined (x ∷ [])
  before : {x y : Found} {ys : List Found} → y.start ≡ end_of x → Joined (y ∷ ys) → Joined (x ∷ y ∷ ys)

-- "the answer is the same at every instant between": every value, the name's place and length among them
abbrev pub SameBetween : (ℤ → Result Found Fault) → Found → Type 0
SameBetween q x = (z : ℤ) → InRange z → Meets x z → q z ≡ Ok x

-- "this meets every instant to the end of 9999 in exactly one interval, ends rise strictly, and the answer is the same at every instant
-- between"
pub record NoGap (q : ℤ → Result Found Fault) (xs : List Found) : Type 0 where
  pub renewed : Renewed q first_tick xs
  pub met-once : (z : ℤ) → InRange z → Once (λ x. Meets x z) xs
  pub rising : Ascending (map end_of xs)
  pub joined : Joined xs
  pub same : All (SameBetween q) xs

-- what a screen shows at z that first showed x, and was renewed with each of ys when the one before it ended
unfoldable pub shown : Found → List Found → ℤ → Found
shown x [] z = x
shown x (y ∷ ys) z = pick (lt_z z (renewal x)) x (shown y ys z)

-- "a screen renewed only at interval ends", first asked at the tick z, shows at every instant from then on what is answered at that instant
pub record Screen (q : ℤ → Result Found Fault) (z : ℤ) : Type 0 where
  pub first : Found
  pub later : List Found
  pub renewed : Renewed q z (first ∷ later)
  pub shows : (y : ℤ) → InRange y → z ≤ℤ y → q y ≡ Ok (shown first later y)
