-- What the laws say of tables of answers. To be believed.
use Rattle.std.specs.Prelude.{ℕ, ◌*◌, ◌/◌, ◌<◌, List, [], ◌∷◌, ◌≡◌, ℤ, ◌≤ℤ◌, ◌<ℤ◌, length, take, Ok}
use Rattle.signed.specs.Instant.{InRange}
use Rattle.zones.specs.declared.Edition.{Edition}
use Rattle.answers.specs.declared.Found.{Found}
use Rattle.answers.specs.declared.Mark.TheVariants.{All}
use Rattle.questions.specs.Question.{ask}
use Rattle.found_zones.specs.FoundZone.{ask_zone, FindsZone}
use Rattle.found_zones.specs.declared.FoundZone.{FoundZone}
use Rattle.answer_tables.specs.Table.{answer_at, ask_listed}
use Rattle.answer_tables.specs.Lists.{answers_from, ListsAnswers}

-- each row has what the question on the zone gives at every tick that the row holds
pub record Right (f : List ℕ) (v : FoundZone) (ed : Edition) (rows : List ℤ) : Type 0 where
  pub row : (k : ℕ) → k < length rows / 7 → (z : ℤ) → InRange z → (answer_at rows k).start ≤ℤ z → z <ℤ (answer_at rows k).end
      → ask_zone f v z ed ≡ Ok (answer_at rows k)

-- each starts where the one before ends
abbrev pub Consecutive : List Found → Type 0
Consecutive [] = Unit {0}
Consecutive (x ∷ []) = Unit {0}
Consecutive (x ∷ y ∷ ys) = (y.start ≡ x.end) × Consecutive (y ∷ ys)

-- a zone, under an edition
pub record Tables (f : List ℕ) (v : FoundZone) (ed : Edition) : Type 0 where
  -- over right rows the question gives what the question on the zone gives, at every tick, in range or not
  pub same : (rows : List ℤ) → Right f v ed rows → (z : ℤ) → ask_listed f v rows z ed ≡ ask_zone f v z ed
  -- the rows that were put are right ..
  pub right : (from : ℤ) (d e : List ℤ) (n : ℕ) → ListsAnswers f v from ed d (Ok n) e → Right f v ed (take (7 * n) e)
  -- .. so over them it gives what the question on the whole file gives, where the zone was found in it
  pub asks : (id : List ℕ) → FindsZone f id (Ok v) → (from : ℤ) (d e : List ℤ) (n : ℕ) → ListsAnswers f v from ed d (Ok n) e
      → (z : ℤ) → ask_listed f v (take (7 * n) e) z ed ≡ ask f id z All ed
  -- and they are those of intervals one after the other
  pub in-turn : (from : ℤ) (k : ℕ) → Consecutive (answers_from f v ed k from)
