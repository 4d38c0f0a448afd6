-- Ask 12 of a field of a file. To be believed.
use Rattle.std.specs.Prelude.{◌≡◌, List, [], ℕ, ℤ, length, get_or}
use Rattle.base.specs.Parsed.{got}
use Rattle.signed.specs.Instant.{InRange}
use Rattle.zones.specs.Content.{Zone}
use Rattle.zones.specs.Parse.{parse_zone}
use Rattle.zones.specs.declared.Edition.{Edition}
use Rattle.frames.specs.Frame.{Field}
use Rattle.frames.specs.Fields.{fields}
use Rattle.field_checks.specs.Check.{file_pool}
use Rattle.answers.specs.declared.Mark.{Mark}
use Rattle.answers.specs.declared.Found.{Found}
use Rattle.questions.specs.Question.{ask}
use Rattle.renewals.specs.Renewal.{NoGap, Screen}

-- of the zone with the ID bytes id, under an edition: the same answers whatever the mark
pub record GaplessAt (ed : Edition) (f id : List ℕ) : Type 0 where
  pub answers : List Found
  pub no_gap : (mark : Mark) → NoGap (λ z. ask f id z mark ed) answers
  pub screen : (mark : Mark) (z : ℤ) → InRange z → Screen (λ y. ask f id y mark ed) z

-- the field g of f, in full, is a zone, and asked by its own ID bytes there is no gap
pub record Gapless (f : List ℕ) (g : Field) : Type 0 where
  pub zone : Zone
  pub parsed : parse_zone (length (file_pool (fields f))) g.body ≡ got zone []
  pub gapless : (ed : Edition) → GaplessAt ed f (get_or (file_pool (fields f)) zone.id [])
