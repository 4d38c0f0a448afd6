-- ASK 12: NO GAP FROM FIRST TO LAST. Assumes nothing.
use Rattle.std.specs.Prelude.{Ok, Result}
use Rattle.base.specs.Coded.{Fault}
use mathlib.Core.Path.{◌≡◌, sym, ◌∙◌}
use mathlib.Core.List.{List, []}
use Prim.Native.Nat.{ℕ}
use native.Mathlib.Omega.{arith}
use lib.IntN.{ℤ}
use lib.ListN.{length, get_or}
use Rattle.base.specs.Moment.{end_of_time}
use Rattle.signed.specs.Instant.{InRange}
use Rattle.pool.specs.Pool.{strings_of}
use Rattle.zones.specs.Content.{Zone}
use Rattle.zones.specs.Editions.{under}
use Rattle.zones.specs.Sound.{Sound}
use Rattle.zones.specs.declared.Edition.{Edition}
use Rattle.zones.proofs.EditionLaws.{under-sound}
use Rattle.frames.specs.Frame.{Field}
use Rattle.frames.specs.Fields.{fields}
use Rattle.field_checks.specs.Check.{WellFormed, file_pool}
use Rattle.answers.specs.declared.Mark.{Mark}
use Rattle.answers.specs.declared.Mark.TheVariants.{All}
use Rattle.answers.specs.declared.Found.{Found}
use Rattle.questions.specs.Question.{ask}
use Rattle.questions.proofs.HeldLaws.{Holding, ask-holding, holding-asks, holding-sound}
use Rattle.demands.specs.Zones.{ZoneIn, Asked}
use Rattle.demands.proofs.Right.{right, demand-2}
use Rattle.renewals.specs.Renewal.{first_tick, NoGap}
use Rattle.renewals.specs.Gapless.{GaplessAt, Gapless}
use Rattle.renewals.proofs.RenewalLaws.{held-no-gap, held-screen}
use Rattle.renewals.proofs.SameLaws.{first-in-range, no-gap-same}

module _ (ed : Edition) (f id : List ℕ) where
  -- a zone that is held, in any bytes
  holding-gapless : Holding f id → GaplessAt ed f id
  holding-gapless k =
      let n : ℕ = length (strings_of k.zone.pool.body) in
      let w : Zone = under ed k.zone.zone in
      let ok : Sound n w = under-sound ed n k.zone.zone (holding-sound f id k) in
      let whole : ℤ → (Result Found Fault) = λ z. ask f id z All ed in
      let g : (xs : List Found) × NoGap whole xs =
      held-no-gap n w ok k.zone.pool whole (λ z r. holding-asks f id z All ed r k) end_of_time (omega arith) in
      record {
        answers = g.0;
        no_gap = λ mark. no-gap-same whole (λ z. ask f id z mark ed)
            (λ z r. holding-asks f id z mark ed r k ∙ sym (holding-asks f id z All ed r k)) g.0 g.1;
        screen = λ mark. held-screen n w ok k.zone.pool (λ y. ask f id y mark ed) (λ y r. holding-asks f id y mark ed r k) end_of_time (omega arith);
      }

  -- OF ANY BYTES: where a question is answered at one instant in range, there is no gap
  pub answered-gapless : (z : ℤ) (mark : Mark) (x : Found) → InRange z → ask f id z mark ed ≡ Ok x → GaplessAt ed f id
  answered-gapless z mark x r e = holding-gapless (ask-holding f id z mark ed r x e)

  -- of the asked zone, where the file has one
  pub asked-gapless : WellFormed f → (g : Field) → Asked f id g → GaplessAt ed f id
  asked-gapless w g a = let r = right ed f id first_tick g w a first-in-range in answered-gapless first_tick All r.given first-in-range (r.marked All)

-- ASK 12: of every well-formed file and every zone of it, by its own ID bytes, under either edition
pub no_gap : (f : List ℕ) → WellFormed f → (g : Field) → ZoneIn f g → Gapless f g
no_gap f w g i =
    let d = demand-2 f w g i in
    record {
      zone = d.zone;
      parsed = d.parsed;
      gapless = λ ed.
          let a = d.right ed first_tick first-in-range in
          answered-gapless ed f (get_or (file_pool (fields f)) d.zone.id []) first_tick All a.given first-in-range (a.marked All);
    }
