use native.Mathlib.Omega.{arith}
use Rattle.field_readers.proofs.TakeLaws.{field-pool, field-zone, field-text, field-aliases, field-other, field-6, field-7}
use Rattle.field_readers.proofs.FlagLaws.{flags-other, flags-zone}
use Rattle.check_steps.proofs.take_field.Goals as goal

pub take_pool-requires : goal.take_pool-requires
take_pool-requires c = (c.requires.0, c.requires.1, c.requires.4 c.if-i-eq0.true)

pub returns-then-i-eq0 : goal.returns-then-i-eq0
returns-then-i-eq0 c = (
  field-pool _ _ _ _ _ _ _ _ _ c.if-i-eq0.true c.requires.2 c.take_pool.ensures,
  flags-other _ _ _ _ _ _ (λ j. absurd (omega arith)),
)

pub returns-then-i-eq1 : goal.returns-then-i-eq1
returns-then-i-eq1 c = (
  field-zone _ _ _ _ _ _ _ c.if-i-eq0.false _ _ c.if-i-eq1.true c.take_zone.ensures.0,
  flags-zone _ _ _ _ _ _ _ c.if-i-eq1.true c.take_zone.ensures.1,
)

pub returns-then-i-eq2 : goal.returns-then-i-eq2
returns-then-i-eq2 c = (
  field-text _ _ _ _ _ _ _ c.if-i-eq0.false c.if-i-eq1.false c.requires.2 _ c.if-i-eq2.true c.take_text.ensures,
  flags-other _ _ _ _ _ _ (λ j. absurd (omega arith)),
)

pub returns-then-i-eq3 : goal.returns-then-i-eq3
returns-then-i-eq3 c = (
  field-aliases _ _ _ _ _ _ _ c.if-i-eq0.false c.if-i-eq1.false c.requires.2 c.if-i-eq2.false _ c.if-i-eq3.true c.take_aliases.ensures,
  flags-other _ _ _ _ _ _ (λ j. absurd (omega arith)),
)

pub returns-then-i-eq6 : goal.returns-then-i-eq6
returns-then-i-eq6 c = (
  field-6 _ _ _ _ _ _ _ c.if-i-eq0.false c.if-i-eq1.false
      c.requires.2 c.if-i-eq2.false c.if-i-eq3.false _ c.if-i-eq6.true c.take_locations.ensures,
  flags-other _ _ _ _ _ _ (λ j. absurd (omega arith)),
)

pub returns-then-i-eq7 : goal.returns-then-i-eq7
returns-then-i-eq7 c = (
  field-7 _ _ _ _ _ _ _ c.if-i-eq0.false c.if-i-eq1.false
      c.requires.2 c.if-i-eq2.false c.if-i-eq3.false c.if-i-eq6.false _
      c.if-i-eq7.true c.take_locations-then-i-eq7.ensures,
  flags-other _ _ _ _ _ _ (λ j. absurd (omega arith)),
)

pub returns : goal.returns
returns c = (
  field-other _ _ _ _ _ _ _ c.if-i-eq0.false c.if-i-eq1.false
      c.requires.2 c.if-i-eq2.false c.if-i-eq3.false c.if-i-eq6.false c.if-i-eq7.false,
  flags-other _ _ _ _ _ _ (λ j. absurd (omega arith)),
)
