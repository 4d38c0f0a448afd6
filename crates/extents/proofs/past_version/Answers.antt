use Rattle.extents.proofs.ExtentLaws.{version-field}
use mathlib.Core.Path.{◌∙◌}
use Rattle.extents.proofs.ExtentLaws.{version-none, version-end, version-step}
use Rattle.extents.proofs.past_version.Goals as goal

pub returns-then-c-ne0 : goal.returns-then-c-ne0
returns-then-c-ne0 c = version-none _ _ c.if-c-ne0.true

pub returns-in-Version : goal.returns-in-Version
returns-in-Version c = version-end c.args.s.now c.args.c c.if-c-ne0.false ∙ version-step _ _ c.if-c-ne0.false _ _ c.version.ensures c.in-Version.is

pub returns-in-End : goal.returns-in-End
returns-in-End c = version-step _ c.args.c c.if-c-ne0.false _ _ c.version.ensures c.in-End.is

pub returns-in-Cut : goal.returns-in-Cut
returns-in-Cut c = version-step _ c.args.c c.if-c-ne0.false _ _ c.version.ensures c.in-Cut.is

pub returns-in-Refused : goal.returns-in-Refused
returns-in-Refused c = version-step _ c.args.c c.if-c-ne0.false _ _ c.version.ensures c.in-Refused.is

pub returns-in-Whole : goal.returns-in-Whole
returns-in-Whole c = absurd (version-field _ _ c.version.ensures _ _ _ c.in-Whole.is)
