use mathlib.Core.Path.{ap}
use native.Mathlib.Omega.{arith}
use Rattle.places.specs.Placed.{of_read}
use Rattle.places.proofs.PlaceLaws.{then-in}
use Rattle.alias_lookup.proofs.FindLaws.{looking-start, looking-done, never-key, key-number, never-target, looking-found, looking-next}
use Rattle.alias_lookup.proofs.find_in.Goals as goal

pub loop-left-init : goal.loop-left-init
loop-left-init c = looking-start _ _ _ _ _ c.requires.2

pub name_at-requires : goal.name_at-requires
name_at-requires c = c.loop-left.invariant.inside

pub returns-in_default : goal.returns-in_default
returns-in_default c = never-key _ _ _ _ _ c.loop-left.invariant c.loop-left-test.true _ c.requires.1 _ c.name_at.ensures _ c.in_default.is

pub name_at-requires-in-loop-left : goal.name_at-requires-in-loop-left
name_at-requires-in-loop-left c = then-in c.name_at.ensures _ _ (ap of_read c.in-Ok.is)

pub returns-in_default-name_at : goal.returns-in_default-name_at
returns-in_default-name_at c = never-target _ _ _ _ _ c.loop-left.invariant c.loop-left-test.true _ c.requires.1 _ c.name_at.ensures _ _ c.in-Ok.is _ c.name_at-in-loop-left.ensures _ c.in_default-name_at.is

pub has_id-requires : goal.has_id-requires
has_id-requires c = (c.requires.0, key-number _ _ _ _ _ c.loop-left.invariant c.loop-left-test.true _ c.requires.1 _ c.name_at.ensures _ _ c.in-Ok.is)

pub returns-then-has_id : goal.returns-then-has_id
returns-then-has_id c = looking-found _ _ _ _ _ c.loop-left.invariant c.loop-left-test.true _ c.requires.1 _ c.name_at.ensures _ _ c.in-Ok.is _ c.name_at-in-loop-left.ensures _ _ c.in-Ok-name_at.is _ c.has_id.ensures c.if-has_id.true

pub loop-left-preserved : goal.loop-left-preserved
loop-left-preserved c = looking-next _ _ _ _ _ c.loop-left.invariant c.loop-left-test.true _ c.requires.1 _ c.name_at.ensures _ _ c.in-Ok.is _ c.name_at-in-loop-left.ensures _ _ c.in-Ok-name_at.is _ c.has_id.ensures c.if-has_id.false

pub returns : goal.returns
returns c = looking-done _ _ _ _ _ c.loop-left.invariant (omega arith)
