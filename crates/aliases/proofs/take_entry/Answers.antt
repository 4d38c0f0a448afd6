use mathlib.Core.Path.{ap, subst}
use Prim.Native.Nat.{ℕ, ◌<◌}
use Rattle.places.specs.Placed.{of_read}
use Rattle.places.proofs.PlaceLaws.{then-in}
use Rattle.aliases.proofs.EntryLaws.{name_below, key-bad, key-second, target-bad, target-read}
use Rattle.aliases.proofs.take_entry.Goals as goal

pub take_string-requires : goal.take_string-requires
take_string-requires c = (c.requires.0, c.requires.3, subst (λ (n : ℕ). c.in-Ok.k < n) c.requires.1 (name_below c.args.d.now c.args.count c.args.at _ c.name_at.ensures _ _ c.in-Ok.is))

pub returns-then-take_string : goal.returns-then-take_string
returns-then-take_string c = key-second _ _ c.requires.1 _ _ _ _ _ c.name_at.ensures _ _ c.in-Ok.is _ _ c.take_string.ensures c.if-take_string.true

pub name_at-requires-in-Ok : goal.name_at-requires-in-Ok
name_at-requires-in-Ok c = then-in c.name_at.ensures _ _ (ap of_read c.in-Ok.is)

pub returns-in-Err : goal.returns-in-Err
returns-in-Err c = key-bad _ _ c.requires.1 _ _ _ _ _ c.name_at.ensures _ c.in-Err.is

pub returns-in-Err-name_at : goal.returns-in-Err-name_at
returns-in-Err-name_at c = target-bad _ _ c.requires.1 _ _ _ _ _ c.name_at.ensures _ _ c.in-Ok.is _ _ c.take_string.ensures c.if-take_string.false _ c.name_at-in-Ok.ensures _ c.in-Err-name_at.is

pub returns-in-Ok-name_at : goal.returns-in-Ok-name_at
returns-in-Ok-name_at c = target-read _ _ c.requires.1 _ _ _ _ _ c.name_at.ensures _ _ c.in-Ok.is _ _ c.take_string.ensures c.if-take_string.false _ c.name_at-in-Ok.ensures _ _ c.in-Ok-name_at.is
