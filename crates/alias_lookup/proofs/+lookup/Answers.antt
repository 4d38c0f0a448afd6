use native.Mathlib.Omega.{arith}
use Rattle.alias_lookup.proofs.ResolveLaws.{point_at, resolves-zone, resolves-unknown, resolves-deep, resolves-on}
use Rattle.alias_lookup.proofs.+lookup.Goals as goal

pub find_zone-requires : goal.find_zone-requires
find_zone-requires t c = (c.requires.0, c.requires.1, c.requires.3)

pub find_target-requires : goal.find_target-requires
find_target-requires t c = (c.requires.0, c.requires.1, c.requires.2)

pub returns-then-left-eq0 : goal.returns-then-left-eq0
returns-then-left-eq0 t c = resolves-deep _ _ _ _ _ _ c.find_zone.ensures c.in-None.is _ c.find_target.ensures _ c.in-Some-find_target.is c.if-left-eq0.true

pub text_by-requires : goal.text_by-requires
text_by-requires t c = (c.requires.0, (point_at _ _ _ c.find_target.ensures _ c.in-Some-find_target.is).1)

pub lookup-requires : goal.lookup-requires
lookup-requires t c = (omega arith, c.requires)

pub returns-in-Some : goal.returns-in-Some
returns-in-Some t c = resolves-zone _ _ _ _ _ _ c.find_zone.ensures _ c.in-Some.is

pub returns-in-None-find_target : goal.returns-in-None-find_target
returns-in-None-find_target t c = resolves-unknown _ _ _ _ _ _ c.find_zone.ensures c.in-None.is _ c.find_target.ensures c.in-None-find_target.is

pub returns-else-left-eq0 : goal.returns-else-left-eq0
returns-else-left-eq0 t c = resolves-on _ _ _ _ _ _ c.find_zone.ensures c.in-None.is _ c.find_target.ensures _ c.in-Some-find_target.is c.if-left-eq0.false _ c.text_by.ensures _ c.lookup.ensures
