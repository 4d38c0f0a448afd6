use native.Mathlib.Omega.{arith}
use mathlib.Core.List.{[]}
use Rattle.named_fields.proofs.JudgeLaws.{zone-here, zone-fault, zone-unnamed, zone-number, zone-keep}
use Rattle.named_fields.proofs.judge_zone.Goals as goal

pub bounds-flags-k : goal.bounds-flags-k
bounds-flags-k c = omega (arith, c.requires.2, zone-number c.args.name.now c.args.pool.now c.args.count c.args.d.now [] _ c.judge-j.ensures c.in-Keep.is c.requires.1 _ c.name_at.ensures _ _ c.in-Ok.is)

pub returns-in-Here : goal.returns-in-Here
returns-in-Here c = zone-here _ _ _ _ _ _ c.judge-j.ensures c.in-Here.is

pub returns-in-Fault : goal.returns-in-Fault
returns-in-Fault c = zone-fault _ _ _ _ _ _ c.judge-j.ensures _ c.in-Fault.is

pub returns-in-Err : goal.returns-in-Err
returns-in-Err c = zone-unnamed c.args.name.now c.args.pool.now c.args.count c.args.d.now [] _ c.judge-j.ensures c.in-Keep.is c.requires.1 _ c.name_at.ensures _ c.in-Err.is

pub returns-in-Ok : goal.returns-in-Ok
returns-in-Ok c = zone-keep _ _ _ _ _ _ c.judge-j.ensures c.in-Keep.is c.requires.1 _ c.name_at.ensures _ _ c.in-Ok.is
