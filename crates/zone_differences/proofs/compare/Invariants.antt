use Prim.Native.Nat.{◌-◌}
use Rattle.zone_differences.proofs.CompareLaws.{Comparing}
use Rattle.zone_differences.proofs.compare.Given as goal

abbrev pub invariant-loop-t : goal.invariant-loop-t
invariant-loop-t l = Comparing l.zx l.px l.sx l.ex l.zy l.py l.sy l.ey l.kx l.ky l.first l.last l.initial.out l.t l.x l.y l.m l.out

abbrev pub decreases-loop-t : goal.decreases-loop-t
decreases-loop-t l = l.last - l.t
