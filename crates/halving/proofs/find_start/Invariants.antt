use Rattle.halving.specs.Looks.{Standing, Near}
use Rattle.halving.proofs.find_start.Given as goal

abbrev pub invariant-loop-m : goal.invariant-loop-m
invariant-loop-m l = Standing l.table l.instant l.low l.n l.probes × Near l.m l.n

abbrev pub decreases-loop-m : goal.decreases-loop-m
decreases-loop-m l = l.m
