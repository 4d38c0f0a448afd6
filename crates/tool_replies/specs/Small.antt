-- What the inner functions ask: that each number fits where it goes. The C functions ask nothing. To be believed by
-- none: each is proved where it is asked.
use Rattle.std.specs.declared.option.Option.{Option}
use Rattle.std.specs.declared.option.Option.TheVariants.{None, Some}
use Rattle.base.specs.Coded.{Fault}
use Rattle.std.specs.Prelude.{◌≤◌, ◌<◌, ◌^◌, Err, Ok, Result, ℕ}

abbrev pub ReportTo : Result (Option ℕ) Fault → Type 0
ReportTo (Ok (Some i)) = i < 2 ^ 63
ReportTo (Ok None) = Unit {0}
ReportTo (Err (n, p)) = p ≤ 4194304

pub record SmallReport (x : Result (Option ℕ) Fault) : Type 0 where
  pub to : ReportTo x
