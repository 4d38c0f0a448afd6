use Prim.Native.Nat.{◌+◌}
use native.Mathlib.Omega.{arith}
use Rattle.zone_mentions.proofs.ShortLaws.{no-hours, hours-at}
use Rattle.zone_mentions.proofs.hours_at.Goals as goal

pub overflow_cast-b : goal.overflow_cast-b
overflow_cast-b c = omega (arith, c.shared_slice_known-1.given c.args.at)

pub overflow_cast-d : goal.overflow_cast-d
overflow_cast-d c = omega (arith, c.shared_slice_known-2-1.given (c.args.at + 1))

pub returns : goal.returns
returns c = hours-at _ _ c.requires c.if-b-lt128.false c.if-d-eq0.false c.if-d-gt127.false _ c.if-prev-lt-FIRST.false c.if-prev-gt-LAST.false c.if-m-gt-LAST.false

pub returns-then-b-lt128 : goal.returns-then-b-lt128
returns-then-b-lt128 c = no-hours _ _ _

pub returns-then-d-eq0 : goal.returns-then-d-eq0
returns-then-d-eq0 c = no-hours _ _ _

pub returns-then-d-gt127 : goal.returns-then-d-gt127
returns-then-d-gt127 c = no-hours _ _ _

pub returns-then-prev-lt-FIRST : goal.returns-then-prev-lt-FIRST
returns-then-prev-lt-FIRST c = no-hours _ _ _

pub returns-then-prev-gt-LAST : goal.returns-then-prev-gt-LAST
returns-then-prev-gt-LAST c = no-hours _ _ _

pub returns-then-m-gt-LAST : goal.returns-then-m-gt-LAST
returns-then-m-gt-LAST c = no-hours _ _ _
