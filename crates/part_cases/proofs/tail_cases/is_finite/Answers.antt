use mathlib.Core.Path.{refl}
use Rattle.base.proofs.Tests.{never}
use Rattle.part_cases.proofs.tail_cases.is_finite.Goals as goal

pub returns-then-t-lt126227808000000000 : goal.returns-then-t-lt126227808000000000
returns-then-t-lt126227808000000000 c = λ e. never e refl
