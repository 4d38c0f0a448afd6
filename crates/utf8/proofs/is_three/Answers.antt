use mathlib.Core.Path.{refl}
use Rattle.base.proofs.Tests.{never}
use Rattle.utf8.proofs.is_three.Goals as goal

pub returns-then-a-eq237 : goal.returns-then-a-eq237
returns-then-a-eq237 c e = never e refl

pub returns-then-a-lt225 : goal.returns-then-a-lt225
returns-then-a-lt225 c e = never e refl

pub returns-then-a-gt239 : goal.returns-then-a-gt239
returns-then-a-gt239 c e = never e refl

pub returns-then-b-lt128 : goal.returns-then-b-lt128
returns-then-b-lt128 c e = never e refl

pub returns-then-b-gt191 : goal.returns-then-b-gt191
returns-then-b-gt191 c e = never e refl

pub returns-then-c-lt128 : goal.returns-then-c-lt128
returns-then-c-lt128 c e = never e refl

pub returns-then-c-gt191 : goal.returns-then-c-gt191
returns-then-c-gt191 c e = never e refl
