use Rattle.std.specs.Prelude.{Ok}
use mathlib.Core.Path.{◌≡◌, sym, ◌∙◌}
use Rattle.frames.specs.Frame.{read_size}
use native.Mathlib.Omega.{arith}
use Rattle.frames.proofs.SizeLaws.{size-read}
use Rattle.frames.proofs.ReadLaws.{size-cut, size-refused, size-large, size-whole, size-part}
use Rattle.sizes.proofs.sized.Goals as goal
use Rattle.sizes.proofs.sized.Goals.{In-Ok}

-- the size code is a count
value : (c : goal.In-Ok) → Ok (c.in-Ok.v, c.in-Ok.u) ≡ read_size c.args.r.now
value c = sym c.in-Ok.is ∙ c.read_size.ensures

pub returns-in-Err-BadData : goal.returns-in-Err-BadData
returns-in-Err-BadData c = size-cut _ _ _ _ (sym c.in-Err-BadData.is ∙ c.read_size.ensures) c.in-Err-BadData.field-0-is

pub overflow_add-u : goal.overflow_add-u
overflow_add-u c = omega (arith, size-read _ (value c))

pub overflow_add-u-in-Ok : goal.overflow_add-u-in-Ok
overflow_add-u-in-Ok c = omega (arith, size-read _ (value c))

pub returns-then-beyond : goal.returns-then-beyond
returns-then-beyond c = size-large _ _ _ _ _ (value (goal.at.returns-then-beyond c).In-Ok) _ c.beyond.ensures c.if-beyond.true

pub overflow_add-u-in-Ok-2 : goal.overflow_add-u-in-Ok-2
overflow_add-u-in-Ok-2 c = omega (arith, size-read _ (value (goal.at.overflow_add-u-in-Ok-2 c).In-Ok))

pub returns-then-u-n : goal.returns-then-u-n
returns-then-u-n c = size-whole _ _ _ _ _ (value (goal.at.returns-then-u-n c).In-Ok) _ c.beyond.ensures c.if-beyond.false c.if-u-n.true

pub returns-in-Err : goal.returns-in-Err
returns-in-Err c = size-refused _ _ _ _ (sym c.in-Err.is ∙ c.read_size.ensures) (λ e. c.in-Err.in-Err-own'.refused-1.1 (rw e))

pub returns-else-u-n : goal.returns-else-u-n
returns-else-u-n c = size-part _ _ _ _ _ (value (goal.at.returns-else-u-n c).In-Ok) _ c.beyond.ensures c.if-beyond.false c.if-u-n.false
