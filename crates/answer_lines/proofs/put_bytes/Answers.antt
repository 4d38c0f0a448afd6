use native.Mathlib.Omega.{arith}
use mathlib.Core.Path.{ap}
use Prim.Native.Nat.{ℕ, ◌+◌}
use Rattle.answer_lines.proofs.ReplyLaws.{put-slice}
use Rattle.answer_lines.proofs.put_bytes.Goals as goal

pub returns : goal.returns
returns c = (ap (λ (k : ℕ). c.args.at + k) c.copy.ensures.value, put-slice c.args.s.now _ _ _ (omega arith) c.copy.ensures.dst_after)
