use lib.ListN.{length-take, length-drop}
use Prim.Native.Nat.{◌-◌}
use native.Mathlib.Omega.{arith}
use mathlib.Core.Path.{refl}
use lib.ListN.{length, take}
use lib.Seq.{take_all}
use Rattle.lines.proofs.SplitLaws.{keep-full, keep-copied}
use Rattle.gathered_lines.proofs.keep.Goals as goal

pub returns-then-held-n : goal.returns-then-held-n
returns-then-held-n c = keep-full _ _ _ c.if-held-n.true

pub returns-then-s-room : goal.returns-then-s-room
returns-then-s-room c = keep-copied _ c.args.s.now c.args.s.now _ _ _ (omega arith) (take_all (length c.args.held.now - c.args.n) _ (omega arith)) (omega arith) c.copy.ensures.value c.copy.ensures.dst_after

pub slice_bounds-copy-end-2 : goal.slice_bounds-copy-end-2
slice_bounds-copy-end-2 c = simp length-take (omega arith)

pub copy-requires-2 : goal.copy-requires-2
copy-requires-2 c = simp (length-take, length-drop) (omega arith)

pub overflow_add-result-2 : goal.overflow_add-result-2
overflow_add-result-2 c = omega (arith, c.copy-2.ensures.value, length-take (length c.args.held.now - c.args.n) c.args.s.now)

pub returns : goal.returns
returns c = keep-copied _ _ (take (length c.args.held.now - c.args.n) c.args.s.now) _ _ _ (omega arith) refl (simp length-take (omega arith)) c.copy-2.ensures.value c.copy-2.ensures.dst_after
