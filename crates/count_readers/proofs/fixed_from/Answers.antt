use native.Mathlib.Omega.{arith}
use mathlib.Core.Path.{◌≡◌, refl, sym, ◌∙◌}
use Prim.Native.Nat.{ℕ, ◌+◌, ◌*◌, ◌-◌, ◌^◌, ◌≤◌, ◌<◌}
use lib.ListN.{get_or}
use Rattle.counts.proofs.FixedLaws.{fixed-done, fixed-next, room}
use Rattle.count_readers.proofs.fixed_from.Goals as goal
use Rattle.count_readers.proofs.fixed_from.Goals.{After-shared_slice_known-1}

pub loop-i-init : goal.loop-i-init
loop-i-init c = let z : c.args.n - 0 ≡ c.args.n = omega arith in
    rw z (omega arith, refl, c.requires.1)

pub overflow_mul-v : goal.overflow_mul-v
overflow_mul-v c = omega (arith, room _ _ _ 0 _ c.loop-i-test.true (omega arith) c.loop-i.invariant.2)

pub overflow_cast-v : goal.overflow_cast-v
overflow_cast-v c = omega (arith, c.shared_slice_known-1.given c.loop-i.i)

-- the next number fits, and leaves room for the bytes after it
grown : (c : goal.After-shared_slice_known-1)
    → (let l = c.loop-i in
    let a = c.args in
    let v : ℕ = l.v * 256 + get_or a.s.now l.i 0 in
    ((v + 1) * 256 ^ (a.n - (l.i + 1)) ≤ 2 ^ 64) × (v < 2 ^ 64))
grown c =
    room _ _ _ _ _ c.loop-i-test.true (c.shared_slice_known-1.given c.loop-i.i).fits c.loop-i.invariant.2

pub overflow_add-v : goal.overflow_add-v
overflow_add-v c = omega (arith, grown c)

pub loop-i-preserved : goal.loop-i-preserved
loop-i-preserved c = (omega arith, fixed-next _ _ _ _ (omega arith) (omega arith) ∙ c.loop-i.invariant.1, (grown c).0)

pub returns : goal.returns
returns c = sym (fixed-done _ _ _ _ (omega arith)) ∙ c.loop-i.invariant.1
