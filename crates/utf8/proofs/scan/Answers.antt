use borrow.Author.Rules.{rules}
use mathlib.Core.Path.{◌≡◌, refl, sym, ◌∙◌}
use Prim.Native.Nat.{◌+◌, ◌≤◌, ◌<◌}
use native.Mathlib.Omega.{arith}
use lib.ListN.{length, drop}
use borrow.Author.Tests.{lt-ltb}
use Rattle.utf8.specs.Utf8.{utf8}
use Rattle.utf8.proofs.Utf8Laws.{utf8-end, size-means}
use Rattle.utf8.proofs.scan.Goals as goal
use Rattle.utf8.proofs.scan.Goals.{Else-n-eq0}

pub loop-i-init : goal.loop-i-init
loop-i-init c = (search rules, refl)

pub returns-then-n-eq0 : goal.returns-then-n-eq0
returns-then-n-eq0 c = sym (rw c.if-n-eq0.true at (size-means _ _ c.loop-i-test.true _ c.size_at-n.ensures).1) ∙ c.loop-i.invariant.1

-- behind a character
passed : (c : goal.Else-n-eq0) → (c.loop-i.i + c.size_at-n.result ≤ length c.args.s.now) × (utf8 (drop (c.loop-i.i + c.size_at-n.result) c.args.s.now) ≡ utf8 c.args.s.now)
passed c =
    let l : 0 < c.size_at-n.result = omega arith in
    ((size-means _ _ c.loop-i-test.true _ c.size_at-n.ensures).0, sym (rw (lt-ltb _ _ l) at (size-means _ _ c.loop-i-test.true _ c.size_at-n.ensures).1) ∙ c.loop-i.invariant.1)

pub loop-i-smaller-then-n-eq3 : goal.loop-i-smaller-then-n-eq3
loop-i-smaller-then-n-eq3 c = omega (arith, (passed (goal.at.loop-i-smaller-then-n-eq3 c).Else-n-eq0).0)

pub loop-i-preserved-then-n-eq3 : goal.loop-i-preserved-then-n-eq3
loop-i-preserved-then-n-eq3 c = (c.past_threes-i.ensures.1, c.past_threes-i.ensures.2 ∙ (passed (goal.at.loop-i-preserved-then-n-eq3 c).Else-n-eq0).1)

pub loop-i-smaller : goal.loop-i-smaller
loop-i-smaller c = omega (arith, (passed (goal.at.loop-i-smaller c).Else-n-eq0).0)

pub returns : goal.returns
returns c = sym (utf8-end _ _ c.loop-i-test.false) ∙ c.loop-i.invariant.1

pub overflow_add-i : goal.overflow_add-i
overflow_add-i c = omega (arith, (passed c).0)

pub past_threes-i-requires : goal.past_threes-i-requires
past_threes-i-requires c = (passed (goal.at.past_threes-i-requires c).Else-n-eq0).0

pub loop-i-preserved : goal.loop-i-preserved
loop-i-preserved c = passed (goal.at.loop-i-preserved c).Else-n-eq0
