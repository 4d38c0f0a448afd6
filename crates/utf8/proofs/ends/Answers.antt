use mathlib.Core.Path.{◌≡◌, refl, sym, ◌∙◌}
use Prim.Native.Nat.{ℕ, ◌+◌, ◌-◌}
use native.Mathlib.Omega.{arith}
use lib.ListN.{take, drop}
use Rattle.base.specs.Pick.{both}
use Rattle.utf8.specs.Utf8.{chars}
use Rattle.utf8.proofs.Utf8Laws.{chars-tail, chars-none}
use Rattle.utf8.proofs.ends.Goals as goal
use Rattle.utf8.proofs.ends.Goals.{After-within}

pub loop-i-init : goal.loop-i-init
loop-i-init c = let z : c.args.at + 0 ≡ c.args.at = omega arith in
    let w : c.args.n - 0 ≡ c.args.n = omega arith in
    (omega arith, rw (z, w) refl)

pub bounds-s-at : goal.bounds-s-at
bounds-s-at c = omega (arith, c.requires)

-- what the byte comes to
byte : (c : goal.After-within)
    → (let a = c.args in
    let i : ℕ = c.loop-i.i in
    chars a.n a.lo a.hi (take a.n (drop a.at a.s.now))
    ≡ both c.within.result (chars (a.n - (i + 1)) 0x80 0xbf (take (a.n - (i + 1)) (drop (a.at + (i + 1)) a.s.now))))
byte c =
    c.loop-i.invariant.1
    ∙ chars-tail _ _ _ _ _ _ _ c.requires c.loop-i-test.true c.within.ensures

pub loop-i-preserved : goal.loop-i-preserved
loop-i-preserved c = (omega arith, byte (goal.at.loop-i-preserved c).After-within ∙ rw c.if-within.true refl)

pub returns-else-within : goal.returns-else-within
returns-else-within c = sym (byte (goal.at.returns-else-within c).After-within ∙ rw c.if-within.false refl)

pub returns : goal.returns
returns c = let z : c.args.n - c.loop-i.i ≡ 0 = omega arith in
    sym (c.loop-i.invariant.1 ∙ rw z (sym (chars-none _ _)))
