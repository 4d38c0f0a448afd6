use mathlib.Core.Path.{◌≡◌, refl}
use Prim.Native.Nat.{◌+◌, ◌≤◌, ◌<◌}
use native.Mathlib.Omega.{arith}
use lib.ListN.{get_or}
use Rattle.base.proofs.Parts.{part-from}
use Rattle.pool.proofs.FillLaws.{Filling, filling-start, filling-refused, filling-next, filling-end, filling-left, here, here-inside, plain_here, plain-later, passed-filling, passed-plain, passed-near}
use Rattle.pool.proofs.fill.Goals as goal
use Rattle.pool.proofs.fill.Goals.{At-loop-j, In-loop-i}

pub loop-i-init : goal.loop-i-init
loop-i-init c = (filling-start _ _ _ _ (omega arith) (omega arith), c.requires.4)

-- a place in the pool is small
small : (c : goal.In-loop-i) → c.loop-i.at < 4294967296
small c = omega (arith, c.loop-i.invariant.0.small, c.loop-i.invariant.0.most)

pub loop-j-init : goal.loop-j-init
loop-j-init c = let z : c.loop-i.at + 0 ≡ c.loop-i.at = omega arith in
    rw z ((λ ix₀ f. f), c.loop-i.invariant.1, omega arith, omega arith, omega (arith, (c.are_short.ensures c.if-are_short.true).1))

-- what the strings passed so far leave
filled : (c : goal.At-loop-j) → Filling c.args.d.now c.args.from c.args.k c.args.starts.now c.loop-j.starts (c.loop-j.at + c.loop-j.j) c.loop-j.i
filled c = c.loop-j.invariant.0 _ c.loop-i.invariant.0

pub overflow_add-at : goal.overflow_add-at
overflow_add-at c = omega (arith, (filled (goal.at.overflow_add-at c).At-loop-j).small, (filled (goal.at.overflow_add-at c).At-loop-j).most)

pub loop-i-preserved-then-are_short : goal.loop-i-preserved-then-are_short
loop-i-preserved-then-are_short c = (filled (goal.at.loop-i-preserved-then-are_short c).At-loop-j, c.loop-j.invariant.1)

pub pass_short-at-requires : goal.pass_short-at-requires
pass_short-at-requires c = let f = filled (goal.at.pass_short-at-requires c).At-loop-j in
    (omega arith, omega (arith, f.small, f.most), omega (arith, f.size, (c.are_short.ensures c.if-are_short.true).0))

pub overflow_add-i : goal.overflow_add-i
overflow_add-i c = omega (arith, (filled (goal.at.overflow_add-i c).At-loop-j).most)

pub loop-j-preserved : goal.loop-j-preserved
loop-j-preserved c = let p = c.loop-j.invariant.1 in
    let l : c.loop-j.at + c.loop-j.j + 128 ≤ c.loop-i.plain = omega arith in
    let less : c.loop-j.i < c.args.k = omega (arith, (c.are_short.ensures c.if-are_short.true).0) in
    let e = c.pass_short-at.ensures in
    let q : c.pass_short-at.result + (c.loop-j.j + 1) ≡ c.loop-j.at + c.loop-j.j + (1 + get_or c.args.d.now (c.loop-j.at + c.loop-j.j) 0) = omega (arith, e.0) in
    ((λ ix₀ f. passed-filling _ _ _ p l _ q _ _ ix₀ _ _ _ (c.loop-j.invariant.0 ix₀ f) less e.1), passed-plain _ _ _ p l _ q, omega arith, omega arith, omega (arith, passed-near _ _ _ p l _ q))

pub loop-i-preserved-then-n-lt128 : goal.loop-i-preserved-then-n-lt128
loop-i-preserved-then-n-lt128 c = (filling-next _ _ _ _ _ _ _ c.loop-i.invariant.0 c.loop-i-test.true _ (plain_here _ _ c.loop-i.plain _ c.loop-i.invariant.1.0 c.loop-i.invariant.1.1 c.short-n.ensures c.if-n-lt128.true) _ _ refl, plain-later _ _ _ _ c.loop-i.invariant.1)

pub read_text_in-t-requires : goal.read_text_in-t-requires
read_text_in-t-requires c = rw (c.behind-known.ensures, part-from c.loop-i.at c.args.d.now)
    c.loop-i.invariant.1.1

pub returns-in-Err : goal.returns-in-Err
returns-in-Err c = filling-refused _ _ _ _ _ _ _ c.loop-i.invariant.0 c.loop-i-test.true _ c.read_text_in-t.ensures _ c.in-Err.is

pub overflow_add-at-in-Ok : goal.overflow_add-at-in-Ok
overflow_add-at-in-Ok c = let p = here _ _ _ _ _ _ _ c.loop-i.invariant.0 c.loop-i-test.true _ c.read_text_in-t.ensures _ _ c.in-Ok.is in omega (arith, p.small, p.short)

pub overflow_add-at-in-Ok-2 : goal.overflow_add-at-in-Ok-2
overflow_add-at-in-Ok-2 c = let p = here-inside _ _ _ _ _ _ _ c.loop-i.invariant.0 c.loop-i-test.true _ c.read_text_in-t.ensures _ _ c.in-Ok.is in omega arith

pub plain_from-plain-requires : goal.plain_from-plain-requires
plain_from-plain-requires c = (here-inside _ _ _ _ _ _ _ c.loop-i.invariant.0 c.loop-i-test.true _ c.read_text_in-t.ensures _ _ c.in-Ok.is, plain-later _ _ _ _ c.loop-i.invariant.1)

pub loop-i-preserved : goal.loop-i-preserved
loop-i-preserved c = (filling-next _ _ _ _ _ _ _ c.loop-i.invariant.0 c.loop-i-test.true _ c.read_text_in-t.ensures _ _ c.in-Ok.is, c.plain_from-plain.ensures)

pub returns-then-at-d : goal.returns-then-at-d
returns-then-at-d c = filling-end _ _ _ _ _ _ _ c.loop-i.invariant.0 c.loop-i-test.false c.if-at-d.true

pub returns : goal.returns
returns c = filling-left _ _ _ _ _ _ _ c.loop-i.invariant.0 c.loop-i-test.false c.if-at-d.false

pub short-n-requires : goal.short-n-requires
short-n-requires c = small (goal.at.short-n-requires c).In-loop-i

pub overflow_cast-starts : goal.overflow_cast-starts
overflow_cast-starts c = omega (arith, small (goal.at.overflow_cast-starts c).In-loop-i)

pub bounds-starts-i : goal.bounds-starts-i
bounds-starts-i c = omega (arith, c.loop-i.invariant.0.size)

pub overflow_add-at-then-n-lt128-2 : goal.overflow_add-at-then-n-lt128-2
overflow_add-at-then-n-lt128-2 c = omega (arith, small (goal.at.overflow_add-at-then-n-lt128-2 c).In-loop-i)

pub loop-i-smaller-then-n-lt128 : goal.loop-i-smaller-then-n-lt128
loop-i-smaller-then-n-lt128 c = omega (arith, c.loop-i.invariant.0.size)

pub slice_bounds-read_text_in-count : goal.slice_bounds-read_text_in-count
slice_bounds-read_text_in-count c = c.loop-i.invariant.0.inside

pub slice_bounds-read_text_in-start : goal.slice_bounds-read_text_in-start
slice_bounds-read_text_in-start c = c.loop-i.invariant.0.inside

pub shape_of-starts-in-Err : goal.shape_of-starts-in-Err
shape_of-starts-in-Err c = c.loop-i.invariant.0.size

pub overflow_cast-starts-in-Ok : goal.overflow_cast-starts-in-Ok
overflow_cast-starts-in-Ok c = omega (arith, small (goal.at.overflow_cast-starts-in-Ok c).In-loop-i)

pub bounds-starts-i-in-Ok : goal.bounds-starts-i-in-Ok
bounds-starts-i-in-Ok c = omega (arith, c.loop-i.invariant.0.size)

pub shape_of-starts-then-at-d : goal.shape_of-starts-then-at-d
shape_of-starts-then-at-d c = c.loop-i.invariant.0.size

pub shape_of-starts : goal.shape_of-starts
shape_of-starts c = c.loop-i.invariant.0.size
