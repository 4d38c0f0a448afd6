-- What the codes at a place say. Assumes nothing.
use mathlib.Core.Path.{◌≡◌, subst}
use mathlib.Core.List.{List}
use Prim.Native.Nat.{ℕ, ◌≤◌, ◌<◌}
use lib.Dec.{ltb}
use borrow.Author.Tests.{ltb-true}
use Rattle.base.specs.declared.Refusal.TheVariants.{BadText}
use Rattle.base.specs.Parsed.{got, parse}
use Rattle.base.proofs.ParseLaws.{bind-good, pick_good}
use Rattle.base.proofs.MomentLaws.{Moment}
use Rattle.counts.specs.Count.{read_count}
use Rattle.offsets.specs.Offset.{read_sum}
use Rattle.offsets.proofs.OffsetLaws.{sum-read}
use Rattle.transitions.specs.Transition.{read_moment}
use Rattle.transitions.proofs.MomentLaws.{moment-read}
use Rattle.places.specs.Name.{judge_name, parse_name}
use Rattle.places.proofs.PlaceLaws.{code_holds}

pub sum_low : (q : List ℕ) (v : ℕ) (r : List ℕ) → parse read_sum q ≡ got v r → 1 ≤ v
sum_low q v r e = code_holds read_sum (λ w. 1 ≤ w) (λ s w n h. (sum-read s h).least) q v r e

pub sum-high : (q : List ℕ) (v : ℕ) (r : List ℕ) → parse read_sum q ≡ got v r → v ≤ 172799999
sum-high q v r e = code_holds read_sum (λ w. w ≤ 172799999) (λ s w n h. (sum-read s h).most) q v r e

pub moment-is : (prev : ℕ) (q : List ℕ) (m : ℕ) (r : List ℕ) → parse (read_moment prev) q ≡ got m r → Moment m
moment-is prev q m r e = code_holds (read_moment prev) Moment (λ s w n h. (moment-read prev s h).is) q m r e

pub name-ok : (pool : ℕ) (s : List ℕ) (n : ℕ) (q : List ℕ) → parse_name pool s ≡ got n q → n < pool
unfolding parse_name judge_name
name-ok pool s n q e =
    let a = bind-good (parse read_count s) (judge_name pool) n q e in
    let m : ℕ = a.first in
    let b = pick_good (ltb m pool) (got m a.rest) BadText n q a.on in
    let c : got m a.rest ≡ got n q = b.1 in
    let d : m ≡ n = cc in
    subst (λ (k : ℕ). k < pool) d (ltb-true m pool b.0)
