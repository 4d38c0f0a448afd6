-- What the standard offset of an answer is where no list stores wall and savings. Assumes nothing.
use mathlib.Core.Path.{◌≡◌, ap, ◌∙◌}
use mathlib.Core.Bool.{Bool, true, false}
use Prim.Native.Nat.{ℕ}
use native.Mathlib.Omega.{arith}
use Rattle.base.specs.Pick.{pick}
use Rattle.rules.proofs.FieldLaws.{sum-range}
use Rattle.recurrence.specs.Tails.{wall_of}
use Rattle.intervals.specs.Interval.{standard_sum}
use Rattle.tails.specs.declared.NamedTail.{NamedTail}
use Rattle.tails.specs.Sound.{NamedTailOk}
use Rattle.zones.specs.Content.{FixedName}
use Rattle.zones.specs.Lookup.{always}
use Rattle.zones.specs.Intervals.{InTail, by-rules}
use Rattle.zones.specs.declared.Found.{Found}

-- of a tail the stored one
pub tail-standard : (pool end : ℕ) (n : NamedTail) (x : Found) → NamedTailOk pool end n → InTail n x → standard_sum x.wall x.savings ≡ n.tail.offset
tail-standard pool end n _ o (by-rules y h) =
    ap (λ (w : ℕ). standard_sum w y.savings) h.in-force.wall-is
    ∙ ap (λ (v : ℕ). standard_sum (pick y.daylight (wall_of n.tail) n.tail.offset) v) h.in-force.savings-is
    ∙ go y.daylight
  where
    go : (b : Bool) → standard_sum (pick b (wall_of n.tail) n.tail.offset) (pick b n.tail.savings 86400000) ≡ n.tail.offset
    go true = omega (arith, sum-range n.tail.offset n.tail.savings o.tail-ok.sum-ok)
    go false = omega arith

-- of a fixed zone its offset
pub fixed-standard : (id offset : ℕ) (n : FixedName) → standard_sum (always id offset n).wall (always id offset n).savings ≡ offset
fixed-standard id offset n = omega arith
