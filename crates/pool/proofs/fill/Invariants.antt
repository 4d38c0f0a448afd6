use mathlib.Core.Path.{◌≡◌}
use mathlib.Core.List.{List}
use Prim.Native.Nat.{ℕ, ◌+◌, ◌-◌, ◌*◌, ◌≤◌}
use Rattle.pool.proofs.FillLaws.{Filling}
use Rattle.pool.specs.Index.{Plain}
use Rattle.pool.proofs.fill.Given as goal

-- j of four short strings are passed
abbrev pub invariant-loop-j : goal.invariant-loop-j
invariant-loop-j l = ((ix₀ : List ℕ) → Filling l.d l.from l.k ix₀ l.initial.starts l.initial.at l.initial.i → Filling l.d l.from l.k ix₀ l.starts (l.at + l.j) l.i) × Plain l.d (l.at + l.j) l.plain × (l.j ≤ 4) × (l.i ≡ l.initial.i + l.j) × (l.at + l.j + (4 - l.j) * 128 ≤ l.plain)

abbrev pub decreases-loop-j : goal.decreases-loop-j
decreases-loop-j l = 4 - l.j

abbrev pub invariant-loop-i : goal.invariant-loop-i
invariant-loop-i l = Filling l.d l.from l.k l.initial.starts l.starts l.at l.i × Plain l.d l.at l.plain

abbrev pub decreases-loop-i : goal.decreases-loop-i
decreases-loop-i l = l.k - l.i
