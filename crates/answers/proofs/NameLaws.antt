-- The name of an answer is a string of the pool. Assumes nothing.
use mathlib.Core.Path.{◌≡◌, sym, ap, ◌∙◌}
use mathlib.Core.List.{List, []}
use Prim.Native.Nat.{ℕ, ◌+◌, ◌≤◌, ◌<◌}
use native.Mathlib.Omega.{arith}
use lib.ListN.{length, take, drop, get_or}
use borrow.Author.Tests.{le-leb}
use Rattle.base.proofs.Parts.{part-of-part}
use Rattle.pool.specs.Pool.{strings_of}
use Rattle.pool.specs.Index.{span_of}
use Rattle.pool.proofs.StringLaws.{span-inside, span-string}
use Rattle.zones.specs.declared.Found.{Found as Interval}
use Rattle.answers.specs.Answers.{Pool, answered, name_of}

-- the pool's data is a part of the file
pub record Located (f : List ℕ) (y : Pool) : Type 0 where
  pub within : y.start + length y.body ≤ length f
  pub part : y.body ≡ take (length y.body) (drop y.start f)

-- the name of an answer is the string of the file's pool
pub name-is : (f : List ℕ) (y : Pool) (i : Interval) → Located f y → i.name < length (strings_of y.body)
    → name_of f (answered y i) ≡ get_or (strings_of y.body) i.name []
name-is f y i l h =
    let d = y.body in
    let k = i.name in
    let s = span-inside d k h in
    rw (le-leb (y.start + (span_of d k).at + (span_of d k).len) (length f) (omega (arith, s, l.within)))
    (sym (part-of-part f y.start (length d) (span_of d k).at (span_of d k).len s)
    ∙ ap (λ (b : List ℕ). take (span_of d k).len (drop (span_of d k).at b)) (sym l.part)
    ∙ span-string d k h)
