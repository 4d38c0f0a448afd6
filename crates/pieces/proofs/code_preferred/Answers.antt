use mathlib.Core.Path.{refl, ap}
use native.Mathlib.Omega.{arith}
use Rattle.base.proofs.Parts.{Bytes}
use Rattle.transitions.specs.Transition.{read_moment}
use Rattle.base.specs.Parsed.{parse}
use lib.ListN.{drop}
use Rattle.places.specs.Placed.{of_read, at, Stands}
use Rattle.places.proofs.PlaceLaws.{stands-is}
use Rattle.pieces.proofs.CodeLaws.{code_forward, code-short, code-told, code-none}
use Rattle.pieces.proofs.code_preferred.Goals as goal
use Rattle.pieces.proofs.code_preferred.Goals.{After-shared_slice_known-1, In-Ok}

bytes : (c : goal.After-shared_slice_known-1) → Bytes c.args.s.now
bytes c i = omega (arith, c.shared_slice_known-1.given i)

-- the code that was read
code : (c : goal.In-Ok) → Stands c.args.s.now (parse (read_moment c.args.prev) (drop c.args.at c.args.s.now)) (at c.in-Ok.m c.in-Ok.a)
code c = stands-is c.moment_at.ensures (ap of_read c.in-Ok.is)

pub returns-in-Err : goal.returns-in-Err
returns-in-Err c = rw c.if-before.true (code-none _ _ c.args.at _ (stands-is c.moment_at.ensures (ap of_read c.in-Err.is)))

pub overflow_sub-k : goal.overflow_sub-k
overflow_sub-k c = code_forward _ _ _ _ _ c.requires (code c).within (code c).means

pub code_size-requires : goal.code_size-requires
code_size-requires c = code-short _ _ _ _ _ c.requires (code c).within (code c).means (bytes (goal.at.code_size-requires c).After-shared_slice_known-1)

pub returns-in-Ok : goal.returns-in-Ok
returns-in-Ok c = rw c.if-before.true
    (code-told _ _ _ _ _ c.requires (code (goal.at.returns-in-Ok c).In-Ok).within (code (goal.at.returns-in-Ok c).In-Ok).means _ _ c.code_size.ensures refl)
