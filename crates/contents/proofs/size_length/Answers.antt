use mathlib.Core.Path.{sym, ap, ◌∙◌}
use Prim.Native.Nat.{ℕ}
use native.Mathlib.Omega.{arith}
use lib.ListN.{length}
use Rattle.counts.specs.Count.{write_count}
use Rattle.places.specs.Placed.{of_read, at, Stands}
use Rattle.places.proofs.PlaceLaws.{stands-is}
use Rattle.pieces.specs.Content.{parse_head}
use Rattle.pieces.proofs.HeadLaws.{head-good, head_few, size-sure}
use Rattle.contents.proofs.size_length.Goals as goal
use Rattle.contents.proofs.size_length.Goals.{In-Ok}

-- what was read of the head
head : (c : goal.In-Ok) → Stands c.args.s.now (parse_head c.args.s.now) (at c.in-Ok.n c.in-Ok.field-0-1)
head c = stands-is c.read_head.ensures (ap of_read c.in-Ok.is)

pub least-requires : goal.least-requires
least-requires c = head_few _ _ _ (head (goal.at.least-requires c).In-Ok)

pub returns-then-count_size-most : goal.returns-then-count_size-most
returns-then-count_size-most c = size-sure _ c.requires _ _ (head (goal.at.returns-then-count_size-most c).In-Ok)
    (λ i. omega (arith, c.shared_slice_known-1.given i)) _ c.count_size-most.ensures
    (ap (λ (m : ℕ). length (write_count m)) (sym c.least.ensures) ∙ sym c.count_size.ensures ∙ c.if-count_size-most.true)

pub returns-in-Err : goal.returns-in-Err
returns-in-Err c = absurd (head-good _ c.requires _ (stands-is c.read_head.ensures (ap of_read c.in-Err.is)))

pub returns-else-count_size-most : goal.returns-else-count_size-most
returns-else-count_size-most c = c.count_size-in-Ok.ensures ∙ ap (λ (m : ℕ). length (write_count m)) c.zone_size.ensures
