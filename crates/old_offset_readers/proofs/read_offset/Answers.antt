use Rattle.std.proofs.lemmas.Result.{err_from_is_err_and}
use native.Mathlib.Omega.{arith}
use mathlib.Core.Path.{ap, sym, ◌∙◌}
use mir.Syntax.{w64}
use mir.Facts.{to_z-of_z}
use Rattle.signed.specs.Number.{number}
use Rattle.signed.specs.OffsetSum.{milliseconds_of}
use Rattle.old_offsets.proofs.OldOffsetLaws.{sum-range-read}
use Rattle.old_offset_readers.proofs.read_offset.Goals as goal

pub milliseconds-requires : goal.milliseconds-requires
milliseconds-requires c = omega (arith, (sum-range-read _ (sym c.in_ok-sum.was ∙ c.read_sum.ensures)).1)

pub returns : goal.returns
returns c = rw (to_z-of_z {w = w64} {z = c.milliseconds.result} (record { sfits = c.milliseconds.type_inv }), c.milliseconds.ensures) (ap (number milliseconds_of) (sym c.in_ok-sum.was ∙ c.read_sum.ensures))

pub returns-in_err-sum : goal.returns-in_err-sum
returns-in_err-sum c = let p = err_from_is_err_and c.from_residual.result c.from_residual.ensures.1 in
    rw (p.1, p.2) (ap (number milliseconds_of) (sym c.in_err-sum.was ∙ c.read_sum.ensures))
