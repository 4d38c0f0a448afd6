use Rattle.std.proofs.lemmas.Result.{err_from_is_err_and}
use mathlib.Core.Path.{ap, sym, ◌∙◌}
use mir.Syntax.{w64}
use mir.Facts.{to_z-of_z}
use Rattle.signed.specs.Number.{number}
use Rattle.signed.specs.Zigzag.{unzigzag_of}
use Rattle.count_readers.proofs.read_signed_count.Goals as goal

pub returns : goal.returns
returns c = rw (to_z-of_z {w = w64} {z = c.unzigzag.result} (record { sfits = c.unzigzag.type_inv }), c.unzigzag.ensures)
    (ap (number unzigzag_of) (sym c.in_ok-u.was ∙ c.read_groups.ensures))

pub returns-in_err-u : goal.returns-in_err-u
returns-in_err-u c = let p = err_from_is_err_and c.from_residual.result c.from_residual.ensures.1 in
    rw (p.1, p.2) (ap (number unzigzag_of) (sym c.in_err-u.was ∙ c.read_groups.ensures))
