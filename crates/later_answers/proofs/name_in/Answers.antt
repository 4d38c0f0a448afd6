use mathlib.Core.Path.{◌≡◌}
use native.Mathlib.Omega.{arith}
use Rattle.pool.specs.Index.{span_of}
use Rattle.location_lookup.specs.Location.{lent_part}
use Rattle.later_answers.proofs.NameLaws.{name-there, name-by, name-inside}
use Rattle.later_answers.proofs.name_in.Goals as goal
use Rattle.later_answers.proofs.name_in.Goals.{After-struct_known-1}

spanned : (c : goal.After-struct_known-1) → c.span_by-p.result ≡ span_of (lent_part c.args.file.now c.args.v.pool c.args.v.past) c.args.k
spanned c = rw c.lent.ensures at c.span_by-p.ensures

pub span_by-p-requires : goal.span_by-p-requires
span_by-p-requires c = rw c.lent.ensures
    (c.requires.0.ready c.if-indexed.true, name-there _ _ _ _ _ _ c.requires.0 c.if-indexed.true c.requires.1)

pub overflow_add-result : goal.overflow_add-result
overflow_add-result c = record { fits = omega (arith, name-inside _ _ _ _ _ _ c.requires.0 c.if-indexed.true c.requires.1 _ (spanned c), c.well_formed.0.1) }

pub returns-then-indexed : goal.returns-then-indexed
returns-then-indexed c = name-by _ _ _ _ _ _ c.requires.0 c.if-indexed.true c.requires.1 _ (spanned c)
