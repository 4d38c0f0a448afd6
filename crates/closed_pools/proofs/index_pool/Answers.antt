use mathlib.Core.Path.{sym, ◌∙◌}
use Rattle.closed_pools.proofs.IndexLaws.{count-read}
use Rattle.closed_pools.proofs.index_pool.Goals as goal

pub index_strings-requires : goal.index_strings-requires
index_strings-requires c = (c.requires.0, sym c.read_count-g.ensures ∙ c.in-Ok.is, c.requires.1)

pub returns-in-Err : goal.returns-in-Err
returns-in-Err c = absurd (count-read _ c.requires.0 _ (sym c.read_count-g.ensures ∙ c.in-Err.is))

pub returns-in-Ok : goal.returns-in-Ok
returns-in-Ok c = c.index_strings.ensures
