use Rattle.std.proofs.lemmas.Result.{err_from_is_err_and}
use mathlib.Core.Path.{sym, ◌∙◌}
use Rattle.old_counts.proofs.OldCountLaws.{count-sized}
use Rattle.old_dictionaries.proofs.EntryLaws.{count-bad, count-read}
use Rattle.old_entries.proofs.read_dictionary.Goals as goal

pub read_entries-requires : goal.read_entries-requires
read_entries-requires c = (count-sized _ (sym c.in_ok-n.was ∙ c.read_count.ensures)).within

pub returns-in_err-n : goal.returns-in_err-n
returns-in_err-n c = let p = err_from_is_err_and c.from_residual.result c.from_residual.ensures.1 in
    rw (p.1, p.2) (count-bad _ _ c.read_count.ensures _ c.in_err-n.was)

pub returns : goal.returns
returns c = count-read _ _ c.read_count.ensures _ _ c.in_ok-n.was _ c.read_entries.ensures
