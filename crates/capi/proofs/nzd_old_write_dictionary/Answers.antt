use Rattle.capi.proofs.OldLaws.{puts-long}
use Rattle.capi.proofs.nzd_old_write_dictionary.Goals as goal

pub returns : goal.returns
returns c = puts-long _ _ _ _ _ _ _ c.write_dictionary-w.ensures c.give_length.ensures
