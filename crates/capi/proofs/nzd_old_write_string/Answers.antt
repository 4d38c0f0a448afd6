use Rattle.capi.proofs.OldLaws.{old-text-form}
use Rattle.capi.proofs.PutLaws.{puts, result-small}
use Rattle.capi.proofs.nzd_old_write_string.Goals as goal

pub written-requires : goal.written-requires
written-requires c = result-small _ _ _ _ c.write_text-w.ensures (old-text-form c.args.t.now)

pub returns : goal.returns
returns c = puts _ _ _ _ _ c.write_text-w.ensures c.written.ensures
