use Rattle.capi.proofs.OldLaws.{old-count-form}
use Rattle.capi.proofs.PutLaws.{puts, result-small}
use Rattle.capi.proofs.nzd_old_write_count.Goals as goal

pub written-requires : goal.written-requires
written-requires c = result-small _ _ _ _ c.write_count-w.ensures (old-count-form c.args.v)

pub returns : goal.returns
returns c = puts _ _ _ _ _ c.write_count-w.ensures c.written.ensures
