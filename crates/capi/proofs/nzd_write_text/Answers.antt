use Rattle.capi.proofs.FormLaws.{text-form}
use Rattle.capi.proofs.PutLaws.{puts, result-small}
use Rattle.capi.proofs.nzd_write_text.Goals as goal

pub written-requires : goal.written-requires
written-requires c = result-small _ _ _ _ c.write_text-w.ensures (text-form c.args.t.now)

pub returns : goal.returns
returns c = puts _ _ _ _ _ c.write_text-w.ensures c.written.ensures
