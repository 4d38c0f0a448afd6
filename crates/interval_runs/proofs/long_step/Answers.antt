use Rattle.base.proofs.Parts.{Bytes}
use native.Mathlib.Omega.{arith}
use Rattle.interval_runs.proofs.StepLaws.{long-other, long-refused, long-none, long-unasked, long-few, long-left, long-is}
use Rattle.interval_runs.proofs.long_step.Goals as goal
use Rattle.interval_runs.proofs.long_step.Goals.{After-shared_slice_known-1}

bytes : (c : goal.After-shared_slice_known-1) → Bytes c.args.s.now
bytes c i = omega (arith, c.shared_slice_known-1.given i)

pub returns-then-m-eq0 : goal.returns-then-m-eq0
returns-then-m-eq0 c = long-none _ _ _ _ _ _ _ c.short_details.ensures c.if-short_details.true _ c.short_ok.ensures c.if-short_ok.true _ c.long_start-m.ensures c.if-m-eq0.true

pub code_size-requires : goal.code_size-requires
code_size-requires c = long-few c.args.s.now c.args.at _ _ _ c.long_start-m.ensures c.if-m-eq0.false (bytes (goal.at.code_size-requires c).After-shared_slice_known-1)

pub returns-then-code_size-n : goal.returns-then-code_size-n
returns-then-code_size-n c = long-left _ _ _ _ _ _ _ c.short_details.ensures c.if-short_details.true _ c.short_ok.ensures c.if-short_ok.true _ c.long_start-m.ensures c.if-m-eq0.false c.if-form.true _ c.code_size.ensures c.if-code_size-n.true

pub returns-else-code_size-n : goal.returns-else-code_size-n
returns-else-code_size-n c = long-is _ _ _ _ _ _ _ c.short_details.ensures c.if-short_details.true _ c.short_ok.ensures c.if-short_ok.true _ c.long_start-m.ensures c.if-m-eq0.false c.if-form.true _ c.code_size.ensures c.if-code_size-n.false

pub returns-else-form : goal.returns-else-form
returns-else-form c = long-unasked _ _ _ _ _ _ _ c.short_details.ensures c.if-short_details.true _ c.short_ok.ensures c.if-short_ok.true _ c.long_start-m.ensures c.if-form.false

pub returns-else-short_ok : goal.returns-else-short_ok
returns-else-short_ok c = long-refused _ _ _ _ _ _ _ c.short_details.ensures c.if-short_details.true _ c.short_ok.ensures c.if-short_ok.false

pub returns-else-short_details : goal.returns-else-short_details
returns-else-short_details c = long-other _ _ _ _ _ _ _ c.short_details.ensures c.if-short_details.false
