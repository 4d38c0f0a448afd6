use mathlib.Core.Path.{ap, ◌∙◌}
use native.Mathlib.Omega.{arith}
use Rattle.base.proofs.Parts.{Bytes}
use Rattle.file_replies.specs.Functions.{rewritten_result}
use Rattle.capi.proofs.RewriteLaws.{rewrite-small}
use Rattle.capi.proofs.nzd_normalize.Goals as goal
use Rattle.capi.proofs.nzd_normalize.Goals.{After-normalize-arg-1}

bytes : (c : goal.After-normalize-arg-1) → Bytes c.args.file.now
bytes c i = omega (arith, c.shared_slice_known-1.given i)

pub length_result-requires : goal.length_result-requires
length_result-requires c = rewrite-small _ _ _ (bytes (goal.at.length_result-requires c).After-normalize-arg-1) c.normalize-r.ensures.0

pub returns : goal.returns
returns c = record {
  result = c.length_result.ensures ∙ ap rewritten_result c.normalize-r.ensures.0;
  output = c.normalize-r.ensures.1;
}
