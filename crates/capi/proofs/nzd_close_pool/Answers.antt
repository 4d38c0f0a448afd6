use mathlib.Core.Path.{ap, ◌∙◌}
use Rattle.tool_replies.specs.Functions.{closed_result}
use Rattle.capi.proofs.ToolLaws.{closed-small}
use Rattle.capi.proofs.nzd_close_pool.Goals as goal

pub length_result-requires : goal.length_result-requires
length_result-requires c = closed-small _ _ _ c.close_pool-x.ensures.0

pub returns : goal.returns
returns c = record {
  result = c.length_result.ensures ∙ ap closed_result c.close_pool-x.ensures.0;
  output = c.close_pool-x.ensures.1;
}
