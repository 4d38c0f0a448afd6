use mathlib.Core.Path.{◌∙◌}
use Rattle.rewrite.specs.Preferred.{rewrite_of, output_of}
use Rattle.receivers.proofs.HeldLaws.{held-within, over-full, on-held}
use Rattle.file_replies.specs.Functions.{rewritten_result}
use Rattle.capi.proofs.nzd_receiver_normalize.Goals as goal

pub returns-then-buffer-held : goal.returns-then-buffer-held
returns-then-buffer-held c = record {
  result = over-full c.args.r c.args.buffer.now 15 (λ f. rewritten_result (rewrite_of f c.args.out.now)) c.if-buffer-held.true;
  output = over-full c.args.r c.args.buffer.now c.args.out.now (λ f. output_of f c.args.out.now) c.if-buffer-held.true;
}

pub slice_bounds-nzd_normalize-end : goal.slice_bounds-nzd_normalize-end
slice_bounds-nzd_normalize-end c = held-within c.args.r c.args.buffer.now c.if-buffer-held.false

pub returns : goal.returns
returns c = let e = c.nzd_normalize.ensures in
    let l = c.if-buffer-held.false in
    record {
      result = e.result ∙ on-held c.args.r c.args.buffer.now 15 (λ f. rewritten_result (rewrite_of f c.args.out.now)) l;
      output = e.output ∙ on-held c.args.r c.args.buffer.now c.args.out.now (λ f. output_of f c.args.out.now) l;
    }
