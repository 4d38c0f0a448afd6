use Rattle.std.proofs.lemmas.Result.{err_from_is_err_and}
use mathlib.Core.Path.{sym, ◌∙◌}
use Rattle.counts.proofs.CountLaws.{counted}
use Rattle.texts.proofs.TextLaws.{text-is, text-unread}
use Rattle.texts.proofs.read_text_in.Goals as goal

pub text_behind-requires : goal.text_behind-requires
text_behind-requires c = ((counted _ (sym c.in_ok-n.was ∙ c.read_count.ensures)).within, c.requires)

pub returns-in_err-n : goal.returns-in_err-n
returns-in_err-n c = let p = err_from_is_err_and c.from_residual.result c.from_residual.ensures.1 in
    rw (p.1, p.2) (text-unread _ _ _ c.read_count.ensures c.in_err-n.was)

pub returns : goal.returns
returns c = c.text_behind.ensures ∙ text-is _ _ _ c.read_count.ensures c.in_ok-n.was
