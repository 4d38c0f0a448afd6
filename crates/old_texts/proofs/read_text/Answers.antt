use Rattle.std.proofs.lemmas.Result.{err_from_is_err_and}
use mathlib.Core.Path.{refl, sym, ◌∙◌}
use Rattle.utf8.specs.Ascii.{ascii}
use Rattle.old_counts.proofs.OldCountLaws.{count-sized}
use Rattle.old_texts.proofs.OldTextLaws.{text-is, text-unread}
use Rattle.old_texts.proofs.read_text.Goals as goal

pub text_behind-requires : goal.text_behind-requires
unfolding ascii
text_behind-requires c = ((count-sized _ (sym c.in_ok-n.was ∙ c.read_count.ensures)).within, refl)

pub returns-in_err-n : goal.returns-in_err-n
returns-in_err-n c = let p = err_from_is_err_and c.from_residual.result c.from_residual.ensures.1 in
    rw (p.1, p.2) (text-unread _ _ _ c.read_count.ensures c.in_err-n.was)

pub returns : goal.returns
returns c = c.text_behind.ensures ∙ text-is _ _ _ c.read_count.ensures c.in_ok-n.was
