use Rattle.differences.proofs.GiveLaws.{lists-short, lists-none, lists-all}
use Rattle.difference_lists.proofs.WindowLaws.{end-finite, gives_all}
use Rattle.difference_lists.proofs.list.Goals as goal

pub compare-n-requires : goal.compare-n-requires
compare-n-requires c = (c.requires.0, c.requires.1, c.requires.2, end-finite _ _ _ _ _ _ _ _ _ c.requires.0 c.requires.1 c.requires.3 c.window_end-e.ensures)

pub returns-then-out-n : goal.returns-then-out-n
returns-then-out-n c = lists-short _ _ _ (gives_all _ _ _ _ _ _ _ _ _ c.requires.0 c.requires.1 c.requires.3 c.window_end-e.ensures _ _ _ c.compare-n.ensures).0 c.if-out-n.true

pub returns-then-n-eq0 : goal.returns-then-n-eq0
returns-then-n-eq0 c = lists-none _ _ _ (gives_all _ _ _ _ _ _ _ _ _ c.requires.0 c.requires.1 c.requires.3 c.window_end-e.ensures _ _ _ c.compare-n.ensures).0 c.if-n-eq0.true

pub compare-k-requires : goal.compare-k-requires
compare-k-requires c = (c.requires.0, c.requires.1, c.requires.2, end-finite _ _ _ _ _ _ _ _ _ c.requires.0 c.requires.1 c.requires.3 c.window_end-e.ensures)

pub returns : goal.returns
returns c = lists-all _ _ _ _ _ (gives_all _ _ _ _ _ _ _ _ _ c.requires.0 c.requires.1 c.requires.3 c.window_end-e.ensures _ _ _ c.compare-n.ensures).0 c.if-out-n.false (gives_all _ _ _ _ _ _ _ _ _ c.requires.0 c.requires.1 c.requires.3 c.window_end-e.ensures _ _ _ c.compare-k.ensures)
