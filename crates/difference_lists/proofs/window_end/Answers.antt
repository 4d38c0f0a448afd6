use Rattle.difference_lists.proofs.WindowLaws.{side-names}
use Rattle.difference_lists.proofs.window_end.Goals as goal

pub same_from-e-requires : goal.same_from-e-requires
same_from-e-requires c = (c.requires.0.ready, c.requires.1.ready, side-names _ _ _ _ c.requires.0, side-names _ _ _ _ c.requires.1)
