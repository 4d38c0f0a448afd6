use lib.ListN.{drop}
use Rattle.old_dictionaries.specs.Pairs.{key_among}
use Rattle.old_dictionaries.proofs.PairLaws.{Scanning}
use Rattle.old_pairs.proofs.has_key.Given as goal

abbrev pub invariant-loop-left : goal.invariant-loop-left
invariant-loop-left l = Scanning l.s l.x (key_among l.n l.x (drop l.from l.s)) l.left l.at

abbrev pub decreases-loop-left : goal.decreases-loop-left
decreases-loop-left l = l.left
