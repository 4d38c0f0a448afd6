use Rattle.old_dictionaries.proofs.EntryLaws.{key-larger, key-other}
use Rattle.old_entries.proofs.take_key.Goals as goal

pub returns-then-comes_before : goal.returns-then-comes_before
returns-then-comes_before c = key-larger _ _ _ _ _ c.requires.2 c.requires.3 _ c.comes_before.ensures c.if-comes_before.true _ c.take_value.ensures

pub returns : goal.returns
returns c = key-other _ _ _ _ _ c.requires.2 c.requires.3
