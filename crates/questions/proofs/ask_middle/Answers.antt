use Rattle.questions.proofs.ask_middle.Goals as goal

pub ask_with-requires : goal.ask_with-requires
ask_with-requires c = (c.requires.0, c.requires.1, c.requires.2)

pub returns : goal.returns
returns c = c.ask_with.ensures
