use Rattle.listed_cursors.proofs.at_usual.Goals as goal

pub returns : goal.returns
returns c = rw (c.until-held.ensures, c.short_interval-j.ensures)
