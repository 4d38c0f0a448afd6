use Rattle.interval_runs.proofs.details_ok.Goals as goal

pub returns-then-short_details : goal.returns-then-short_details
returns-then-short_details c = rw (← c.short_details.ensures, c.if-short_details.true) c.short_ok.ensures

pub returns : goal.returns
returns c = rw (← c.short_details.ensures, c.if-short_details.false)
