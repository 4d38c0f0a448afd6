-- Document 02's number, place and values of a location; its pin's doubles aside, which are no whole numbers. To be believed.
use Rattle.location_lookup.specs.declared.Located.{Located}
use Rattle.base.specs.Refusals.{refusal_number}
use Rattle.base.specs.Coded.{Fault}
use Rattle.std.specs.Prelude.{[], ◌∷◌, pos, Err, Ok, Result}
use Rattle.base.specs.Numbers.{GivenBack, answering, refusing}

abbrev pub given_by_location : Result Located Fault → GivenBack
given_by_location (Ok x) = answering (pos x.zone.at ∷ pos x.zone.len ∷ pos x.comment.at ∷ pos x.comment.len ∷ [])
given_by_location (Err (n, p)) = refusing (refusal_number n) p
