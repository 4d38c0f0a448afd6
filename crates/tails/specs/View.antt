-- The results of the tail's readers. The code's way: places in the data, as places' `Stands` has them.
use Rattle.std.specs.Prelude.{Err, Ok}
use Rattle.base.specs.Coded.{Coded}
use Rattle.places.specs.Placed.{Placed, at, no}
use Rattle.rules.specs.declared.Rule.{Rule}
use Rattle.tails.specs.declared.Standard.{Standard}
use Rattle.tails.specs.declared.NamedTail.{NamedTail}

abbrev pub of_rule : Coded Rule → Placed Rule
of_rule (Ok (r, e)) = at r e
of_rule (Err n) = no n

abbrev pub of_standard : Coded Standard → Placed Standard
of_standard (Ok (x, e)) = at x e
of_standard (Err n) = no n

abbrev pub of_tail : Coded NamedTail → Placed NamedTail
of_tail (Ok (t, e)) = at t e
of_tail (Err n) = no n
