-- EVERY NUMBER THAT A GOOD FIELD 3, 6 OR 7 MENTIONS is a number of the pool. Assumes nothing.
use mathlib.Core.Path.{◌≡◌, subst⁻¹}
use mathlib.Core.List.{List, []}
use Prim.Native.Nat.{ℕ, ◌<◌}
use lib.ListN.{length}
use Rattle.base.specs.All.{All}
use Rattle.base.specs.Parsed.{got}
use Rattle.aliases.specs.Dictionary.{Dictionary}
use Rattle.aliases.specs.Field.{parse_aliases}
use Rattle.aliases.proofs.PairLaws.{good-pairs}
use Rattle.locations.specs.declared.LocationField.{LocationField}
use Rattle.locations.specs.Content.{Location, id_of, parse_locations}
use Rattle.mentions.specs.Content.{numbers_of}
use Rattle.renumbered_lists.proofs.AliasLaws.{numbered, aliases-numbers, alias-names-below}
use Rattle.renumbered_lists.proofs.LocationLaws.{locations-numbers, location-names-below}

pub aliases-below : (ts : List (List ℕ)) (d : List ℕ) (es : Dictionary) → parse_aliases ts d ≡ got es [] → All (λ k. k < length ts) (numbers_of 3 d)
aliases-below ts d es e =
    let p = numbered ts d es (good-pairs ts d es [] e).1 in
    subst⁻¹ (All (λ k. k < length ts)) (aliases-numbers ts d es p) (alias-names-below ts d es p)

pub locations-below : (field : LocationField) (pool : ℕ) (d : List ℕ) (ls : List Location) → parse_locations field pool d ≡ got ls []
    → All (λ k. k < pool) (numbers_of (id_of field) d)
locations-below field pool d ls e = subst⁻¹ (All (λ k. k < pool)) (locations-numbers field pool d ls e) (location-names-below field pool d ls e)
