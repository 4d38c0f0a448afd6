-- What it is that two zones, two pools and two fields of two files say the same, and the answers that come of it. Assumes nothing.
use mathlib.Core.Path.{◌≡◌, sym, ap, ap₂, ◌∙◌}
use mathlib.Core.List.{List, []}
use Prim.Native.Nat.{ℕ, ◌<◌}
use lib.ListN.{length, get_or}
use Rattle.base.specs.All.{All}
use Rattle.base.specs.Moment.{Finite}
use Rattle.base.specs.Parsed.{got}
use Rattle.signed.specs.Instant.{ticks_of}
use Rattle.signed.specs.OffsetSum.{milliseconds_of}
use Rattle.pool.specs.Pool.{parse_pool, strings_of}
use Rattle.intervals.specs.Interval.{standard_sum}
use Rattle.zones.specs.Content.{Zone}
use Rattle.zones.specs.Parse.{parse_zone}
use Rattle.zones.specs.Editions.{under}
use Rattle.zones.specs.Lookup.{in_zone}
use Rattle.zones.specs.declared.Edition.{Edition}
use Rattle.zones.specs.declared.Found.{Found as Interval}
use Rattle.locations.specs.Content.{Location, id_of, parse_locations}
use Rattle.locations.specs.declared.LocationField.{LocationField}
use Rattle.aliases.specs.Dictionary.{Dictionary}
use Rattle.aliases.specs.Field.{parse_aliases}
use Rattle.mentions.specs.Content.{numbers_of, renumbered}
use Rattle.mentions.specs.Renumbers.{Renumbers}
use Rattle.local_times.specs.Instants.{instants_of}
use Rattle.frames.specs.Frame.{Field}
use Rattle.frames.specs.Fields.{FieldOf}
use Rattle.answers.specs.Answers.{Pool, answered}
use Rattle.answers.proofs.NameLaws.{Located, name-is}
use Rattle.demands.specs.Same.{SameFound}
use Rattle.closed_answers.proofs.BesideLaws.{Beside}

-- of a pool ts and of a pool us: all but the number of the name, and that name
pub record SameInterval (ts us : List (List ℕ)) (x y : Interval) : Type 0 where
  pub wall : x.wall ≡ y.wall
  pub savings : x.savings ≡ y.savings
  pub start : x.start ≡ y.start
  pub end : x.end ≡ y.end
  pub inside : x.name < length ts
  pub inside' : y.name < length us
  pub name : get_or ts x.name [] ≡ get_or us y.name []

pub record SameZone (ts us : List (List ℕ)) (z w : Zone) : Type 0 where
  pub id : get_or us w.id [] ≡ get_or ts z.id []
  pub interval : (ed : Edition) (t : ℕ) → Finite t → SameInterval ts us (in_zone t (under ed z)) (in_zone t (under ed w))
  pub instants : (l : ℕ) → instants_of l w.body ≡ instants_of l z.body

-- the data d of a field 1 with the pool ts, and e with the pool us
pub record SameZoneData (ts us : List (List ℕ)) (d e : List ℕ) : Type 0 where
  pub zone : Zone
  pub zone' : Zone
  pub parsed : parse_zone (length ts) d ≡ got zone []
  pub parsed' : parse_zone (length us) e ≡ got zone' []
  pub same : SameZone ts us zone zone'

-- the data d of a field 3 with the pool ts, and e with the pool us
pub record SameAliasData (ts us : List (List ℕ)) (d e : List ℕ) : Type 0 where
  pub entries : Dictionary
  pub parsed : parse_aliases ts d ≡ got entries []
  pub parsed' : parse_aliases us e ≡ got entries []

-- two pools that a question remembers, of the files f and h
pub record SamePools (f h : List ℕ) (ts us : List (List ℕ)) (x y : Pool) : Type 0 where
  pub strings : strings_of x.body ≡ ts
  pub strings' : strings_of y.body ≡ us
  pub located : Located f x
  pub located' : Located h y

-- the data d of a field of locations with the pool ts, and e with the pool us, which are these data with the numbers of us
pub record SameLocationData (field : LocationField) (ts us : List (List ℕ)) (d e : List ℕ) : Type 0 where
  pub locations : List Location
  pub locations' : List Location
  pub parsed : parse_locations field (length ts) d ≡ got locations []
  pub parsed' : parse_locations field (length us) e ≡ got locations' []
  pub number : ℕ → ℕ
  pub renumbers : e ≡ renumbered number (id_of field) d
  pub named : All (Renumbers ts us number) (numbers_of (id_of field) d)

-- the field g of f behind its first, and k of h
pub record SameField (f h : List ℕ) (ts us : List (List ℕ)) (g k : Field) : Type 0 where
  pub same_id : k.id ≡ g.id
  pub some : 0 < g.id
  pub of-file : FieldOf f g
  pub of-file' : FieldOf h k
  pub zone : g.id ≡ 1 → SameZoneData ts us g.body k.body
  pub text : g.id ≡ 2 → k.body ≡ g.body
  pub aliases : g.id ≡ 3 → SameAliasData ts us g.body k.body
  pub locations : (field : LocationField) → g.id ≡ id_of field → SameLocationData field ts us g.body k.body

-- THE FILES f AND h SAY THE SAME: their first fields are the pools ts and us, and the others say the same one by one
pub record SameFiles (f h : List ℕ) (ts us : List (List ℕ)) : Type 0 where
  pub beside : Beside (SameField f h ts us) f h
  pub of-file : FieldOf f beside.first
  pub of-file' : FieldOf h beside.first'
  pub pool : parse_pool beside.first.body ≡ got ts []
  pub pool' : parse_pool beside.first'.body ≡ got us []

pub same-found : (f h : List ℕ) (ts us : List (List ℕ)) (x y : Pool) (i j : Interval) → SamePools f h ts us x y → SameInterval ts us i j
    → SameFound f h (answered x i) (answered y j)
same-found f h ts us x y i j p s =
    record {
      wall = ap milliseconds_of s.wall;
      savings = ap milliseconds_of s.savings;
      standard = ap milliseconds_of (ap₂ standard_sum s.wall s.savings);
      start = ap ticks_of s.start;
      end = ap ticks_of s.end;
      name = name-is f x i p.located (rw p.strings s.inside) ∙ ap (λ (ss : List (List ℕ)). get_or ss i.name []) p.strings ∙ s.name
          ∙ sym (name-is h y j p.located' (rw p.strings' s.inside') ∙ ap (λ (ss : List (List ℕ)). get_or ss j.name []) p.strings');
    }
