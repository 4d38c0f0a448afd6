-- What the preferred data of a zone keep. To be believed: zone-kept (proofs/ZoneLaws.antt) says it of every zone, absence-kept
-- (proofs/AbsenceLaws.antt) of every fixed zone without a name.
use Rattle.std.specs.Prelude.{ℕ, ◌≤◌, ◌≡◌, List, [], ◌++◌, length}
use Rattle.base.specs.Bytes.{Bytes}
use Rattle.base.specs.Parsed.{got}
use Rattle.counts.specs.Count.{write_count}
use Rattle.zones.specs.Content.{FixedName, absent, present, fixed, Zone}
use Rattle.zones.specs.Parse.{parse_zone}
use Rattle.zones.specs.Lookup.{in_zone}
use Rattle.pieces.specs.Content.{parse_content, content_of, print}

-- the zone z, read from d
pub record ZoneKept (pool : ℕ) (d : List ℕ) (z : Zone) : Type 0 where
  pub read : parse_content d ≡ got (content_of 1 d) []
  pub same : content_of 1 (print (content_of 1 d)) ≡ content_of 1 d
  pub shorter : length (print (content_of 1 d)) ≤ length d
  pub exact : length (print (content_of 1 d)) ≡ length d → print (content_of 1 d) ≡ d
  pub parses : parse_zone pool (print (content_of 1 d)) ≡ got z []

abbrev pub fixed_zone : ℕ → ℕ → FixedName → Zone
fixed_zone id offset n = record { id = id; body = fixed offset n }

-- "The rewriter keeps the absence, so absent and present-but-equal stay two contents": of the data d of a fixed zone without a name
pub record AbsenceKept (pool : ℕ) (d : List ℕ) (id offset : ℕ) : Type 0 where
  pub kept : parse_zone pool (print (content_of 1 d)) ≡ got (fixed_zone id offset absent) []
  -- data with a name have another content
  pub apart : (e : List ℕ) (n : ℕ) → Bytes e → parse_zone pool e ≡ got (fixed_zone id offset (present n)) [] → content_of 1 e ≡ content_of 1 d → ⊥
  -- d with the ID's number for a name is well formed, shows the same at every instant, and has another content
  pub equal-name : parse_zone pool (d ++ write_count id) ≡ got (fixed_zone id offset (present id)) []
  pub alike : (t : ℕ) → in_zone t (fixed_zone id offset absent) ≡ in_zone t (fixed_zone id offset (present id))
  pub equal-apart : content_of 1 (d ++ write_count id) ≡ content_of 1 d → ⊥
