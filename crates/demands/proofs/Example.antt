-- A file that meets the premises: 01's "One whole file" with a field 2 behind it, its zone, and a zone that it lacks. Assumes nothing.
use mathlib.Core.Path.{◌≡◌, refl}
use mathlib.Core.List.{List, [], ◌∷◌}
use Prim.Native.Nat.{ℕ, ◌≤◌}
use native.Mathlib.Omega.{arith}
use lib.IntN.{pos}
use lib.ListN.{length, get_or}
use Rattle.base.specs.Run.{iterate}
use Rattle.base.specs.Parsed.{got, parse_byte, ended, many}
use Rattle.counts.specs.Groups.{any_groups, read_groups}
use Rattle.offsets.specs.Offset.{read_sum}
use Rattle.utf8.specs.Utf8.{chars}
use Rattle.texts.specs.Text.{text_sized}
use Rattle.pool.specs.Pool.{all_strings, counted}
use Rattle.base.specs.Equal.{equal}
use Rattle.places.specs.Name.{judge_name, parse_name}
use Rattle.zones.specs.Content.{Zone, present, fixed}
use Rattle.zones.specs.Parse.{zone_of, after_fixed_offset, parse_fixed, after_flag, after_id, parse_zone}
use Rattle.zones.specs.declared.Edition.{Edition}
use Rattle.ids.specs.Ids.{among}
use Rattle.signed.specs.Instant.{biased_of}
use Rattle.frames.specs.Frame.{order, zeros, version, sized, field, frame, Field}
use Rattle.frames.specs.Machine.{act, step, walk}
use Rattle.frames.specs.Fields.{scan, listing}
use Rattle.base.specs.All.{all_none, all-also}
use Rattle.field_checks.specs.Check.{placed, pool_kept, new_id, zone_kept, text_kept, judged, WellFormed, file_pool}
use Rattle.demands.specs.Zones.{InRange, Asked, NoZone}
use Rattle.demands.specs.Parts.{marked, There, Missing}
use Rattle.demands.proofs.Exact.{zone-there, zone-missing}
use Rattle.base.proofs.Tests.{clash}

-- 00 00 00 00, 00 05 01 03 55 54 43, 01 04 00 01 30 00, and 02 01 00
abbrev pub file : List ℕ
file = 0 ∷ 0 ∷ 0 ∷ 0 ∷ 0 ∷ 5 ∷ 1 ∷ 3 ∷ 85 ∷ 84 ∷ 67 ∷ 1 ∷ 4 ∷ 0 ∷ 1 ∷ 48 ∷ 0 ∷ 2 ∷ 1 ∷ 0 ∷ []

abbrev utc : List ℕ
utc = 85 ∷ 84 ∷ 67 ∷ []

abbrev gmt : List ℕ
gmt = 71 ∷ 77 ∷ 84 ∷ []

abbrev pool : Field
pool = record { place = 4; id = 0; start = 6; past = 11; body = 1 ∷ 3 ∷ 85 ∷ 84 ∷ 67 ∷ [] }

abbrev zone : Field
zone = record { place = 11; id = 1; start = 13; past = 17; body = 0 ∷ 1 ∷ 48 ∷ 0 ∷ [] }

abbrev text : Field
text = record { place = 17; id = 2; start = 19; past = 20; body = 0 ∷ [] }

pub well-formed : WellFormed file
unfolding walk step act iterate frame version zeros field sized order any_groups read_groups judged pool_kept zone_kept new_id text_kept text_sized chars counted all_strings many ended among equal parse_zone after_id after_flag parse_fixed after_fixed_offset zone_of parse_name judge_name parse_byte read_sum listing scan
well-formed = record {
  memory = record { pool = utc ∷ []; ids = utc ∷ []; text = placed 20 0 };
  ends = refl;
  some-field = λ e. clash cc;
}

-- the zone "UTC" is there
pub asked : Asked file utc zone
unfolding file_pool listing scan frame version zeros field sized order any_groups read_groups text_sized chars counted all_strings many ended parse_zone after_id after_flag parse_fixed after_fixed_offset zone_of parse_name judge_name parse_byte read_sum
asked = record {
  before = pool ∷ [];
  behind = text ∷ [];
  splits = refl;
  has = record { zone = record { id = 0; body = fixed 86400000 (present 0) }; rest = []; is-zone = refl; parsed = refl; bytes = refl };
}

-- the zone "GMT" is not
pub lacks : NoZone file gmt
unfolding file_pool listing scan frame version zeros field sized order any_groups read_groups text_sized chars counted all_strings many ended parse_zone after_id after_flag parse_fixed after_fixed_offset zone_of parse_name judge_name parse_byte read_sum
lacks =
    all-also (λ h. let z : ◌≡◌ {A = ℕ} 0 1 = h.is-zone in omega arith)
    (all-also (λ h. other h.zone h.parsed h.bytes)
    (all-also (λ h. let z : ◌≡◌ {A = ℕ} 2 1 = h.is-zone in omega arith) all_none))
  where
    other : (w : Zone) {q : List ℕ} → got (record { id = 0; body = fixed 86400000 (present 0) }) [] ≡ got w q → get_or (utc ∷ []) w.id [] ≡ gmt → ⊥
    other w e b =
        let i : record { id = 0; body = fixed 86400000 (present 0) } ≡ w = cc in
        let c : utc ≡ gmt = rw (← i) at b in
        let d : ◌≡◌ {A = ℕ} 85 71 = cc in
        omega arith

epoch-in-range : InRange (pos 0)
unfolding biased_of
epoch-in-range e = omega arith

-- so every first part of the file waits for "UTC" up to place 17 and then answers, and waits for "GMT" up to the byte at 17 and then
-- says that there is no such zone
pub utc-there : (ed : Edition) (k : ℕ) → k ≤ length file → There ed marked file utc (pos 0) zone k
utc-there ed k l = zone-there ed file utc (pos 0) zone k well-formed asked epoch-in-range l

pub gmt-missing : (ed : Edition) (k : ℕ) → k ≤ length file → Missing ed marked file gmt (pos 0) k
gmt-missing ed k l = zone-missing ed file gmt (pos 0) k well-formed lacks epoch-in-range l
