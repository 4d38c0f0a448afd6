-- A file that meets the premises of demand 3 for the named question: a zone "A" and an alias "B" of it. Assumes nothing.
use mathlib.Core.Path.{◌≡◌, refl}
use mathlib.Core.List.{List, [], ◌∷◌}
use Prim.Native.Nat.{ℕ, ◌≤◌}
use native.Mathlib.Omega.{arith}
use lib.IntN.{pos}
use lib.ListN.{length, get_or}
use Rattle.base.specs.Run.{iterate}
use Rattle.base.specs.Parsed.{got, parse_byte, ended, many}
use Rattle.base.specs.Equal.{equal}
use Rattle.base.specs.All.{all_none, all-also}
use Rattle.base.proofs.Tests.{clash}
use Rattle.signed.specs.Instant.{biased_of}
use Rattle.counts.specs.Groups.{any_groups, read_groups}
use Rattle.offsets.specs.Offset.{read_sum}
use Rattle.utf8.specs.Utf8.{chars}
use Rattle.texts.specs.Text.{text_sized}
use Rattle.pool.specs.Pool.{all_strings, counted}
use Rattle.places.specs.Name.{judge_name, parse_name}
use Rattle.zones.specs.Content.{Zone, absent, fixed}
use Rattle.zones.specs.declared.Edition.{Edition}
use Rattle.zones.specs.Parse.{zone_of, after_fixed_offset, parse_fixed, after_flag, after_id, parse_zone}
use Rattle.ids.specs.Ids.{among}
use Rattle.aliases.specs.Dictionary.{keys, target_of}
use Rattle.aliases.specs.Field.{after_key, parse_entry, parse_entries, all_entries, parse_aliases}
use Rattle.alias_lookup.specs.Lookup.{lookup}
use Rattle.frames.specs.Frame.{order, zeros, version, sized, field, frame, Field}
use Rattle.frames.specs.Machine.{act, step, walk}
use Rattle.frames.specs.Fields.{scan, listing}
use Rattle.field_checks.specs.Check.{nowhere, pool_kept, new_id, zone_kept, aliases_kept, judged, WellFormed, file_pool}
use Rattle.named_fields.specs.Named.{zone_in, zones_of, seen_of}
use Rattle.demands.specs.Zones.{InRange, NoZone}
use Rattle.demands.specs.Named.{Aliases, ByAlias, OfTarget}
use Rattle.demands.proofs.NamedExact.{by-alias}
use Rattle.demands.proofs.NamedTarget.{alias-target}

-- 00 00 00 00, 00 05 02 01 41 01 42, 01 03 00 01 30, 03 03 01 01 00
abbrev pub file : List ℕ
file = 0 ∷ 0 ∷ 0 ∷ 0 ∷ 0 ∷ 5 ∷ 2 ∷ 1 ∷ 65 ∷ 1 ∷ 66 ∷ 1 ∷ 3 ∷ 0 ∷ 1 ∷ 48 ∷ 3 ∷ 3 ∷ 1 ∷ 1 ∷ 0 ∷ []

abbrev a : List ℕ
a = 65 ∷ []

abbrev b : List ℕ
b = 66 ∷ []

abbrev pool : Field
pool = record { place = 4; id = 0; start = 6; past = 11; body = 2 ∷ 1 ∷ 65 ∷ 1 ∷ 66 ∷ [] }

abbrev zone : Field
zone = record { place = 11; id = 1; start = 13; past = 16; body = 0 ∷ 1 ∷ 48 ∷ [] }

abbrev dictionary : Field
dictionary = record { place = 16; id = 3; start = 18; past = 21; body = 1 ∷ 1 ∷ 0 ∷ [] }

abbrev content : Zone
content = record { id = 0; body = fixed 86400000 absent }

pub well-formed : WellFormed file
unfolding walk step act iterate frame version zeros field sized order any_groups read_groups judged pool_kept zone_kept new_id aliases_kept parse_aliases all_entries parse_entries parse_entry after_key keys text_sized chars counted all_strings many ended among equal parse_zone after_id after_flag parse_fixed after_fixed_offset zone_of parse_name judge_name parse_byte read_sum listing scan
well-formed = record {
  memory = record { pool = a ∷ b ∷ []; ids = a ∷ []; text = nowhere };
  ends = refl;
  some-field = λ e. clash cc;
}

pub aliases : Aliases file dictionary
unfolding listing scan frame version zeros field sized order any_groups read_groups
aliases = record { before = pool ∷ zone ∷ []; behind = []; splits = refl; is-aliases = refl }

-- no zone has the ID "B"
pub lacks : NoZone file b
unfolding file_pool listing scan frame version zeros field sized order any_groups read_groups text_sized chars counted all_strings many ended parse_zone after_id after_flag parse_fixed after_fixed_offset zone_of parse_name judge_name parse_byte read_sum
lacks =
    all-also (λ h. let z : ◌≡◌ {A = ℕ} 0 1 = h.is-zone in omega arith)
    (all-also (λ h. other h.zone h.parsed h.bytes)
    (all-also (λ h. let z : ◌≡◌ {A = ℕ} 3 1 = h.is-zone in omega arith) all_none))
  where
    other : (w : Zone) {q : List ℕ} → got content [] ≡ got w q → get_or (a ∷ b ∷ []) w.id [] ≡ b → ⊥
    other w e k =
        let i : content ≡ w = cc in
        let c : a ≡ b = rw (← i) at k in
        let d : ◌≡◌ {A = ℕ} 65 66 = cc in
        omega arith

epoch-in-range : InRange (pos 0)
unfolding biased_of
epoch-in-range e = omega arith

-- so every first part of the file waits for "B" up to place 21 and then gives what the whole file gives, which is the answer of "A"
pub b_there : (ed : Edition) (k : ℕ) → k ≤ length file → ByAlias ed file b (pos 0) dictionary k
b_there ed k l = by-alias ed file b (pos 0) epoch-in-range well-formed lacks dictionary aliases k l

pub b-answers : (ed : Edition) → OfTarget ed file b (pos 0) dictionary
unfolding file_pool listing scan frame version zeros field sized order any_groups read_groups text_sized chars counted all_strings many ended parse_zone after_id after_flag parse_fixed after_fixed_offset zone_of parse_name judge_name parse_byte read_sum parse_aliases all_entries parse_entries parse_entry after_key keys among equal lookup target_of zone_in zones_of seen_of
b-answers ed = alias-target ed file b (pos 0) dictionary content well-formed lacks aliases epoch-in-range refl
