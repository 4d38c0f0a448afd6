-- A file whose sizes are padded meets the premises of demands 2 and 3: its zone right at every instant in range and in every first part of the
-- file, the parts that end among the groups of 0 included; and answers computed. Assumes nothing.
use Rattle.std.specs.Prelude.{Err}
use Rattle.base.specs.declared.Refusal.TheVariants.{BadCode, CutShort, NotFound, NotYet, TooLarge}
use mathlib.Core.Path.{◌≡◌, refl}
use mathlib.Core.List.{List, [], ◌∷◌, ◌++◌}
use Prim.Native.Nat.{ℕ, ◌≤◌}
use native.Mathlib.Omega.{arith}
use lib.IntN.{pos}
use lib.ListN.{length}
use Rattle.base.specs.Run.{iterate}
use Rattle.base.specs.Parsed.{parse_byte, ended, many}
use Rattle.base.specs.Equal.{equal}
use Rattle.signed.specs.Instant.{biased_of}
use Rattle.counts.specs.Groups.{any_groups, read_groups}
use Rattle.offsets.specs.Offset.{read_sum}
use Rattle.utf8.specs.Utf8.{chars}
use Rattle.texts.specs.Text.{text_sized}
use Rattle.pool.specs.Pool.{all_strings, counted}
use Rattle.pool.specs.Index.{read_starts, starts_in}
use Rattle.places.specs.Name.{judge_name, parse_name}
use Rattle.zones.specs.Content.{absent, fixed}
use Rattle.zones.specs.Parse.{zone_of, after_fixed_offset, parse_fixed, after_flag, after_id, parse_zone}
use Rattle.zones.specs.Editions.{under}
use Rattle.zones.specs.Lookup.{fixed_name_of, in_body}
use Rattle.zones.specs.declared.Edition.{Edition}
use Rattle.zones.specs.declared.Edition.TheVariants.{Two}
use Rattle.frames.specs.Frame.{order, zeros, version, sized, field, frame, Field}
use Rattle.frames.specs.Machine.{act, step, walk}
use Rattle.frames.specs.Fields.{scan, listing}
use Rattle.ids.specs.Ids.{among}
use Rattle.field_checks.specs.Check.{file_pool, pool_kept, new_id, zone_kept, judged, concluded, conclusion, WellFormed}
use Rattle.field_checks.proofs.WellFormedLaws.{good-well-formed}
use Rattle.locate.specs.Asked.{says}
use Rattle.questions.specs.Question.{ask}
use Rattle.answers.specs.declared.Mark.TheVariants.{All, More}
use Rattle.demands.specs.Zones.{InRange, Asked}
use Rattle.demands.specs.Right.{Answered}
use Rattle.demands.specs.Parts.{marked, There}
use Rattle.demands.proofs.Right.{demand-2}
use Rattle.demands.proofs.Exact.{zone-there}

-- 00 00 00 00, 00 83 80 80 00 01 01 41, 01 83 00 00 01 30
abbrev pub padded : List ℕ
padded = 0 ∷ 0 ∷ 0 ∷ 0 ∷ 0 ∷ 131 ∷ 128 ∷ 128 ∷ 0 ∷ 1 ∷ 1 ∷ 65 ∷ 1 ∷ 131 ∷ 0 ∷ 0 ∷ 1 ∷ 48 ∷ []

abbrev a : List ℕ
a = 65 ∷ []

abbrev pool : Field
pool = record { place = 4; id = 0; start = 9; past = 12; body = 1 ∷ 1 ∷ 65 ∷ [] }

abbrev zone : Field
zone = record { place = 12; id = 1; start = 15; past = 18; body = 0 ∷ 1 ∷ 48 ∷ [] }

pub padded-well-formed : WellFormed padded
unfolding conclusion walk iterate step act frame version zeros field order sized any_groups read_groups many counted all_strings ended concluded pool_kept judged chars text_sized zone_kept new_id among equal parse_zone after_id after_flag parse_fixed after_fixed_offset zone_of parse_byte parse_name judge_name read_sum
padded-well-formed = good-well-formed padded refl

-- demand 2: its zone is right at every instant in range
pub a-right : Answered padded zone
unfolding listing scan frame version zeros field sized order any_groups
a-right = demand-2 padded padded-well-formed zone (record { before = pool ∷ []; behind = []; splits = refl; is-zone = refl })

-- demand 3: every first part waits for it up to place 18, and the whole file answers
pub asked : Asked padded a zone
unfolding file_pool listing scan frame version zeros field sized order any_groups read_groups text_sized chars counted all_strings many ended parse_zone after_id after_flag parse_fixed after_fixed_offset zone_of parse_name judge_name parse_byte read_sum
asked = record {
  before = pool ∷ [];
  behind = [];
  splits = refl;
  has = record { zone = record { id = 0; body = fixed 86400000 absent }; rest = []; is-zone = refl; parsed = refl; bytes = refl };
}

epoch-in-range : InRange (pos 0)
unfolding biased_of
epoch-in-range e = omega arith

pub a-there : (ed : Edition) (k : ℕ) → k ≤ length padded → There ed marked padded a (pos 0) zone k
a-there ed k l = zone-there ed padded a (pos 0) zone k padded-well-formed asked epoch-in-range l

-- the version and a field 0 with a size that begins so
abbrev begun : List ℕ → List ℕ
begun s = 0 ∷ 0 ∷ 0 ∷ 0 ∷ 0 ∷ s

-- strings "A", "B", "C" and a field 1 at 13 with a size that begins so
abbrev limited : List ℕ → List ℕ
limited s = begun (7 ∷ 3 ∷ 1 ∷ 65 ∷ 1 ∷ 66 ∷ 1 ∷ 67 ∷ 1 ∷ s)

-- cut among the groups of 0: "not yet", or 2; a fifth byte with the top bit is 7; the limit counts the padding; a place behind padded sizes
pub answers :
    ask (begun (131 ∷ 128 ∷ [])) a (pos 0) More Two ∷ ask (begun (131 ∷ 128 ∷ 128 ∷ 128 ∷ [])) a (pos 0) All Two
    ∷ ask (begun (131 ∷ 128 ∷ 128 ∷ 128 ∷ 128 ∷ [])) a (pos 0) More Two ∷ ask (limited (238 ∷ 255 ∷ 255 ∷ 1 ∷ [])) a (pos 0) More Two
    ∷ ask (limited (238 ∷ 255 ∷ 255 ∷ 129 ∷ 0 ∷ [])) a (pos 0) More Two ∷ ask (padded ++ 2 ∷ []) (66 ∷ []) (pos 0) More Two ∷ []
    ≡ Err (NotYet, 4) ∷ Err (CutShort, 4) ∷ Err (BadCode, 4) ∷ Err (NotYet, 13) ∷ Err (TooLarge, 13) ∷ Err (NotFound, 18) ∷ []
unfolding ask says biased_of walk iterate step act frame version zeros field order sized any_groups read_groups many counted all_strings ended chars text_sized equal read_starts starts_in parse_zone after_id after_flag parse_fixed after_fixed_offset zone_of parse_byte parse_name judge_name read_sum fixed_name_of in_body under
answers = refl
