-- A file with a fixed zone without a name meets the premises of demands 2 and 3: shown well formed, its zone right at every instant in range
-- and in every first part of the file, and answers computed. Assumes nothing.
use Rattle.answers.specs.declared.Found.{Found}
use Rattle.base.specs.Coded.{Fault}
use Rattle.std.specs.Prelude.{Err, Ok, Result}
use Rattle.base.specs.declared.Refusal.TheVariants.{CutShort, NotYet}
use mathlib.Core.Path.{◌≡◌, refl}
use mathlib.Core.List.{List, [], ◌∷◌}
use Prim.Native.Nat.{ℕ, ◌≤◌}
use native.Mathlib.Omega.{arith}
use lib.IntN.{pos, negsuc}
use lib.ListN.{length}
use Rattle.base.specs.Run.{iterate}
use Rattle.base.specs.Parsed.{parse_byte, ended, many}
use Rattle.base.specs.Equal.{equal}
use Rattle.signed.specs.Instant.{biased_of}
use Rattle.counts.specs.Groups.{any_groups, read_groups}
use Rattle.offsets.specs.Offset.{read_sum}
use Rattle.utf8.specs.Utf8.{chars}
use Rattle.texts.specs.Text.{text_sized}
use Rattle.pool.specs.Pool.{all_strings, counted}
use Rattle.pool.specs.Index.{read_starts, starts_in}
use Rattle.places.specs.Name.{judge_name, parse_name}
use Rattle.zones.specs.Content.{absent, fixed}
use Rattle.zones.specs.Parse.{zone_of, after_fixed_offset, parse_fixed, after_flag, after_id, parse_zone}
use Rattle.zones.specs.Editions.{under}
use Rattle.zones.specs.Lookup.{fixed_name_of, in_body}
use Rattle.zones.specs.declared.Edition.{Edition}
use Rattle.zones.specs.declared.Edition.TheVariants.{Two}
use Rattle.frames.specs.Frame.{order, zeros, version, sized, field, frame, Field}
use Rattle.frames.specs.Machine.{act, step, walk}
use Rattle.frames.specs.Fields.{scan, listing}
use Rattle.field_checks.specs.Check.{file_pool}
use Rattle.rewrite.proofs.AbsenceExample.{nameless, nameless-well-formed}
use Rattle.locate.specs.Asked.{says}
use Rattle.questions.specs.Question.{ask}
use Rattle.answers.specs.declared.Mark.TheVariants.{All, More}
use Rattle.demands.specs.Zones.{InRange, Asked}
use Rattle.demands.specs.Right.{Answered}
use Rattle.demands.specs.Parts.{marked, There}
use Rattle.demands.proofs.Right.{demand-2}
use Rattle.demands.proofs.Exact.{zone-there}

abbrev a : List ℕ
a = 65 ∷ []

abbrev pool : Field
pool = record { place = 4; id = 0; start = 6; past = 9; body = 1 ∷ 1 ∷ 65 ∷ [] }

abbrev zone : Field
zone = record { place = 9; id = 1; start = 11; past = 14; body = 0 ∷ 1 ∷ 48 ∷ [] }

-- demand 2: its zone is right at every instant in range
pub a-right : Answered nameless zone
unfolding listing scan frame version zeros field sized order any_groups
a-right = demand-2 nameless nameless-well-formed zone (record { before = pool ∷ []; behind = []; splits = refl; is-zone = refl })

-- demand 3: every first part waits for it up to place 14, and the whole file answers
pub asked : Asked nameless a zone
unfolding file_pool listing scan frame version zeros field sized order any_groups read_groups text_sized chars counted all_strings many ended parse_zone after_id after_flag parse_fixed after_fixed_offset zone_of parse_name judge_name parse_byte read_sum
asked = record {
  before = pool ∷ [];
  behind = [];
  splits = refl;
  has = record { zone = record { id = 0; body = fixed 86400000 absent }; rest = []; is-zone = refl; parsed = refl; bytes = refl };
}

epoch-in-range : InRange (pos 0)
unfolding biased_of
epoch-in-range e = omega arith

pub a-there : (ed : Edition) (k : ℕ) → k ≤ length nameless → There ed marked nameless a (pos 0) zone k
a-there ed k l = zone-there ed nameless a (pos 0) zone k nameless-well-formed asked epoch-in-range l

-- two equal strings "A", and a zone with the second for its ID
abbrev second : List ℕ
second = 0 ∷ 0 ∷ 0 ∷ 0 ∷ 0 ∷ 5 ∷ 2 ∷ 1 ∷ 65 ∷ 1 ∷ 65 ∷ 1 ∷ 3 ∷ 1 ∷ 1 ∷ 48 ∷ []

-- a zone of the empty ID
abbrev empty : List ℕ
empty = 0 ∷ 0 ∷ 0 ∷ 0 ∷ 0 ∷ 2 ∷ 1 ∷ 0 ∷ 1 ∷ 3 ∷ 0 ∷ 1 ∷ 48 ∷ []

-- a zone whose size counts a name that has not arrived
abbrev cut : List ℕ
cut = 0 ∷ 0 ∷ 0 ∷ 0 ∷ 0 ∷ 3 ∷ 1 ∷ 1 ∷ 65 ∷ 1 ∷ 4 ∷ 0 ∷ 1 ∷ 48 ∷ []

-- UTC at all of time, with the name of a length at a place
abbrev utc : ℕ → ℕ → Result Found Fault
utc place length = Ok (record {
  wall = pos 0;
  savings = pos 0;
  standard = pos 0;
  name = place;
  length = length;
  start = negsuc 9223372036854775807;
  end = pos 9223372036854775807;
})

-- the name is the part that holds the string of the zone's own ID number: "A" at 8, the second "A" at 10, no bytes at 8; a name that has
-- not arrived is not absent
pub answers :
    ask nameless a (pos 0) More Two ∷ ask second a (pos 0) More Two ∷ ask empty [] (pos 0) More Two ∷ ask cut a (pos 0) More Two ∷ ask cut a (pos 0) All Two ∷ []
    ≡ utc 8 1 ∷ utc 10 1 ∷ utc 8 0 ∷ Err (NotYet, 9) ∷ Err (CutShort, 9) ∷ []
unfolding ask says biased_of walk iterate step act frame version zeros field order sized any_groups read_groups many counted all_strings ended chars text_sized equal read_starts starts_in parse_zone after_id after_flag parse_fixed after_fixed_offset zone_of parse_byte parse_name judge_name read_sum fixed_name_of in_body under
answers = refl
