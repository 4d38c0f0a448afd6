-- The premises of paddings-aside are met: a file with two padded sizes, one of a field that is only stepped over, and the same with others; and
-- their one preferred file, computed. Assumes nothing.
use mathlib.Core.Path.{◌≡◌, refl}
use mathlib.Core.List.{List, [], ◌∷◌}
use Prim.Native.Nat.{ℕ}
use native.Mathlib.Omega.{arith}
use Rattle.base.specs.All.{All, all_none, all-also}
use Rattle.base.specs.Parsed.{ended, many}
use Rattle.base.specs.Run.{iterate}
use Rattle.counts.specs.Groups.{any_groups, read_groups, write_groups, padded_groups}
use Rattle.utf8.specs.Utf8.{chars}
use Rattle.texts.specs.Text.{text_sized}
use Rattle.pool.specs.Pool.{all_strings, counted}
use Rattle.frames.specs.Frame.{order, zeros, version, sized, field, frame}
use Rattle.frames.specs.Machine.{act, step, walk}
use Rattle.frames.specs.Fields.{scan, listing}
use Rattle.field_checks.specs.Check.{pool_kept, judged, concluded, conclusion, WellFormed}
use Rattle.field_checks.proofs.WellFormedLaws.{good-well-formed}
use Rattle.pieces.specs.Content.{content_of, print_pieces, print}
use Rattle.preferred_fields.specs.Field.{print_field}
use Rattle.rewrite.specs.Preferred.{contents, print_fields, print_file, preferred}
use Rattle.paddings.specs.Padding.{Laid, lay_field, lay_fields, lay_file, Fits, PaddingsAside}
use Rattle.paddings.proofs.PaddingLaws.{paddings-aside}

-- a field 0 of "A" and a field C8 of AA AA, their sizes in so many bytes behind the first
abbrev pool : ℕ → Laid
pool m = record { id = 0; more = m; body = 1 ∷ 1 ∷ 65 ∷ [] }

abbrev stepped : ℕ → Laid
stepped n = record { id = 200; more = n; body = 170 ∷ 170 ∷ [] }

abbrev pub laid : ℕ → ℕ → List Laid
laid m n = pool m ∷ stepped n ∷ []

-- 00 00 00 00, 00 83 00 01 01 41, C8 82 00 AA AA
pub file-is : lay_file (laid 1 1) ≡ 0 ∷ 0 ∷ 0 ∷ 0 ∷ 0 ∷ 131 ∷ 0 ∷ 1 ∷ 1 ∷ 65 ∷ 200 ∷ 130 ∷ 0 ∷ 170 ∷ 170 ∷ []
unfolding lay_file lay_fields lay_field padded_groups
file-is = refl

-- 00 00 00 00, 00 03 01 01 41, C8 82 80 80 80 00 AA AA
pub other-is : lay_file (laid 0 4) ≡ 0 ∷ 0 ∷ 0 ∷ 0 ∷ 0 ∷ 3 ∷ 1 ∷ 1 ∷ 65 ∷ 200 ∷ 130 ∷ 128 ∷ 128 ∷ 128 ∷ 0 ∷ 170 ∷ 170 ∷ []
unfolding lay_file lay_fields lay_field padded_groups
other-is = refl

pub well-formed : WellFormed (lay_file (laid 1 1))
unfolding lay_file lay_fields lay_field padded_groups conclusion walk iterate step act frame version zeros field order sized any_groups read_groups many counted all_strings ended concluded pool_kept judged chars text_sized
well-formed = good-well-formed (lay_file (laid 1 1)) refl

pub other-well-formed : WellFormed (lay_file (laid 0 4))
unfolding lay_file lay_fields lay_field padded_groups conclusion walk iterate step act frame version zeros field order sized any_groups read_groups many counted all_strings ended concluded pool_kept judged chars text_sized
other-well-formed = good-well-formed (lay_file (laid 0 4)) refl

fit : All Fits (laid 1 1)
fit =
    let a : Fits (pool 1) = record { most = omega arith; enough = omega arith; small = omega arith } in
    let b : Fits (stepped 1) = record { most = omega arith; enough = omega arith; small = omega arith } in
    all-also a (all-also b all_none)

other-fit : All Fits (laid 0 4)
other-fit =
    let a : Fits (pool 0) = record { most = omega arith; enough = omega arith; small = omega arith } in
    let b : Fits (stepped 4) = record { most = omega arith; enough = omega arith; small = omega arith } in
    all-also a (all-also b all_none)

pub aside : PaddingsAside (lay_file (laid 1 1)) (lay_file (laid 0 4))
aside = paddings-aside (laid 1 1) (laid 0 4) fit other-fit (refl, refl, (refl, refl, tt)) well-formed other-well-formed

-- 00 00 00 00, 00 03 01 01 41, C8 02 AA AA: "Rewriting always shortens such a size", in every field
pub shortened : preferred (lay_file (laid 1 1)) ≡ 0 ∷ 0 ∷ 0 ∷ 0 ∷ 0 ∷ 3 ∷ 1 ∷ 1 ∷ 65 ∷ 200 ∷ 2 ∷ 170 ∷ 170 ∷ []
unfolding lay_file lay_fields lay_field padded_groups contents content_of listing scan frame version zeros field sized order any_groups print print_pieces write_groups print_field print_fields print_file
shortened = refl
