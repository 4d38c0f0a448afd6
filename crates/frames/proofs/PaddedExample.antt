-- Padded sizes, computed: what is read, what waits, and where the limit stands. Assumes nothing.
use Rattle.std.specs.Prelude.{Err, Ok}
use Rattle.base.specs.declared.Refusal.TheVariants.{BadCode, BadData, TooLarge}
use mathlib.Core.Path.{◌≡◌, refl}
use mathlib.Core.List.{List, [], ◌∷◌, map}
use Prim.Native.Nat.{ℕ}
use Rattle.counts.specs.Groups.{any_groups, read_groups}
use Rattle.counts.specs.Count.{read_count}
use Rattle.frames.specs.Frame.{order, zeros, version, read_size, sized, field, frame}
use Rattle.frames.specs.Fields.{refused_at, cut_at, end_at, Ending, scan, listing}

-- 3 in one, two and five bytes, and 0 in five; the largest size, and the largest of four groups in five bytes
pub taken :
    map read_size
    ((3 ∷ []) ∷ (131 ∷ 0 ∷ []) ∷ (131 ∷ 128 ∷ 128 ∷ 128 ∷ 0 ∷ []) ∷ (128 ∷ 128 ∷ 128 ∷ 128 ∷ 0 ∷ []) ∷ (255 ∷ 255 ∷ 255 ∷ 255 ∷ 7 ∷ [])
    ∷ (255 ∷ 255 ∷ 255 ∷ 255 ∷ 0 ∷ []) ∷ [])
    ≡ Ok (3, 1) ∷ Ok (3, 2) ∷ Ok (3, 5) ∷ Ok (0, 5) ∷ Ok (2147483647, 5) ∷ Ok (268435455, 5) ∷ []
unfolding any_groups
taken = refl

-- a sixth byte; four bytes of padding that are all cut short of a last one; a fifth byte above 07, alone and with the top bit
pub refused :
    map read_size
    ((131 ∷ 128 ∷ 128 ∷ 128 ∷ 128 ∷ 0 ∷ []) ∷ (131 ∷ 128 ∷ 128 ∷ 128 ∷ []) ∷ (131 ∷ 128 ∷ 128 ∷ 128 ∷ 8 ∷ []) ∷ (131 ∷ 128 ∷ 128 ∷ 128 ∷ 128 ∷ []) ∷ [])
    ≡ Err BadCode ∷ Err BadData ∷ Err BadCode ∷ Err BadCode ∷ []
unfolding any_groups
refused = refl

-- as counts these are refused
pub counts : map read_count ((131 ∷ 0 ∷ []) ∷ (128 ∷ 128 ∷ 128 ∷ 128 ∷ 0 ∷ []) ∷ []) ≡ Err BadCode ∷ Err BadCode ∷ []
unfolding read_groups
counts = refl

-- the version and a field 0 of seven bytes, before a field 1
abbrev before : List ℕ → List ℕ
before s = 0 ∷ 0 ∷ 0 ∷ 0 ∷ 0 ∷ 7 ∷ 3 ∷ 1 ∷ 65 ∷ 1 ∷ 66 ∷ 1 ∷ 67 ∷ 1 ∷ s

abbrev ending : List ℕ → Ending
ending s = (listing 255 (before s)).ending

-- a size of 4,194,286 at 14 ends at the largest place in four bytes, and past it in five; with its last byte cut it waits, as one that is cut
-- among its groups of 0 does; then the data are there
pub places :
    map ending
    ((238 ∷ 255 ∷ 255 ∷ 1 ∷ []) ∷ (238 ∷ 255 ∷ 255 ∷ 129 ∷ 0 ∷ []) ∷ (238 ∷ 255 ∷ 255 ∷ 129 ∷ []) ∷ (129 ∷ 128 ∷ []) ∷ (129 ∷ 128 ∷ 0 ∷ []) ∷ (129 ∷ 128 ∷ 0 ∷ 9 ∷ []) ∷ [])
    ≡ cut_at 13 ∷ refused_at TooLarge 13 ∷ cut_at 13 ∷ cut_at 13 ∷ cut_at 13 ∷ end_at 18 ∷ []
unfolding listing scan frame version zeros field sized order any_groups
places = refl
