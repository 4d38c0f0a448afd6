-- Places of the first unfinished field, computed, and a walk that goes on. Assumes nothing.
use Rattle.base.specs.declared.Refusal.TheVariants.{FieldOrder}
use mathlib.Core.Path.{◌≡◌, refl}
use mathlib.Core.List.{List, [], ◌∷◌, ◌++◌}
use Prim.Native.Nat.{ℕ}
use Rattle.counts.specs.Groups.{any_groups}
use Rattle.frames.specs.Frame.{order, zeros, version, sized, field, frame}
use Rattle.frames.specs.Fields.{refused_at, scan, listing, unfinished}
use Rattle.extents.specs.Extent.{none, step_of, steps, extent_of}

-- the version, and a field 0 of one byte behind it
abbrev pub head : List ℕ
head = 0 ∷ 0 ∷ 0 ∷ 0 ∷ 0 ∷ 1 ∷ 0 ∷ []

-- in the version, after a wrong one, and behind the version alone
pub in-version : (unfinished (0 ∷ 0 ∷ 0 ∷ []) ≡ 0) × (unfinished (0 ∷ 0 ∷ 0 ∷ 1 ∷ []) ≡ 0) × (unfinished (0 ∷ 0 ∷ 0 ∷ 0 ∷ []) ≡ 4)
unfolding listing scan frame version zeros field sized order any_groups
in-version = (refl, refl, refl)

-- a first field that isn't 0, a size that passes the limit, an ID that falls: that ID byte, whatever follows
pub stopped : (unfinished (0 ∷ 0 ∷ 0 ∷ 0 ∷ 1 ∷ []) ≡ 4) × (unfinished (head ++ (2 ∷ 255 ∷ 255 ∷ 255 ∷ 255 ∷ 7 ∷ [])) ≡ 7)
    × (unfinished (head ++ (9 ∷ 0 ∷ 8 ∷ 0 ∷ 255 ∷ 0 ∷ [])) ≡ 9)
unfolding listing scan frame version zeros field sized order any_groups
stopped = (refl, refl, refl)

-- a field of which the ID byte alone is there; and all whole, whatever a pool says and whatever the IDs
pub waiting : (unfinished (head ++ (2 ∷ 1 ∷ 0 ∷ 3 ∷ [])) ≡ 10) × (unfinished (head ++ (2 ∷ 1 ∷ 0 ∷ 3 ∷ 0 ∷ [])) ≡ 12)
    × (unfinished (0 ∷ 0 ∷ 0 ∷ 0 ∷ 0 ∷ 1 ∷ 255 ∷ 1 ∷ 0 ∷ []) ≡ 9)
unfolding listing scan frame version zeros field sized order any_groups
waiting = (refl, refl, refl)

-- a field whose size is cut among its groups of 0, without its data, and whole; a sixth byte of a size
pub padded : (unfinished (head ++ (2 ∷ 129 ∷ 128 ∷ [])) ≡ 7) × (unfinished (head ++ (2 ∷ 129 ∷ 128 ∷ 0 ∷ [])) ≡ 7)
    × (unfinished (head ++ (2 ∷ 129 ∷ 128 ∷ 0 ∷ 9 ∷ [])) ≡ 12) × (unfinished (head ++ (2 ∷ 129 ∷ 128 ∷ 128 ∷ 128 ∷ 128 ∷ 0 ∷ 9 ∷ [])) ≡ 7)
unfolding listing scan frame version zeros field sized order any_groups
padded = (refl, refl, refl, refl)

-- the walk keeps the ID of the field before, so that it sees one that falls when it goes on
pub goes-on : extent_of (head ++ (9 ∷ 0 ∷ [])) none ≡ record { at = 9; prev = 9 }
unfolding steps step_of frame version zeros field sized order any_groups
goes-on = refl

pub falls : (listing 255 (head ++ (9 ∷ 0 ∷ 8 ∷ 0 ∷ []))).ending ≡ refused_at FieldOrder 9
unfolding listing scan frame version zeros field sized order any_groups
falls = refl
