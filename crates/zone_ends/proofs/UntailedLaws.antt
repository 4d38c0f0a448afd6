-- End of time and no tail, in a byte each, at the end of a zone's data. Assumes nothing.
use Prim.Native.Nat.{ℕ, ◌+◌, ◌≤◌}
use mathlib.Core.Path.{◌≡◌, refl, ◌∙◌}
use mathlib.Core.Bool.{true, false}
use mathlib.Core.List.{List, [], ◌∷◌}
use native.Mathlib.Omega.{arith}
use native.Mathlib.Numerals.{add-one}
use lib.ListN.{length, drop, get_or, drop_of_length-le}
use lib.Seq.{drop-cons}
use Rattle.base.specs.Parsed.{parse_byte, ended}
use Rattle.base.proofs.Tests.{never}
use Rattle.counts.specs.Groups.{read_groups}
use Rattle.transitions.specs.Transition.{from_count, read_moment}
use Rattle.zones.specs.Parse.{zone_of, after_tail_byte, after_end, after_intervals}
use Rattle.zone_ends.specs.Untailed.{UntailedAt}

two-left : (s : List ℕ) (place : ℕ) → length s ≡ place + 2 → get_or s place 0 ≡ 1 → get_or s (place + 1) 0 ≡ 0 → drop place s ≡ 1 ∷ 0 ∷ []
two-left s place n a b =
    let le : length s ≤ place + 1 + 1 = omega arith in
    let e : drop (place + 1 + 1) s ≡ [] = drop_of_length-le s le in
    rw (drop-cons s place 0 (omega arith), a, ← (add-one place), drop-cons s (place + 1) 0 (omega arith), b, ← (add-one (place + 1)), e)

pub untailed-at : (s : List ℕ) (place : ℕ) → length s ≡ place + 2 → get_or s place 0 ≡ 1 → get_or s (place + 1) 0 ≡ 0 → UntailedAt s place true
unfolding after_intervals read_moment read_groups from_count after_end parse_byte after_tail_byte zone_of ended
untailed-at s place n a b = record { to = λ _ pool last. record { means = λ id is l. rw (two-left s place n a b) refl } }

pub not-untailed : (s : List ℕ) (place : ℕ) → UntailedAt s place false
not-untailed s place = record { to = λ e. never e refl }
