-- Worked data, computed: the numbers that a field mentions, and its data with each number one larger. Assumes nothing.
use mathlib.Core.Path.{◌≡◌, refl}
use mathlib.Core.List.{List, [], ◌∷◌}
use Prim.Native.Nat.{ℕ, ◌+◌}
use Rattle.base.specs.Parsed.{parse_byte}
use Rattle.counts.specs.Groups.{read_groups, write_groups}
use Rattle.counts.specs.Fixed.{fixed_from}
use Rattle.offsets.specs.Offset.{read_sum}
use Rattle.transitions.specs.Transition.{read_moment, from_count}
use Rattle.mentions.specs.Walk.{behind_rule, behind_end, behind_start, behind_details, behind_offset, behind_interval_count, behind_id, numbered_names, location_names, before_names, before_pairs, before_locations, ahead_of, first_stage}
use Rattle.mentions.specs.Content.{parse_mention, content_from, numbers_in, numbers_of, print_mentions, print, renumbered}

abbrev one_more : ℕ → List ℕ → List ℕ
one_more i d = renumbered (λ k. k + 1) i d

-- a zone with two intervals and a tail: its ID, two interval names, the tail's two names
abbrev tailed : List ℕ
tailed =
    0 ∷ 2 ∷ 2 ∷ 0 ∷ 3 ∷ 48 ∷ 48 ∷ 128 ∷ 194 ∷ 215 ∷ 47 ∷ 127 ∷ 50 ∷ 48 ∷ 128 ∷ 1 ∷ 1 ∷ 50 ∷ 4 ∷ 28 ∷ 10 ∷ 1 ∷ 50 ∷ 5 ∷ 28 ∷ 3 ∷ 1 ∷ 50 ∷ 50 ∷ []

-- a fixed zone with a name, one without, a tailed one; two aliases; a location of field 6; two of field 7, with two countries and none; a text
pub mentioned :
    numbers_of 1 (0 ∷ 1 ∷ 48 ∷ 2 ∷ []) ∷ numbers_of 1 (2 ∷ 1 ∷ 48 ∷ []) ∷ numbers_of 1 tailed ∷ numbers_of 3 (2 ∷ 3 ∷ 2 ∷ 1 ∷ 0 ∷ [])
    ∷ numbers_of 6 (1 ∷ 0 ∷ 1 ∷ 5 ∷ 6 ∷ 7 ∷ 8 ∷ []) ∷ numbers_of 7 (2 ∷ 0 ∷ 0 ∷ 4 ∷ 1 ∷ 2 ∷ 3 ∷ 4 ∷ 5 ∷ 6 ∷ 0 ∷ 0 ∷ 0 ∷ 7 ∷ 8 ∷ []) ∷ numbers_of 2 (1 ∷ 65 ∷ []) ∷ []
    ≡ (0 ∷ 2 ∷ []) ∷ (2 ∷ []) ∷ (0 ∷ 3 ∷ 127 ∷ 4 ∷ 5 ∷ []) ∷ (3 ∷ 2 ∷ 1 ∷ 0 ∷ []) ∷ (5 ∷ 6 ∷ 7 ∷ 8 ∷ []) ∷ (1 ∷ 2 ∷ 3 ∷ 4 ∷ 5 ∷ 6 ∷ 7 ∷ 8 ∷ []) ∷ [] ∷ []
unfolding behind_rule behind_end behind_start behind_details behind_offset behind_interval_count behind_id numbered_names location_names before_names before_pairs before_locations ahead_of first_stage parse_mention content_from numbers_in parse_byte read_groups fixed_from read_sum read_moment from_count
mentioned = refl

pub renumbers :
    one_more 1 (0 ∷ 1 ∷ 48 ∷ 2 ∷ []) ∷ one_more 1 (2 ∷ 1 ∷ 48 ∷ []) ∷ one_more 3 (2 ∷ 3 ∷ 2 ∷ 127 ∷ 0 ∷ [])
    ∷ one_more 6 (1 ∷ 0 ∷ 1 ∷ 5 ∷ 6 ∷ 7 ∷ 8 ∷ []) ∷ one_more 2 (1 ∷ 65 ∷ []) ∷ []
    ≡ (1 ∷ 1 ∷ 48 ∷ 3 ∷ []) ∷ (3 ∷ 1 ∷ 48 ∷ []) ∷ (2 ∷ 4 ∷ 3 ∷ 128 ∷ 1 ∷ 1 ∷ []) ∷ (1 ∷ 0 ∷ 1 ∷ 6 ∷ 7 ∷ 8 ∷ 9 ∷ []) ∷ (1 ∷ 65 ∷ []) ∷ []
unfolding behind_rule behind_end behind_start behind_details behind_offset behind_interval_count behind_id numbered_names location_names before_names before_pairs before_locations ahead_of first_stage parse_mention content_from print_mentions print parse_byte read_groups write_groups read_sum
renumbers = refl

-- a tailed zone with a number that takes a byte more: its transitions, in whatever form, and all else are copied
pub renumbers-tailed :
    one_more 1 tailed
    ≡ 1 ∷ 2 ∷ 2 ∷ 0 ∷ 4 ∷ 48 ∷ 48 ∷ 128 ∷ 194 ∷ 215 ∷ 47 ∷ 128 ∷ 1 ∷ 50 ∷ 48 ∷ 128 ∷ 1 ∷ 1 ∷ 50 ∷ 5 ∷ 28 ∷ 10 ∷ 1 ∷ 50 ∷ 6 ∷ 28 ∷ 3 ∷ 1 ∷ 50 ∷ 50 ∷ []
unfolding behind_rule behind_end behind_start behind_details behind_offset behind_interval_count behind_id numbered_names location_names before_names before_pairs before_locations ahead_of first_stage parse_mention content_from print_mentions print parse_byte read_groups write_groups fixed_from read_sum read_moment from_count
renumbers-tailed = refl
