-- The codes of a good zone by their first bytes: where each ends, and the pool numbers among them. The code's way, tied to what the data say by
-- `zone-stepped` (stepped_zones/proofs/ZoneLaws.antt): where a zone is read, each code stands as these say.
use Rattle.std.specs.Prelude.{ℕ, zero, suc, ◌+◌, ◌*◌, ◌%◌, List, [], ◌∷◌, ◌++◌, ltb, eqb, length, get_or}
use Rattle.base.specs.Pick.{pick}

-- behind a count: as long as top bits are set, more bytes follow, five at most
unfoldable pub count_end : List ℕ → ℕ → ℕ
count_end s p =
    pick (ltb (get_or s p 0) 128) (p + 1)
    (pick (ltb (get_or s (p + 1) 0) 128) (p + 2)
    (pick (ltb (get_or s (p + 2) 0) 128) (p + 3) (pick (ltb (get_or s (p + 3) 0) 128) (p + 4) (p + 5))))

-- behind a transition: 2 and eight bytes of ticks, or a count
unfoldable pub moment_end : List ℕ → ℕ → ℕ
moment_end s p = pick (eqb (get_or s p 0) 2) (p + 9) (count_end s p)

-- behind an offset
unfoldable pub sum_end : List ℕ → ℕ → ℕ
sum_end s p =
    pick (ltb (get_or s p 0) 128) (p + 1) (pick (ltb (get_or s p 0) 160) (p + 2) (pick (ltb (get_or s p 0) 192) (p + 3) (p + 4)))

-- a count of one or two bytes, as each pool number and each interval count is
unfoldable pub number_at : List ℕ → ℕ → ℕ
number_at s p = pick (ltb (get_or s p 0) 128) (get_or s p 0) (get_or s p 0 % 128 + 128 * get_or s (p + 1) 0)

unfoldable pub number_end : List ℕ → ℕ → ℕ
number_end s p = pick (ltb (get_or s p 0) 128) (p + 1) (p + 2)

-- behind an interval: transition, name, wall offset, savings
unfoldable pub interval_end : List ℕ → ℕ → ℕ
interval_end s p = sum_end s (sum_end s (number_end s (moment_end s p)))

-- n intervals from a place on: their names, and the place behind them
unfoldable pub list_names : List ℕ → ℕ → ℕ → List ℕ
list_names s p zero = []
list_names s p (suc n) = number_at s (moment_end s p) ∷ list_names s (interval_end s p) n

unfoldable pub list_end : List ℕ → ℕ → ℕ → ℕ
list_end s p zero = p
list_end s p (suc n) = list_end s (interval_end s p) n

-- a tail: the place of its standard name behind an offset, and of its daylight name behind a rule
unfoldable pub rule_end : List ℕ → ℕ → ℕ
rule_end s p = sum_end s (count_end s (count_end s (p + 1)))

unfoldable pub daylight_at : List ℕ → ℕ → ℕ
daylight_at s p = rule_end s (number_end s (sum_end s p))

-- from the tail byte on
unfoldable pub tail_names : List ℕ → ℕ → List ℕ
tail_names s p = pick (eqb (get_or s p 0) 1) (number_at s (sum_end s (p + 1)) ∷ number_at s (daylight_at s (p + 1)) ∷ []) []

unfoldable pub tail_end : List ℕ → ℕ → ℕ
tail_end s p = pick (eqb (get_or s p 0) 1) (number_end s (daylight_at s (p + 1))) (p + 1)

-- the place of the tail byte of a zone whose interval count stands at a place
unfoldable pub tail_at : List ℕ → ℕ → ℕ
tail_at s p = moment_end s (list_end s (number_end s p) (number_at s p))

-- from the flag on: a fixed zone's offset, and its name if the data go on; or the interval count, the intervals and the tail
unfoldable pub body_names : List ℕ → ℕ → List ℕ
body_names s p =
    pick (eqb (get_or s p 0) 1) (pick (ltb (sum_end s (p + 1)) (length s)) (number_at s (sum_end s (p + 1)) ∷ []) [])
    (list_names s (number_end s (p + 1)) (number_at s (p + 1)) ++ tail_names s (tail_at s (p + 1)))

unfoldable pub body_end : List ℕ → ℕ → ℕ
body_end s p =
    pick (eqb (get_or s p 0) 1) (pick (ltb (sum_end s (p + 1)) (length s)) (number_end s (sum_end s (p + 1))) (sum_end s (p + 1)))
    (tail_end s (tail_at s (p + 1)))

-- a zone: its ID, and the rest
unfoldable pub zone_names : List ℕ → List ℕ
zone_names s = number_at s 0 ∷ body_names s (number_end s 0)

unfoldable pub zone_end : List ℕ → ℕ
zone_end s = body_end s (number_end s 0)
