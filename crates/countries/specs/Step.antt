-- "a view of one location that holds the lent bytes and a place, so the picker can step through its countries, each name and code once in file
-- order, then no more". To be believed; `in_order` (proofs/OrderLaws.antt) says it of the content's list of countries.
use Rattle.std.specs.declared.option.Option.{Option}
use Rattle.std.specs.declared.option.Option.TheVariants.{None, Some}
use Rattle.std.specs.Prelude.{ℕ, zero, suc, ◌-◌, List, length, drop}
use Rattle.base.specs.Parsed.{Parsed, got, bad, bind, parse}
use Rattle.counts.specs.Count.{read_count}
use Rattle.locations.specs.declared.Country.{Country}
use Rattle.countries.specs.declared.Stepped.{Stepped}

-- a country's name and code at the front of some data, as pool numbers
unfoldable pub read_country : List ℕ → Parsed Country
read_country s = bind (parse read_count s) (λ name r. bind (parse read_count r) (λ code r. got (record { name = name; code = code }) r))

abbrev pub item : Country → Option (ℕ × ℕ)
item c = Some (c.name, c.code)

-- the cursor goes behind a country; where none stands it stays, so that "no more" stays
abbrev pub behind : List ℕ → ℕ → ℕ → Parsed Country → Stepped
behind s at n (got c r) = record { item = item c; at = length s - length r; left = n }
behind s at n (bad k) = record { item = None; at = at; left = suc n }

-- a step from the place at of the field's data s, with so many countries left
unfoldable pub step_at : List ℕ → ℕ → ℕ → Stepped
step_at s at zero = record { item = None; at = at; left = 0 }
step_at s at (suc n) = behind s at n (read_country (drop at s))

-- what the k-th step gives, from 0
unfoldable pub given : List ℕ → ℕ → ℕ → ℕ → Option (ℕ × ℕ)
given s at left zero = (step_at s at left).item
given s at left (suc k) = given s (step_at s at left).at (step_at s at left).left k
