-- The next country of a view, by the view's numbers, whatever they are. To be believed; the steps are `step_at` (countries' specs/Step.antt).
use Rattle.std.specs.declared.option.Option.{Option}
use Rattle.std.specs.declared.option.Option.TheVariants.{None, Some}
use Rattle.std.specs.Prelude.{ℕ, List}
use Rattle.pool.specs.declared.Span.{Span}
use Rattle.countries.specs.Step.{step_at}
use Rattle.field_search.specs.Search.{field_place}
use Rattle.location_lookup.specs.Location.{lent_part, text_in}
use Rattle.location_lookup.specs.declared.Pair.{Pair}

abbrev pub no_bytes : Span
no_bytes = record { at = 0; len = 0 }

-- the texts are parts of the pool, which is field 0
abbrev pub pair_by : List ℕ → ℕ → ℕ → ℕ → ℕ → Option (ℕ × ℕ × ℕ) → Pair
pair_by f name code at left None = record { name = no_bytes; code = no_bytes; at = at; left = left }
pair_by f name code at left (Some (p, b, c)) = record { name = text_in f b c name; code = text_in f b c code; at = at; left = left }

unfoldable pub pair_of : List ℕ → ℕ → ℕ → ℕ → ℕ → Pair
pair_of f name code at left = pair_by f name code at left (field_place 0 f)

abbrev pub next_by : List ℕ → ℕ → ℕ → Option (ℕ × ℕ) → Option Pair
next_by f at left (Some (name, code)) = Some (pair_of f name code at left)
next_by f at left None = None

-- the view: where the field's data start and end in f, the place of the next country in them, and how many are left
unfoldable pub next_of : List ℕ → ℕ → ℕ → ℕ → ℕ → Option Pair
next_of f start end at left =
    next_by f (step_at (lent_part f start end) at left).at (step_at (lent_part f start end) at left).left (step_at (lent_part f start end) at left).item
