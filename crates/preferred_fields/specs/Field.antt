-- A field, and its preferred form. To be believed.
use Rattle.std.specs.Prelude.{ℕ, List, ◌∷◌, ◌++◌, length}
use Rattle.counts.specs.Count.{write_count}
use Rattle.pieces.specs.Content.{Content, content_of, print}

-- a field by its ID and what its data say
pub record FieldContent : Type 0 where
  pub id : ℕ
  pub content : Content

-- a field by its ID and data
abbrev pub field_with : ℕ → List ℕ → FieldContent
field_with i d = record { id = i; content = content_of i d }

-- "Field: ID byte, size as a count, data"; "each size to match"; "Rewriting always shortens such a size": a padded one
unfoldable pub print_field : FieldContent → List ℕ
print_field c = c.id ∷ (write_count (length (print c.content)) ++ print c.content)
