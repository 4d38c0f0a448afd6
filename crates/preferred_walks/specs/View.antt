-- What the walk over a well-formed file relies on. The code's way: internal functions alone use it; what the rewriter gives is said by
-- Preferred.antt.
use Rattle.std.specs.Prelude.{ℕ, ◌+◌, ◌≤◌, ◌≡◌, Bool, true, List, length, get_or}
use Rattle.frames.specs.Frame.{Field}
use Rattle.frames.specs.Fields.{fields}
use Rattle.frames.specs.Covers.{Covers}
use Rattle.base.specs.All.{All}
use Rattle.preferred_fields.specs.View.{Told}
use Rattle.rewrite.specs.Preferred.{preferred}

-- the data of every zone have a content, and its flag says whether they are in their preferred form
abbrev pub Readable : List ℕ → Field → Type 0
Readable flags g = g.id ≡ 1 → Told flags g.body

-- what the check of f has shown, and the flags that it left
pub record Rewritable (f flags : List ℕ) : Type 0 where
  pub covers : Covers f 4 (fields f)
  pub readable : All (Readable flags) (fields f)
  pub shorter : length (preferred f) ≤ length f
  pub limit : length (preferred f) ≤ 4194304

-- where r is true, a field of no data that is no zone stands at a place
pub record Empty (f : List ℕ) (at : ℕ) (r : Bool) : Type 0 where
  pub inside : r ≡ true → at + 2 ≤ length f
  pub other : r ≡ true → get_or f at 0 ≡ 1 → ⊥
  pub size : r ≡ true → get_or f (at + 1) 0 ≡ 0
