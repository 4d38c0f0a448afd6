-- What the writers of a field rely on. The code's way: internal functions alone use it; what they write is said by Field.antt.
use Rattle.std.specs.Prelude.{ℕ, ◌+◌, ◌≡◌, Bool, true, false, List, length}
use Rattle.counts.specs.Count.{write_count}
use Rattle.pieces.specs.Content.{content_of, print}
use Rattle.pieces.specs.Form.{Flagged}
use Rattle.pieces.specs.View.{HasContent}

-- d are the data of a zone, and its flag says what it says of them
pub record Told (flags d : List ℕ) : Type 0 where
  pub content : HasContent d
  pub flagged : Flagged flags d

-- b says whether the data d of a field with the ID i are copied, which are preferred then; else they are a zone's
pub record Copied (i : ℕ) (d : List ℕ) (b : Bool) : Type 0 where
  pub same : b ≡ true → print (content_of i d) ≡ d
  pub zone : b ≡ false → i ≡ 1

-- where b is true, a field with the ID i and the data d whose ID and size take so many bytes is in its preferred form
pub record Unchanged (i head : ℕ) (d : List ℕ) (b : Bool) : Type 0 where
  pub same : b ≡ true → print (content_of i d) ≡ d
  pub size : b ≡ true → head ≡ 1 + length (write_count (length d))
