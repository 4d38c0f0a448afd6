-- Files by what stands in them, with their sizes in as many bytes as a supplier likes. To be believed: file-laid (proofs/PaddingLaws.antt) says
-- that every well-formed file is one of these, paddings-aside that their sizes' bytes are no content.
use Rattle.std.specs.Prelude.{ℕ, suc, ◌^◌, ◌≤◌, ◌<◌, ◌≡◌, List, [], ◌∷◌, ◌++◌, length}
use Rattle.base.specs.All.{All}
use Rattle.counts.specs.Groups.{padded_groups}
use Rattle.rewrite.specs.Preferred.{content, preferred}

-- a field as it stands in a file: its ID, how many bytes its size takes behind the first, its data
pub record Laid : Type 0 where
  pub id : ℕ
  pub more : ℕ
  pub body : List ℕ

-- "Field: ID byte, size as a count, data"; "trailing zero groups in a field size" where it takes more bytes than it needs
unfoldable pub lay_field : Laid → List ℕ
lay_field x = x.id ∷ (padded_groups x.more (length x.body) ++ x.body)

unfoldable pub lay_fields : List Laid → List ℕ
lay_fields [] = []
lay_fields (x ∷ xs) = lay_field x ++ lay_fields xs

-- "Version: four zero bytes"
unfoldable pub lay_file : List Laid → List ℕ
lay_file xs = 0 ∷ 0 ∷ 0 ∷ 0 ∷ lay_fields xs

-- "up to five bytes", and no fewer than the size needs
pub record Fits (x : Laid) : Type 0 where
  pub most : x.more ≤ 4
  pub enough : length x.body < 128 ^ suc x.more
  pub small : length x.body ≤ 2147483647

-- the same IDs and data in the same order; of the sizes' bytes nothing is said
abbrev pub SameButSizes : List Laid → List Laid → Type 0
SameButSizes [] [] = Unit {0}
SameButSizes [] (y ∷ ys) = ⊥
SameButSizes (x ∷ xs) [] = ⊥
SameButSizes (x ∷ xs) (y ∷ ys) = (x.id ≡ y.id) × (x.body ≡ y.body) × SameButSizes xs ys

-- "Rewriting always shortens such a size, so the preferred form is unchanged": of two files that differ in paddings
pub record PaddingsAside (f h : List ℕ) : Type 0 where
  pub same-content : content f ≡ content h
  pub same-preferred : preferred f ≡ preferred h

-- f is such a file
pub record IsLaid (f : List ℕ) : Type 0 where
  pub fields : List Laid
  pub fit : All Fits fields
  pub bytes : f ≡ lay_file fields
