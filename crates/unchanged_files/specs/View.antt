-- What the functions tell of uses and of fields. The code's way, tied to the closed file by `same-so` (proofs/SameLaws.antt).
use Rattle.std.specs.Prelude.{ℕ, suc, ◌+◌, ◌≤◌, ◌<◌, ◌≡◌, Bool, true, List, [], ◌∷◌, ◌++◌, length, get_or, drop}
use Rattle.std.proofs.Math.Option.{none, some}
use Rattle.base.specs.All.{All}
use Rattle.counts.specs.Count.{write_count}
use Rattle.pool.specs.Pool.{strings_of}
use Rattle.frames.specs.Frame.{Field}
use Rattle.frames.specs.Fields.{FieldOf, fields}
use Rattle.use_order.specs.Order.{mention_all}
use Rattle.closed_files.specs.File.{mentions_in, first_unread, write_field}
use Rattle.unchanged_files.specs.declared.Walked.{Walked}
use Rattle.unchanged_files.specs.declared.Walked.TheVariants.{Unread, Counted}

-- no number a is below b, and none was before
pub record NotBelow (a b bad r : ℕ) : Type 0 where
  pub order : r ≡ 0 → b ≤ a
  pub earlier : r ≡ 0 → bad ≡ 0

pub record DescendsWhere (r : Bool) (l : List ℕ) : Type 0 where
  pub descends : r ≡ true → (j : ℕ) → suc j < length l → get_or l (suc j) 0 ≤ get_or l j 0

-- n is as far as uses go that descend: the one before it is some, if there is one, and the one there none
pub record LastUsed (r : Bool) (uses : List ℕ) (n : ℕ) : Type 0 where
  pub last : r ≡ true → (j : ℕ) → suc j ≡ n → 0 < get_or uses j 0

pub record UsedUpTo (r : Bool) (uses : List ℕ) (n : ℕ) : Type 0 where
  pub within : r ≡ true → n ≤ length uses
  pub last : r ≡ true → (j : ℕ) → suc j ≡ n → 0 < get_or uses j 0
  pub next : r ≡ true → n < length uses → get_or uses n 0 ≡ 0

-- fields in the pool's own order: the uses descend, and n of them are some
pub record ClosedWhere (r p : Bool) (uses : List ℕ) (n : ℕ) : Type 0 where
  pub plain : r ≡ true → p ≡ true
  pub descends : r ≡ true → DescendsWhere true uses
  pub used : r ≡ true → UsedUpTo true uses n

-- where the ID i is a pool's, its data d have n strings
pub record PoolHas (n i : ℕ) (d : List ℕ) : Type 0 where
  pub strings : i ≡ 0 → n ≡ length (strings_of d)

-- the pool of f that stands behind the version has n strings
pub record FirstStrings (f : List ℕ) (n : ℕ) : Type 0 where
  pub means : (g : Field) → FieldOf f g → g.place ≡ 4 → PoolHas n g.id g.body

-- a field with a head of h bytes and the data d, behind others
pub record PlainField (r before : Bool) (i h : ℕ) (d : List ℕ) (n : ℕ) : Type 0 where
  pub earlier : r ≡ true → before ≡ true
  pub size : r ≡ true → h ≡ 1 + length (write_count (length d))
  pub pool : r ≡ true → PoolHas n i d

-- fields with their data as they are and sizes in the shortest form
unfoldable pub plain_fields : List Field → List ℕ
plain_fields [] = []
plain_fields (g ∷ gs) = write_field g.id g.body ++ plain_fields gs

-- all sizes are in the shortest form, and each pool has n strings
pub record PlainWhere (r : Bool) (f : List ℕ) (n : ℕ) : Type 0 where
  pub plain : r ≡ true → plain_fields (fields f) ≡ drop 4 f
  pub pools : r ≡ true → All (λ g. PoolHas n g.id g.body) (fields f)

abbrev pub WalksTo : List ℕ → ℕ → List ℕ → List ℕ → Walked → Type 0
WalksTo f n u w (Unread p) = first_unread (fields f) ≡ some p
WalksTo f n u w (Counted plain) =
    (first_unread (fields f) ≡ none) × (w ≡ mention_all (mentions_in (fields f)) u) × PlainWhere plain f n

-- a walk over the fields of f, which counts on the uses u and leaves w
pub record Walks (f : List ℕ) (n : ℕ) (u w : List ℕ) (r : Walked) : Type 0 where
  pub means : WalksTo f n u w r
