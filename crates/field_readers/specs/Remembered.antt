-- How what is remembered and the lent arrays stand for the check's memory, and what the reader of each field says of it. The code's way: internal functions alone use it; what the check gives is said by field_checks/specs/Check.antt.
use Rattle.base.specs.declared.Refusal.{Refusal}
use Rattle.std.specs.Prelude.{ℕ, ◌+◌, ◌-◌, ◌≤◌, ◌≡◌, List, [], length, take, drop, eqb, Err, Ok, Result}
use Rattle.base.specs.Pick.{pick}
use Rattle.pool.specs.Pool.{strings_of}
use Rattle.pool.specs.Index.{Ready}
use Rattle.ids.specs.Memory.{Sorted, Keeps}
use Rattle.locations.specs.declared.LocationField.{LocationField}
use Rattle.frames.specs.Machine.{Content, bad, answer, keep}
use Rattle.field_checks.specs.Check.{TextPlace, nowhere, placed, Memory, pool_kept, zone_kept, text_kept, aliases_kept, judged, locations_kept}
use Rattle.field_readers.specs.declared.Kept.{Kept}

-- the bytes from the place a up to e
abbrev pub part : List ℕ → ℕ → ℕ → List ℕ
part s a e = take (e - a) (drop a s)

-- the pool's data
abbrev pub pool_of : List ℕ → Kept → List ℕ
pool_of s k = part s k.start k.end

-- where the version text lies; 0 stands for none, as no text's bytes start there
abbrev pub text_of : Kept → TextPlace
text_of k = pick (eqb k.text 0) nowhere (placed k.text k.len)

-- the array ix is the index of the pool
pub record Indexed (s : List ℕ) (k : Kept) (ix : List ℕ) : Type 0 where
  pub first : k.start ≤ k.end
  pub last : k.end ≤ length s
  pub ready : Ready (pool_of s k) ix
  pub count : k.count ≡ length (strings_of (pool_of s k))

-- the array od has the numbers of the zones' IDs, in order
abbrev pub Ordered : List ℕ → Kept → List ℕ → Type 0
Ordered s k od = Sorted (strings_of (pool_of s k)) od k.zones

-- k and the array od stand for the memory y
pub record Stands (s : List ℕ) (k : Kept) (od : List ℕ) (y : Memory) : Type 0 where
  pub strings : y.pool ≡ strings_of (pool_of s k)
  pub ids : Keeps (strings_of (pool_of s k)) od k.zones y.ids
  pub text : y.text ≡ text_of k

-- what the definition says of a field, and what the code says
abbrev pub Says : List ℕ → List ℕ → List ℕ → Content Memory ⊥ → Result Kept Refusal → Type 0
Says s ix od (bad n) (Err m) = m ≡ n
Says s ix od (bad n) (Ok k) = ⊥
Says s ix od (answer v) r = ⊥
Says s ix od (keep y) (Err m) = ⊥
Says s ix od (keep y) (Ok k) = Indexed s k ix × Stands s k od y

-- the numbers of as many strings as the index has places have room in the array od
abbrev pub Wide : List ℕ → List ℕ → Type 0
Wide ix od = length ix + 257 ≤ length od

pub record TookPool (s : List ℕ) (k : Kept) (a e : ℕ) (ix ix' : List ℕ) (r : Result Kept Refusal) : Type 0 where
  pub means : (od : List ℕ) (y : Memory) → Stands s k od y → y.ids ≡ [] → Wide ix od
      → Says s ix' od (pool_kept y (part s a e)) r

pub record TookZone (s : List ℕ) (k : Kept) (a e : ℕ) (ix od od' : List ℕ) (r : Result Kept Refusal) : Type 0 where
  pub means : (y : Memory) → Stands s k od y → Says s ix od' (zone_kept y (part s a e)) r

pub record TookText (s : List ℕ) (k : Kept) (a e : ℕ) (r : Result Kept Refusal) : Type 0 where
  pub means : (ix od : List ℕ) (y : Memory) → Indexed s k ix → Stands s k od y → Says s ix od (text_kept y a (part s a e)) r

pub record TookAliases (s : List ℕ) (k : Kept) (a e : ℕ) (ix : List ℕ) (r : Result Kept Refusal) : Type 0 where
  pub means : (od : List ℕ) (y : Memory) → Stands s k od y → Says s ix od (aliases_kept y (part s a e)) r

pub record TookLocations (s : List ℕ) (k : Kept) (a e : ℕ) (field : LocationField) (r : Result Kept Refusal) : Type 0 where
  pub means : (ix od : List ℕ) (y : Memory) → Indexed s k ix → Stands s k od y → Says s ix od (locations_kept y field (part s a e)) r

pub record TookField (s : List ℕ) (k : Kept) (i a e : ℕ) (ix od ix' od' : List ℕ) (r : Result Kept Refusal) : Type 0 where
  pub means : (y : Memory) → Stands s k od y → (i ≡ 0 → (y.ids ≡ []) × Wide ix od) → Says s ix' od' (judged y i a (part s a e)) r
