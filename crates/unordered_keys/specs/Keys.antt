-- How arrays stand for the keys of the entries that were read: where each key lies, and the keys' numbers in their order. The code's way:
-- internal functions alone use it.
use Rattle.base.specs.declared.Refusal.{Refusal}
use Rattle.std.specs.Prelude.{ℕ, zero, suc, ◌+◌, ◌≤◌, ◌<◌, ◌≡◌, List, [], ◌∷◌, ◌++◌, Bool, false, length, get_or, drop, ltb, Err, Ok, Result}
use Rattle.base.specs.Pick.{pick}
use Rattle.base.specs.Parsed.{Parsed, got, bad}
use Rattle.ids.specs.Ids.{among}
use Rattle.ids.specs.Memory.{Sorted, Keeps}
use Rattle.aliases.specs.Dictionary.{Entry, Dictionary, keys}
use Rattle.old_dictionaries.specs.OldDictionary.{parse_entry}
use Rattle.old_dictionaries.specs.Pairs.{key_among}
use Rattle.old_dictionaries.specs.View.{part}

-- the keys that lie from the first n places of st to those of en
unfoldable pub keys_in : List ℕ → List ℕ → List ℕ → ℕ → List (List ℕ)
keys_in s st en zero = []
keys_in s st en (suc n) = keys_in s st en n ++ (part (get_or st n 0) (get_or en n 0) s ∷ [])

-- the first n of these places are of s
pub record Inside (s st en : List ℕ) (n : ℕ) : Type 0 where
  pub room : length st ≤ 8192
  pub ends : length en ≡ length st
  pub few : n ≤ length st
  pub order : (k : ℕ) → k < n → get_or st k 0 ≤ get_or en k 0
  pub inside : (k : ℕ) → k < n → get_or en k 0 ≤ length s

-- the arrays hold n keys
pub record Held (s st en : List ℕ) (n : ℕ) (od : List ℕ) : Type 0 where
  pub inside : Inside s st en n
  pub wide : length st + 257 ≤ length od
  pub sorted : Sorted (keys_in s st en n) od n

-- and stand for the strings mem
pub record Stands (s st en : List ℕ) (n : ℕ) (od : List ℕ) (mem : List (List ℕ)) : Type 0 where
  pub inside : Inside s st en n
  pub wide : length st + 257 ≤ length od
  pub keeps : Keeps (keys_in s st en n) od n mem

-- r says whether x is one of the keys, and if it is not, the arrays then stand for x too
pub record KeyTaken (s st en : List ℕ) (n : ℕ) (od x st' en' od' : List ℕ) (r : Bool) : Type 0 where
  pub said : (mem : List (List ℕ)) → Stands s st en n od mem → r ≡ among x mem
  pub kept : (mem : List (List ℕ)) → Stands s st en n od mem → r ≡ false → Stands s st' en' (n + 1) od' (x ∷ mem)

-- how many keys are remembered in arrays of m places: m, and none where a place may not fit in 32 bits
unfoldable pub limit_of : List ℕ → ℕ → ℕ
limit_of s m = pick (ltb 4294967295 (length s)) 0 m

-- of n entries so many are remembered
pub record Remembers (s st en : List ℕ) (n : ℕ) (od : List ℕ) (mem : List (List ℕ)) : Type 0 where
  pub most : n ≤ limit_of s (length st) → Stands s st en n od mem

-- the same of n entries from a place of s on, which have the keys mem
pub record Judged (s : List ℕ) (from n : ℕ) (st en od x st' en' od' : List ℕ) (r : Bool) : Type 0 where
  pub said : (mem : List (List ℕ)) → ((y : List ℕ) → key_among n y (drop from s) ≡ among y mem) → Remembers s st en n od mem → r ≡ among x mem
  pub kept : (mem : List (List ℕ)) → Remembers s st en n od mem → r ≡ false → Remembers s st' en' (n + 1) od' (x ∷ mem)

-- the entry at a place, behind the entries pre
abbrev pub StepTo : List ℕ → Dictionary → Parsed Entry → List ℕ → List ℕ → ℕ → List ℕ → Result ℕ Refusal → Type 0
StepTo s pre p st en n od (Ok e) = (e ≤ length s) × (x : Entry) × (p ≡ got x (drop e s)) × Remembers s st en (n + 1) od (keys (pre ++ (x ∷ [])))
StepTo s pre p st en n od (Err k) = p ≡ bad k

pub record Stepped (s : List ℕ) (from n place : ℕ) (st en od st' en' od' : List ℕ) (r : Result ℕ Refusal) : Type 0 where
  pub means : (pre : Dictionary) → ((y : List ℕ) → key_among n y (drop from s) ≡ among y (keys pre)) → Remembers s st en n od (keys pre)
      → StepTo s pre (parse_entry pre (drop place s)) st' en' n od' r

-- what is known of the arrays where mem is not named
pub record Arrays (s st en : List ℕ) (n : ℕ) (od : List ℕ) : Type 0 where
  pub most : n ≤ limit_of s (length st) → Held s st en n od
