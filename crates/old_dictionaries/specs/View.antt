-- What the code's results stand for. The code's way, tied to the content by `PairTo` and `TurnTo` themselves.
use Rattle.base.specs.declared.Refusal.{Refusal}
use Rattle.std.specs.declared.option.Option.{Option}
use Rattle.std.specs.declared.option.Option.TheVariants.{None, Some}
use Rattle.std.specs.Prelude.{ℕ, ◌-◌, ◌≤◌, ◌≡◌, Bool, true, false, List, [], ◌∷◌, ◌++◌, length, take, drop}
use Rattle.base.specs.Parsed.{Parsed, got, bad}
use Rattle.string_order.specs.Order.{ordering}
use Rattle.std.specs.declared.cmp.Ordering.{Ordering}
use Rattle.std.specs.declared.cmp.Ordering.TheVariants.{Less, Equal, Greater}
use Rattle.aliases.specs.Dictionary.{Entry, entry, Dictionary, keys}
use Rattle.ids.specs.Ids.{among}
use Rattle.old_texts.specs.OldText.{parse_old_text}
use Rattle.old_dictionaries.specs.OldDictionary.{after_key, parse_entry}
use Rattle.old_dictionaries.specs.Pairs.{parse_pair}
use Rattle.old_dictionaries.specs.declared.Turn.{Turn}
use Rattle.old_dictionaries.specs.declared.Turn.TheVariants.{Next, Bad, Unordered}

-- the bytes of s from a to e
abbrev pub part : ℕ → ℕ → List ℕ → List ℕ
part a e s = take (e - a) (drop a s)

-- a pair in the bytes s: its key stands from b to c, its value from v to e
abbrev pub PairTo : List ℕ → Parsed Entry → Option (ℕ × ℕ × ℕ × ℕ) → Type 0
PairTo s p (Some (b, c, v, e)) = (b ≤ c) × (c ≤ v) × (v ≤ e) × (e ≤ length s) × (p ≡ got (entry (part b c s) (part v e s)) (drop e s))
PairTo s p None = (k : Refusal) × (p ≡ bad k)

pub record PairAt (s : List ℕ) (place : ℕ) (r : Option (ℕ × ℕ × ℕ × ℕ)) : Type 0 where
  pub means : PairTo s (parse_pair (drop place s)) r

abbrev pub is_less : Ordering → Bool
is_less Less = true
is_less Equal = false
is_less Greater = false

-- the value at a place of s; the largest key so far stays as it is
abbrev pub ValueTo : List ℕ → ℕ → ℕ → Parsed (List ℕ) → Turn → Type 0
ValueTo s lo hi p (Next e b c) = (b ≡ lo) × (c ≡ hi) × (e ≤ length s) × (y : List ℕ) × (p ≡ got y (drop e s))
ValueTo s lo hi p (Bad k) = p ≡ bad k
ValueTo s lo hi p Unordered = ⊥

pub record ValueAt (s : List ℕ) (place lo hi : ℕ) (r : Turn) : Type 0 where
  pub means : ValueTo s lo hi (parse_old_text (drop place s)) r

-- the next entry of s, behind the entries pre, and the largest key then; nothing is said of an entry whose key is not larger than those before
abbrev pub TurnTo : List ℕ → Dictionary → Parsed Entry → Turn → Type 0
TurnTo s pre p (Next e b c) =
    (b ≤ c) × (c ≤ length s) × (e ≤ length s) × (x : Entry) × (p ≡ got x (drop e s)) × ((y : List ℕ) → ordering (part b c s) y ≡ Less → among y (keys (pre ++ (x ∷ []))) ≡ false)
TurnTo s pre p (Bad k) = p ≡ bad k
TurnTo s pre p Unordered = Unit {0}

-- none of the keys of pre comes behind the string m
abbrev pub Largest : List ℕ → Dictionary → Type 0
Largest m pre = (x : List ℕ) → ordering m x ≡ Less → among x (keys pre) ≡ false

-- with a key that was read, from b to c
pub record Keyed (s : List ℕ) (lo hi b c : ℕ) (r : Turn) : Type 0 where
  pub means : (pre : Dictionary) → Largest (part lo hi s) pre → TurnTo s pre (after_key pre (part b c s) (drop c s)) r

-- at a place
pub record Turned (s : List ℕ) (lo hi place : ℕ) (r : Turn) : Type 0 where
  pub means : (pre : Dictionary) → Largest (part lo hi s) pre → TurnTo s pre (parse_entry pre (drop place s)) r
