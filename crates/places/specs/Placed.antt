-- What a reader at a place of a field's data gives, against the definitions, which read from the front of a list.
-- The code's way, places in the data, tied to the definitions over lists by `Stands` itself.
use Rattle.base.specs.declared.Refusal.{Refusal}
use Rattle.base.specs.Coded.{Coded}
use Rattle.std.specs.Prelude.{ℕ, ◌≤◌, ◌≡◌, List, length, drop, Err, Ok}
use Rattle.base.specs.Parsed.{Parsed, got, bad}

-- a value and the place behind it, or a refusal
pub data Placed (A : Type 0) : Type 0 where
  at : A → ℕ → Placed A
  no : Refusal → Placed A

abbrev pub view_placed : {A : Type 0} → List ℕ → Placed A → Parsed A
view_placed s (at a e) = got a (drop e s)
view_placed s (no n) = bad n

abbrev pub InBytes : {A : Type 0} → List ℕ → Placed A → Type 0
InBytes s (at a e) = e ≤ length s
InBytes s (no n) = Unit {0}

-- x, with a place in s, is the parse p of what stands in s from some place on
pub record Stands {A : Type 0} (s : List ℕ) (p : Parsed A) (x : Placed A) : Type 0 where
  pub means : p ≡ view_placed s x
  pub within : InBytes s x

abbrev pub of_read : Coded ℕ → Placed ℕ
of_read (Ok (v, e)) = at v e
of_read (Err n) = no n
