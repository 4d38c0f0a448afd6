-- Readers at a place: a small code there, and what a row of readers makes of what one gave. Assumes nothing.
use Rattle.base.specs.declared.Refusal.{Refusal}
use Rattle.std.specs.Prelude.{Err, Ok}
use Rattle.base.specs.Coded.{Coded}
use Rattle.base.specs.declared.Refusal.TheVariants.{BadData, BadText}
use mathlib.Core.Path.{◌≡◌, refl, sym, ◌∙◌, subst}
use mathlib.Core.Bool.{Bool, true, false}
use mathlib.Core.List.{List, []}
use Prim.Native.Nat.{ℕ, ◌+◌, ◌-◌, ◌≤◌, ◌<◌}
use native.Mathlib.Omega.{arith}
use native.Mathlib.Numerals.{add-one}
use lib.ListN.{length, take, drop, get_or, length-drop, drop_of_length-le}
use lib.Seq.{drop-drop, drop-cons}
use borrow.Author.Tests.{lt-ltb, le-ltb}
use Rattle.base.specs.Pick.{pick}
use Rattle.base.specs.Parsed.{Parsed, got, bad, bind, behind_code, parse, parse_byte, ended}
use Rattle.base.proofs.Parts.{part-from}
use Rattle.base.proofs.ParseLaws.{bad-got}
use Rattle.places.specs.Placed.{Placed, at, no, Stands}
use Rattle.places.specs.Name.{judge_name}

-- a code that is read from the front of what stands from a place on
module _ (read : List ℕ → Coded ℕ) (within : (s : List ℕ) (v n : ℕ) → Ok (v, n) ≡ read s → n ≤ length s)
    (s : List ℕ) (place : ℕ) (h : place ≤ length s) (r : Coded ℕ) (e : r ≡ read (take (length s - place) (drop place s))) where
  lent : read (drop place s) ≡ r
  lent = sym (rw (part-from place s) at e)

  pub code-in : (v n : ℕ) → r ≡ Ok (v, n) → place + n ≤ length s
  code-in v n f =
      let w : n ≤ length s - place = rw length-drop at (within (drop place s) v n (sym (lent ∙ f))) in
      omega arith

  pub code_at : (v n : ℕ) → r ≡ Ok (v, n) → Stands s (parse read (drop place s)) (at v (place + n))
  code_at v n f = record { means = rw (lent, f, drop-drop); within = code-in v n f }

  pub code-no : (k : Refusal) → r ≡ Err k → Stands s (parse read (drop place s)) (no k)
  code-no k f = record { means = rw (lent, f); within = tt }

pub byte-none : (s : List ℕ) (place : ℕ) → length s ≤ place → Stands s (parse_byte (drop place s)) (no BadData)
unfolding parse_byte
byte-none s place h = record { means = rw (drop_of_length-le s h); within = tt }

pub byte-some : (s : List ℕ) (place : ℕ) → place < length s → Stands s (parse_byte (drop place s)) (at (get_or s place 0) (place + 1))
unfolding parse_byte
byte-some s place h = record { means = rw (drop-cons s place 0 h, add-one place); within = omega arith }

-- what a row of readers goes on with
pub then-in : {A : Type 0} {s : List ℕ} {p : Parsed A} {x : Placed A} → Stands s p x → (a : A) (e : ℕ) → x ≡ at a e → e ≤ length s
then-in h a e f = rw f at h.within

module _ {A B : Type 0} {s : List ℕ} {p : Parsed A} {x : Placed A} (h : Stands s p x) where
  pub then-got : (k : A → List ℕ → Parsed B) (a : A) (e : ℕ) → x ≡ at a e → bind p k ≡ k a (drop e s)
  then-got k a e f = rw (h.means, f)

  pub then-bad : (k : A → List ℕ → Parsed B) (n : Refusal) → x ≡ no n → bind p k ≡ bad n
  then-bad k n f = rw (h.means, f)

  -- the same as what stands for the whole row
  pub on : (k : A → List ℕ → Parsed B) (a : A) (e : ℕ) (y : Placed B) → x ≡ at a e → Stands s (k a (drop e s)) y → Stands s (bind p k) y
  on k a e y f g = rw (then-got k a e f) g

  pub off : (k : A → List ℕ → Parsed B) (n : Refusal) → x ≡ no n → Stands s (bind p k) (no n)
  off k n f = record { means = then-bad k n f; within = tt }

-- a value that was read, at the end of a row
pub here : {A : Type 0} (s : List ℕ) (a b : A) (e : ℕ) → b ≡ a → e ≤ length s → Stands s (got a (drop e s)) (at b e)
here s a b e f h = record { means = rw f; within = h }

pub refuse : {A : Type 0} (s : List ℕ) (k : Refusal) → Stands {A = A} s (bad k) (no k)
refuse s k = record { means = refl; within = tt }

-- a test of what was read
pub stands-if : {A : Type 0} (s : List ℕ) (t : Bool) (p q : Parsed A) (x : Placed A) → t ≡ true → Stands s p x → Stands s (pick t p q) x
stands-if s t p q x e g = rw e g

pub stands-else : {A : Type 0} (s : List ℕ) (t : Bool) (p q : Parsed A) (x : Placed A) → t ≡ false → Stands s q x → Stands s (pick t p q) x
stands-else s t p q x e g = rw e g

-- "9 for leftovers last"
pub ended_here : {A : Type 0} (a : A) (s : List ℕ) (e : ℕ) → length s ≤ e → ended a (drop e s) ≡ got a []
unfolding ended
ended_here a s e h = rw (drop_of_length-le s h)

pub ended-over : {A : Type 0} (a : A) (s : List ℕ) (e : ℕ) → e < length s → ended a (drop e s) ≡ bad BadData
unfolding ended
ended-over a s e h = rw (drop-cons s e 0 h)

-- a pool number is below the pool's count
pub name_in : (s : List ℕ) (pool n e : ℕ) → n < pool → e ≤ length s → Stands s (judge_name pool n (drop e s)) (at n e)
unfolding judge_name
name_in s pool n e h w = rw (lt-ltb n pool h) (here s n n e refl w)

pub name_out : (s r : List ℕ) (pool n : ℕ) → pool ≤ n → Stands s (judge_name pool n r) (no BadText)
unfolding judge_name
name_out s r pool n h = rw (le-ltb n pool h) (refuse s BadText)

pub stands-is : {A : Type 0} {s : List ℕ} {p : Parsed A} {x y : Placed A} → Stands s p x → x ≡ y → Stands s p y
stands-is h e = rw (← e) h

-- what holds of a code's value, at whatever place it was read
pub code_holds : (read : List ℕ → Coded ℕ) (P : ℕ → Type 0) (holds : (s : List ℕ) (v n : ℕ) → Ok (v, n) ≡ read s → P v)
    (q : List ℕ) (v : ℕ) (r : List ℕ) → parse read q ≡ got v r → P v
code_holds read P holds q v r e = go (read q) refl e
  where
    go : (x : Coded ℕ) → x ≡ read q → behind_code q x ≡ got v r → P v
    go (Ok (w, n)) h k = let y : w ≡ v = cc in subst P y (holds q w n h)
    go (Err j) h k = bad-got k

pub placed-got : {A : Type 0} {s : List ℕ} {p : Parsed A} {x : Placed A} → Stands s p x → (a : A) (e : ℕ) → x ≡ at a e → p ≡ got a (drop e s)
placed-got h a e f = rw (h.means, f)
