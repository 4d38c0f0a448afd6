-- Laws of a question line: one for each way that the code returns. Assumes nothing.
use Rattle.std.specs.declared.option.Option.{Option}
use Rattle.std.specs.declared.option.Option.TheVariants.{None, Some}
use mathlib.Core.Path.{◌≡◌, refl, ap, ◌∙◌}
use mathlib.Core.Bool.{Bool, true, false}
use mathlib.Core.List.{List, [], ◌∷◌}
use Prim.Native.Nat.{ℕ, zero, suc, ◌+◌, ◌*◌, ◌-◌, ◌^◌, ◌≤◌, ◌<◌}
use native.Mathlib.Nat.{pow-suc, pow-le-pow_right, zero-add}
use native.Mathlib.Numerals.{add-one}
use native.Mathlib.Omega.{arith}
use lib.Dec.{ltb, leb, eqb}
use lib.IntN.{ℤ, pos, negsuc, ◌-ℤ◌}
use lib.ListN.{length, get_or, drop}
use lib.Seq.{drop-cons, take-length, drop-length}
use mir.Syntax.{w64}
use mir.Val.{to_z, of_z, SFits}
use mir.Facts.{to_z-of_z, to_z_pos}
use borrow.Author.Tests.{lt-ltb, le-ltb, le-leb, lt-leb, eq-eqb, ne_eqb}
use Rattle.byte_search.specs.Bytes.{index_of, index_after, slice}
use Rattle.base.specs.Equal.{equal}
use Rattle.base.specs.Pick.{both}
use Rattle.base.proofs.Tests.{pick-holds}
use Rattle.answer_lines.specs.Decimal.{digit}
use Rattle.lines.specs.Question.{past_range, ticks_of, marked, behind_digits, digits, ticks, parse_line}
use Rattle.lines.specs.declared.Kind.{Kind}
use Rattle.lines.specs.declared.Kind.TheVariants.{Plain, Part, All}

-- ---- the place of a byte

pub found : (b : ℕ) (s : List ℕ) → 0 + index_of b (slice 0 (length s) s) ≡ index_of b s
unfolding slice
found b s = rw (take-length s) (zero-add (index_of b s))

pub index-le : (b : ℕ) (s : List ℕ) → index_of b s ≤ length s
unfolding index_of index_after
index-le b [] = omega arith
index-le b (x ∷ r) = go (eqb x b) (index-le b r)
  where
    go : (t : Bool) → index_of b r ≤ length r → index_after t (index_of b r) ≤ suc (length r)
    go true h = omega arith
    go false h = omega arith

-- ---- the ticks

minus_one : (k : ℕ) → negsuc 0 -ℤ pos k ≡ negsuc k
minus_one zero = refl
minus_one (suc k) = ap negsuc (omega arith)

module _ (v : ℕ) (h : v < 2 ^ 63) where
  pub ticks-plus : to_z w64 v ≡ ticks_of false v
  unfolding ticks_of
  ticks-plus = to_z_pos w64 {n = v} h ∙ rw (lt-ltb v (2 ^ 63) h)

  pub minus-fits : SFits w64 (negsuc 0 -ℤ to_z w64 v)
  minus-fits = rw (to_z_pos w64 {n = v} h, minus_one v) (record { sfits = h })

  pub ticks-minus : to_z w64 (of_z w64 (negsuc 0 -ℤ to_z w64 v)) ≡ ticks_of true (suc v)
  unfolding ticks_of
  ticks-minus = to_z-of_z minus-fits ∙ rw (to_z_pos w64 {n = v} h, minus_one v, lt-ltb v (2 ^ 63) h)

pub ticks-zero : (v : ℕ) → v ≡ 0 → pos 0 ≡ ticks_of true v
unfolding ticks_of
ticks-zero v e = rw e

module _ (v : ℕ) (h : 2 ^ 63 ≤ v) where
  pub past-plus : past_range ≡ ticks_of false v
  unfolding ticks_of
  past-plus = rw (le-ltb v (2 ^ 63) h)

  pub past-minus : past_range ≡ ticks_of true (suc v)
  unfolding ticks_of
  past-minus = rw (le-ltb v (2 ^ 63) h)

-- ---- the mark

module _ (n : ℕ) (t : ℤ) (s : List ℕ) where
  pub mark-none : length s ≡ 0 → Some (n, t, Plain) ≡ marked n t s
  unfolding marked equal
  mark-none = go s
    where
      go : (r : List ℕ) → length r ≡ 0 → Some (n, t, Plain) ≡ marked n t r
      go [] e = refl
      go (b ∷ r) e = absurd (omega arith)

  some : (length s ≡ 0 → ⊥) → equal s [] ≡ false
  unfolding equal
  some = go s
    where
      go : (r : List ℕ) → (length r ≡ 0 → ⊥) → equal r [] ≡ false
      go [] f = absurd (f refl)
      go (b ∷ r) f = refl

  module _ (f : length s ≡ 0 → ⊥) where
    pub mark-part : equal s (32 ∷ 112 ∷ 97 ∷ 114 ∷ 116 ∷ []) ≡ true → Some (n, t, Part) ≡ marked n t s
    unfolding marked
    mark-part e = rw (some f, e)

    pub mark-all : equal s (32 ∷ 112 ∷ 97 ∷ 114 ∷ 116 ∷ []) ≡ false → equal s (32 ∷ 97 ∷ 108 ∷ 108 ∷ []) ≡ true → Some (n, t, All) ≡ marked n t s
    unfolding marked
    mark-all e g = rw (some f, e, g)

    pub mark-other : equal s (32 ∷ 112 ∷ 97 ∷ 114 ∷ 116 ∷ []) ≡ false → equal s (32 ∷ 97 ∷ 108 ∷ 108 ∷ []) ≡ false → None ≡ marked n t s
    unfolding marked
    mark-other e g = rw (some f, e, g)

-- ---- the digits

module _ (n : ℕ) (minus : Bool) where
  pub digits-none : (i v : ℕ) (s : List ℕ) → i ≡ 0 → None ≡ behind_digits n minus i v s
  unfolding behind_digits
  digits-none i v s e = rw e

  pub digits-some : (i v : ℕ) (s : List ℕ) → (i ≡ 0 → ⊥) → marked n (ticks_of minus v) s ≡ behind_digits n minus i v s
  unfolding behind_digits
  digits-some zero v s f = absurd (f refl)
  digits-some (suc i) v s f = refl

  module _ (i v : ℕ) (s : List ℕ) where
    pub digits-end : length s ≤ i → i ≤ length s → behind_digits n minus i v (drop i s) ≡ digits n minus i v (drop i s)
    unfolding digits
    digits-end h l = let e : length s ≡ i = omega arith in go (drop i s) (rw (← e) (drop-length s))
      where
        go : (r : List ℕ) → r ≡ [] → behind_digits n minus i v r ≡ digits n minus i v r
        go r e = rw e

    module _ (h : i < length s) where
      pub digits-stop : both (ltb i 19) (digit (get_or s i 0)) ≡ false → behind_digits n minus i v (drop i s) ≡ digits n minus i v (drop i s)
      unfolding digits
      digits-stop e = rw (drop-cons s i 0 h, e)

      pub digits-go : both (ltb i 19) (digit (get_or s i 0)) ≡ true
          → digits n minus i v (drop i s) ≡ digits n minus (i + 1) (10 * v + (get_or s i 0 - 48)) (drop (i + 1) s)
      unfolding digits
      digits-go e = rw (drop-cons s i 0 h, e, add-one i)

-- the three tests of a digit
pub enough-digits : (i b : ℕ) → 19 ≤ i → both (ltb i 19) (digit b) ≡ false
enough-digits i b h = rw (le-ltb i 19 h)

pub below-digit : (i b : ℕ) → i < 19 → b < 48 → both (ltb i 19) (digit b) ≡ false
below-digit i b h l = rw (lt-ltb i 19 h, lt-leb 48 b l)

pub above-digit : (i b : ℕ) → i < 19 → 48 ≤ b → 57 < b → both (ltb i 19) (digit b) ≡ false
above-digit i b h l m = rw (lt-ltb i 19 h, le-leb 48 b l, lt-leb b 57 m)

pub a-digit : (i b : ℕ) → i < 19 → 48 ≤ b → b ≤ 57 → both (ltb i 19) (digit b) ≡ true
a-digit i b h l m = rw (lt-ltb i 19 h, le-leb 48 b l, le-leb b 57 m)

-- i digits make a number below 10 ^ i
pub digits-bound : (i v b : ℕ) → v < 10 ^ i → b ≤ 57 → 10 * v + (b - 48) < 10 ^ (i + 1)
digits-bound i v b h l = rw (add-one i, pow-suc 10 i) (omega arith)

pub digits-fit : (i v : ℕ) → v < 10 ^ i → i < 19 → 10 * v + 9 < 2 ^ 64
digits-fit i v h l = let m : 10 ^ i ≤ 10 ^ 18 = pow-le-pow_right {n = 10} (omega arith) {i = i} {j = 18} (omega arith) in omega arith

-- ---- the minus and the ID

pub ticks-none : (n : ℕ) (s : List ℕ) → length s ≡ 0 → None ≡ ticks n s
unfolding ticks
ticks-none n [] e = refl
ticks-none n (b ∷ r) e = absurd (omega arith)

pub ticks-minus-sign : (n : ℕ) (s : List ℕ) → (length s ≡ 0 → ⊥) → get_or s 0 0 ≡ 45 → digits n true 0 0 (drop 1 s) ≡ ticks n s
unfolding ticks
ticks-minus-sign n [] f e = absurd (f refl)
ticks-minus-sign n (b ∷ r) f e = rw (eq-eqb b 45 e)

pub ticks-no-sign : (n : ℕ) (s : List ℕ) → (length s ≡ 0 → ⊥) → (get_or s 0 0 ≡ 45 → ⊥) → digits n false 0 0 s ≡ ticks n s
unfolding ticks
ticks-no-sign n [] f e = absurd (f refl)
ticks-no-sign n (b ∷ r) f e = rw (ne_eqb b 45 e)

module _ (s : List ℕ) where
  pub too_long : 2048 < length s → None ≡ parse_line s
  unfolding parse_line
  too_long h = rw (lt-leb (length s) 2048 h)

  module _ (h : length s ≤ 2048) (k : ℕ) (e : k ≡ index_of 32 s) where
    pub with-id : k < length s → ticks k (drop (k + 1) s) ≡ parse_line s
    unfolding parse_line
    with-id l = rw (le-leb (length s) 2048 h, ← e, lt-ltb k (length s) l)

    pub no-space : length s ≤ k → None ≡ parse_line s
    unfolding parse_line
    no-space l = rw (le-leb (length s) 2048 h, ← e, le-ltb k (length s) l)

-- ---- the ID is a part of the line

-- an understood line has an ID of n bytes
abbrev IdIs : ℕ → Option (ℕ × ℤ × Kind) → Type 0
IdIs n (Some (m, t, k)) = m ≡ n
IdIs n None = Unit {0}

marked-id : (n : ℕ) (t : ℤ) (s : List ℕ) → IdIs n (marked n t s)
unfolding marked
marked-id n t s =
    pick-holds (IdIs n) (equal s []) (λ e. refl)
    (λ e. pick-holds (IdIs n) (equal s (32 ∷ 112 ∷ 97 ∷ 114 ∷ 116 ∷ [])) (λ f. refl)
    (λ f. pick-holds (IdIs n) (equal s (32 ∷ 97 ∷ 108 ∷ 108 ∷ [])) (λ g. refl) (λ g. tt)))

behind-id : (n : ℕ) (minus : Bool) (i v : ℕ) (s : List ℕ) → IdIs n (behind_digits n minus i v s)
unfolding behind_digits
behind-id n minus zero v s = tt
behind-id n minus (suc i) v s = marked-id n (ticks_of minus v) s

digits-id : (n : ℕ) (minus : Bool) (i v : ℕ) (s : List ℕ) → IdIs n (digits n minus i v s)
unfolding digits
digits-id n minus i v [] = behind-id n minus i v []
digits-id n minus i v (b ∷ r) =
    let more : IdIs n (digits n minus (suc i) (10 * v + (b - 48)) r) = digits-id n minus (suc i) (10 * v + (b - 48)) r in
    pick-holds (IdIs n) (both (ltb i 19) (digit b)) (λ e. more) (λ e. behind-id n minus i v (b ∷ r))

ticks-id : (n : ℕ) (s : List ℕ) → IdIs n (ticks n s)
unfolding ticks
ticks-id n [] = tt
ticks-id n (b ∷ r) = pick-holds (IdIs n) (eqb b 45) (λ e. digits-id n true 0 0 r) (λ e. digits-id n false 0 0 (b ∷ r))

pub id-within : (s : List ℕ) (n : ℕ) (t : ℤ) (k : Kind) → Some (n, t, k) ≡ parse_line s → n ≤ length s
unfolding parse_line
id-within s n t k e = omega (arith, index-le 32 s, rw (← e) at parsed)
  where
    parsed : IdIs (index_of 32 s) (parse_line s)
    parsed =
        pick-holds (IdIs (index_of 32 s)) (leb (length s) 2048)
        (λ h. pick-holds (IdIs (index_of 32 s)) (ltb (index_of 32 s) (length s)) (λ l. ticks-id (index_of 32 s) (drop (index_of 32 s + 1) s)) (λ l. tt))
        (λ h. tt)
