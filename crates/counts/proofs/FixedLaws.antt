-- Laws of numbers in a fixed number of bytes, at every width. Assumes nothing.
use Rattle.std.specs.Prelude.{Err, Ok}
use Rattle.base.specs.Coded.{Coded}
use mathlib.Core.Path.{◌≡◌, refl, sym, ap, ap₂, ◌∙◌, subst⁻¹}
use mathlib.Core.List.{List, [], ◌∷◌, ◌++◌}
use Prim.Native.Nat.{ℕ, zero, suc, ◌+◌, ◌*◌, ◌-◌, ◌/◌, ◌%◌, ◌^◌, ◌≤◌, ◌<◌}
use native.Mathlib.Omega.{arith}
use native.Mathlib.Numerals.{add-one}
use native.Mathlib.Nat.{one-le-pow, pow-suc, mul-le-mul_right, mul-le-mul_left, mul-le-mul, div-eq_of_lt-le, div-add-mod'}
use lib.Dec.{leb, lit≤}
use lib.Arith.{mod-mul}
use lib.ListN.{length, get_or, drop, length-append}
use lib.Seq.{drop-cons}
use borrow.Author.Tests.{le-leb, leb-true}
use Rattle.base.proofs.Tests.{pick-holds}
use Rattle.base.proofs.Parts.{Bytes}
use Rattle.counts.specs.Fixed.{fixed_from, read_fixed, fixed_bytes, prefixed}
pub use Rattle.counts.specs.Facts.{Between, FixedRead}

-- the loop that reads them: i of n bytes are read, which give v
pub fixed-next : (n i v : ℕ) (s : List ℕ) → i < n → n ≤ length s
    → fixed_from (n - (i + 1)) (v * 256 + get_or s i 0) (drop (i + 1) s) ≡ fixed_from (n - i) v (drop i s)
unfolding fixed_from
fixed-next n i v s h l =
    let e : n - i ≡ suc (n - (i + 1)) = omega arith in
    rw (e, drop-cons s i 0 (omega arith), add-one i)

pub fixed-done : (n i v : ℕ) (s : List ℕ) → n ≤ i → fixed_from (n - i) v (drop i s) ≡ v
unfolding fixed_from
fixed-done n i v s h = let e : n - i ≡ 0 = omega arith in rw e

-- a byte more uses up a width
room-suc : (n high b : ℕ) → b < 256 → (high * 256 + b + 1) * 256 ^ n ≤ (high + 1) * 256 ^ suc n
room-suc n high b hb =
    let l : b ≤ 255 = omega arith in
    rw pow-suc (omega (arith, mul-le-mul_right (256 ^ n) l))

-- the next number fits, and leaves room for the bytes after it
pub room : (n i v b m : ℕ) → i < n → b < 256 → (v + 1) * 256 ^ (n - i) ≤ m
    → ((v * 256 + b + 1) * 256 ^ (n - (i + 1)) ≤ m) × (v * 256 + b < m)
room n i v b m h hb l =
    let e : n - i ≡ suc (n - (i + 1)) = omega arith in
    let w = room-suc (n - (i + 1)) v b hb in
    let k = rw e at l in
    (omega arith, omega (arith, mul-le-mul_left (v * 256 + b + 1) (one-le-pow (n - (i + 1)) 256 (lit≤ tt))))

pub fixed-between : (n high : ℕ) (s : List ℕ) → Bytes s → n ≤ length s → Between n high (fixed_from n high s)
unfolding fixed_from
fixed-between zero high s h l = record { low = omega arith; below = omega arith }
fixed-between (suc n) high [] h l = absurd (omega arith)
fixed-between (suc n) high (b ∷ s) h l =
    let q = fixed-between n (high * 256 + b) s (λ i. h (suc i)) (omega arith) in
    record { low = rw pow-suc (omega arith); below = omega (arith, room-suc n high b (h 0)) }

-- what was written in n bytes is read back, whatever stands before and follows
pub fixed-written : (n high v : ℕ) (rest : List ℕ) → fixed_from n high (fixed_bytes n v ++ rest) ≡ high * 256 ^ n + v % 256 ^ n
unfolding fixed_from fixed_bytes
fixed-written zero high v rest = omega arith
fixed-written (suc n) high v rest =
    let m : v % (256 * 256 ^ n) ≡ (v / 256 ^ n % 256) * 256 ^ n + v % 256 ^ n = mod-mul v (lit≤ tt) (one-le-pow n 256 (lit≤ tt)) in
    let p : 256 ^ suc n ≡ 256 * 256 ^ n = rw pow-suc (omega arith) in
    fixed-written n (high * 256 + v / 256 ^ n % 256) v rest ∙ rw (p, m) (omega arith)

-- n bytes are the written form of the number that they give
pub fixed-form : (n high : ℕ) (s : List ℕ) → Bytes s → n ≤ length s → s ≡ fixed_bytes n (fixed_from n high s) ++ drop n s
unfolding fixed_from fixed_bytes
fixed-form zero high s h l = refl
fixed-form (suc n) high [] h l = absurd (omega arith)
fixed-form (suc n) high (b ∷ s) h l =
    let t : Bytes s = λ i. h (suc i) in
    let q = fixed-between n (high * 256 + b) s t (omega arith) in
    let d : fixed_from n (high * 256 + b) s / 256 ^ n ≡ high * 256 + b = div-eq_of_lt-le (256 ^ n) q.low q.below in
    let m : b < 256 = h 0 in
    rw d (ap₂ ◌∷◌ (omega arith) (fixed-form n (high * 256 + b) s t (omega arith)))

pub length-fixed : (n v : ℕ) → length (fixed_bytes n v) ≡ n
unfolding fixed_bytes
length-fixed zero v = refl
length-fixed (suc n) v = ap suc (length-fixed n v)

pub fixed-bytes : (n v : ℕ) → Bytes (fixed_bytes n v)
unfolding fixed_bytes
fixed-bytes zero v i = omega arith
fixed-bytes (suc n) v zero = omega arith
fixed-bytes (suc n) v (suc i) = fixed-bytes n v i

abbrev IsFixed : ℕ → ℕ → List ℕ → Coded ℕ → Type 0
IsFixed n high s (Ok (v, m)) = FixedRead n high s v m
IsFixed n high s (Err k) = Unit

pub fixed-read : (n high : ℕ) (s : List ℕ) {v m : ℕ} → Ok (v, m) ≡ read_fixed n high s → FixedRead n high s v m
fixed-read n high s e =
    subst⁻¹ (IsFixed n high s) e
    (pick-holds (IsFixed n high s) (leb n (length s)) (λ t. record { value = refl; size = refl; within = leb-true n (length s) t }) (λ _. tt))

pub read-fixed-written : (n high v : ℕ) (rest : List ℕ) → read_fixed n high (fixed_bytes n v ++ rest) ≡ Ok (high * 256 ^ n + v % 256 ^ n, n)
read-fixed-written n high v rest =
    rw (le-leb n (length (fixed_bytes n v ++ rest)) (simp (length-append, length-fixed) (omega arith)))
    (ap (λ (w : ℕ). Ok (w, n)) (fixed-written n high v rest))

-- a number behind a prefix, whose first byte has the bits of high: it is read back, whatever follows, and is the written form of what it gives
pub prefixed-written : (n high v : ℕ) (rest : List ℕ) → v / 256 ^ n ≡ high → read_fixed n high (fixed_bytes n v ++ rest) ≡ Ok (v, n)
prefixed-written n high v rest e =
    let g : high * 256 ^ n + v % 256 ^ n ≡ v = rw e at (div-add-mod' v (256 ^ n)) in
    rw (read-fixed-written n high v rest, g)

pub prefixed-form : (n prefix high : ℕ) (s : List ℕ) → Bytes s → n ≤ length s
    → (prefix + high) ∷ s ≡ prefixed n prefix (fixed_from n high s) ++ drop n s
prefixed-form n prefix high s h l =
    let q = fixed-between n high s h l in
    let d : fixed_from n high s / 256 ^ n ≡ high = div-eq_of_lt-le (256 ^ n) q.low q.below in
    rw d (ap (λ (x : List ℕ). (prefix + high) ∷ x) (fixed-form n high s h l))

pub length-prefixed : (n prefix v : ℕ) → length (prefixed n prefix v) ≡ n + 1
length-prefixed n prefix v = rw (length-fixed n v) (omega arith)

-- the widths of forms of at most three bytes behind the first
three : (n : ℕ) → n ≤ 3 → 256 ^ n ≤ 16777216
three zero h = lit≤ tt
three (suc zero) h = lit≤ tt
three (suc (suc zero)) h = lit≤ tt
three (suc (suc (suc zero))) h = lit≤ tt
three (suc (suc (suc (suc n)))) h = absurd (omega arith)

pub width : (n high wide : ℕ) → n ≤ 3 → high < wide → (high + 1) * 256 ^ n ≤ wide * 16777216
width n high wide hn hh =
    let a : high + 1 ≤ wide = omega arith in
    mul-le-mul a (three n hn)

-- four bytes, one after the other
pub four_is : (s : List ℕ) (at : ℕ) → at + 4 ≤ length s
    → ((get_or s at 0 * 256 + get_or s (at + 1) 0) * 256 + get_or s (at + 2) 0) * 256 + get_or s (at + 3) 0 ≡ fixed_from 4 0 (drop at s)
unfolding fixed_from
four_is s at h =
    let a : suc at ≡ at + 1 = omega arith in
    let b : suc (at + 1) ≡ at + 2 = omega arith in
    let c : suc (at + 2) ≡ at + 3 = omega arith in
    let d : drop at s ≡ get_or s at 0 ∷ get_or s (at + 1) 0 ∷ get_or s (at + 2) 0 ∷ get_or s (at + 3) 0 ∷ drop (suc (at + 3)) s =
    drop-cons s at 0 (omega arith)
    ∙ ap (λ (r : List ℕ). get_or s at 0 ∷ r) (ap (λ (i : ℕ). drop i s) a ∙ drop-cons s (at + 1) 0 (omega arith)
    ∙ ap (λ (r : List ℕ). get_or s (at + 1) 0 ∷ r) (ap (λ (i : ℕ). drop i s) b ∙ drop-cons s (at + 2) 0 (omega arith)
    ∙ ap (λ (r : List ℕ). get_or s (at + 2) 0 ∷ r) (ap (λ (i : ℕ). drop i s) c ∙ drop-cons s (at + 3) 0 (omega arith)))) in
    let z : get_or s at 0 ≡ 0 + get_or s at 0 = omega arith in
    rw d (ap (λ (x : ℕ). ((x * 256 + get_or s (at + 1) 0) * 256 + get_or s (at + 2) 0) * 256 + get_or s (at + 3) 0) z)

-- eight bytes, four and four
four-cons : (s : List ℕ) (at : ℕ) → at + 4 ≤ length s → drop at s ≡ get_or s at 0 ∷ get_or s (at + 1) 0 ∷ get_or s (at + 2) 0 ∷ get_or s (at + 3) 0 ∷ drop (at + 4) s
four-cons s at h =
    let a : suc at ≡ at + 1 = omega arith in
    let b : suc (at + 1) ≡ at + 2 = omega arith in
    let c : suc (at + 2) ≡ at + 3 = omega arith in
    let d : suc (at + 3) ≡ at + 4 = omega arith in
    drop-cons s at 0 (omega arith)
    ∙ ap (λ (r : List ℕ). get_or s at 0 ∷ r) (ap (λ (i : ℕ). drop i s) a ∙ drop-cons s (at + 1) 0 (omega arith)
    ∙ ap (λ (r : List ℕ). get_or s (at + 1) 0 ∷ r) (ap (λ (i : ℕ). drop i s) b ∙ drop-cons s (at + 2) 0 (omega arith)
    ∙ ap (λ (r : List ℕ). get_or s (at + 2) 0 ∷ r) (ap (λ (i : ℕ). drop i s) c ∙ drop-cons s (at + 3) 0 (omega arith)
    ∙ ap (λ (r : List ℕ). get_or s (at + 3) 0 ∷ r) (ap (λ (i : ℕ). drop i s) d))))

below-high : (x a b c d : ℕ) (r : List ℕ) → fixed_from 4 x (a ∷ b ∷ c ∷ d ∷ r) ≡ x * 4294967296 + fixed_from 4 0 (a ∷ b ∷ c ∷ d ∷ r)
unfolding fixed_from
below-high x a b c d r = omega arith

four-first : (a b c d : ℕ) (r : List ℕ) → fixed_from 8 0 (a ∷ b ∷ c ∷ d ∷ r) ≡ fixed_from 4 (fixed_from 4 0 (a ∷ b ∷ c ∷ d ∷ r)) r
unfolding fixed_from
four-first a b c d r = refl

pub eight_is : (s : List ℕ) (at : ℕ) → at + 8 ≤ length s → (a b : ℕ) → a ≡ fixed_from 4 0 (drop at s) → b ≡ fixed_from 4 0 (drop (at + 4) s)
    → a * 4294967296 + b ≡ fixed_from 8 0 (drop at s)
eight_is s at h a b e f =
    let p = four-cons s at (omega arith) in
    let q = four-cons s (at + 4) (omega arith) in
    ap (λ (x : ℕ). x * 4294967296 + b) e ∙ ap (λ (x : ℕ). fixed_from 4 0 (drop at s) * 4294967296 + x) f
    ∙ sym (ap (fixed_from 8 0) p ∙ four-first _ _ _ _ (drop (at + 4) s)
    ∙ ap (λ (r : List ℕ). fixed_from 4 (fixed_from 4 0 r) (drop (at + 4) s)) (sym p)
    ∙ ap (fixed_from 4 (fixed_from 4 0 (drop at s))) q ∙ below-high (fixed_from 4 0 (drop at s)) _ _ _ _ _
    ∙ ap (λ (r : List ℕ). fixed_from 4 0 (drop at s) * 4294967296 + fixed_from 4 0 r) (sym q))
