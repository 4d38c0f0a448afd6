-- UTF-8 by the table takes what encodes code points (RFC 3629, section 3). Assumes nothing.
use Rattle.std.specs.declared.option.Option.TheVariants.{None, Some}
use mathlib.Core.Path.{◌≡◌, refl, ◌∙◌}
use mathlib.Core.List.{List, [], ◌∷◌, ◌++◌}
use mathlib.Core.Bool.{true}
use Prim.Native.Nat.{ℕ, ◌+◌, ◌/◌, ◌%◌, ◌≤◌, ◌<◌}
use native.Mathlib.Omega.{arith}
use lib.Dec.{leb}
use borrow.Author.Tests.{lt-ltb, le-ltb, le-leb, ne_eqb, leb-true}
use Rattle.base.proofs.Tests.{by_order, both_left, both_right}
use Rattle.utf8.specs.Utf8.{lead, chars, utf8}
use Rattle.utf8.specs.CodePoints.{scalar, encode, encode_all, scalars}

-- The rows of the table.
module _ (b : ℕ) where
  pub lead-1 : b < 0x80 → lead b ≡ Some (0, 0x80, 0xbf)
  lead-1 h = rw (lt-ltb b 0x80 h)

  pub lead-2 : 0xc2 ≤ b → b < 0xe0 → lead b ≡ Some (1, 0x80, 0xbf)
  lead-2 h l = rw (le-ltb b 0x80 (omega arith), le-ltb b 0xc2 h, lt-ltb b 0xe0 l)

  pub lead-e0 : b ≡ 0xe0 → lead b ≡ Some (2, 0xa0, 0xbf)
  lead-e0 h = rw h

  pub lead-3 : 0xe0 < b → b < 0xf0 → (b ≡ 0xed → ⊥) → lead b ≡ Some (2, 0x80, 0xbf)
  lead-3 h l n = rw (le-ltb b 0x80 (omega arith), le-ltb b 0xc2 (omega arith), le-ltb b 0xe0 (omega arith), ne_eqb b 0xe0 (λ e. omega arith), ne_eqb b 0xed n, lt-ltb b 0xf0 l)

  pub lead-ed : b ≡ 0xed → lead b ≡ Some (2, 0x80, 0x9f)
  lead-ed h = rw h

  pub lead-f0 : b ≡ 0xf0 → lead b ≡ Some (3, 0x90, 0xbf)
  lead-f0 h = rw h

  pub lead-f1 : 0xf0 < b → b < 0xf4 → lead b ≡ Some (3, 0x80, 0xbf)
  lead-f1 h l = rw (le-ltb b 0x80 (omega arith), le-ltb b 0xc2 (omega arith), le-ltb b 0xe0 (omega arith), ne_eqb b 0xe0 (λ e. omega arith), ne_eqb b 0xed (λ e. omega arith), le-ltb b 0xf0 (omega arith), ne_eqb b 0xf0 (λ e. omega arith), lt-ltb b 0xf4 l)

  pub lead-f4 : b ≡ 0xf4 → lead b ≡ Some (3, 0x80, 0x8f)
  lead-f4 h = rw h

  pub lead-tail : 0x80 ≤ b → b < 0xc2 → lead b ≡ None
  lead-tail h l = rw (le-ltb b 0x80 h, lt-ltb b 0xc2 l)

  pub lead-past : 0xf4 < b → lead b ≡ None
  lead-past h = rw (le-ltb b 0x80 (omega arith), le-ltb b 0xc2 (omega arith), le-ltb b 0xe0 (omega arith), ne_eqb b 0xe0 (λ e. omega arith), ne_eqb b 0xed (λ e. omega arith), le-ltb b 0xf0 (omega arith), ne_eqb b 0xf0 (λ e. omega arith), le-ltb b 0xf4 (omega arith), ne_eqb b 0xf4 (λ e. omega arith))

-- Characters of one to four bytes, by the row of the first.
module _ (b : ℕ) (lo hi : ℕ) (s : List ℕ) where
  pub one : lead b ≡ Some (0, 0x80, 0xbf) → utf8 (b ∷ s) ≡ utf8 s
  unfolding chars
  one e = rw e

  two : (x : ℕ) → lead b ≡ Some (1, lo, hi) → lo ≤ x → x ≤ hi → utf8 (b ∷ x ∷ s) ≡ utf8 s
  unfolding chars
  two x e l h = rw (e, le-leb lo x l, le-leb x hi h)

  three : (x y : ℕ) → lead b ≡ Some (2, lo, hi) → lo ≤ x → x ≤ hi → 0x80 ≤ y → y ≤ 0xbf → utf8 (b ∷ x ∷ y ∷ s) ≡ utf8 s
  unfolding chars
  three x y e l h p q = rw (e, le-leb lo x l, le-leb x hi h, le-leb 0x80 y p, le-leb y 0xbf q)

  four : (x y z : ℕ) → lead b ≡ Some (3, lo, hi) → lo ≤ x → x ≤ hi → 0x80 ≤ y → y ≤ 0xbf → 0x80 ≤ z → z ≤ 0xbf → utf8 (b ∷ x ∷ y ∷ z ∷ s) ≡ utf8 s
  unfolding chars
  four x y z e l h p q v w = rw (e, le-leb lo x l, le-leb x hi h, le-leb 0x80 y p, le-leb y 0xbf q, le-leb 0x80 z v, le-leb z 0xbf w)

pub scalar-most : (c : ℕ) → scalar c ≡ true → c ≤ 0x10ffff
scalar-most c e = by_order c 0xd800 (λ l. omega arith) (λ l. leb-true c 0x10ffff (both_right (leb 0xe000 c) (leb c 0x10ffff) (rw (le-ltb c 0xd800 l) at e)))

pub scalar-outside : (c : ℕ) → scalar c ≡ true → 0xd800 ≤ c → 0xe000 ≤ c
scalar-outside c e l = leb-true 0xe000 c (both_left (leb 0xe000 c) (leb c 0x10ffff) (rw (le-ltb c 0xd800 l) at e))

-- the bytes of a code point are passed
pub encode-read : (c : ℕ) (s : List ℕ) → scalar c ≡ true → utf8 (encode c ++ s) ≡ utf8 s
unfolding encode
encode-read c s e = by_order c 0x80
    (λ l. rw (lt-ltb c 0x80 l) (one c 0 0 s (lead-1 c l)))
    (λ l. by_order c 0x800
    (λ m. rw (le-ltb c 0x80 l, lt-ltb c 0x800 m) (two (0xc0 + c / 64) 0x80 0xbf s (0x80 + c % 64) (lead-2 (0xc0 + c / 64) (omega arith) (omega arith)) (omega arith) (omega arith)))
    (λ m. by_order c 0x10000
    (λ n. rw (le-ltb c 0x80 l, le-ltb c 0x800 m, lt-ltb c 0x10000 n) (by_order c 0x1000
    (λ k. three (0xe0 + c / 64 / 64) 0xa0 0xbf s (0x80 + c / 64 % 64) (0x80 + c % 64) (lead-e0 (0xe0 + c / 64 / 64) (omega arith)) (omega arith) (omega arith) (omega arith) (omega arith))
    (λ k. by_order c 0xd000
    (λ j. three (0xe0 + c / 64 / 64) 0x80 0xbf s (0x80 + c / 64 % 64) (0x80 + c % 64) (lead-3 (0xe0 + c / 64 / 64) (omega arith) (omega arith) (λ z. omega arith)) (omega arith) (omega arith) (omega arith) (omega arith))
    (λ j. by_order c 0xd800
    (λ i. three (0xe0 + c / 64 / 64) 0x80 0x9f s (0x80 + c / 64 % 64) (0x80 + c % 64) (lead-ed (0xe0 + c / 64 / 64) (omega arith)) (omega arith) (omega arith) (omega arith) (omega arith))
    (λ i. let o = scalar-outside c e i in
    three (0xe0 + c / 64 / 64) 0x80 0xbf s (0x80 + c / 64 % 64) (0x80 + c % 64) (lead-3 (0xe0 + c / 64 / 64) (omega arith) (omega arith) (λ z. omega arith)) (omega arith) (omega arith) (omega arith) (omega arith))))))
    (λ n. let o = scalar-most c e in
    rw (le-ltb c 0x80 l, le-ltb c 0x800 m, le-ltb c 0x10000 n) (by_order c 0x40000
    (λ k. four (0xf0 + c / 64 / 64 / 64) 0x90 0xbf s (0x80 + c / 64 / 64 % 64) (0x80 + c / 64 % 64) (0x80 + c % 64) (lead-f0 (0xf0 + c / 64 / 64 / 64) (omega arith)) (omega arith) (omega arith) (omega arith) (omega arith) (omega arith) (omega arith))
    (λ k. by_order c 0x100000
    (λ j. four (0xf0 + c / 64 / 64 / 64) 0x80 0xbf s (0x80 + c / 64 / 64 % 64) (0x80 + c / 64 % 64) (0x80 + c % 64) (lead-f1 (0xf0 + c / 64 / 64 / 64) (omega arith) (omega arith)) (omega arith) (omega arith) (omega arith) (omega arith) (omega arith) (omega arith))
    (λ j. four (0xf0 + c / 64 / 64 / 64) 0x80 0x8f s (0x80 + c / 64 / 64 % 64) (0x80 + c / 64 % 64) (0x80 + c % 64) (lead-f4 (0xf0 + c / 64 / 64 / 64) (omega arith)) (omega arith) (omega arith) (omega arith) (omega arith) (omega arith) (omega arith)))))))

-- what encodes code points that are no surrogates is UTF-8
pub encoded-utf8 : (cs : List ℕ) → scalars cs ≡ true → utf8 (encode_all cs) ≡ true
unfolding encode_all scalars chars
encoded-utf8 [] e = refl
encoded-utf8 (c ∷ cs) e = encode-read c (encode_all cs) (both_left (scalar c) (scalars cs) e) ∙ encoded-utf8 cs (both_right (scalar c) (scalars cs) e)
