-- UTF-8 by the table takes nothing but what encodes code points that are no surrogates: overlong forms, surrogates and numbers past
-- U+10FFFF are refused. Assumes nothing.
use Rattle.std.specs.declared.option.Option.TheVariants.{None, Some}
use mathlib.Core.Path.{◌≡◌, refl, sym, ◌∙◌, ap}
use mathlib.Core.List.{List, [], ◌∷◌, ◌++◌}
use mathlib.Core.Bool.{Bool, true}
use Prim.Native.Nat.{ℕ, zero, suc, ◌+◌, ◌*◌, ◌-◌, ◌/◌, ◌%◌, ◌≤◌, ◌<◌}
use native.Mathlib.Omega.{arith}
use native.Mathlib.Nat.{not-suc-le-zero}
use lib.ListN.{length, length-append}
use lib.Dec.{ltb, leb}
use borrow.Author.Tests.{lt-ltb, le-ltb, le-leb, lt-leb, ne_eqb}
use Rattle.base.specs.Pick.{pick}
use Rattle.base.proofs.Tests.{never, by_order, pick-holds}
use Rattle.utf8.specs.Utf8.{lead, going, chars, utf8}
use Rattle.utf8.specs.CodePoints.{scalar, encode, encode_all, scalars, Encoded}
use Rattle.utf8.proofs.EncodeLaws.{lead-1, lead-2, lead-e0, lead-3, lead-ed, lead-f0, lead-f1, lead-f4, lead-tail, lead-past, one}

-- a byte that was due
record Tail (k lo hi : ℕ) (s : List ℕ) : Type 0 where
  x : ℕ
  rest : List ℕ
  is : s ≡ x ∷ rest
  low : lo ≤ x
  high : x ≤ hi
  later : chars k 0x80 0xbf rest ≡ true

tail : (k lo hi : ℕ) (s : List ℕ) → chars (suc k) lo hi s ≡ true → Tail k lo hi s
unfolding chars
tail k lo hi [] e = never e (ne_eqb (suc k) 0 (λ z. omega arith))
tail k lo hi (x ∷ s) e =
    let d : suc k - 1 ≡ k = omega arith in
    let f : ◌≡◌ {A = Bool} (going (pick (leb lo x) (pick (leb x hi) (Some (k, 0x80, 0xbf)) None) None) (λ j l h. chars j l h s)) true = rw (ne_eqb (suc k) 0 (λ z. omega arith), d) at e in
    by_order x lo (λ l. never refl (sym (rw (lt-leb lo x l) at f)))
    (λ l. by_order hi x (λ m. never refl (sym (rw (le-leb lo x l, lt-leb x hi m) at f)))
    (λ m. record { x = x; rest = s; is = refl; low = l; high = m; later = rw (le-leb lo x l, le-leb x hi m) at f }))

-- the first character
record First (s : List ℕ) : Type 0 where
  point : ℕ
  rest : List ℕ
  right : scalar point ≡ true
  is : s ≡ encode point ++ rest
  later : utf8 rest ≡ true

-- the code points of two, three and four bytes
abbrev point-2 : ℕ → ℕ → ℕ
point-2 b x = (b - 0xc0) * 64 + (x - 0x80)

abbrev point-3 : ℕ → ℕ → ℕ → ℕ
point-3 b x y = ((b - 0xe0) * 64 + (x - 0x80)) * 64 + (y - 0x80)

abbrev point-4 : ℕ → ℕ → ℕ → ℕ → ℕ
point-4 b x y z = (((b - 0xf0) * 64 + (x - 0x80)) * 64 + (y - 0x80)) * 64 + (z - 0x80)

scalar-low : (c : ℕ) → c < 0xd800 → scalar c ≡ true
scalar-low c l = rw (lt-ltb c 0xd800 l)

scalar-high : (c : ℕ) → 0xe000 ≤ c → c ≤ 0x10ffff → scalar c ≡ true
scalar-high c l m = rw (le-ltb c 0xd800 (omega arith), le-leb 0xe000 c l, le-leb c 0x10ffff m)

-- six bits in a byte
high : (a x : ℕ) → 0x80 ≤ x → x ≤ 0xbf → (a * 64 + (x - 0x80)) / 64 ≡ a
high a x l h = omega arith

low : (a x : ℕ) → 0x80 ≤ x → x ≤ 0xbf → 0x80 + (a * 64 + (x - 0x80)) % 64 ≡ x
low a x l h = omega arith

module _ (b x : ℕ) (l : 0x80 ≤ x) (h : x ≤ 0xbf) (s : List ℕ) where
  encode-2 : 0xc2 ≤ b → b < 0xe0 → b ∷ x ∷ s ≡ encode (point-2 b x) ++ s
  unfolding encode
  encode-2 p q =
      let u : 0xc0 + (b - 0xc0) ≡ b = omega arith in
      rw (le-ltb (point-2 b x) 0x80 (omega arith), lt-ltb (point-2 b x) 0x800 (omega arith), high (b - 0xc0) x l h, low (b - 0xc0) x l h, u)

  module _ (y : ℕ) (l' : 0x80 ≤ y) (h' : y ≤ 0xbf) where
    encode-3 : 0xe0 ≤ b → 0x800 ≤ point-3 b x y → point-3 b x y < 0x10000 → b ∷ x ∷ y ∷ s ≡ encode (point-3 b x y) ++ s
    unfolding encode
    encode-3 p m n =
        let u : 0xe0 + (b - 0xe0) ≡ b = omega arith in
        rw (
          le-ltb (point-3 b x y) 0x80 (omega arith),
          le-ltb (point-3 b x y) 0x800 m,
          lt-ltb (point-3 b x y) 0x10000 n,
          high ((b - 0xe0) * 64 + (x - 0x80)) y l' h',
          low ((b - 0xe0) * 64 + (x - 0x80)) y l' h',
          high (b - 0xe0) x l h,
          low (b - 0xe0) x l h,
          u,
        )

    encode-4 : (z : ℕ) → 0x80 ≤ z → z ≤ 0xbf → 0xf0 ≤ b → 0x10000 ≤ point-4 b x y z → b ∷ x ∷ y ∷ z ∷ s ≡ encode (point-4 b x y z) ++ s
    unfolding encode
    encode-4 z v w p m =
        let u : 0xf0 + (b - 0xf0) ≡ b = omega arith in
        let a : ℕ = (b - 0xf0) * 64 + (x - 0x80) in
        rw (
          le-ltb (point-4 b x y z) 0x80 (omega arith),
          le-ltb (point-4 b x y z) 0x800 (omega arith),
          le-ltb (point-4 b x y z) 0x10000 m,
          high (a * 64 + (y - 0x80)) z v w,
          low (a * 64 + (y - 0x80)) z v w,
          high a y l' h',
          low a y l' h',
          high (b - 0xf0) x l h,
          low (b - 0xf0) x l h,
          u,
        )

module _ (b lo hi : ℕ) (s : List ℕ) (h : utf8 (b ∷ s) ≡ true) (l₀ : 0x80 ≤ lo) (h₀ : hi ≤ 0xbf) where
  -- what follows the first byte, where its row says how many bytes are due
  due : (k : ℕ) → lead b ≡ Some (k, lo, hi) → chars k lo hi s ≡ true
  unfolding chars
  due k e = rw e at h

  first-2 : lead b ≡ Some (1, lo, hi) → 0xc2 ≤ b → b < 0xe0 → First (b ∷ s)
  first-2 e l m =
      let t = tail 0 lo hi s (due 1 e) in
      record {
        point = point-2 b t.x;
        rest = t.rest;
        right = scalar-low (point-2 b t.x) (omega arith);
        is = ap (λ (r : List ℕ). b ∷ r) t.is ∙ encode-2 b t.x (omega arith) (omega arith) t.rest l m;
        later = t.later;
      }

  first-3 : lead b ≡ Some (2, lo, hi) → 0xe0 ≤ b → b < 0xf0 → ((x y : ℕ) → lo ≤ x → x ≤ hi → 0x80 ≤ y → y ≤ 0xbf → (0x800 ≤ point-3 b x y) × (scalar (point-3 b x y) ≡ true)) → First (b ∷ s)
  first-3 e l m f =
      let t = tail 1 lo hi s (due 2 e) in
      let u = tail 0 0x80 0xbf t.rest t.later in
      let g = f t.x u.x t.low t.high u.low u.high in
      record {
        point = point-3 b t.x u.x;
        rest = u.rest;
        right = g.1;
        is = ap (λ (r : List ℕ). b ∷ r) (t.is ∙ ap (λ (r : List ℕ). t.x ∷ r) u.is) ∙ encode-3 b t.x (omega arith) (omega arith) u.rest u.x u.low u.high l g.0 (omega arith);
        later = u.later;
      }

  first-4 : lead b ≡ Some (3, lo, hi) → 0xf0 ≤ b → ((x y z : ℕ) → lo ≤ x → x ≤ hi → 0x80 ≤ y → y ≤ 0xbf → 0x80 ≤ z → z ≤ 0xbf → (0x10000 ≤ point-4 b x y z) × (point-4 b x y z ≤ 0x10ffff)) → First (b ∷ s)
  first-4 e l f =
      let t = tail 2 lo hi s (due 3 e) in
      let u = tail 1 0x80 0xbf t.rest t.later in
      let v = tail 0 0x80 0xbf u.rest u.later in
      let g = f t.x u.x v.x t.low t.high u.low u.high v.low v.high in
      record {
        point = point-4 b t.x u.x v.x;
        rest = v.rest;
        right = scalar-high (point-4 b t.x u.x v.x) (omega (arith, g.0)) g.1;
        is = ap (λ (r : List ℕ). b ∷ r) (t.is ∙ ap (λ (r : List ℕ). t.x ∷ r) (u.is ∙ ap (λ (r : List ℕ). u.x ∷ r) v.is)) ∙ encode-4 b t.x (omega arith) (omega arith) v.rest u.x u.low u.high v.x v.low v.high l g.0;
        later = v.later;
      }

module _ (b : ℕ) (s : List ℕ) (h : utf8 (b ∷ s) ≡ true) where
  none : lead b ≡ None → First (b ∷ s)
  unfolding chars
  none e = never refl (sym (rw e at h))

  first-1 : b < 0x80 → First (b ∷ s)
  unfolding encode
  first-1 l = record { point = b; rest = s; right = scalar-low b (omega arith); is = rw (lt-ltb b 0x80 l); later = sym (one b 0 0 s (lead-1 b l)) ∙ h }

  first : First (b ∷ s)
  first = by_order b 0x80 first-1 (λ p. by_order b 0xc2 (λ l. none (lead-tail b p l))
      (λ p. by_order b 0xe0 (λ l. first-2 b 0x80 0xbf s h (omega arith) (omega arith) (lead-2 b p l) p l)
      (λ p. by_order b 0xe1 (λ l. first-3 b 0xa0 0xbf s h (omega arith) (omega arith) (lead-e0 b (omega arith)) (omega arith) (omega arith) (λ x y i j k m. (omega arith, scalar-low (point-3 b x y) (omega arith))))
      (λ p. by_order b 0xed (λ l. first-3 b 0x80 0xbf s h (omega arith) (omega arith) (lead-3 b (omega arith) (omega arith) (λ z. omega arith)) (omega arith) (omega arith) (λ x y i j k m. (omega arith, scalar-low (point-3 b x y) (omega arith))))
      (λ p. by_order b 0xee (λ l. first-3 b 0x80 0x9f s h (omega arith) (omega arith) (lead-ed b (omega arith)) (omega arith) (omega arith) (λ x y i j k m. (omega arith, scalar-low (point-3 b x y) (omega arith))))
      (λ p. by_order b 0xf0 (λ l. first-3 b 0x80 0xbf s h (omega arith) (omega arith) (lead-3 b (omega arith) l (λ z. omega arith)) (omega arith) (omega arith) (λ x y i j k m. (omega arith, scalar-high (point-3 b x y) (omega arith) (omega arith))))
      (λ p. by_order b 0xf1 (λ l. first-4 b 0x90 0xbf s h (omega arith) (omega arith) (lead-f0 b (omega arith)) (omega arith) (λ x y z i j k m n o. (omega arith, omega arith)))
      (λ p. by_order b 0xf4 (λ l. first-4 b 0x80 0xbf s h (omega arith) (omega arith) (lead-f1 b (omega arith) l) (omega arith) (λ x y z i j k m n o. (omega arith, omega arith)))
      (λ p. by_order b 0xf5 (λ l. first-4 b 0x80 0x8f s h (omega arith) (omega arith) (lead-f4 b (omega arith)) (omega arith) (λ x y z i j k m n o. (omega arith, omega arith)))
      (λ p. none (lead-past b (omega arith))))))))))))

encode-some : (c : ℕ) → 0 < length (encode c)
unfolding encode
encode-some c = pick-holds (λ (l : List ℕ). 0 < length l) (ltb c 0x80) (λ _. omega arith) (λ _.
    pick-holds (λ (l : List ℕ). 0 < length l) (ltb c 0x800) (λ _. omega arith) (λ _.
    pick-holds (λ (l : List ℕ). 0 < length l) (ltb c 0x10000) (λ _. omega arith) (λ _. omega arith)))

first-shorter : (s : List ℕ) (f : First s) → length f.rest < length s
first-shorter s f = simp (f.is, length-append) (omega (arith, encode-some f.point))

-- what is UTF-8 encodes code points that are no surrogates
pub utf8-encoded : (s : List ℕ) → utf8 s ≡ true → Encoded s
unfolding encode_all scalars
utf8-encoded s = go (length s) s (omega arith)
  where
    below : (n : ℕ) → ((t : List ℕ) → length t ≤ n → utf8 t ≡ true → Encoded t) → (t : List ℕ) → length t ≤ suc n → utf8 t ≡ true → Encoded t
    below n rec [] l e = record { points = []; right = refl; are = refl }
    below n rec (b ∷ t) l e =
        let f = first b t e in
        let r = rec f.rest (omega (arith, first-shorter (b ∷ t) f)) f.later in
        record {
          points = f.point ∷ r.points;
          right = rw f.right r.right;
          are = f.is ∙ ap (λ (q : List ℕ). encode f.point ++ q) r.are;
        }

    go : (n : ℕ) (t : List ℕ) → length t ≤ n → utf8 t ≡ true → Encoded t
    go zero [] l e = record { points = []; right = refl; are = refl }
    go zero (b ∷ t) l e = absurd (not-suc-le-zero l)
    go (suc n) t l e = below n (λ u m f. go n u m f) t l e
