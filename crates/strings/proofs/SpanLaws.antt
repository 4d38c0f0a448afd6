-- The length code of a pool's string has one byte or two, since no string has more than 1,024 bytes. Assumes nothing.
use Rattle.base.proofs.PairLaws.{ok_parts}
use Rattle.base.specs.declared.Refusal.{Refusal}
use Rattle.std.specs.Prelude.{Err, Ok}
use Rattle.base.specs.Coded.{Coded}
use Rattle.base.specs.declared.Refusal.TheVariants.{BadCode}
use mathlib.Core.Path.{◌≡◌, refl, sym, ◌∙◌, ap}
use mathlib.Core.Bool.{Bool, true, false}
use mathlib.Core.List.{List, [], ◌∷◌}
use Prim.Native.Nat.{ℕ, ◌+◌, ◌*◌, ◌%◌, ◌≤◌, ◌<◌}
use native.Mathlib.Nat.{add-zero}
use native.Mathlib.Omega.{arith}
use lib.Dec.{ltb, eqb}
use lib.ListN.{length, drop, get_or, length-drop}
use lib.Seq.{get_or-drop}
use borrow.Author.Tests.{le-ltb, eqb-false}
use Rattle.base.specs.Pick.{pick}
use Rattle.counts.specs.Groups.{read_groups, more}
use Rattle.counts.specs.Count.{read_count}
use Rattle.counts.proofs.CountLaws.{byte-count}
use Rattle.pool.specs.Pool.{strings_of}
use Rattle.pool.specs.Index.{Ready, span_in, span_at, span_of}
use Rattle.pool.proofs.StringLaws.{Found, string-found, start_is}

refused : {n a : ℕ} {k : Refusal} {A : Type 0} → ◌≡◌ {A = Coded ℕ} (Err k) (Ok (n, a)) → A
refused e = let z : ◌≡◌ {A = ℕ} 0 1 = cc in absurd (omega arith)

record Two (b c n a : ℕ) : Type 0 where
  value : n ≡ b % 128 + 128 * c
  size : a ≡ 2

-- what follows a byte with its top bit set, where the count is small
module _ (b c n a : ℕ) (l : n ≤ 1024) where
  last : (u : Bool) → pick {A = Coded ℕ} u (Err BadCode) (Ok (b % 128 + 128 * c, 1 + 1)) ≡ Ok (n, a) → Two b c n a
  last true e = refused e
  last false e =
      let v : n ≡ b % 128 + 128 * c = sym (ok_parts e).0 in
      let s : a ≡ 1 + 1 = sym (ok_parts e).1 in
      record { value = v; size = s }

  far : (x : Coded ℕ) → more b (more c x) ≡ Ok (n, a) → Two b c n a
  far (Err k) e = refused e
  far (Ok (v, m)) e = go (eqb v 0) refl e
    where
      large : (eqb v 0 ≡ false) → (u : Bool) → pick {A = Coded ℕ} u (Err BadCode) (Ok (b % 128 + 128 * (c % 128 + 128 * v), m + 1 + 1)) ≡ Ok (n, a) → Two b c n a
      large z true f = refused f
      large z false f =
          let y : n ≡ b % 128 + 128 * (c % 128 + 128 * v) = sym (ok_parts f).0 in
          absurd (eqb-false v 0 z (omega arith))

      go : (u : Bool) → eqb v 0 ≡ u → more b (pick {A = Coded ℕ} u (Err BadCode) (Ok (c % 128 + 128 * v, m + 1))) ≡ Ok (n, a) → Two b c n a
      go true z f = refused f
      go false z f = large z (eqb (c % 128 + 128 * v) 0) f

  behind : (t : List ℕ) (u : Bool) → more b (pick {A = Coded ℕ} u (Ok (c, 1)) (more c (read_groups 2 7 t))) ≡ Ok (n, a) → Two b c n a
  behind t true e = last (eqb c 0) e
  behind t false e = far (read_groups 2 7 t) e

record TwoIn (s : List ℕ) (n a : ℕ) : Type 0 where
  there : 2 ≤ length s
  value : n ≡ get_or s 0 0 % 128 + 128 * get_or s 1 0
  size : a ≡ 2

two : (s : List ℕ) (n a : ℕ) → read_count s ≡ Ok (n, a) → n ≤ 1024 → 128 ≤ get_or s 0 0 → TwoIn s n a
unfolding read_groups
two [] n a e l h = absurd (omega arith)
two (b ∷ []) n a e l h = refused (rw (le-ltb b 128 h) at e)
two (b ∷ c ∷ t) n a e l h =
    let w = behind b c n a l t (ltb c 128) (rw (le-ltb b 128 h) at e) in
    record { there = omega arith; value = w.value; size = w.size }

-- what the code reads where an index that is ready points
module _ (d ix : List ℕ) (j : ℕ) (r : Ready d ix) (l : j < length (strings_of d)) where
  code : Found d (get_or ix j 0) (get_or (strings_of d) j [])
  code = rw (start_is d j l ix r) (string-found d j l)

  pub code-there : get_or ix j 0 < length d
  code-there = omega (arith, code.here.some, code.here.inside, length-drop (get_or ix j 0) d, code.inside)

  span-is : (n a : ℕ) → read_count (drop (get_or ix j 0) d) ≡ Ok (n, a) → span_in (get_or ix j 0) (Ok (n, a)) ≡ span_of d j
  span-is n a e = ap (span_in (get_or ix j 0)) (sym e) ∙ ap (span_at d) (start_is d j l ix r)

  pub span-one : get_or d (get_or ix j 0) 0 < 128 → span_in (get_or ix j 0) (Ok (get_or d (get_or ix j 0) 0, 1)) ≡ span_of d j
  span-one h = span-is (get_or d (get_or ix j 0) 0) 1 (byte-count d (get_or ix j 0) code-there h)

  module _ (h : 128 ≤ get_or d (get_or ix j 0) 0) where
    first : get_or (drop (get_or ix j 0) d) 0 0 ≡ get_or d (get_or ix j 0) 0
    first = get_or-drop (get_or ix j 0) d 0 0 ∙ ap (λ (m : ℕ). get_or d m 0) (add-zero (get_or ix j 0))

    long : TwoIn (drop (get_or ix j 0) d) code.n code.a
    long = two (drop (get_or ix j 0) d) code.n code.a code.here.count code.here.small (rw first h)

    pub code-more : get_or ix j 0 + 1 < length d
    code-more = omega (arith, long.there, length-drop (get_or ix j 0) d)

    length-is : code.n ≡ get_or d (get_or ix j 0) 0 % 128 + 128 * get_or d (get_or ix j 0 + 1) 0
    length-is = long.value ∙ rw (first, get_or-drop (get_or ix j 0) d 1 0) refl

    pub span-two : span_in (get_or ix j 0) (Ok (get_or d (get_or ix j 0) 0 % 128 + 128 * get_or d (get_or ix j 0 + 1) 0, 2)) ≡ span_of d j
    span-two =
        span-is (get_or d (get_or ix j 0) 0 % 128 + 128 * get_or d (get_or ix j 0 + 1) 0) 2
        (code.here.count ∙ ap (λ (m : ℕ). Ok (m, code.a)) length-is ∙ ap (λ (m : ℕ). Ok (get_or d (get_or ix j 0) 0 % 128 + 128 * get_or d (get_or ix j 0 + 1) 0, m)) long.size)
