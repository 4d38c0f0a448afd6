-- The shortest rule of a count, apart from reading its groups; from it and the laws of any form, what more bytes do. Assumes nothing.
use Rattle.base.specs.declared.Refusal.{Refusal}
use Rattle.std.specs.Prelude.{Err, Ok}
use Rattle.base.specs.Coded.{Coded}
use Rattle.base.specs.declared.Refusal.TheVariants.{BadCode, BadData}
use mathlib.Core.Path.{◌≡◌, refl, ap, sym, ◌∙◌, subst}
use mathlib.Core.List.{List, [], ◌∷◌, ◌++◌}
use mathlib.Core.Bool.{Bool, true, false}
use mathlib.Core.Logic.{◌⊎◌, inl}
use Prim.Native.Nat.{ℕ, zero, suc, ◌+◌, ◌*◌, ◌-◌, ◌%◌, ◌≤◌, ◌<◌}
use native.Mathlib.Omega.{arith}
use lib.Dec.{ltb, leb, eqb}
use lib.ListN.{length, get_or, get_or-append}
use borrow.Author.Tests.{lt-ltb, le-ltb, eq-eqb, ne_eqb, ltb-false, eqb-true, eqb-false}
use Rattle.base.specs.Pick.{pick, both}
use Rattle.base.proofs.Tests.{clash}
use Rattle.counts.specs.Groups.{grouped, any_groups, shortest, more, read_groups}
use Rattle.counts.proofs.AnyGroupLaws.{IsAny, is_any, any_same, any-past, any-refused}

-- a byte with its top bit set, before a code that is judged, and judged with it
more-shortest : (k top b : ℕ) (s : List ℕ) (g : Coded ℕ) → IsAny k top s g → more b (shortest s g) ≡ shortest (b ∷ s) (grouped b g)
unfolding shortest
more-shortest k top b s (Err j) h = refl
more-shortest k top b s (Ok (v, n)) h =
    let e : n + 1 - 1 ≡ suc (n - 1) = omega arith in
    rw (lt-ltb 1 (n + 1) (omega arith), e) (go (ltb 1 n) refl (eqb (get_or s (n - 1) 0) 0) refl)
  where
    go : (p : Bool) → ltb 1 n ≡ p → (q : Bool) → eqb (get_or s (n - 1) 0) 0 ≡ q
        → more b (pick (both p q) (Err BadCode) (Ok (v, n))) ≡ pick q (Err BadCode) (Ok (b % 128 + 128 * v, n + 1))
    go true i true j = refl
    go true i false j = rw (ne_eqb v 0 (λ z. eqb-false (get_or s (n - 1) 0) 0 j (h.zero-last z)))
    go false i true j =
        let one : n ≡ 1 = omega (arith, ltb-false 1 n i) in
        let z : get_or s 0 0 ≡ 0 = rw one at (eqb-true (get_or s (n - 1) 0) 0 j) in
        rw (eq-eqb v 0 (h.single one ∙ z))
    go false i false j = rw (ne_eqb v 0 (λ z. eqb-false (get_or s (n - 1) 0) 0 j (h.zero-last z)))

-- A COUNT'S GROUPS ARE THOSE OF ANY FORM, JUDGED: the shortest form only
pub groups-shortest : (k top : ℕ) (s : List ℕ) → read_groups k top s ≡ shortest s (any_groups k top s)
unfolding read_groups any_groups shortest
groups-shortest k top [] = refl
groups-shortest zero top (b ∷ s) = go (leb b top)
  where
    go : (t : Bool) → pick t (Ok (b, 1)) (Err BadCode) ≡ shortest (b ∷ s) (pick t (Ok (b, 1)) (Err BadCode))
    go true = refl
    go false = refl
groups-shortest (suc k) top (b ∷ s) = go (ltb b 128) (groups-shortest k top s)
  where
    go : (t : Bool) → read_groups k top s ≡ shortest s (any_groups k top s)
        → pick t (Ok (b, 1)) (more b (read_groups k top s)) ≡ shortest (b ∷ s) (pick t (Ok (b, 1)) (grouped b (any_groups k top s)))
    go true ih = refl
    go false ih = ap (more b) ih ∙ more-shortest k top b s (any_groups k top s) (is_any k top s)

-- a law for each way out of the reader
module _ (k top : ℕ) (s : List ℕ) where
  pub judged-refused : (j : Refusal) → Err j ≡ any_groups k top s → Err j ≡ read_groups k top s
  unfolding shortest
  judged-refused j e = rw (groups-shortest k top s, ← e)

  module _ (v n : ℕ) (e : Ok (v, n) ≡ any_groups k top s) where
    pub judged-one : n ≤ 1 → Ok (v, n) ≡ read_groups k top s
    unfolding shortest
    judged-one l = rw (groups-shortest k top s, ← e, le-ltb 1 n l)

    module _ (l : 1 < n) where
      pub judged-zero : get_or s (n - 1) 0 ≡ 0 → Err BadCode ≡ read_groups k top s
      unfolding shortest
      judged-zero z = rw (groups-shortest k top s, ← e, lt-ltb 1 n l, eq-eqb (get_or s (n - 1) 0) 0 z)

      pub judged-shortest : (get_or s (n - 1) 0 ≡ 0 → ⊥) → Ok (v, n) ≡ read_groups k top s
      unfolding shortest
      judged-shortest z = rw (groups-shortest k top s, ← e, lt-ltb 1 n l, ne_eqb (get_or s (n - 1) 0) 0 z)

-- what is judged good is as it was read, and what is cut was
shortest-value : (s : List ℕ) (g : Coded ℕ) {v n : ℕ} → Ok (v, n) ≡ shortest s g → Ok (v, n) ≡ g
unfolding shortest
shortest-value s (Err k) e = e
shortest-value s (Ok (w, m)) {v = v} {n = n} e = go (both (ltb 1 m) (eqb (get_or s (m - 1) 0) 0)) e
  where
    go : (t : Bool) → Ok (v, n) ≡ pick {A = Coded ℕ} t (Err BadCode) (Ok (w, m)) → ◌≡◌ {A = Coded ℕ} (Ok (v, n)) (Ok (w, m))
    go true q = clash cc
    go false q = q

shortest-cut : (s : List ℕ) (g : Coded ℕ) → Err BadData ≡ shortest s g → Err BadData ≡ g
unfolding shortest
shortest-cut s (Err k) e = e
shortest-cut s (Ok (w, m)) e = go (both (ltb 1 m) (eqb (get_or s (m - 1) 0) 0)) e
  where
    go : (t : Bool) → Err BadData ≡ pick {A = Coded ℕ} t (Err BadCode) (Ok (w, m)) → ◌≡◌ {A = Coded ℕ} (Err BadData) (Ok (w, m))
    go true q = clash cc
    go false q = q

-- A SHORTEST FORM READS THE SAME among all forms
pub any-shortest : (k top : ℕ) (s : List ℕ) {v n : ℕ} → Ok (v, n) ≡ read_groups k top s → Ok (v, n) ≡ any_groups k top s
any-shortest k top s e = shortest-value s (any_groups k top s) (e ∙ groups-shortest k top s)

any-cut : (k top : ℕ) (s : List ℕ) → Err BadData ≡ read_groups k top s → Err BadData ≡ any_groups k top s
any-cut k top s e = shortest-cut s (any_groups k top s) (e ∙ groups-shortest k top s)

-- a code that is not cut is the same with the bytes e added
shortest-added : (e : List ℕ) (k top : ℕ) (s : List ℕ) (g : Coded ℕ) → IsAny k top s g → shortest (s ++ e) g ≡ shortest s g
unfolding shortest
shortest-added e k top s (Err j) h = refl
shortest-added e k top s (Ok (v, n)) h = rw (get_or-append s e 0 (n - 1) (omega (arith, h.some, h.within)))

pub same-added : (e : List ℕ) (k top : ℕ) (s : List ℕ) → (Err BadData ≡ read_groups k top s → ⊥) → read_groups k top (s ++ e) ≡ read_groups k top s
unfolding shortest
same-added e k top s p =
    groups-shortest k top (s ++ e)
    ∙ ap (shortest (s ++ e)) (any_same e k top s (λ z. p (subst (λ g. Err BadData ≡ shortest s g) z refl ∙ sym (groups-shortest k top s))))
    ∙ shortest-added e k top s (any_groups k top s) (is_any k top s)
    ∙ sym (groups-shortest k top s)

-- a code that is cut ends, with the bytes e added, past the old end
pub past-added : (e : List ℕ) (k top : ℕ) (s : List ℕ) {v n : ℕ} → Err BadData ≡ read_groups k top s → Ok (v, n) ≡ read_groups k top (s ++ e) → length s < n
past-added e k top s p q = any-past e k top s (any-cut k top s p) (any-shortest k top (s ++ e) q)

-- a refusal is 7 or 9
pub group-refused : (k top : ℕ) (s : List ℕ) {j : Refusal} → Err j ≡ read_groups k top s → (j ≡ BadCode) ⊎ (j ≡ BadData)
unfolding shortest
group-refused k top s {j = j} e = go (any_groups k top s) refl (e ∙ groups-shortest k top s)
  where
    go : (g : Coded ℕ) → g ≡ any_groups k top s → Err j ≡ shortest s g → (j ≡ BadCode) ⊎ (j ≡ BadData)
    go (Err i) q r = any-refused k top s (r ∙ q)
    go (Ok (v, n)) q r = by (both (ltb 1 n) (eqb (get_or s (n - 1) 0) 0)) r
      where
        by : (t : Bool) → Err j ≡ pick {A = Coded ℕ} t (Err BadCode) (Ok (v, n)) → (j ≡ BadCode) ⊎ (j ≡ BadData)
        by true z = inl cc
        by false z = clash cc
