-- Laws of numbers in groups of seven bits, at every number of groups and every largest last byte: what a value that reads is, and that
-- reading and writing undo one another. Assumes nothing.
use Rattle.std.specs.Prelude.{Err, Ok}
use Rattle.base.specs.Coded.{Coded}
use mathlib.Core.Path.{◌≡◌, refl, ap, ap₂, ◌∙◌, subst⁻¹}
use mathlib.Core.List.{List, [], ◌∷◌, ◌++◌}
use Prim.Native.Nat.{ℕ, zero, suc, ◌+◌, ◌*◌, ◌/◌, ◌%◌, ◌^◌, ◌≤◌, ◌<◌}
use native.Mathlib.Omega.{arith}
use native.Mathlib.Numerals.{add-one}
use native.Mathlib.Nat.{pow-suc, one-le-pow}
use lib.Dec.{ltb, leb, eqb, lit≤}
use lib.ListN.{length, drop}
use borrow.Author.Tests.{lt-ltb, le-ltb, le-leb, ne_eqb, ltb-true, ltb-false, leb-true, eqb-false}
use Rattle.base.proofs.Tests.{by_order, pick-holds}
use Rattle.base.proofs.Parts.{Bytes}
use Rattle.counts.specs.Groups.{more, read_groups, write_groups}
pub use Rattle.counts.specs.Facts.{Group, Written}

abbrev IsGroup : ℕ → ℕ → List ℕ → Coded ℕ → Type 0
IsGroup k top s (Ok (v, n)) = Group k top s v n
IsGroup k top s (Err j) = Unit

group-more : (k top b : ℕ) (s : List ℕ) (g : Coded ℕ) → IsGroup k top s g → IsGroup (suc k) top (b ∷ s) (more b g)
group-more k top b s (Ok (v, n)) h =
    pick-holds (IsGroup (suc k) top (b ∷ s)) (eqb v 0) (λ _. tt) (λ t.
    let p : v ≡ 0 → ⊥ = eqb-false v 0 t in
    record {
      small = rw pow-suc (omega arith);
      some = omega arith;
      size = omega arith;
      within = omega arith;
      single = λ l. absurd (omega arith);
    })
group-more k top b s (Err j) h = tt

-- a last byte b
last-group : (k top b : ℕ) (s : List ℕ) → b < (top + 1) * 128 ^ k → Group k top (b ∷ s) b 1
last-group k top b s h = record { small = h; some = omega arith; size = omega arith; within = omega arith; single = λ l. refl }

is-group : (k top : ℕ) (s : List ℕ) → IsGroup k top s (read_groups k top s)
unfolding read_groups
is-group k top [] = tt
is-group zero top (b ∷ s) =
    pick-holds (IsGroup zero top (b ∷ s)) (leb b top) (λ t. last-group zero top b s (omega (arith, leb-true b top t))) (λ _. tt)
is-group (suc k) top (b ∷ s) =
    pick-holds (IsGroup (suc k) top (b ∷ s)) (ltb b 128)
    (λ t. last-group (suc k) top b s (rw pow-suc (omega (arith, ltb-true b 128 t, one-le-pow k 128 (lit≤ tt)))))
    (λ _. group-more k top b s (read_groups k top s) (is-group k top s))

pub group : (k top : ℕ) (s : List ℕ) {v n : ℕ} → Ok (v, n) ≡ read_groups k top s → Group k top s v n
group k top s e = subst⁻¹ (IsGroup k top s) e (is-group k top s)

-- what was written is read back, whatever follows
pub read-written : (k top v : ℕ) (rest : List ℕ) → top < 128 → v < (top + 1) * 128 ^ k
    → read_groups k top (write_groups k v ++ rest) ≡ Ok (v, length (write_groups k v))
unfolding read_groups write_groups
read-written zero top v rest ht hv =
    let e : v % 128 ≡ v = omega arith in
    simp (e, le-leb v top (omega arith))
read-written (suc k) top v rest ht hv =
    by_order v 128
    (λ (l : v < 128). simp (lt-ltb v 128 l))
    (λ (l : 128 ≤ v). simp (
      le-ltb v 128 l,
      le-ltb (128 + v % 128) 128 (omega arith),
      read-written k top (v / 128) rest ht (omega (arith, rw pow-suc at hv)),
      ne_eqb (v / 128) 0 (omega arith),
    ) (ap₂ (λ (v n : ℕ). Ok (v, n)) (omega arith) (omega arith)))

abbrev IsWritten : ℕ → List ℕ → Coded ℕ → Type 0
IsWritten k s (Ok (v, n)) = Written k s v n
IsWritten k s (Err j) = Unit

written-more : (k b : ℕ) (s : List ℕ) (g : Coded ℕ) → 128 ≤ b → b < 256 → IsWritten k s g → IsWritten (suc k) (b ∷ s) (more b g)
unfolding write_groups
written-more k b s (Ok (v, n)) hb hl w =
    pick-holds (IsWritten (suc k) (b ∷ s)) (eqb v 0) (λ _. tt) (λ t.
    let p : v ≡ 0 → ⊥ = eqb-false v 0 t in
    let d : v ≡ (b % 128 + 128 * v) / 128 = omega arith in
    record {
      form = simp (le-ltb (b % 128 + 128 * v) 128 (omega arith), add-one) (ap₂ ◌∷◌ (omega arith) (w.form ∙ ap (λ (x : ℕ). write_groups k x ++ drop n s) d));
      size = simp (le-ltb (b % 128 + 128 * v) 128 (omega arith), add-one) (ap suc (w.size ∙ ap (λ (x : ℕ). length (write_groups k x)) d));
    })
written-more k b s (Err j) hb hl w = tt

is-written : (k top : ℕ) (s : List ℕ) → top < 128 → Bytes s → IsWritten k s (read_groups k top s)
unfolding read_groups write_groups
is-written k top [] ht hs = tt
is-written zero top (b ∷ s) ht hs =
    pick-holds (IsWritten zero (b ∷ s)) (leb b top)
    (λ t. let e : b % 128 ≡ b = omega (arith, leb-true b top t) in record { form = rw e; size = refl })
    (λ _. tt)
is-written (suc k) top (b ∷ s) ht hs =
    pick-holds (IsWritten (suc k) (b ∷ s)) (ltb b 128)
    (λ t. record { form = rw t; size = rw t })
    (λ t. written-more k b s (read_groups k top s) (ltb-false b 128 t) (hs 0) (is-written k top s ht (λ i. hs (suc i))))

pub read-form : (k top : ℕ) (s : List ℕ) {v n : ℕ} → top < 128 → Bytes s → Ok (v, n) ≡ read_groups k top s → Written k s v n
read-form k top s ht hs e = subst⁻¹ (IsWritten k s) e (is-written k top s ht hs)
