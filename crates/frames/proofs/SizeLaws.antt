-- All that the walk and the rewriter use of how a field's size is read: another code for it needs these laws and no others. Assumes nothing.
use Rattle.base.specs.declared.Refusal.{Refusal}
use Rattle.std.specs.Prelude.{Err, Ok}
use Rattle.base.specs.Coded.{Coded}
use Rattle.base.specs.declared.Refusal.TheVariants.{BadCode, BadData}
use mathlib.Core.Path.{◌≡◌, refl, sym, ap, ◌∙◌}
use mathlib.Core.List.{List, [], ◌∷◌, ◌++◌}
use mathlib.Core.Logic.{◌⊎◌, inl, inr}
use Prim.Native.Nat.{ℕ, suc, ◌+◌, ◌*◌, ◌%◌, ◌^◌, ◌≤◌, ◌<◌}
use native.Mathlib.Omega.{arith}
use lib.ListN.{length, get_or, drop}
use borrow.Author.Tests.{lt-ltb, le-ltb}
use Rattle.base.specs.Bytes.{Bytes}
use Rattle.base.proofs.Tests.{clash}
use Rattle.counts.specs.Groups.{any_groups, shortest, padded_groups}
use Rattle.counts.specs.Count.{read_count, write_count}
use Rattle.counts.proofs.AnyGroupLaws.{any-group, any-least, padded-read, Padded, any-form, padded-shortest, any_same, any-past, any-refused}
use Rattle.counts.proofs.ShortestLaws.{groups-shortest, any-shortest}
use Rattle.counts.proofs.CountLaws.{count-written}
use Rattle.frames.specs.Frame.{read_size}

-- a size v that r gives in u bytes
pub record Size (r : List ℕ) (v u : ℕ) : Type 0 where
  pub small : v ≤ 2147483647
  pub some : 1 ≤ u
  pub most : u ≤ 5
  pub within : u ≤ length r
  -- no fewer than the count of v takes
  pub least : length (write_count v) ≤ u

pub size-read : (r : List ℕ) {v u : ℕ} → Ok (v, u) ≡ read_size r → Size r v u
size-read r e =
    let g = any-group 4 7 r e in
    record { small = omega arith; some = g.some; most = g.size; within = g.within; least = any-least 4 7 r (omega arith) e }

-- a byte without the top bit is a size
pub size-byte : (r : List ℕ) → 0 < length r → get_or r 0 0 < 128 → Ok (get_or r 0 0, 1) ≡ read_size r
unfolding any_groups
size-byte [] h l = absurd (omega arith)
size-byte (b ∷ r) h l = rw (lt-ltb b 128 l)

-- and so is one behind a byte with it
pub size-two : (r : List ℕ) → 2 ≤ length r → 128 ≤ get_or r 0 0 → get_or r 1 0 < 128 → Ok (get_or r 0 0 % 128 + 128 * get_or r 1 0, 2) ≡ read_size r
unfolding any_groups
size-two [] h l k = absurd (omega arith)
size-two (b ∷ []) h l k = absurd (omega arith)
size-two (b ∷ c ∷ r) h l k = rw (le-ltb b 128 l, lt-ltb c 128 k)

-- a size that is not cut is the same with more bytes; one that is cut, among groups of 0 too, ends, with more bytes, past the old end
pub size_same : (e r : List ℕ) → (Err BadData ≡ read_size r → ⊥) → read_size (r ++ e) ≡ read_size r
size_same e r p = any_same e 4 7 r p

pub size-past : (e r : List ℕ) {v u : ℕ} → Err BadData ≡ read_size r → Ok (v, u) ≡ read_size (r ++ e) → length r < u
size-past e r p q = any-past e 4 7 r p q

pub size-refused : (r : List ℕ) {k : Refusal} → Err k ≡ read_size r → (k ≡ BadCode) ⊎ (k ≡ BadData)
size-refused r e = any-refused 4 7 r e

-- a size that ends within the bytes s is read from these alone
pub size-within : (s more : List ℕ) (v u : ℕ) → read_size (s ++ more) ≡ Ok (v, u) → u ≤ length s → read_size s ≡ Ok (v, u)
size-within s more v u e l = go (read_size s) refl
  where
    go : (r : Coded ℕ) → read_size s ≡ r → read_size s ≡ Ok (v, u)
    go (Ok (w, n)) h = sym (size_same more s (λ p. let z : Err BadData ≡ Ok (w, n) = p ∙ h in clash cc)) ∙ e
    go (Err m) h = by (size-refused s (sym h))
      where
        by : (m ≡ BadCode) ⊎ (m ≡ BadData) → read_size s ≡ Ok (v, u)
        by (inl q) = sym (size_same more s (λ p. let z : Err BadData ≡ Err m = p ∙ h in clash cc)) ∙ e
        by (inr q) = absurd (omega (arith, size-past more s (sym (h ∙ ap Err q)) (sym e)))

-- A COUNT IS A SIZE, JUDGED: of a count the shortest form only is taken, of a size every form
pub count-judged : (r : List ℕ) → read_count r ≡ shortest r (read_size r)
count-judged r = groups-shortest 4 7 r

-- so a size in its shortest form reads as the count that it is
pub size-shortest : (r : List ℕ) {v u : ℕ} → Ok (v, u) ≡ read_count r → Ok (v, u) ≡ read_size r
size-shortest r e = any-shortest 4 7 r e

pub size-written : (v : ℕ) (rest : List ℕ) → v ≤ 2147483647 → read_size (write_count v ++ rest) ≡ Ok (v, length (write_count v))
size-written v rest h = sym (size-shortest (write_count v ++ rest) (sym (count-written v rest h)))

-- A PADDED SIZE READS AS ITS SHORTEST FORM DOES, but for the length
pub size-unpadded : (r rest : List ℕ) {v u : ℕ} → Ok (v, u) ≡ read_size r → read_count (write_count v ++ rest) ≡ Ok (v, length (write_count v))
size-unpadded r rest {v = v} e = count-written v rest (size-read r e).small

-- every number of bytes from that of the shortest form to five is read, with what follows left, and no other bytes are a size
pub size-padded : (more v : ℕ) (rest : List ℕ) → more ≤ 4 → v ≤ 2147483647 → v < 128 ^ suc more → read_size (padded_groups more v ++ rest) ≡ Ok (v, suc more)
size-padded more v rest l h m = padded-read more 4 7 v rest l (omega arith) m (omega arith)

pub size-form : (r : List ℕ) {v u : ℕ} → Bytes r → Ok (v, u) ≡ read_size r → Padded r v u
size-form r b e = any-form 4 7 r (omega arith) b e

-- a size in as few bytes as its count has is that count
pub size_exact : (r : List ℕ) {v u : ℕ} → Bytes r → Ok (v, u) ≡ read_size r → u ≤ length (write_count v) → r ≡ write_count v ++ drop u r
size_exact r {v = v} {u = u} b e l =
    let p = size-form r b e in
    let g = any-group 4 7 r e in
    p.form
    ∙ ap (λ (xs : List ℕ). xs ++ drop u r)
    (padded-shortest p.more 4 v (omega (arith, p.size, g.size)) (rw p.size at (g.fits (omega arith))) (omega (arith, p.size)))
