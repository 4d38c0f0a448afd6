-- What a crate above knows of a pool: its strings, its index, and what refuses it. Assumes nothing.
use Rattle.base.specs.declared.Refusal.TheVariants.{TooLarge}
use Rattle.base.specs.declared.Refusal.{Refusal}
use Rattle.std.specs.Prelude.{Err, Ok, Result}
use Rattle.base.specs.Coded.{Coded}
use mathlib.Core.Path.{◌≡◌, refl, sym, ◌∙◌, ap, ap₂}
use mathlib.Core.List.{List, [], ◌∷◌}
use mathlib.Core.Bool.{Bool, true, false}
use mathlib.Core.Logic.{inl, inr}
use Prim.Native.Nat.{ℕ, zero, suc, ◌+◌, ◌≤◌, ◌<◌}
use native.Mathlib.Omega.{arith}
use lib.ListN.{length, take, drop, get_or, length-drop}
use lib.Seq.{sets, sets-eq, take-append_seam, length-take-le}
use lib.Dec.{ltb}
use borrow.Author.Tests.{ltb-false}
use Rattle.base.specs.Pick.{pick}
use Rattle.counts.specs.Count.{read_count}
use Rattle.texts.specs.Text.{read_text, behind_text}
use Rattle.texts.proofs.TextLaws.{Fit}
use Rattle.texts.proofs.RefusalLaws.{Faulty, count-faulty, text-faulty}
use Rattle.base.specs.Parsed.{got, bad, bind, behind_code, ended, many, prepend}
use Rattle.base.proofs.ParseLaws.{bad-got}
use Rattle.pool.specs.Pool.{Pool, read_strings, all_strings, counted, parse_pool, checked, strings_in, strings_of}
use Rattle.pool.specs.Index.{start, read_starts, starts_in, starts_of, room_in, room_of, Ready}
use Rattle.pool.proofs.StringLaws.{opened, string-found, below}
use Rattle.base.proofs.Tests.{clash}
pub use Rattle.pool.specs.Facts.{Taken, Failed}

-- "8,192 pool strings"
pub few : (d : List ℕ) → length (strings_of d) ≤ 8192
few d = go (length (strings_of d)) refl
  where
    go : (m : ℕ) → length (strings_of d) ≡ m → length (strings_of d) ≤ 8192
    go zero e = omega arith
    go (suc m) e = omega (arith, below d m (omega arith))

pub taken : (d : List ℕ) (n : ℕ) → Ok n ≡ checked (parse_pool d) → Taken d n
taken d n e = go (parse_pool d) refl e
  where
    go : (p : Pool) → parse_pool d ≡ p → Ok n ≡ checked p → Taken d n
    go (got ts q) h r =
        let o = opened d ts q h in
        let t : ts ≡ strings_of d = sym (ap strings_in h) in
        let z : n ≡ length ts = cc in
        record { all = h ∙ ap₂ got t o.end; many = z ∙ ap length t; most = omega (arith, few d, ap length t) }
    go (bad m) h r = clash cc

-- every string is at most 1,024 bytes of UTF-8
pub string-fit : (d : List ℕ) (k : ℕ) → k < length (strings_of d) → Fit (get_or (strings_of d) k [])
string-fit d k l =
    let f = string-found d k l in
    let p : ℕ = get_or (starts_of d) k 0 in
    let n : length (take f.n (drop f.a (drop p d))) ≡ f.n = length-take-le f.n (drop f.a (drop p d)) (rw length-drop (omega (arith, f.here.inside))) in
    rw f.is (record { small = omega (arith, f.here.small); valid = f.here.valid })

-- the number of a pool's refusal is 4, 7, 8 or 9
strings-faulty : (k : ℕ) (s : List ℕ) (m : Refusal) → read_strings k s ≡ bad m → Faulty m
unfolding many
strings-faulty zero s m e = bad-got (sym e)
strings-faulty (suc k) s m e = go (read_text s) refl e (λ t. strings-faulty k t m)
  where
    more : (x : List ℕ) (p : Pool) → bind p (prepend x) ≡ bad m → (p ≡ bad m → Faulty m) → Faulty m
    more x (got ts q) h f = bad-got (sym h)
    more x (bad j) h f = f h

    go : (x : Result (ℕ × ℕ) Refusal) → read_text s ≡ x → bind (behind_text s x) (λ u r. bind (read_strings k r) (prepend u)) ≡ bad m → ((t : List ℕ) → read_strings k t ≡ bad m → Faulty m) → Faulty m
    go (Ok (a, n)) q h f = more (take n (drop a s)) (read_strings k (drop (a + n) s)) h (f (drop (a + n) s))
    go (Err j) q h f = let z : j ≡ m = cc in text-faulty s m (q ∙ ap Err z)

pub pool-faulty : (d : List ℕ) (m : Refusal) → parse_pool d ≡ bad m → Faulty m
unfolding counted all_strings ended
pool-faulty d m e = go (read_count d) refl e
  where
    end : (p : Pool) → bind p ended ≡ bad m → (p ≡ bad m → Faulty m) → Faulty m
    end (got ts []) h f = bad-got (sym h)
    end (got ts (b ∷ q)) h f = inr (inr (inr cc))
    end (bad j) h f = f h

    text_sized : (k a : ℕ) (b : Bool) → pick b (bad TooLarge) (bind (read_strings k (drop a d)) ended) ≡ bad m → Faulty m
    text_sized k a true h = inl cc
    text_sized k a false h = end (read_strings k (drop a d)) h (strings-faulty k (drop a d) m)

    go : (g : Coded ℕ) → read_count d ≡ g → bind (behind_code d g) counted ≡ bad m → Faulty m
    go (Err j) q h = let z : j ≡ m = cc in count-faulty d m (q ∙ ap Err z)
    go (Ok (k, a)) q h = text_sized k a (ltb 8192 k) h

pub failed : (d : List ℕ) (m : Refusal) → Err m ≡ checked (parse_pool d) → Failed d m
failed d m e = go (parse_pool d) refl e
  where
    go : (p : Pool) → parse_pool d ≡ p → Err m ≡ checked p → Failed d m
    go (got ts r) q h = clash cc
    go (bad j) q h =
        let z : j ≡ m = cc in
        let r : parse_pool d ≡ bad m = q ∙ ap bad z in
        record { fault = r; none = ap strings_in r; number = pool-faulty d m r }

few-starts : (k at : ℕ) (s : List ℕ) → length (read_starts k at s) ≤ k
unfolding read_starts
few-starts zero at s = omega arith
few-starts (suc k) at s = go (read_text s) (λ a n. few-starts k (at + (a + n)) (drop (a + n) s))
  where
    go : (x : Result (ℕ × ℕ) Refusal) → ((a n : ℕ) → length (read_starts k (at + (a + n)) (drop (a + n) s)) ≤ k) → length (start x at s (λ b r. read_starts k b r)) ≤ suc k
    go (Ok (a, n)) f = omega (arith, f a n)
    go (Err m) f = omega arith

-- the index has room for every place
pub room-enough : (d : List ℕ) → length (starts_of d) ≤ room_of d
unfolding starts_in room_in
room-enough d = go (read_count d)
  where
    text_sized : (k a : ℕ) (b : Bool) → length (pick b [] (read_starts k a (drop a d))) ≤ pick b 0 k
    text_sized k a true = omega arith
    text_sized k a false = few-starts k a (drop a d)

    go : (g : Coded ℕ) → length (starts_in d g) ≤ room_in g
    go (Err m) = omega arith
    go (Ok (k, a)) = text_sized k a (ltb 8192 k)

-- 8,192 places are enough for every pool
pub room_most : (d : List ℕ) → room_of d ≤ 8192
unfolding room_in
room_most d = go (read_count d)
  where
    text_sized : (k : ℕ) (b : Bool) → ltb 8192 k ≡ b → pick b 0 k ≤ 8192
    text_sized k true q = omega arith
    text_sized k false q = ltb-false 8192 k q

    go : (g : Coded ℕ) → room_in g ≤ 8192
    go (Err m) = omega arith
    go (Ok (k, a)) = text_sized k (ltb 8192 k) refl

-- what the check leaves in the index is ready for every lookup
pub ready : (d ix₀ ix : List ℕ) → room_of d ≤ length ix₀ → ix ≡ sets ix₀ 0 (starts_of d) → Ready d ix
ready d ix₀ ix l e =
    let h : 0 + length (starts_of d) ≤ length ix₀ = omega (arith, room-enough d) in
    record { begins = rw (e, sets-eq (starts_of d) ix₀ 0 h) (take-append_seam (starts_of d) (drop (0 + length (starts_of d)) ix₀)) }
