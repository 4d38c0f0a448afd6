-- The index of a pool that is known to be good. Assumes nothing.
use Rattle.base.specs.declared.Refusal.{Refusal}
use Rattle.std.specs.Prelude.{Err, Ok, Result}
use Rattle.base.specs.Coded.{Coded}
use Rattle.base.specs.declared.Refusal.TheVariants.{BadData, TooLarge}
use mathlib.Core.Path.{◌≡◌, refl, sym, ap, ◌∙◌}
use mathlib.Core.Bool.{Bool, true, false}
use mathlib.Core.List.{List, []}
use Prim.Native.Nat.{ℕ, ◌+◌, ◌-◌, ◌≤◌, ◌<◌}
use native.Mathlib.Omega.{arith}
use lib.ListN.{length, take, drop, set}
use lib.Seq.{sets}
use lib.Dec.{ltb, eqb}
use borrow.Author.Tests.{le-ltb, ltb-false, eqb-true, eqb-false}
use Rattle.base.specs.Parsed.{got, bad, bind, behind_code, parse}
use Rattle.base.proofs.PairLaws.{ok_parts}
use Rattle.base.proofs.ParseLaws.{bad-got, pick-bad}
use Rattle.base.proofs.Parts.{part-from}
use Rattle.base.proofs.Tests.{clash}
use Rattle.counts.specs.Count.{read_count}
use Rattle.texts.specs.Text.{read_text}
use Rattle.texts.proofs.TextLaws.{Held, held}
use Rattle.pool.specs.Pool.{counted, all_strings, parse_pool, checked, strings_of}
use Rattle.pool.specs.Index.{read_starts, starts_in, starts_of}
use Rattle.pool.proofs.PoolLaws.{room_most, ready}
use Rattle.pool.proofs.FillLaws.{Filling, Filled, filling-start, filling-refused, filling-next, filling-end, filling-left}
use Rattle.closed_pools.specs.View.{GoodPool, Indexed}

module _ (d : List ℕ) (w : GoodPool d) where
  parsed : (x : Coded ℕ) → read_count d ≡ x → bind (behind_code d x) counted ≡ got (strings_of d) []
  parsed x e = ap (λ (y : Coded ℕ). bind (behind_code d y) counted) (sym e) ∙ w

  pub count-read : (m : Refusal) → read_count d ≡ Err m → ⊥
  count-read m e = bad-got (parsed (Err m) e)

  module _ (k a : ℕ) (e : read_count d ≡ Ok (k, a)) where
    strings : (ltb 8192 k ≡ false) × (all_strings k (drop a d) ≡ got (strings_of d) [])
    unfolding counted
    strings = pick-bad (ltb 8192 k) (all_strings k (drop a d)) TooLarge (strings_of d) [] (parsed (Ok (k, a)) e)

    pub count-few : k ≤ 8192
    count-few = ltb-false 8192 k strings.0

    said : checked (all_strings k (drop a d)) ≡ Ok (length (strings_of d))
    said = ap checked strings.1

    module _ (ix₀ ix : List ℕ) (at i : ℕ) (f : Filling d a k ix₀ ix at i) where
      -- the string at a place: its length is the count there
      pub text-here : i < k → (x : Coded ℕ) → x ≡ read_count (drop at d) → (n b : ℕ) → x ≡ Ok (n, b)
          → Ok (b, n) ≡ read_text (take (length d - at) (drop at d))
      text-here l x h n b q = go (read_text (take (length d - at) (drop at d))) refl
        where
          go : (t : Result (ℕ × ℕ) Refusal) → t ≡ read_text (take (length d - at) (drop at d)) → Ok (b, n) ≡ t
          go (Err m) r = let z : Err m ≡ Ok (length (strings_of d)) = (filling-refused d a k ix₀ ix at i f l (Err m) r m refl).0 ∙ said in clash cc
          go (Ok (b', n')) r =
              let c : read_count (drop at d) ≡ Ok (n', b') = (held (drop at d) b' n' (sym (rw (part-from at d) at r))).count in
              let z : ◌≡◌ {A = Coded ℕ} (Ok (n, b)) (Ok (n', b')) = sym q ∙ h ∙ c in
              cc ((ok_parts z).0, (ok_parts z).1)

      pub text-some : i < k → (m : Refusal) → read_count (drop at d) ≡ Err m → ⊥
      text-some l m h = go (read_text (take (length d - at) (drop at d))) refl
        where
          go : (t : Result (ℕ × ℕ) Refusal) → t ≡ read_text (take (length d - at) (drop at d)) → ⊥
          go (Err j) r = let z : Err j ≡ Ok (length (strings_of d)) = (filling-refused d a k ix₀ ix at i f l (Err j) r j refl).0 ∙ said in clash cc
          go (Ok (b', n')) r =
              let c : read_count (drop at d) ≡ Ok (n', b') = (held (drop at d) b' n' (sym (rw (part-from at d) at r))).count in
              let z : ◌≡◌ {A = Coded ℕ} (Err m) (Ok (n', b')) = sym h ∙ c in
              clash cc

      starts-all : k ≤ i → ix ≡ sets ix₀ 0 (starts_of d)
      unfolding read_starts starts_in
      starts-all h = let z : k - i ≡ 0 = omega arith in rw (e, strings.0) (rw z at f.kept)

      pub all-indexed : k ≤ i → 8192 ≤ length ix₀ → Indexed d ix k
      all-indexed h l =
          record { ready = ready d ix₀ ix (let m = room_most d in omega arith) (starts-all h); count = go (eqb at (length d)) refl }
        where
          go : (t : Bool) → eqb at (length d) ≡ t → k ≡ length (strings_of d)
          go true q = let z : ◌≡◌ {A = Result ℕ Refusal} (Ok k) (Ok (length (strings_of d))) = (filling-end d a k ix₀ ix at i f h (eqb-true at (length d) q)).0 ∙ said in cc
          go false q = let z : Err BadData ≡ Ok (length (strings_of d)) = (filling-left d a k ix₀ ix at i f h (eqb-false at (length d) q)).0 ∙ said in clash cc
