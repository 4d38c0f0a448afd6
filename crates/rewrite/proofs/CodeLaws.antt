-- Codes that were read from the front of some bytes: they read the same in front of any others. Assumes nothing.
use Rattle.std.specs.Prelude.{Err, Ok}
use Rattle.base.specs.Coded.{Coded}
use mathlib.Core.Path.{◌≡◌, refl, ap, subst}
use mathlib.Core.List.{List, [], ◌∷◌, ◌++◌}
use mathlib.Core.Logic.{◌⊎◌, inl, inr}
use Prim.Native.Nat.{ℕ, ◌+◌, ◌-◌, ◌≤◌}
use native.Mathlib.Omega.{arith}
use lib.ListN.{length, drop, length-drop}
use lib.Seq.{drop-append_seam}
use Rattle.base.specs.Parsed.{Parsed, got, behind_code, parse, parse_byte}
use Rattle.base.proofs.Parts.{Bytes}
use Rattle.base.proofs.ByteLaws.{tail-bytes, drop-bytes}
use Rattle.base.proofs.ParseLaws.{bad-got}
use Rattle.counts.specs.Count.{read_count, write_count}
use Rattle.counts.proofs.CountLaws.{counted, count-form, count-written}
use Rattle.offsets.specs.Offset.{read_sum, write_sum}
use Rattle.offsets.proofs.OffsetLaws.{sum-read, sum-form, sum-written}
use Rattle.transitions.specs.Transition.{read_moment, write_moment}
use Rattle.transitions.proofs.MomentLaws.{moment-read, moment-written, Preferred, Longer, renewed, never-longer}

-- what p read from the front of s before r, as a, and that it reads the same in front of any bytes
pub record Front {A : Type 0} (p : List ℕ → Parsed A) (s : List ℕ) (a : A) (r : List ℕ) : Type 0 where
  pub used : List ℕ
  pub splits : s ≡ used ++ r
  pub again : (x : List ℕ) → p (used ++ x) ≡ got a x
  pub bytes : Bytes r

-- a code whose form is unique
module _ (read : List ℕ → Coded ℕ) (write : ℕ → List ℕ)
    (form : (s : List ℕ) (v n : ℕ) → Bytes s → Ok (v, n) ≡ read s → (s ≡ write v ++ drop n s) × ((x : List ℕ) → read (write v ++ x) ≡ Ok (v, length (write v)))) where
  code-front : (s : List ℕ) (v : ℕ) (r : List ℕ) → Bytes s → parse read s ≡ got v r → Front (parse read) s v r
  code-front s v r b e = go (read s) refl e
    where
      go : (x : Coded ℕ) → x ≡ read s → behind_code s x ≡ got v r → Front (parse read) s v r
      go (Ok (w, n)) h k =
          let f = form s w n b h in
          let i : w ≡ v = cc in
          let j : drop n s ≡ r = cc in
          record {
            used = write v;
            splits = subst (λ (y : ℕ). s ≡ write y ++ r) i (subst (λ (y : List ℕ). s ≡ write w ++ y) j f.0);
            again = λ x. subst (λ (y : ℕ). parse read (write y ++ x) ≡ got y x) i (rw (f.1 x, drop-append_seam (write w) x));
            bytes = subst Bytes j (drop-bytes n s b);
          }
      go (Err n) h k = bad-got k

pub count-front : (s : List ℕ) (v : ℕ) (r : List ℕ) → Bytes s → parse read_count s ≡ got v r → Front (parse read_count) s v r
count-front =
    code-front read_count write_count (λ s v n b e. ((count-form s b e).form, λ x. count-written v x (counted s e).small))

pub sum-front : (s : List ℕ) (v : ℕ) (r : List ℕ) → Bytes s → parse read_sum s ≡ got v r → Front (parse read_sum) s v r
sum-front =
    code-front read_sum write_sum (λ s v n b e. ((sum-form s b e).form, λ x. sum-written v x (sum-read s e).least (sum-read s e).most))

pub byte-front : (s : List ℕ) (v : ℕ) (r : List ℕ) → Bytes s → parse_byte s ≡ got v r → Front parse_byte s v r
unfolding parse_byte
byte-front [] v r b e = bad-got e
byte-front (x ∷ s) v r b e =
    let i : x ≡ v = cc in
    let j : s ≡ r = cc in
    record {
      used = v ∷ [];
      splits = subst (λ (y : ℕ). x ∷ s ≡ y ∷ r) i (ap (λ (y : List ℕ). x ∷ y) j);
      again = λ y. refl;
      bytes = subst Bytes j (tail-bytes x s b);
    }

-- a transition in any form: its preferred form reads as the same moment, in front of any bytes, is no longer, and where it is as long
-- it is the same
pub record Renewed (prev : ℕ) (s : List ℕ) (m : ℕ) (r : List ℕ) : Type 0 where
  pub again : (x : List ℕ) → parse (read_moment prev) (write_moment prev m ++ x) ≡ got m x
  pub shorter : length (write_moment prev m) + length r ≤ length s
  pub exact : length (write_moment prev m) + length r ≡ length s → s ≡ write_moment prev m ++ r
  pub bytes : Bytes r

pub moment-renewed : (prev : ℕ) (s : List ℕ) (m : ℕ) (r : List ℕ) → Bytes s → parse (read_moment prev) s ≡ got m r → Renewed prev s m r
moment-renewed prev s m r b e = go (read_moment prev s) refl e
  where
    same : (w n : ℕ) → Preferred prev s w n ⊎ Longer prev w n → n ≤ length s → length (write_moment prev w) + (length s - n) ≡ length s
        → s ≡ write_moment prev w ++ drop n s
    same w n (inl k) l e = k.form
    same w n (inr k) l e = absurd (omega (arith, k.less))

    go : (x : Coded ℕ) → x ≡ read_moment prev s → behind_code s x ≡ got m r → Renewed prev s m r
    go (Ok (w, n)) h k =
        let i : w ≡ m = cc in
        let j : drop n s ≡ r = cc in
        let t = moment-read prev s h in
        let l = never-longer prev s b h in
        let z : Renewed prev s w (drop n s) =
        record {
          again = λ x. rw (moment-written prev w x t.is, drop-append_seam (write_moment prev w) x);
          shorter = rw length-drop (omega (arith, t.within));
          exact = λ k. same w n (renewed prev s b h) t.within (rw length-drop at k);
          bytes = drop-bytes n s b;
        } in
        subst (λ (y : ℕ). Renewed prev s y r) i (subst (λ (y : List ℕ). Renewed prev s w y) j z)
    go (Err n) h k = bad-got k
