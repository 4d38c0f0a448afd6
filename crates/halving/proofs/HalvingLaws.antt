-- What halving finds: one entry, by no more looks than the logarithm says, and on an ascending table the last that isn't after the instant.
-- Assumes nothing.
use Rattle.std.specs.Prelude.{Ok}
use mathlib.Core.Path.{◌≡◌, refl, sym, ◌∙◌, subst}
use mathlib.Core.Bool.{Bool, true, false}
use mathlib.Core.List.{List}
use Prim.Native.Nat.{ℕ, zero, suc, ◌+◌, ◌-◌, ◌*◌, ◌/◌, ◌^◌, ◌≤◌, ◌<◌}
use native.Mathlib.Nat.{pow-zero, pow-suc}
use native.Mathlib.Omega.{arith}
use lib.Dec.{T}
use lib.IntN.{ℤ, pos, negsuc}
use lib.Signed.{le_z, lt_z, ◌≤ℤ◌, ◌<ℤ◌, <ℤ-≤ℤ_trans}
use lib.ListN.{length}
use borrow.Author.Tests.{leb-false, lt-ltb}
use Rattle.base.proofs.Tests.{never, by_order}
use Rattle.halving.specs.Halving.{halve, find_start}
use Rattle.halving.specs.Facts.{entry_of, Ascending, Finds}
use Rattle.halving.proofs.StepLaws.{Halved, halved, find-some, halve-one, halve-keeps, halve-drops}

told : {b : Bool} → b ≡ true → T b
told {b} e = rw e tt

not-le : (a b : ℤ) → le_z a b ≡ false → lt_z b a ≡ true
not-le (pos a) (pos b) e = lt-ltb b a (leb-false a b e)
not-le (pos a) (negsuc b) e = refl
not-le (negsuc a) (pos b) e = never refl e
not-le (negsuc a) (negsuc b) e = lt-ltb a b (leb-false b a e)

-- k looks and those that n entries may take are j at most
record Looks (j n k : ℕ) : Type 0 where
  more : ℕ
  enough : n ≤ 2 ^ more
  sum : k + more ≤ j

-- both halves of n entries take one look less
looks-less : (j n k i m : ℕ) → 1 < n → n ≤ 2 ^ i → k + i ≤ j → m ≤ n - n / 2 → Looks j m (k + 1)
looks-less j n k zero m h e s l = absurd (omega (arith, pow-zero 2))
looks-less j n k (suc i) m h e s l =
    record { more = i; enough = half (2 ^ i) (subst (λ (a : ℕ). n ≤ a) (pow-suc 2 i) e); sum = omega arith }
  where
    half : (a : ℕ) → n ≤ a * 2 → m ≤ a
    half a g = omega arith

module _ (xs : List ℤ) (z : ℤ) where
  -- on an ascending table the last entry that isn't after the instant is among those left
  record Around (low n : ℕ) : Type 0 where
    not_after : entry_of xs low ≤ℤ z
    after : (q : ℕ) → low + n ≤ q → q < length xs → z <ℤ entry_of xs q

  record Left (low n k : ℕ) : Type 0 where
    some : 0 < n
    inside : low + n ≤ length xs
    looks : (j : ℕ) → length xs ≤ 2 ^ j → Looks j n k
    around : Ascending xs → entry_of xs 0 ≤ℤ z → Around low n

  left-all : 0 < length xs → Left 0 (length xs) 0
  left-all h = record {
    some = h;
    inside = omega arith;
    looks = λ j e. record { more = j; enough = e; sum = omega arith };
    around = λ a e. record { not_after = e; after = λ q l m. absurd (omega arith) };
  }

  module _ (low n k : ℕ) (h : 1 < n) (l : Left low n k) where
    d : Halved n
    d = halved n h

    left-kept : le_z (entry_of xs (low + n / 2)) z ≡ true → Left (low + n / 2) (n - n / 2) (k + 1)
    left-kept e = record {
      some = omega (arith, d.fewer);
      inside = omega (arith, l.inside, d.fewer);
      looks = λ j f. let w = l.looks j f in looks-less j n k w.more (n - n / 2) h w.enough w.sum (omega arith);
      around = λ a f. record {
        not_after = record { le = told e };
        after = λ q g m. (l.around a f).after q (omega (arith, d.fewer)) m;
      };
    }

    left-before : le_z (entry_of xs (low + n / 2)) z ≡ false → Left low (n / 2) (k + 1)
    left-before e = record {
      some = d.some;
      inside = omega (arith, l.inside, d.fewer);
      looks = λ j f. let w = l.looks j f in looks-less j n k w.more (n / 2) h w.enough w.sum (omega arith);
      around = λ a f. record {
        not_after = (l.around a f).not_after;
        after = λ q g m. <ℤ-≤ℤ_trans (record { lt = told (not-le (entry_of xs (low + n / 2)) z e) }) (a (low + n / 2) q g m);
      };
    }

  -- one entry is left
  left_one : (low n k : ℕ) → n ≤ 1 → Left low n k → Finds xs z (Ok (low, k))
  left_one low n k h l = record {
    position = low;
    probes = k;
    is = refl;
    inside = omega (arith, l.inside, l.some);
    looks = λ j e. omega (arith, (l.looks j e).sum);
    last = λ a e.
        let w = l.around a e in
        record {
          inside = omega (arith, l.inside, l.some);
          not_after = w.not_after;
          last = λ q g m. w.after q (omega arith) m;
        };
  }

  -- what holds after a look holds before it
  look-finds : (low n k : ℕ) → 1 < n → Left low n k
      → ((low' n' : ℕ) → n' + 1 ≤ n → Left low' n' (k + 1) → Finds xs z (halve n' xs z low' n' (k + 1))) → Finds xs z (halve n xs z low n k)
  look-finds low n k g l rec = go (le_z (entry_of xs (low + n / 2)) z) refl
    where
      go : (t : Bool) → le_z (entry_of xs (low + n / 2)) z ≡ t → Finds xs z (halve n xs z low n k)
      go true e = subst (Finds xs z) (sym (halve-keeps xs z low n k g e)) (rec (low + n / 2) (n - n / 2) (halved n g).rest (left-kept low n k g l e))
      go false e = subst (Finds xs z) (sym (halve-drops xs z low n k g e)) (rec low (n / 2) (halved n g).fewer (left-before low n k g l e))

  left-finds : (m low n k : ℕ) → n ≤ m → Left low n k → Finds xs z (halve n xs z low n k)
  left-finds zero low n k h l = absurd (omega (arith, l.some))
  left-finds (suc m) low n k h l =
      by_order 1 n
      (λ (g : 1 < n). look-finds low n k g l (λ low' n' f l'. left-finds m low' n' (k + 1) (omega arith) l'))
      (λ (g : n ≤ 1). subst (Finds xs z) (sym (halve-one xs z n low n k g)) (left_one low n k g l))

  -- A TABLE THAT IS NOT EMPTY HAS ONE ENTRY LEFT
  pub halving-finds : 0 < length xs → Finds xs z (find_start xs z)
  halving-finds h =
      subst (Finds xs z) (sym (find-some xs z h)) (left-finds (length xs) 0 (length xs) 0 (omega arith) (left-all h))
