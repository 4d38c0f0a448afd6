-- Lists copied to the front of others, by way of a third and part by part. Assumes nothing.
use mathlib.Core.Path.{◌≡◌, sym, ap, ap₂, ◌∙◌}
use mathlib.Core.List.{List, ◌++◌, append_assoc}
use Prim.Native.Nat.{ℕ, ◌+◌, ◌-◌, ◌≤◌}
use native.Mathlib.Omega.{arith}
use lib.ListN.{length, take, drop, length-append, length-take, length-drop}
use lib.Seq.{take-add, take-length, take-append_seam, drop-append_seam, drop-drop, length-take-le}
use borrow.Rule.Slice.PartMut.{put_mid}
use Rattle.base.proofs.Parts.{part-from, put-from}

-- what b holds at its front after s was copied to it
module _ (s t b : List ℕ) (n : ℕ) (e : n ≡ length s) (q : b ≡ take (length s) s ++ t) where
  pub held : take n b ≡ s
  held = rw (q, e, take-length s) (take-append_seam s t)

  pub held-length : n ≡ length (take n b)
  held-length = e ∙ ap length (sym held)

  -- and what a copy of that leaves
  pub by_way : (d f : List ℕ) → f ≡ take (length (take n b)) (take n b) ++ drop (length (take n b)) d → f ≡ take (length s) s ++ drop (length s) d
  by_way d f k = rw held at k

-- s copied up to i, where d was
module _ (s d w : List ℕ) (i : ℕ) (l : i ≤ length s) (h : length s ≤ length d) (q : w ≡ take i s ++ drop i d) where
  same_length : length w ≡ length d
  same_length = rw q (simp (length-append, length-take, length-drop) (omega arith))

  pub room : (e : ℕ) → i ≤ e → e ≤ length s → length (take (e - i) (drop i s)) ≤ length (take (length w - i) (drop i w))
  room e a b = rw (part-from i w) (simp (length-take, length-drop, same_length) (omega arith))

  pub within : i ≤ length w
  within = omega (arith, same_length)

  pub size : (e : ℕ) → i ≤ e → e ≤ length s → length (take (e - i) (drop i s)) ≡ e - i
  size e a b = length-take-le (e - i) (drop i s) (rw length-drop (omega arith))

  -- the part up to e, put behind that
  module _ (e : ℕ) (a : i ≤ e) (b : e ≤ length s) (ys : List ℕ)
      (k : ys ≡ take (length (take (e - i) (drop i s))) (take (e - i) (drop i s)) ++ drop (length (take (e - i) (drop i s))) (take (length w - i) (drop i w))) where
    front : take i w ≡ take i s
    front =
        let z : length (take i s) ≡ i = length-take-le i s l in
        rw q (ap (λ (j : ℕ). take j (take i s ++ drop i d)) (sym z) ∙ take-append_seam (take i s) (drop i d))

    rest : drop i w ≡ drop i d
    rest =
        let z : length (take i s) ≡ i = length-take-le i s l in
        rw q (ap (λ (j : ℕ). drop j (take i s ++ drop i d)) (sym z) ∙ drop-append_seam (take i s) (drop i d))

    behind : ys ≡ take (e - i) (drop i s) ++ drop e d
    behind =
        let z : i + (e - i) ≡ e = omega arith in
        k ∙ ap₂ ◌++◌ (take-length (take (e - i) (drop i s)))
        (ap₂ drop (size e a b) (part-from i w ∙ rest) ∙ drop-drop (e - i) i d ∙ ap (λ (j : ℕ). drop j d) z)

    pub copied_on : put_mid i (length w - i) w ys ≡ take e s ++ drop e d
    copied_on =
        let z : i + (e - i) ≡ e = omega arith in
        put-from i w ys within
        ∙ ap₂ ◌++◌ front behind
        ∙ sym (append_assoc (take i s) (take (e - i) (drop i s)) (drop e d))
        ∙ ap (λ (r : List ℕ). r ++ drop e d) (sym (take-add i (e - i) s) ∙ ap (λ (j : ℕ). take j s) z)

    pub copied-length : length (put_mid i (length w - i) w ys) ≡ length d
    copied-length = rw copied_on (simp (length-append, length-take, length-drop) (omega arith))
