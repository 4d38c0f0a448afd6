-- Parts of a slice as the code lends them. Assumes nothing.
use mathlib.Core.Path.{◌≡◌, sym, ap, ◌∙◌}
use mathlib.Core.List.{List, [], ◌∷◌, ◌++◌, append-nil}
use Prim.Native.Nat.{ℕ, zero, suc, ◌+◌, ◌-◌, ◌≤◌}
use native.Mathlib.Omega.{arith}
use lib.ListN.{length, take, drop, drop_of_length-le, length-drop}
use lib.Seq.{take_all, take-nil, take-take, drop-drop}
use borrow.Rule.Slice.PartMut.{put_mid}
pub use Rattle.base.specs.Bytes.{Bytes}

-- &s[a..] is what stands from a on
pub part-from : (a : ℕ) (s : List ℕ) → take (length s - a) (drop a s) ≡ drop a s
part-from a s = take_all (length s - a) (drop a s) (rw length-drop (omega arith))

-- &mut d[a..], come back as ys, stands behind what is before a
pub put-from : (a : ℕ) (d ys : List ℕ) → a ≤ length d → put_mid a (length d - a) d ys ≡ take a d ++ ys
put-from a d ys h = rw (drop_of_length-le (drop a d) {i = length d - a} (rw length-drop (omega arith)), append-nil)

-- a part of a part
drop-take : (i m : ℕ) (l : List ℕ) → i ≤ m → drop i (take m l) ≡ take (m - i) (drop i l)
drop-take zero m l h = let e : m ≡ m - 0 = omega arith in ap (λ (j : ℕ). take j l) e
drop-take (suc i) zero l h = absurd (omega arith)
drop-take (suc i) (suc m) [] h = sym (take-nil (suc m - suc i))
drop-take (suc i) (suc m) (b ∷ l) h =
    let e : m - i ≡ suc m - suc i = omega arith in
    drop-take i m l (omega arith) ∙ ap (λ (j : ℕ). take j (drop i l)) e

pub part-of-part : (f : List ℕ) (start len at n : ℕ) → at + n ≤ len → take n (drop at (take len (drop start f))) ≡ take n (drop (start + at) f)
part-of-part f start len at n h =
    ap (take n) (drop-take at len (drop start f) (omega arith))
    ∙ take-take n (len - at) (drop at (drop start f)) (omega arith)
    ∙ rw drop-drop
