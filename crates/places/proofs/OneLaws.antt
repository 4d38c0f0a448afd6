-- What stands for a parse is one value: Stands determines its result. Assumes nothing.
use mathlib.Core.Path.{◌≡◌, sym, ap, ◌∙◌}
use Prim.Native.Nat.{ℕ, ◌-◌, ◌≤◌}
use mathlib.Core.List.{List}
use native.Mathlib.Omega.{arith}
use lib.ListN.{length, drop, length-drop}
use Rattle.base.specs.Parsed.{Parsed, got, bad}
use Rattle.places.specs.Placed.{Placed, at, no, Stands}

-- the parse p of some end of s, with the place behind what was read
abbrev pub in_place : {A : Type 0} → List ℕ → Parsed A → Placed A
in_place s (got a r) = at a (length s - length r)
in_place s (bad n) = no n

pub stands_one : {A : Type 0} (s : List ℕ) (p : Parsed A) (x : Placed A) → Stands s p x → x ≡ in_place s p
stands_one s p (at a e) h =
    let l : e ≤ length s = h.within in
    let z : length s - length (drop e s) ≡ e = rw length-drop (omega arith) in
    sym (ap (in_place s) h.means ∙ ap (λ (k : ℕ). at a k) z)
stands_one s p (no n) h = sym (ap (in_place s) h.means)
