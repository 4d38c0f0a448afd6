-- A FIELD IS ALL THERE in the first k bytes of a file exactly where the place just past it is at most k. Assumes nothing.
use Rattle.std.specs.Prelude.{Ok}
use mathlib.Core.Path.{◌≡◌, sym, ap, ◌∙◌}
use mathlib.Core.List.{List, ◌++◌}
use Prim.Native.Nat.{ℕ, ◌+◌, ◌≤◌}
use native.Mathlib.Omega.{arith}
use lib.ListN.{length, take, drop, length-drop, take-append-drop}
use lib.Seq.{length-take-le, get_or-take, take-append-le, drop-append-le}
use Rattle.frames.specs.Frame.{read_size, Field}
use Rattle.frames.specs.Fields.{FieldOf}
use Rattle.frames.proofs.SizeLaws.{size-within}

module _ (f : List ℕ) (k : ℕ) (l : k ≤ length f) (g : Field) where
  len : length (take k f) ≡ k
  len = length-take-le k f l

  rest : (p : ℕ) → p ≤ k → drop p f ≡ drop p (take k f) ++ drop k f
  rest p h =
      ap (drop p) (sym (take-append-drop k f)) ∙ drop-append-le p (take k f) (drop k f) (omega (arith, len))

  -- "A field is all there when the part holds its ID byte, its size and every data byte that the size counts."
  pub past-there : FieldOf f g → g.past ≤ k → FieldOf (take k f) g
  past-there o h =
      let n = length g.body in
      let s = drop (g.place + 1) (take k f) in
      let c : read_size (s ++ drop k f) ≡ Ok (n, o.used) = ap read_size (sym (rest (g.place + 1) (omega (arith, o.starts, o.ends)))) ∙ o.size in
      let d = drop g.start (take k f) in
      record {
        id-byte = get_or-take k f g.place 0 (omega (arith, o.starts, o.ends)) ∙ o.id-byte;
        used = o.used;
        size = size-within s (drop k f) n o.used c (rw length-drop (omega (arith, o.starts, o.ends, len)));
        starts = o.starts;
        bytes = o.bytes ∙ ap (take n) (rest g.start (omega (arith, o.ends))) ∙ take-append-le n d (drop k f) (rw length-drop (omega (arith, o.ends, len)));
        ends = o.ends;
        within = omega (arith, len);
        limit = o.limit;
      }

  pub there-past : FieldOf (take k f) g → g.past ≤ k
  there-past o = omega (arith, o.within, len)
