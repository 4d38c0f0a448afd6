-- THE ONE PREFERRED FILE: a well-formed file of the same content that is no longer than the preferred one is the preferred one. Assumes
-- nothing.
use mathlib.Core.Path.{◌≡◌, ap, sym, ◌∙◌, subst}
use mathlib.Core.Bool.{Bool, true, false}
use mathlib.Core.List.{List, [], ◌∷◌, ◌++◌, append_assoc}
use Prim.Native.Nat.{ℕ, suc, ◌+◌, ◌≤◌}
use native.Mathlib.Omega.{arith}
use lib.ListN.{length, drop, get_or, drop_of_length-le, take-append-drop}
use lib.Seq.{drop-drop, drop-cons}
use Rattle.base.specs.Bytes.{Bytes}
use Rattle.base.proofs.ByteLaws.{drop-bytes}
use Rattle.base.specs.All.{All}
use Rattle.base.proofs.AllLaws.{all_head, all_tail}
use Rattle.counts.specs.Count.{write_count}
use Rattle.counts.proofs.CountLaws.{count-mono}
use Rattle.frames.specs.Frame.{largest, Field}
use Rattle.frames.specs.Fields.{FieldOf, fields}
use Rattle.frames.proofs.SizeLaws.{size-read, size_exact}
use Rattle.frames.proofs.ChainLaws.{Chain, listing-chain}
use Rattle.frames.proofs.CoverLaws.{starts-zero}
use Rattle.field_checks.specs.Check.{WellFormed}
use Rattle.rewrite.specs.Preferred.{contents, content, preferred, print_fields, print_file}
use Rattle.preferred_fields.specs.Field.{print_field}
use Rattle.frames.specs.Covers.{Covers}
use Rattle.rewrite.proofs.KeptLaws.{preferred_data, FieldKept}
use Rattle.rewrite.proofs.MovedLaws.{head_for, printed-size, printed-within}
use Rattle.rewrite.proofs.PassMovedLaws.{fields-kept}
use Rattle.rewrite.proofs.Rewriting.{file-covers, same-preferred, version-there}

-- the bytes of a field: its ID, its size's code, its data
pub field-bytes-are : (f : List ℕ) (g : Field) (o : FieldOf f g) (code : List ℕ)
    → drop (g.place + 1) f ≡ code ++ drop o.used (drop (g.place + 1) f)
    → drop g.place f ≡ (g.id ∷ (code ++ g.body)) ++ drop g.past f
field-bytes-are f g o code w =
    let n = length g.body in
    let s = drop (g.place + 1) f in
    let first : drop g.place f ≡ get_or f g.place 0 ∷ drop (suc g.place) f = drop-cons f g.place 0 (omega (arith, o.starts, o.ends, o.within)) in
    let one : suc g.place ≡ g.place + 1 = omega arith in
    let start : drop o.used s ≡ drop g.start f = drop-drop o.used (g.place + 1) f ∙ ap (λ (p : ℕ). drop p f) (sym o.starts) in
    let past : drop n (drop g.start f) ≡ drop g.past f = drop-drop n g.start f ∙ ap (λ (p : ℕ). drop p f) (sym o.ends) in
    let body : drop g.start f ≡ g.body ++ drop g.past f
    = sym (take-append-drop n (drop g.start f)) ∙ ap (λ (xs : List ℕ). xs ++ drop n (drop g.start f)) (sym o.bytes) ∙ ap (λ (xs : List ℕ). g.body ++ xs) past in
    let size : s ≡ (code ++ g.body) ++ drop g.past f
    = w ∙ ap (λ (xs : List ℕ). code ++ xs) (start ∙ body) ∙ sym (append_assoc code g.body (drop g.past f)) in
    first ∙ ap (λ (i : ℕ). i ∷ drop (suc g.place) f) o.id-byte ∙ ap (λ (p : ℕ). g.id ∷ drop p f) one ∙ ap (λ (xs : List ℕ). g.id ∷ xs) size

module _ (f : List ℕ) (b : Bytes f) where
  same_bytes : (seen : Bool) (prev at : ℕ) (gs : List Field) → Chain f seen prev at gs → Covers f at gs → All FieldKept gs
      → at ≤ length f → at ≤ largest → length f ≤ at + length (print_fields (contents gs)) → drop at f ≡ print_fields (contents gs)
  unfolding contents print_fields print_field
  same_bytes seen prev at [] c v a l m e = drop_of_length-le f {i = at} (omega arith)
  same_bytes seen prev at (g ∷ gs) c v a l m e =
      let d = preferred_data g.id g.body in
      let more = print_fields (contents gs) in
      let o : FieldOf f g = c.1 in
      let k : FieldKept g = all_head a in
      let p : g.place ≡ at = c.0 in
      let w = size-read (drop (g.place + 1) f) (sym o.size) in
      let r = printed-within f b true g.id g.past g.past gs c.3 (all_tail a) (omega arith) o.within o.limit in
      let t : length (g.id ∷ ((write_count (length d) ++ d) ++ more)) ≡ head_for (length d) + length d + length more = printed-size g.id d more in
      let mono = count-mono (length d) (length g.body) k.shorter in
      let n : length d ≡ length g.body = omega (arith, mono, w.least, o.starts, o.ends, k.shorter, r.in-file) in
      let q : d ≡ g.body = k.exact n in
      let few : o.used ≤ length (write_count (length d)) = omega (arith, o.starts, o.ends, r.in-file) in
      let u : o.used ≤ length (write_count (length g.body)) = subst (λ (x : ℕ). o.used ≤ length (write_count x)) n few in
      let rec = same_bytes true g.id g.past gs c.3 v.2 (all_tail a) o.within o.limit (omega (arith, mono, w.least, o.starts, o.ends)) in
      ap (λ (x : ℕ). drop x f) (sym p) ∙ field-bytes-are f g o (write_count (length g.body)) (size_exact (drop (g.place + 1) f) (drop-bytes (g.place + 1) f b) (sym o.size) u)
      ∙ ap (λ (xs : List ℕ). (g.id ∷ (write_count (length g.body) ++ g.body)) ++ xs) rec
      ∙ ap (λ (y : List ℕ). (g.id ∷ (write_count (length y) ++ y)) ++ more) (sym q)

-- A WELL-FORMED FILE NO LONGER THAN ITS PREFERRED FILE is that file
pub is-preferred : (f : List ℕ) → WellFormed f → Bytes f → length f ≤ length (preferred f) → f ≡ preferred f
unfolding print_file
is-preferred f w b l =
    let s : 4 ≤ length f = version-there f (fields f) (listing-chain f 255) w.some-field in
    sym (take-append-drop 4 f) ∙ ap (λ (xs : List ℕ). xs ++ drop 4 f) (starts-zero f w.some-field)
    ∙ ap (λ (xs : List ℕ). 0 ∷ 0 ∷ 0 ∷ 0 ∷ xs) (same_bytes f b false 0 4 (fields f) (listing-chain f 255) (file-covers f w) (fields-kept f w b) s (omega arith) (omega arith))

-- THE ONE SHORTEST: of all well-formed files of the content of f, the preferred file alone has its length or less
pub only-shortest : (f h : List ℕ) → WellFormed h → Bytes h → content h ≡ content f → length h ≤ length (preferred f) → h ≡ preferred f
only-shortest f h v c e l = is-preferred h v c (rw (same-preferred h f e) l) ∙ same-preferred h f e
