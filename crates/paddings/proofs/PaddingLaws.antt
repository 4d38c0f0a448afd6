-- PADDINGS ARE NO CONTENT: files that differ in them have one preferred file; and every well-formed file is laid out with some. Assumes nothing.
use Rattle.base.specs.Coded.{Coded}
use Rattle.std.specs.Prelude.{Ok}
use mathlib.Core.Path.{◌≡◌, refl, sym, ap, ap₂, ◌∙◌, subst}
use mathlib.Core.List.{List, [], ◌∷◌, ◌++◌, append_assoc}
use Prim.Native.Nat.{ℕ, suc, ◌+◌, ◌^◌, ◌<◌}
use native.Mathlib.Omega.{arith}
use lib.ListN.{length, take, drop, get_or, length-drop, drop_of_length-le, take-append-drop}
use lib.Seq.{take-append_seam, drop_at, drop-drop, drop-cons}
use Rattle.base.specs.Bytes.{Bytes}
use Rattle.base.specs.All.{All, all_none, all-also}
use Rattle.base.proofs.AllLaws.{all_head, all_tail}
use Rattle.base.proofs.ByteLaws.{drop-bytes}
use Rattle.base.proofs.PairLaws.{ok_parts}
use Rattle.counts.specs.Groups.{padded_groups}
use Rattle.counts.proofs.AnyGroupLaws.{any-group, padded-length}
use Rattle.frames.specs.Frame.{read_size, Field}
use Rattle.frames.specs.Fields.{FieldOf, fields}
use Rattle.frames.specs.Covers.{Covers}
use Rattle.frames.proofs.SizeLaws.{size-read, size-padded, size-form}
use Rattle.frames.proofs.CoverLaws.{listing-covers, starts-zero}
use Rattle.frames.proofs.PartLaws.{walk-ended}
use Rattle.field_checks.specs.Check.{start, job, WellFormed}
use Rattle.pieces.specs.Content.{content_of}
use Rattle.preferred_fields.specs.Field.{FieldContent}
use Rattle.rewrite.specs.Preferred.{contents, content}
use Rattle.rewrite.proofs.Rewriting.{same-preferred}
use Rattle.rewrite.proofs.ShortestLaws.{field-bytes-are}
use Rattle.paddings.specs.Padding.{Laid, lay_field, lay_fields, lay_file, Fits, SameButSizes, PaddingsAside, IsLaid}

-- what the fields say, whatever bytes their sizes take
abbrev content_at : Laid → FieldContent
content_at x = record { id = x.id; content = content_of x.id x.body }

unfoldable laid_contents : List Laid → List FieldContent
laid_contents [] = []
laid_contents (x ∷ xs) = content_at x ∷ laid_contents xs

same-contents : (xs ys : List Laid) → SameButSizes xs ys → laid_contents xs ≡ laid_contents ys
unfolding laid_contents
same-contents [] [] s = refl
same-contents [] (y ∷ ys) s = absurd s
same-contents (x ∷ xs) [] s = absurd s
same-contents (x ∷ xs) (y ∷ ys) s =
    ap₂ (λ (c : FieldContent) (cs : List FieldContent). c ∷ cs)
    (ap₂ (λ (i : ℕ) (d : List ℕ). record { id = i; content = content_of i d }) s.0 s.1) (same-contents xs ys s.2)

-- the field g of f stands where x is laid, before more bytes
module _ (f : List ℕ) (g : Field) (o : FieldOf f g) (x : Laid) (t : Fits x) (more : List ℕ) (e : drop g.place f ≡ lay_field x ++ more) where
  abbrev code : List ℕ
  code = padded_groups x.more (length x.body)

  split : drop g.place f ≡ get_or f g.place 0 ∷ drop (suc g.place) f
  split = drop-cons f g.place 0 (omega (arith, o.starts, o.ends, o.within))

  behind-id : drop (g.place + 1) f ≡ code ++ (x.body ++ more)
  unfolding lay_field
  behind-id =
      let z : get_or f g.place 0 ∷ drop (suc g.place) f ≡ x.id ∷ ((code ++ x.body) ++ more) = sym split ∙ e in
      let y : drop (suc g.place) f ≡ (code ++ x.body) ++ more = ap (drop 1) z in
      let one : g.place + 1 ≡ suc g.place = omega arith in
      ap (λ (p : ℕ). drop p f) one ∙ y ∙ append_assoc code x.body more

  same_id : g.id ≡ x.id
  unfolding lay_field
  same_id = sym o.id-byte ∙ ap (λ (xs : List ℕ). get_or xs 0 0) (sym split ∙ e)

  size_is : ◌≡◌ {A = Coded ℕ} (Ok (length g.body, o.used)) (Ok (length x.body, suc x.more))
  size_is = sym o.size ∙ ap read_size behind-id ∙ size-padded x.more (length x.body) (x.body ++ more) t.most t.small t.enough

  same_length : length g.body ≡ length x.body
  same_length = (ok_parts size_is).0

  same-used : o.used ≡ suc x.more
  same-used = (ok_parts size_is).1

  behind-size : drop g.start f ≡ x.body ++ more
  behind-size =
      ap (λ (p : ℕ). drop p f) o.starts ∙ sym (drop-drop o.used (g.place + 1) f) ∙ ap (drop o.used) behind-id
      ∙ drop_at code (x.body ++ more) o.used (padded-length x.more (length x.body) ∙ sym same-used)

  same_body : g.body ≡ x.body
  same_body = o.bytes ∙ ap₂ take same_length behind-size ∙ take-append_seam x.body more

  behind-field : drop g.past f ≡ more
  behind-field =
      ap (λ (p : ℕ). drop p f) o.ends ∙ sym (drop-drop (length g.body) g.start f) ∙ ap (drop (length g.body)) behind-size
      ∙ drop_at x.body more (length g.body) (sym same_length)

module _ (f : List ℕ) where
  -- THE FIELDS OF A FILE THAT IS LAID OUT say what was laid
  laid-contents : (at : ℕ) (gs : List Field) (xs : List Laid) → Covers f at gs → All Fits xs → drop at f ≡ lay_fields xs
      → contents gs ≡ laid_contents xs
  unfolding contents laid_contents lay_fields lay_field
  laid-contents at [] [] c a e = refl
  laid-contents at [] (x ∷ xs) c a e =
      let l : length (drop at f) ≡ suc (length ((padded_groups x.more (length x.body) ++ x.body) ++ lay_fields xs)) = ap length e in
      absurd (omega (arith, rw length-drop at l))
  laid-contents at (g ∷ gs) [] c a e =
      let o : FieldOf f g = c.1 in
      let l : length (drop at f) ≡ 0 = ap length e in
      absurd (omega (arith, rw length-drop at l, c.0, o.starts, o.ends, o.within))
  laid-contents at (g ∷ gs) (x ∷ xs) c a e =
      let o : FieldOf f g = c.1 in
      let t : Fits x = all_head a in
      let p : drop g.place f ≡ lay_field x ++ lay_fields xs = ap (λ (q : ℕ). drop q f) c.0 ∙ e in
      ap₂ (λ (d : FieldContent) (ds : List FieldContent). d ∷ ds)
      (ap₂ (λ (i : ℕ) (d : List ℕ). record { id = i; content = content_of i d }) (same_id f g o x t (lay_fields xs) p) (same_body f g o x t (lay_fields xs) p))
      (laid-contents g.past gs xs c.2 (all_tail a) (behind-field f g o x t (lay_fields xs) p))

  -- the fields of f from a place on, as they are laid
  record Rest (at : ℕ) : Type 0 where
    fields-are : List Laid
    fit : All Fits fields-are
    bytes : drop at f ≡ lay_fields fields-are

  laid-rest : Bytes f → (at : ℕ) (gs : List Field) → Covers f at gs → Rest at
  unfolding lay_fields lay_field
  laid-rest b at [] c = record { fields-are = []; fit = all_none; bytes = drop_of_length-le f {i = at} (omega arith) }
  laid-rest b at (g ∷ gs) c =
      let o : FieldOf f g = c.1 in
      let s = drop (g.place + 1) f in
      let z = size-read s (sym o.size) in
      let w = size-form s (drop-bytes (g.place + 1) f b) (sym o.size) in
      let rest = laid-rest b g.past gs c.2 in
      let x : Laid = record { id = g.id; more = w.more; body = g.body } in
      let t : Fits x = record {
        most = omega (arith, z.most, w.size);
        enough = subst (λ (n : ℕ). length g.body < 128 ^ n) w.size ((any-group 4 7 s (sym o.size)).fits (omega arith));
        small = z.small;
      } in
      record {
        fields-are = x ∷ rest.fields-are;
        fit = all-also t rest.fit;
        bytes = ap (λ (q : ℕ). drop q f) (sym c.0) ∙ field-bytes-are f g o (padded_groups w.more (length g.body)) w.form
            ∙ ap (λ (xs : List ℕ). (g.id ∷ (padded_groups w.more (length g.body) ++ g.body)) ++ xs) rest.bytes;
      }

covered : (f : List ℕ) → WellFormed f → Covers f 4 (fields f)
covered f w = listing-covers f (walk-ended job start w.memory f (length f) w.ends).whole w.some-field

-- EVERY WELL-FORMED FILE is laid out, each of its sizes in 1 to 5 bytes
pub file-laid : (f : List ℕ) → WellFormed f → Bytes f → IsLaid f
unfolding lay_file
file-laid f w b =
    let r = laid-rest f b 4 (fields f) (covered f w) in
    record {
      fields = r.fields-are;
      fit = r.fit;
      bytes = sym (take-append-drop 4 f) ∙ ap₂ ◌++◌ (starts-zero f w.some-field) r.bytes;
    }

-- PADDINGS ASIDE: two well-formed files that differ in them have the same content and the same preferred file
pub paddings-aside : (xs ys : List Laid) → All Fits xs → All Fits ys → SameButSizes xs ys → WellFormed (lay_file xs) → WellFormed (lay_file ys)
    → PaddingsAside (lay_file xs) (lay_file ys)
unfolding lay_file
paddings-aside xs ys a b s w v =
    let e : content (lay_file xs) ≡ content (lay_file ys) =
    laid-contents (lay_file xs) 4 (fields (lay_file xs)) xs (covered (lay_file xs) w) a refl
    ∙ same-contents xs ys s
    ∙ sym (laid-contents (lay_file ys) 4 (fields (lay_file ys)) ys (covered (lay_file ys) v) b refl) in
    record { same-content = e; same-preferred = same-preferred (lay_file xs) (lay_file ys) e }
