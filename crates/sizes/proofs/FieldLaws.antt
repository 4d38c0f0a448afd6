-- A field of a file that is read, and a walk over the fields. Assumes nothing.
use Rattle.base.specs.declared.Refusal.{Refusal}
use Rattle.std.specs.Prelude.{Err, Ok}
use Rattle.base.specs.Coded.{Coded}
use mathlib.Core.Path.{◌≡◌, refl, sym, ap, ◌∙◌, subst⁻¹}
use mathlib.Core.List.{List, [], ◌∷◌, ◌++◌, append_assoc}
use Prim.Native.Nat.{ℕ, suc, ◌+◌, ◌-◌, ◌≤◌, ◌<◌}
use native.Mathlib.Omega.{arith}
use native.Mathlib.Numerals.{add-one}
use lib.ListN.{length, get_or, take, drop, take-append-drop}
use lib.Seq.{drop-drop, drop-cons}
use Rattle.base.specs.Bytes.{Bytes}
use Rattle.base.proofs.ByteLaws.{drop-bytes}
use Rattle.base.proofs.PairLaws.{ok_parts}
use Rattle.base.proofs.Parts.{part-from}
use Rattle.base.proofs.Tests.{clash}
use Rattle.counts.specs.Groups.{any_groups}
use Rattle.counts.specs.Count.{write_count}
use Rattle.frames.specs.Fields.{FieldOf}
use Rattle.frames.specs.Frame.{read_size, Field}
use Rattle.frames.specs.Covers.{Covers}
use Rattle.frames.proofs.SizeLaws.{size-read, size_exact}
use Rattle.sizes.specs.View.{IsField, part_of}
use Rattle.sizes.specs.declared.Extent.{Extent}

-- the size of the field at a place
module _ (f : List ℕ) (at : ℕ) (r : Coded ℕ) (e : r ≡ read_size (take (length f - (at + 1)) (drop (at + 1) f))) where
  lent : r ≡ read_size (drop (at + 1) f)
  lent = rw (part-from (at + 1) f) at e

  size-of : (g : Field) (o : FieldOf f g) → g.place ≡ at → r ≡ Ok (length g.body, o.used)
  size-of g o p = lent ∙ ap (λ (q : ℕ). read_size (drop (q + 1) f)) (sym p) ∙ o.size

  pub field-none : (k : Refusal) (x : Extent) → r ≡ Err k → IsField f at x
  field-none k x h =
      record {
        means = λ g o p. let z : Err k ≡ Ok (length g.body, o.used) = sym h ∙ size-of g o p in clash cc;
      }

  pub field-some : (n u : ℕ) → r ≡ Ok (n, u) → IsField f at (record { id = get_or f at 0; start = at + 1 + u; end = at + 1 + u + n })
  field-some n u h = record { means = λ g o p. got g o p }
    where
      got : (g : Field) (o : FieldOf f g) → g.place ≡ at → (get_or f at 0 ≡ g.id) × (at + 1 + u ≡ g.start) × (at + 1 + u + n ≡ g.past)
      got g o p =
          let z : ◌≡◌ {A = Coded ℕ} (Ok (n, u)) (Ok (length g.body, o.used)) = sym h ∙ size-of g o p in
          let a : n ≡ length g.body = (ok_parts z).0 in
          let b : u ≡ o.used = (ok_parts z).1 in
          let c : get_or f at 0 ≡ g.id = ap (λ (q : ℕ). get_or f q 0) (sym p) ∙ o.id-byte in
          (c, omega (arith, o.starts), omega (arith, o.starts, o.ends))

  pub field-small : (n u : ℕ) → r ≡ Ok (n, u) → (n ≤ 2147483647) × (u ≤ 5)
  field-small n u h = let c = size-read (drop (at + 1) f) (sym h ∙ lent) in (c.small, c.most)

-- a field of no data, by its size of one byte
pub field-empty : (f : List ℕ) (at : ℕ) → at + 2 ≤ length f → get_or f (at + 1) 0 ≡ 0 → IsField f at (record { id = get_or f at 0; start = at + 2; end = at + 2 })
unfolding any_groups
field-empty f at l z =
    let e : drop (at + 1) f ≡ get_or f (at + 1) 0 ∷ drop (suc (at + 1)) f = drop-cons f (at + 1) 0 (omega arith) in
    let i : Ok (0, 1) ≡ read_size (take (length f - (at + 1)) (drop (at + 1) f)) = rw (part-from (at + 1) f, e, z) refl in
    let a : at + 1 + 1 ≡ at + 2 = omega arith in
    let b : at + 1 + 1 + 0 ≡ at + 2 = omega arith in
    rw (b, a) at (field-some f at (Ok (0, 1)) i 0 1 refl)

-- the field r that was read at a place, where the fields gs stand from there on
pub record Turned (f : List ℕ) (at : ℕ) (gs : List Field) (r : Extent) : Type 0 where
  pub field : Field
  pub others : List Field
  pub split : gs ≡ field ∷ others
  pub place : field.place ≡ at
  pub id : r.id ≡ field.id
  pub body : part_of f r ≡ field.body
  pub ordered : r.start ≤ r.end
  pub farther : at < r.start
  pub within : r.end ≤ length f
  pub covers : Covers f r.end others

pub turned : (f : List ℕ) (at : ℕ) (gs : List Field) (r : Extent) → Covers f at gs → at < length f → IsField f at r → Turned f at gs r
turned f at [] r c l i = absurd (omega arith)
turned f at (g ∷ gs) r c l i =
    let o : FieldOf f g = c.1 in
    let m = i.means g o c.0 in
    let n : r.end - r.start ≡ length g.body = omega (arith, m.1, m.2, o.ends) in
    record {
      field = g;
      others = gs;
      split = refl;
      place = c.0;
      id = m.0;
      body = rw (n, m.1) (sym o.bytes);
      ordered = omega (arith, m.1, m.2, o.ends);
      farther = omega (arith, m.1, o.starts, c.0);
      within = omega (arith, m.2, o.within);
      covers = subst⁻¹ (λ (q : ℕ). Covers f q gs) m.2 c.2;
    }

-- at the end of the bytes no field is left
pub none_left : (f : List ℕ) (at : ℕ) (gs : List Field) → Covers f at gs → length f ≤ at → gs ≡ []
none_left f at [] c l = refl
none_left f at (g ∷ gs) c l = absurd (omega (arith, c.0, c.1.starts, c.1.ends, c.1.within))

-- a field whose size is in the shortest form stands in the file as it is written
pub field-stands : (f : List ℕ) → Bytes f → (g : Field) (o : FieldOf f g) → o.used ≤ length (write_count (length g.body))
    → (g.id ∷ (write_count (length g.body) ++ g.body)) ++ drop g.past f ≡ drop g.place f
field-stands f b g o h =
    let n : ℕ = length g.body in
    let w : List ℕ = write_count n in
    let p : ℕ = g.place in
    let e₁ : drop (p + 1) f ≡ w ++ drop o.used (drop (p + 1) f) = size_exact (drop (p + 1) f) (drop-bytes (p + 1) f b) (sym o.size) h in
    let e₂ : drop o.used (drop (p + 1) f) ≡ drop g.start f = drop-drop o.used (p + 1) f ∙ ap (λ (x : ℕ). drop x f) (sym o.starts) in
    let e₃ : g.body ++ drop g.past f ≡ drop g.start f =
    ap (λ (x : List ℕ). x ++ drop g.past f) o.bytes
    ∙ ap (λ (x : List ℕ). take n (drop g.start f) ++ x) (ap (λ (x : ℕ). drop x f) o.ends ∙ sym (drop-drop n g.start f))
    ∙ take-append-drop n (drop g.start f) in
    let e₄ : drop p f ≡ get_or f p 0 ∷ drop (suc p) f = drop-cons f p 0 (omega (arith, o.starts, o.ends, o.within)) in
    ap (λ (x : List ℕ). g.id ∷ x) (append_assoc w g.body (drop g.past f) ∙ ap (λ (x : List ℕ). w ++ x) (e₃ ∙ sym e₂) ∙ sym e₁ ∙ ap (λ (x : ℕ). drop x f) (add-one p))
    ∙ ap (λ (x : ℕ). x ∷ drop (suc p) f) (sym o.id-byte)
    ∙ sym e₄

-- the same of the field r that was read at a place
pub read-stands : (f : List ℕ) → Bytes f → (at : ℕ) (gs : List Field) (r : Extent) → Covers f at gs → at < length f → IsField f at r
    → r.start - at ≡ 1 + length (write_count (length (part_of f r)))
    → (r.id ∷ (write_count (length (part_of f r)) ++ part_of f r)) ++ drop r.end f ≡ drop at f
read-stands f b at [] r c l i h = absurd (omega arith)
read-stands f b at (g ∷ gs) r c l i h =
    let o : FieldOf f g = c.1 in
    let m = i.means g o c.0 in
    let d : part_of f r ≡ g.body = (let n : r.end - r.start ≡ length g.body = omega (arith, m.1, m.2, o.ends) in rw (n, m.1) (sym o.bytes)) in
    let k : r.start - at ≡ 1 + length (write_count (length g.body)) = rw d at h in
    let x = field-stands f b g o (omega (arith, m.1, o.starts, c.0)) in
    rw (d, m.0, m.2) (x ∙ ap (λ (y : ℕ). drop y f) c.0)
