-- A walk over fields whose sizes are in the shortest form. Assumes nothing.
use mathlib.Core.Path.{◌≡◌, sym, ap, ◌∙◌, subst}
use mathlib.Core.Bool.{Bool, true, false}
use mathlib.Core.List.{List, ◌∷◌, ◌++◌}
use Prim.Native.Nat.{ℕ, ◌+◌, ◌-◌, ◌≤◌, ◌<◌}
use native.Mathlib.Omega.{arith}
use lib.Dec.{eqb}
use lib.ListN.{length, drop, drop_of_length-le}
use borrow.Author.Tests.{eqb-true}
use Rattle.base.specs.All.{All, all_none, all-also}
use Rattle.base.specs.Bytes.{Bytes}
use Rattle.base.proofs.AllLaws.{all_head}
use Rattle.base.proofs.Tests.{clash}
use Rattle.counts.specs.Count.{write_count}
use Rattle.pool.specs.Pool.{strings_of}
use Rattle.frames.specs.Frame.{Field}
use Rattle.frames.specs.Fields.{FieldOf, fields}
use Rattle.frames.specs.Covers.{Covers}
use Rattle.sizes.specs.View.{IsField, part_of}
use Rattle.sizes.specs.declared.Extent.{Extent}
use Rattle.sizes.proofs.FieldLaws.{Turned, turned, none_left, field-stands}
use Rattle.closed_files.specs.File.{write_field}
use Rattle.closed_fields.specs.View.{PoolChecked}
use Rattle.closed_walks.specs.View.{Walkable}
use Rattle.unchanged_files.specs.View.{PoolHas, FirstStrings, PlainField, plain_fields, PlainWhere}

-- a field whose size is in the shortest form is what is written for it
module _ (f : List ℕ) (b : Bytes f) (g : Field) (o : FieldOf f g) where
  field_plain : o.used ≤ length (write_count (length g.body)) → write_field g.id g.body ++ drop g.past f ≡ drop g.place f
  unfolding write_field
  field_plain h = field-stands f b g o h

module _ (f : List ℕ) (n : ℕ) where
  abbrev Has : List Field → Type 0
  Has gs = All (λ g. PoolHas n g.id g.body) gs

  -- where the fields from the place on are plain, so are all
  pub record Plain (at : ℕ) : Type 0 where
    pub rest : List Field
    pub covers : Covers f at rest
    pub back : plain_fields rest ≡ drop at f → Has rest → (plain_fields (fields f) ≡ drop 4 f) × Has (fields f)

  -- the same, where those before it were plain
  pub record PlainSo (plain : Bool) (at : ℕ) : Type 0 where
    pub so : plain ≡ true → Plain at

  pub plain-start : Walkable f → PlainSo true 4
  plain-start w = record { so = λ t. record { rest = fields f; covers = w.covers; back = λ e u. (e, u) } }

  module _ (at : ℕ) (c : Plain at) (r : Extent) (l : at < length f) (i : IsField f at r) where
    turn : Turned f at c.rest r
    turn = turned f at c.rest r c.covers l i

    covers-turned : Covers f at (turn.field ∷ turn.others)
    covers-turned = subst (Covers f at) turn.split c.covers

    plain-on : Bytes f → r.start - at ≡ 1 + length (write_count (length (part_of f r))) → PoolHas n r.id (part_of f r) → Plain r.end
    unfolding plain_fields
    plain-on b h p =
        let u = turn in
        let g : Field = u.field in
        let o : FieldOf f g = covers-turned.1 in
        let k : g.place ≡ at = covers-turned.0 in
        let m = i.means g o k in
        let s : 1 + o.used ≡ 1 + length (write_count (length g.body)) =
        (let z : 1 + o.used ≡ r.start - at = omega (arith, m.1, o.starts, k) in z) ∙ h ∙ ap (λ (x : List ℕ). 1 + length (write_count (length x))) u.body in
        let e = field_plain f b g o (omega arith) in
        let q : PoolHas n g.id g.body = rw (← u.id, ← u.body) p in
        record {
          rest = u.others;
          covers = u.covers;
          back = λ x y. back-all g u.others u.split
              (ap (λ (z : List ℕ). write_field g.id g.body ++ z) (x ∙ ap (λ (z : ℕ). drop z f) m.2) ∙ e ∙ ap (λ (z : ℕ). drop z f) k) (all-also q y);
        }
      where
        back-all : (g : Field) (gs : List Field) → c.rest ≡ g ∷ gs → plain_fields (g ∷ gs) ≡ drop at f → Has (g ∷ gs)
            → (plain_fields (fields f) ≡ drop 4 f) × Has (fields f)
        back-all g gs s e u = c.back (ap plain_fields s ∙ e) (subst Has (sym s) u)

  module _ (at : ℕ) (before : Bool) (c : PlainSo before at) where
    pub plain-next : (r : Extent) → at < length f → IsField f at r → Bytes f → (t : Bool) → PlainField t before r.id (r.start - at) (part_of f r) n → PlainSo t r.end
    plain-next r l i b t p = record { so = λ e. plain-on at (c.so (p.earlier e)) r l i b (p.size e) (p.pool e) }

    pub plain_end : length f ≤ at → PlainWhere before f n
    unfolding plain_fields
    plain_end l = record { plain = λ t. (whole (c.so t)).0; pools = λ t. (whole (c.so t)).1 }
      where
        whole : Plain at → (plain_fields (fields f) ≡ drop 4 f) × Has (fields f)
        whole d =
            let e = none_left f at d.rest d.covers l in
            d.back (ap plain_fields e ∙ sym (drop_of_length-le f l)) (subst Has (sym e) all_none)

-- ---- one field
module _ (before : Bool) (i h : ℕ) (d : List ℕ) (n : ℕ) where
  pub plain-not : PlainField false before i h d n
  plain-not = record { earlier = λ t. clash cc; size = λ t. clash cc; pool = λ t. clash cc }

  module _ (b : before ≡ true) (k : ℕ) (e : h ≡ 1 + k) (w : k ≡ length (write_count (length d))) where
    sized : h ≡ 1 + length (write_count (length d))
    sized = e ∙ ap (λ (x : ℕ). 1 + x) w

    pub plain_other : (i ≡ 0 → ⊥) → PlainField true before i h d n
    plain_other z = record { earlier = λ t. b; size = λ t. sized; pool = λ t. record { strings = λ o. absurd (z o) } }

    pub plain-pool : (m : ℕ) → m ≡ length (strings_of d) → PlainField (eqb m n) before i h d n
    plain-pool m c = record { earlier = λ t. b; size = λ t. sized; pool = λ t. record { strings = λ o. sym (eqb-true m n t) ∙ c } }

-- ---- the pool behind the version
module _ (f : List ℕ) (w : Walkable f) where
  pub first-none : (n : ℕ) → length f ≤ 4 → FirstStrings f n
  first-none n l = record { means = λ g o p. absurd (omega (arith, o.starts, o.ends, o.within, p)) }

  module _ (r : Extent) (i : IsField f 4 r) where
    pub first-other : (n : ℕ) → (r.id ≡ 0 → ⊥) → FirstStrings f n
    first-other n z = record { means = λ g o p. record { strings = λ e. absurd (z ((i.means g o p).0 ∙ e)) } }

    pub first-pool : (n : ℕ) → n ≡ length (strings_of (part_of f r)) → FirstStrings f n
    first-pool n e = record { means = λ g o p. record { strings = λ z. e ∙ ap (λ (x : List ℕ). length (strings_of x)) (body g o p) } }
      where
        body : (g : Field) (o : FieldOf f g) → g.place ≡ 4 → part_of f r ≡ g.body
        body g o p =
            let m = i.means g o p in
            let k : r.end - r.start ≡ length g.body = omega (arith, m.1, m.2, o.ends) in
            rw (k, m.1) (sym o.bytes)

    pub first-turned : 4 < length f → Turned f 4 (fields f) r
    first-turned l = turned f 4 (fields f) r w.covers l i

    pub first-checked : 4 < length f → PoolChecked r.id (part_of f r)
    first-checked l =
        let u = first-turned l in
        let a : All (λ g. PoolChecked g.id g.body) (u.field ∷ u.others) = subst (All (λ g. PoolChecked g.id g.body)) u.split w.pools in
        rw (u.id, u.body) (all_head a)
