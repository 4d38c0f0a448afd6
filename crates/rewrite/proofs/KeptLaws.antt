-- What the preferred data of a field keep, from the law of a zone. Assumes nothing.
use mathlib.Core.Path.{◌≡◌, refl, ap, subst⁻¹}
use mathlib.Core.Bool.{Bool, true, false}
use mathlib.Core.List.{List, [], ◌∷◌}
use Prim.Native.Nat.{ℕ, zero, suc, ◌≤◌}
use native.Mathlib.Omega.{arith}
use lib.ListN.{length, take, drop}
use lib.Dec.{eqb}
use borrow.Author.Tests.{eqb-true, eqb-false}
use Rattle.base.specs.Parsed.{got}
use Rattle.base.proofs.Parts.{Bytes}
use Rattle.base.proofs.ByteLaws.{no-bytes, cons-bytes, tail-bytes, drop-bytes}
use Rattle.zones.specs.Content.{Zone}
use Rattle.zones.specs.Parse.{parse_zone}
use Rattle.frames.specs.Fields.{FieldOf}
use Rattle.frames.specs.Frame.{Field}
use Rattle.pieces.specs.Content.{content_of, print}
use Rattle.pieces.proofs.HeadLaws.{print-other}
use Rattle.rewrite.proofs.ZoneLaws.{zone-kept}

-- the preferred data of the data d of a field with the ID i
abbrev pub preferred_data : ℕ → List ℕ → List ℕ
preferred_data i d = print (content_of i d)

-- what the preferred data of the field g keep
pub record FieldKept (g : Field) : Type 0 where
  pub same : content_of g.id (preferred_data g.id g.body) ≡ content_of g.id g.body
  pub shorter : length (preferred_data g.id g.body) ≤ length g.body
  pub exact : length (preferred_data g.id g.body) ≡ length g.body → preferred_data g.id g.body ≡ g.body
  pub copied : (g.id ≡ 1 → ⊥) → preferred_data g.id g.body ≡ g.body
  pub zone : g.id ≡ 1 → (pool : ℕ) (z : Zone) (r : List ℕ) → parse_zone pool g.body ≡ got z r
      → parse_zone pool (preferred_data g.id g.body) ≡ got z []

-- the data of a zone with some pool
pub record IsZone (d : List ℕ) : Type 0 where
  pub pool : ℕ
  pub content : Zone
  pub rest : List ℕ
  pub parsed : parse_zone pool d ≡ got content rest

pub field-kept : (g : Field) → Bytes g.body → (g.id ≡ 1 → IsZone g.body) → FieldKept g
field-kept g b z = go (eqb g.id 1) refl
  where
    go : (t : Bool) → eqb g.id 1 ≡ t → FieldKept g
    go false e =
        let n : g.id ≡ 1 → ⊥ = eqb-false g.id 1 e in
        let c : preferred_data g.id g.body ≡ g.body = print-other g.id g.body n in
        record { same = ap (content_of g.id) c; shorter = rw c (omega arith); exact = λ m. c; copied = λ m. c; zone = λ i. absurd (n i) }
    go true e =
        let i : g.id ≡ 1 = eqb-true g.id 1 e in
        let w : IsZone g.body = z i in
        let k = zone-kept w.pool g.body w.content w.rest b w.parsed in
        record {
          same = subst⁻¹ (λ (j : ℕ). content_of j (preferred_data j g.body) ≡ content_of j g.body) i k.same;
          shorter = subst⁻¹ (λ (j : ℕ). length (preferred_data j g.body) ≤ length g.body) i k.shorter;
          exact = subst⁻¹ (λ (j : ℕ). length (preferred_data j g.body) ≡ length g.body → preferred_data j g.body ≡ g.body) i k.exact;
          copied = λ n. absurd (n i);
          zone = λ i pool y r p. subst⁻¹ (λ (j : ℕ). parse_zone pool (preferred_data j g.body) ≡ got y []) i (zone-kept pool g.body y r b p).parses;
        }

-- the data of a field of bytes are bytes
take-bytes : (n : ℕ) (s : List ℕ) → Bytes s → Bytes (take n s)
take-bytes zero s h = no-bytes
take-bytes (suc n) [] h = no-bytes
take-bytes (suc n) (b ∷ s) h = cons-bytes b (take n s) (h 0) (take-bytes n s (tail-bytes b s h))

pub field-bytes : (f : List ℕ) (g : Field) → Bytes f → FieldOf f g → Bytes g.body
field-bytes f g b o = subst⁻¹ Bytes o.bytes (take-bytes (length g.body) (drop g.start f) (drop-bytes g.start f b))
