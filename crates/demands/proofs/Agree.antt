-- The check and the question agree: on a well-formed file a question answers, or gives 12 or 14, and nothing else. Assumes nothing.
use Rattle.answers.specs.declared.Found.{Found}
use Rattle.std.specs.Prelude.{Result}
use Rattle.base.specs.Coded.{Fault}
use mathlib.Core.Path.{◌≡◌, refl, sym, ap, ◌∙◌, subst, subst⁻¹}
use mathlib.Core.Bool.{Bool, true, false}
use mathlib.Core.List.{List, [], ◌∷◌, ◌++◌}
use mathlib.Core.Logic.{◌⊎◌, inl, inr}
use Prim.Native.Nat.{ℕ}
use native.Mathlib.Omega.{arith}
use lib.IntN.{ℤ}
use lib.Dec.{eqb}
use lib.ListN.{length, get_or}
use borrow.Author.Tests.{eqb-true, eqb-false}
use Rattle.base.specs.Parsed.{Parsed, got, bad}
use Rattle.signed.specs.Instant.{instant_of}
use Rattle.base.specs.Equal.{equal}
use Rattle.base.proofs.EqualLaws.{equal-true, equal-refl}
use Rattle.zones.specs.Content.{Zone}
use Rattle.zones.specs.Parse.{parse_zone}
use Rattle.zones.specs.declared.Edition.{Edition}
use Rattle.frames.specs.Frame.{Field}
use Rattle.frames.specs.Fields.{fields}
use Rattle.base.specs.All.{All, all_none, all-also}
use Rattle.answers.specs.Numbers.{given_by_answer}
use Rattle.questions.specs.Question.{ask}
use Rattle.answers.specs.declared.Mark.TheVariants.{All as Whole}
use Rattle.field_checks.specs.Check.{WellFormed, file_pool, HasId}
use Rattle.demands.specs.Zones.{InRange, Asked, NoZone}
use Rattle.demands.specs.Whole.{Agrees, answers, no-zone, no-instant}
use Rattle.demands.proofs.Exact.{zone-there, missing-whole}
use Rattle.base.proofs.Tests.{clash}

-- whether a field is the zone with the ID is decided
has-id : (ts : List (List ℕ)) (id : List ℕ) (g : Field) → HasId ts id g ⊎ (HasId ts id g → ⊥)
has-id ts id g = by-id (eqb g.id 1) refl
  where
    by-zone : g.id ≡ 1 → (p : Parsed Zone) → parse_zone (length ts) g.body ≡ p → HasId ts id g ⊎ (HasId ts id g → ⊥)
    by-zone i (bad n) e = inr (λ h. let z : bad n ≡ got h.zone h.rest = sym e ∙ h.parsed in clash cc)
    by-zone i (got w q) e = by_bytes (equal (get_or ts w.id []) id) refl
      where
        by_bytes : (b : Bool) → equal (get_or ts w.id []) id ≡ b → HasId ts id g ⊎ (HasId ts id g → ⊥)
        by_bytes true k = inl (record { zone = w; rest = q; is-zone = i; parsed = e; bytes = equal-true (get_or ts w.id []) id k })
        by_bytes false k = inr (λ h.
            let z : got w q ≡ got h.zone h.rest = sym e ∙ h.parsed in
            let y : h.zone ≡ w = cc in
            let b : get_or ts w.id [] ≡ id = subst (λ (u : Zone). get_or ts u.id [] ≡ id) y h.bytes in
            let t : true ≡ false = sym (ap (λ (s : List ℕ). equal s id) b ∙ equal-refl id) ∙ k in
            let o : ◌≡◌ {A = ℕ} 0 1 = cc in
            omega arith)

    by-id : (b : Bool) → eqb g.id 1 ≡ b → HasId ts id g ⊎ (HasId ts id g → ⊥)
    by-id true e = by-zone (eqb-true g.id 1 e) (parse_zone (length ts) g.body) refl
    by-id false e = inr (λ h. absurd (eqb-false g.id 1 e h.is-zone))

-- such a field of some fields, or none is
record One (ts : List (List ℕ)) (id : List ℕ) (gs : List Field) : Type 0 where
  field_of : Field
  before : List Field
  behind : List Field
  splits : gs ≡ before ++ field_of ∷ behind
  has : HasId ts id field_of

find-one : (ts : List (List ℕ)) (id : List ℕ) (gs : List Field) → One ts id gs ⊎ All (λ h. HasId ts id h → ⊥) gs
find-one ts id [] = inr all_none
find-one ts id (g ∷ gs) = go (has-id ts id g) (find-one ts id gs)
  where
    go : HasId ts id g ⊎ (HasId ts id g → ⊥) → One ts id gs ⊎ All (λ h. HasId ts id h → ⊥) gs → One ts id (g ∷ gs) ⊎ All (λ h. HasId ts id h → ⊥) (g ∷ gs)
    go (inl h) r = inl (record { field_of = g; before = []; behind = gs; splits = refl; has = h })
    go (inr n) (inl f) = inl (record {
      field_of = f.field_of;
      before = g ∷ f.before;
      behind = f.behind;
      splits = ap (λ (xs : List Field). g ∷ xs) f.splits;
      has = f.has;
    })
    go (inr n) (inr a) = inr (all-also n a)

-- every file has the asked zone or lacks it
pub asked-or-none : (f id : List ℕ) → ((g : Field) × Asked f id g) ⊎ NoZone f id
asked-or-none f id = go (find-one (file_pool (fields f)) id (fields f))
  where
    go : One (file_pool (fields f)) id (fields f) ⊎ NoZone f id → ((g : Field) × Asked f id g) ⊎ NoZone f id
    go (inl x) = inl (x.field_of, record { before = x.before; behind = x.behind; splits = x.splits; has = x.has })
    go (inr n) = inr n

-- WHAT A QUESTION THAT MEANS "THIS IS ALL" GIVES on a well-formed file
pub agree : (ed : Edition) (f id : List ℕ) (z : ℤ) → WellFormed f → Agrees f (given_by_answer (ask f id z Whole ed))
unfolding ask
agree ed f id z w = by-instant (eqb (instant_of z) 0) refl
  where
    in-range : InRange z → ((g : Field) × Asked f id g) ⊎ NoZone f id → Agrees f (given_by_answer (ask f id z Whole ed))
    in-range h (inl a) = subst⁻¹ (λ (x : Result Found Fault). Agrees f (given_by_answer x)) (zone-there ed f id z a.0 (length f) w a.1 h (omega arith)).answered answers
    in-range h (inr n) = subst⁻¹ (λ (x : Result Found Fault). Agrees f (given_by_answer x)) (missing-whole ed f id z w n h) no-zone

    by-instant : (b : Bool) → eqb (instant_of z) 0 ≡ b → Agrees f (given_by_answer (ask f id z Whole ed))
    by-instant true e = rw e no-instant
    by-instant false e = in-range (eqb-false (instant_of z) 0 e) (asked-or-none f id)
