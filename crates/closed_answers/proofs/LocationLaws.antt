-- LOCATIONS, on two files whose fields say the same one by one: the answers are the same, places aside. Assumes nothing.
use Rattle.std.specs.declared.option.Option.TheVariants.{Some}
use mathlib.Core.Path.{◌≡◌, refl, sym, ap, ◌∙◌, subst⁻¹}
use mathlib.Core.Bool.{Bool, true, false}
use mathlib.Core.List.{List, ◌∷◌}
use mathlib.Core.Option.{Option, none, some}
use Prim.Native.Nat.{ℕ, ◌-◌, ◌<◌}
use native.Mathlib.Omega.{arith}
use lib.Dec.{eqb}
use lib.ListN.{length, take, drop}
use borrow.Author.Tests.{eq-eqb, ne_eqb, eqb-true}
use Rattle.base.specs.Pick.{pick}
use Rattle.locations.specs.Content.{id_of}
use Rattle.locations.specs.declared.LocationField.{LocationField}
use Rattle.locations.specs.declared.LocationField.TheVariants.{Zone, Zone1970}
use Rattle.frames.specs.Frame.{Field}
use Rattle.frames.specs.Fields.{FieldOf, fields}
use Rattle.field_search.specs.Search.{field_with, place_in, field_place}
use Rattle.field_checks.specs.Check.{WellFormed}
use Rattle.field_checks.proofs.WellFormedLaws.{well-formed-good}
use Rattle.location_lookup.specs.Location.{lent_part, by_fields, in_file, location_of}
use Rattle.location_lookup.proofs.LookupLaws.{lent-in}
use Rattle.mentions.specs.Content.{renumbered}
use Rattle.renumbered_lists.specs.Answers.{SameAnswer}
use Rattle.renumbered_lists.proofs.AnswerLaws.{field-same}
use Rattle.closed_answers.proofs.BesideLaws.{Pairs, no-pair, and-pair}
use Rattle.closed_answers.proofs.SameLaws.{SameField, SameFiles}
use Rattle.closed_answers.proofs.CheckLaws.{well-formed-same}

-- the data of a field, as a part of the file
lent-body : (f : List ℕ) (g : Field) → FieldOf f g → lent_part f g.start g.past ≡ g.body
lent-body f g o =
    let n : g.past - g.start ≡ length g.body = omega (arith, o.ends) in
    sym (lent-in f g.start g.past o.within (omega (arith, o.ends))) ∙ ap (λ (k : ℕ). take k (drop g.start f)) n ∙ sym o.bytes

-- the first field of some ID
data Both (F : Field → Field → Type 0) (i : ℕ) : Option Field → Option Field → Type 0 where
  neither : Both F i none none
  both_some : {g k : Field} → F g k → g.id ≡ i → Both F i (some g) (some k)

with-pairs : (F : Field → Field → Type 0) → ((g k : Field) → F g k → k.id ≡ g.id) → (i : ℕ) (gs ks : List Field) → Pairs F gs ks
    → Both F i (field_with i gs) (field_with i ks)
unfolding field_with
with-pairs F ids i gs ks no-pair = neither
with-pairs F ids i gs ks (and-pair {x = g} {y = k} {xs = xs} {ys = ys} p ps) =
    subst⁻¹ (λ (t : Bool). Both F i (pick (eqb g.id i) (some g) (field_with i xs)) (pick t (some k) (field_with i ys)))
    (ap (λ (j : ℕ). eqb j i) (ids g k p))
    (go (eqb g.id i) refl (with-pairs F ids i xs ys ps))
  where
    go : (t : Bool) → eqb g.id i ≡ t → Both F i (field_with i xs) (field_with i ys)
        → Both F i (pick t (some g) (field_with i xs)) (pick t (some k) (field_with i ys))
    go true e rec = both_some p (eqb-true g.id i e)
    go false e rec = rec

not-pool : (field : LocationField) → 0 < id_of field
not-pool Zone = omega arith
not-pool Zone1970 = omega arith

-- field 0 is the first, and any other ID is behind it
pool-place : (f : List ℕ) (g : Field) (gs : List Field) → fields f ≡ g ∷ gs → g.id ≡ 0 → field_place 0 f ≡ Some (g.place, g.start, g.past)
unfolding field_with
pool-place f g gs e i = rw (e, eq-eqb g.id 0 i)

behind-pool : (f : List ℕ) (g : Field) (gs : List Field) (i : ℕ) → fields f ≡ g ∷ gs → g.id ≡ 0 → 0 < i → field_place i f ≡ place_in (field_with i gs)
unfolding field_with
behind-pool f g gs i e z l = rw (e, ne_eqb g.id i (λ q. omega arith))

module _ (f h : List ℕ) (ts us : List (List ℕ)) (s : SameFiles f h ts us) (field : LocationField) (number : ℕ) where
  in-file-same : SameAnswer f h (in_file f field number) (in_file h field number)
  unfolding in_file
  in-file-same =
      let b = s.beside in
      rw (
        pool,
        pool',
        behind-pool f b.first b.others (id_of field) b.splits b.is-first (not-pool field),
        behind-pool h b.first' b.others' (id_of field) b.splits' b.is-first' (not-pool field),
      )
      (go (field_with (id_of field) b.others) (field_with (id_of field) b.others')
      (with-pairs (SameField f h ts us) b.ids (id_of field) b.others b.others' b.pairs))
    where
      pool : field_place 0 f ≡ Some (s.beside.first.place, s.beside.first.start, s.beside.first.past)
      pool = pool-place f s.beside.first s.beside.others s.beside.splits s.beside.is-first

      pool' : field_place 0 h ≡ Some (s.beside.first'.place, s.beside.first'.start, s.beside.first'.past)
      pool' = pool-place h s.beside.first' s.beside.others' s.beside.splits' s.beside.is-first'

      go : (x y : Option Field) → Both (SameField f h ts us) (id_of field) x y
          → SameAnswer f h (by_fields f field number (Some (s.beside.first.place, s.beside.first.start, s.beside.first.past)) (place_in x))
          (by_fields h field number (Some (s.beside.first'.place, s.beside.first'.start, s.beside.first'.past)) (place_in y))
      go x y neither = record { means = refl }
      go x y (both_some {g = g} {k = k} a i) =
          let d = a.locations field i in
          let e = lent-body f g a.of-file in
          let e' = lent-body h k a.of-file' in
          field-same f h d.number ts us _ _ _ _ _ _ pool pool'
          (rw (lent-body f s.beside.first s.of-file) s.pool) (rw (lent-body h s.beside.first' s.of-file') s.pool')
          field number d.locations g.place g.start g.past k.place k.start k.past (rw e d.parsed)
          (e' ∙ d.renumbers ∙ ap (λ (q : List ℕ). renumbered d.number (id_of field) q) (sym e))
          (rw e d.named)

  pub location-same : WellFormed f → SameAnswer f h (location_of f field number) (location_of h field number)
  unfolding location_of
  location-same w = rw (well-formed-good f w, well-formed-good h (well-formed-same f h ts us s w)) in-file-same
