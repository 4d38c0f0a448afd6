-- AN ALIAS THAT LEADS TO A ZONE gets that zone's own answer. Assumes nothing.
use Rattle.std.specs.Prelude.{Ok}
use mathlib.Core.Path.{◌≡◌, refl, sym, ap, ◌∙◌}
use mathlib.Core.Bool.{Bool, true, false}
use mathlib.Core.List.{List, [], ◌∷◌, ◌++◌}
use mathlib.Core.Logic.{◌⊎◌, inl, inr}
use mathlib.Core.Option.{none, some}
use Prim.Native.Nat.{ℕ}
use native.Mathlib.Omega.{arith}
use lib.IntN.{ℤ}
use lib.Dec.{eqb}
use lib.ListN.{length, get_or}
use borrow.Author.Tests.{eq-eqb, eqb-true}
use Rattle.base.specs.Pick.{pick}
use Rattle.base.specs.Equal.{equal}
use Rattle.base.specs.Parsed.{Parsed, got, bad}
use Rattle.base.specs.All.{All}
use Rattle.base.proofs.AllLaws.{all_head, all_tail}
use Rattle.base.proofs.EqualLaws.{equal-true, equal-refl}
use Rattle.base.proofs.Tests.{clash}
use Rattle.signed.specs.Instant.{instant_of}
use Rattle.zones.specs.Content.{Zone}
use Rattle.zones.specs.Parse.{parse_zone}
use Rattle.zones.specs.declared.Edition.{Edition}
use Rattle.aliases.specs.Field.{entries_of}
use Rattle.alias_lookup.specs.Lookup.{here, Leads}
use Rattle.alias_lookup.proofs.LookupLaws.{lookup-says}
use Rattle.frames.specs.Frame.{Field}
use Rattle.frames.specs.Fields.{fields}
use Rattle.field_checks.specs.Check.{WellFormed, file_pool, HasId}
use Rattle.answers.specs.declared.Mark.TheVariants.{All as Whole}
use Rattle.questions.specs.Question.{ask, answer_at}
use Rattle.named_fields.specs.Named.{Seen, zone_in, seen_in, zones_of, seen_of, ask_named}
use Rattle.demands.specs.Zones.{InRange, Asked, NoZone}
use Rattle.demands.specs.Named.{Aliases, first_pool, leads_to, OfTarget}
use Rattle.demands.proofs.Lone.{none_before}
use Rattle.demands.proofs.Agree.{asked-or-none}
use Rattle.demands.proofs.NamedExact.{zone-given, by-alias}

zone-append : (ys zs : List Seen) (x : List ℕ) → zone_in ys x ≡ none → zone_in (ys ++ zs) x ≡ zone_in zs x
unfolding zone_in
zone-append [] zs x h = refl
zone-append (y ∷ ys) zs x h = go (equal y.id x) h (zone-append ys zs x)
  where
    go : (t : Bool) → pick t (some y.zone) (zone_in ys x) ≡ none → (zone_in ys x ≡ none → zone_in (ys ++ zs) x ≡ zone_in zs x) → pick t (some y.zone) (zone_in (ys ++ zs) x) ≡ zone_in zs x
    go true k rec = clash cc
    go false k rec = rec k

module _ (ts : List (List ℕ)) (x : List ℕ) where
  -- a field that isn't the zone with the ID x
  not_seen : (g : Field) → (HasId ts x g → ⊥) → zone_in (zones_of ts g) x ≡ none
  unfolding zones_of zone_in
  not_seen g n = go (eqb g.id 1) refl
    where
      two : g.id ≡ 1 → (p : Parsed Zone) → parse_zone (length ts) g.body ≡ p → zone_in (seen_in ts p) x ≡ none
      two i (bad m) e = refl
      two i (got z r) e = by (equal (get_or ts z.id []) x) refl
        where
          by : (t : Bool) → equal (get_or ts z.id []) x ≡ t → pick t (some z) none ≡ none
          by true q = absurd (n (record { zone = z; rest = r; is-zone = i; parsed = e; bytes = equal-true (get_or ts z.id []) x q }))
          by false q = refl

      go : (t : Bool) → eqb g.id 1 ≡ t → zone_in (pick t (seen_in ts (parse_zone (length ts) g.body)) []) x ≡ none
      go true e = two (eqb-true g.id 1 e) (parse_zone (length ts) g.body) refl
      go false e = refl

  none_seen : (gs hs : List Field) → All (λ h. HasId ts x h → ⊥) gs → zone_in (seen_of ts (gs ++ hs)) x ≡ zone_in (seen_of ts hs) x
  unfolding seen_of
  none_seen [] hs a = refl
  none_seen (g ∷ gs) hs a = zone-append (zones_of ts g) (seen_of ts (gs ++ hs)) x (not_seen g (all_head a)) ∙ none_seen gs hs (all_tail a)

  first-seen : (g : Field) (hs : List Field) (h : HasId ts x g) → zone_in (seen_of ts (g ∷ hs)) x ≡ some h.zone
  unfolding seen_of zones_of zone_in
  first-seen g hs h = rw (eq-eqb g.id 1 h.is-zone, h.parsed, h.bytes, equal-refl x)

  no-seen : (gs : List Field) → All (λ h. HasId ts x h → ⊥) gs → zone_in (seen_of ts gs) x ≡ none
  unfolding seen_of zone_in
  no-seen [] a = refl
  no-seen (g ∷ gs) a = zone-append (zones_of ts g) (seen_of ts gs) x (not_seen g (all_head a)) ∙ no-seen gs (all_tail a)

-- THE TARGET'S ANSWER
pub alias-target : (ed : Edition) (f id : List ℕ) (z : ℤ) (g : Field) (b : Zone) → WellFormed f → NoZone f id → Aliases f g → InRange z → leads_to f id g ≡ here b → OfTarget ed f id z g
alias-target ed f id z g b w n a h e =
    let l : Leads (zone_in (seen_of (file_pool (fields f)) (fields f))) (entries_of (file_pool (fields f)) g.body) 8 id b =
    rw e at (lookup-says (zone_in (seen_of (file_pool (fields f)) (fields f))) (entries_of (file_pool (fields f)) g.body) 8 id) in
    let i : ask_named f id z Whole ed ≡ Ok (answer_at ed (instant_of z) (first_pool (fields f)) b) = (by-alias ed f id z h w n g a (length f) (omega arith)).answer-is ∙ rw e in
    record { zone = b; leads = l; number = rw i; as-target = i ∙ sym (go l.last l.zone-is (asked-or-none f l.last)) }
  where
    go : (y : List ℕ) → zone_in (seen_of (file_pool (fields f)) (fields f)) y ≡ some b → ((g' : Field) × Asked f y g') ⊎ NoZone f y
        → ask f y z Whole ed ≡ Ok (answer_at ed (instant_of z) (first_pool (fields f)) b)
    go y q (inr m) = let o : some b ≡ none = sym q ∙ no-seen (file_pool (fields f)) y (fields f) m in clash cc
    go y q (inl p) =
        let k : Asked f y p.0 = p.1 in
        let o : zone_in (seen_of (file_pool (fields f)) (fields f)) y ≡ some k.has.zone =
        ap (λ (gs : List Field). zone_in (seen_of (file_pool (fields f)) gs) y) k.splits ∙ none_seen (file_pool (fields f)) y k.before (p.0 ∷ k.behind) (none_before f y p.0 w k) ∙ first-seen (file_pool (fields f)) y p.0 k.behind k.has in
        let s : some b ≡ some k.has.zone = sym q ∙ o in
        let u : k.has.zone ≡ b = cc in
        zone-given ed f y z h w p.0 k ∙ ap (λ (v : Zone). Ok (answer_at ed (instant_of z) (first_pool (fields f)) v)) u
