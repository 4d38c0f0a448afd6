-- The mapping of a found zone. Assumes nothing.
use Rattle.answers.specs.declared.Found.{Found}
use Rattle.base.specs.declared.Refusal.{Refusal}
use Rattle.base.specs.Coded.{Fault}
use Rattle.std.specs.Prelude.{Err, Ok, Result}
use mathlib.Core.Path.{◌≡◌, refl, sym, ap, ◌∙◌, subst}
use mathlib.Core.List.{List}
use Prim.Native.Nat.{ℕ, ◌≤◌}
use native.Mathlib.Omega.{arith}
use lib.IntN.{ℤ}
use lib.Dec.{leb}
use borrow.Author.Tests.{ne_eqb, leb-true}
use Rattle.base.specs.Parsed.{Parsed, got, bad}
use Rattle.base.proofs.Tests.{clash, pick-holds}
use Rattle.signed.specs.Instant.{instant_of, InRange}
use Rattle.pool.specs.Index.{room_of}
use Rattle.location_lookup.specs.Location.{lent_part}
use Rattle.zones.specs.Content.{Zone}
use Rattle.zones.specs.Parse.{parse_zone}
use Rattle.zones.specs.Editions.{under}
use Rattle.zones.specs.Lookup.{in_zone}
use Rattle.zones.specs.Sound.{Sound}
use Rattle.zones.specs.declared.Edition.TheVariants.{Two}
use Rattle.zones.proofs.SoundLaws.{zone-sound}
use Rattle.local_times.specs.Tally.{tally_of}
use Rattle.local_times.specs.Instants.{instants_of}
use Rattle.local_times.specs.View.{answer_of}
use Rattle.local_times.specs.declared.Tally.{Tally}
use Rattle.local_times.proofs.MostLaws.{instants-most}
use Rattle.found_zones.specs.FoundZone.{zone_at, answer_in, place_in, zone_answer, ask_zone, FindsZone}
use Rattle.found_zones.specs.declared.FoundZone.{FoundZone}
use Rattle.wall_times.specs.WallTime.{ask_all, ReadsBy, MapsBy, MapsTo, Lists, Counts}
use Rattle.wall_times.specs.Facts.{Bounded}
use Rattle.wall_times.specs.View.{local_of, mapping_of}
use Rattle.wall_times.proofs.MapLaws.{map-looked, map-denied, one-mapping}
use Rattle.wall_times.proofs.MostLaws.{tally-count, mapping-bounded}
use Rattle.zone_wall_times.specs.ZoneMapping.{MapsZone}

-- BY THE FILE: on the bytes that a zone was found in, its mapping is the file's
module _ (q p : ℤ → Result Found Fault) (same : (z : ℤ) → q z ≡ p z) (local : ℤ) where
  reads_other : (z : ℤ) → ReadsBy q local z → ReadsBy p local z
  reads_other z r = record { in-range = r.in-range; given = r.given; answer = sym (same z) ∙ r.answer; sum = r.sum }

pub maps-other : (q p : ℤ → Result Found Fault) → ((z : ℤ) → q z ≡ p z) → (local : ℤ) (r : Result (ℕ × ℤ × ℤ) Fault) → MapsBy q local r → MapsBy p local r
maps-other q p same local r m = record {
  refuses = λ z n a i e. m.refuses z n a i (same z ∙ e);
  counts = λ z x i e. counted (m.counts z x i (same z ∙ e));
}
  where
    counted : Counts (ReadsBy q local) r → Counts (ReadsBy p local) r
    counted c = record {
      instants = c.instants;
      lists = record {
        rising = c.lists.rising;
        sound = λ z a. reads_other q p same local z (c.lists.sound z a);
        complete = λ z h. c.lists.complete z (reads_other p q (λ y. sym (same y)) local z h);
      };
      is = c.is;
    }

pub found-maps : (f id : List ℕ) (v : FoundZone) → FindsZone f id (Ok v) → (local : ℤ) (r : Result (ℕ × ℤ × ℤ) Fault) → MapsZone f v local r → MapsTo f id local r
found-maps f id v h local r m = maps-other (λ z. ask_zone f v z Two) (ask_all f id) (λ z. h.to z Two) local r m

-- the question on a zone at an instant in range
in-range : (f : List ℕ) (v : FoundZone) (z : ℤ) → InRange z → (p : Parsed Zone) → zone_at f v ≡ p → ask_zone f v z Two ≡ zone_answer f v Two (instant_of z) p
unfolding ask_zone
in-range f v z i p e = rw (ne_eqb (instant_of z) 0 i) (ap (zone_answer f v Two (instant_of z)) e)

-- what the code gives
abbrev mapping_by : FoundZone → ℕ → Parsed Zone → Result (ℕ × ℤ × ℤ) Fault
mapping_by v l (got z r) = mapping_of (tally_of (instants_of l z.body))
mapping_by v l (bad n) = Err (n, place_in v)

module _ (f : List ℕ) (v : FoundZone) (local : ℤ) where
  maps-by : MapsZone f v local (mapping_by v (local_of local) (zone_at f v))
  unfolding under
  maps-by = go (zone_at f v) refl
    where
      go : (p : Parsed Zone) → zone_at f v ≡ p → MapsZone f v local (mapping_by v (local_of local) p)
      go (got z r) e =
          map-looked (λ y. ask_zone f v y Two) local _ z (zone-sound _ _ z r e).0 (λ t. answer_in f v (in_zone t z)) (λ y i. in-range f v y i (got z r) e) (λ t. refl)
      go (bad n) e = map-denied (λ y. ask_zone f v y Two) local n (place_in v) (λ y i. in-range f v y i (bad n) e)

  -- by the lookup, in the parts that were lent
  module _ (pool zone : List ℕ) (count l : ℕ) (a : Result Tally Refusal) (lent-pool : pool ≡ lent_part f v.pool v.past) (counts : count ≡ room_of pool)
      (lent-zone : zone ≡ lent_part f v.start v.end) (at : l ≡ local_of local) (finds : a ≡ answer_of l (parse_zone count zone)) where
    found-is : a ≡ answer_of (local_of local) (zone_at f v)
    found-is = finds ∙ rw (counts, lent-pool, lent-zone, at)

    pub zone-denied : (n : Refusal) (p : ℕ) → a ≡ Err n → p ≡ place_in v → MapsZone f v local (Err (n, p))
    zone-denied n p e q = subst (MapsZone f v local) (sym (go (zone_at f v) (sym e ∙ found-is))) maps-by
      where
        go : (x : Parsed Zone) → Err n ≡ answer_of (local_of local) x → ◌≡◌ {A = Result (ℕ × ℤ × ℤ) Fault} (Err (n, p)) (mapping_by v (local_of local) x)
        go (got z r) h = clash cc
        go (bad i) h = let w : n ≡ i = cc in rw (w, q)

    pub zone-counted : (b : Tally) (r : Result (ℕ × ℤ × ℤ) Fault) → a ≡ Ok b → r ≡ mapping_of b → MapsZone f v local r
    zone-counted b r e q = subst (MapsZone f v local) (sym (q ∙ go (zone_at f v) (sym e ∙ found-is))) maps-by
      where
        go : (x : Parsed Zone) → Ok b ≡ answer_of (local_of local) x → mapping_of b ≡ mapping_by v (local_of local) x
        go (got z r) h = let w : b ≡ tally_of (instants_of (local_of local) z.body) = cc in ap mapping_of w
        go (bad i) h = clash cc

  -- A COUNT IS AT MOST 4,098, and the place of a refusal one in a file
  pub zone-bounded : (r : Result (ℕ × ℤ × ℤ) Fault) → MapsZone f v local r → Bounded r
  zone-bounded r m =
      subst Bounded (one-mapping (λ z. ask_zone f v z Two) local (mapping_by v (local_of local) (zone_at f v)) r maps-by m) (go (zone_at f v) refl)
    where
      go : (p : Parsed Zone) → zone_at f v ≡ p → Bounded (mapping_by v (local_of local) p)
      go (got z r) e =
          let ts = instants_of (local_of local) z.body in
          mapping-bounded (tally_of ts) (omega (arith, tally-count ts, instants-most _ (local_of local) z.body (zone-sound _ _ z r e).0.body_ok))
      go (bad n) e = record { to = pick-holds (λ (p : ℕ). p ≤ 4194304) (leb v.place 4194304) (λ q. leb-true v.place 4194304 q) (λ q. omega arith) }
