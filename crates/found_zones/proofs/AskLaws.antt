-- Each way out of a question on a found zone. Assumes nothing.
use Rattle.base.specs.declared.Refusal.{Refusal}
use Rattle.base.specs.declared.Refusal.TheVariants.{OutOfRange}
use Rattle.base.specs.Coded.{Fault}
use Rattle.std.specs.Prelude.{Err, Ok, Result}
use mathlib.Core.Path.{◌≡◌, sym, ap, ◌∙◌}
use mathlib.Core.List.{List}
use Prim.Native.Nat.{ℕ, ◌≤◌, ◌<◌}
use native.Mathlib.Omega.{arith}
use lib.IntN.{ℤ}
use borrow.Author.Tests.{eq-eqb, ne_eqb, le-leb, lt-leb}
use Rattle.base.specs.Parsed.{Parsed, got, bad}
use Rattle.base.specs.Moment.{Finite}
use Rattle.base.proofs.Tests.{clash}
use Rattle.signed.specs.Instant.{instant_of}
use Rattle.pool.specs.Index.{room_of}
use Rattle.pool.specs.declared.Span.{Span}
use Rattle.location_lookup.specs.Location.{lent_part, text_in}
use Rattle.zones.specs.Content.{Zone}
use Rattle.zones.specs.Parse.{parse_zone}
use Rattle.zones.specs.Editions.{under}
use Rattle.zones.specs.Lookup.{in_zone, answer_of}
use Rattle.zones.specs.Sound.{FoundOk}
use Rattle.zones.specs.declared.Edition.{Edition}
use Rattle.zones.specs.declared.Found.{Found as Interval}
use Rattle.zones.proofs.RangeLaws.{found_ok}
use Rattle.answers.specs.Answers.{answer_by}
use Rattle.answers.specs.declared.Found.{Found}
use Rattle.found_zones.specs.FoundZone.{place_in, zone_at, zone_answer, ask_zone}
use Rattle.found_zones.specs.declared.FoundZone.{FoundZone}

pub place-far : (v : FoundZone) → 4194304 < v.place → 0 ≡ place_in v
place-far v h = rw (lt-leb v.place 4194304 h)

pub place-near : (v : FoundZone) → v.place ≤ 4194304 → v.place ≡ place_in v
place-near v h = rw (le-leb v.place 4194304 h)

-- by the lookup, in the parts that were lent
module _ (f : List ℕ) (v : FoundZone) (ed : Edition) (t : ℕ) (pool zone : List ℕ) (count : ℕ) (a : Result Interval Refusal)
    (lent-pool : pool ≡ lent_part f v.pool v.past) (counts : count ≡ room_of pool) (lent-zone : zone ≡ lent_part f v.start v.end)
    (finds : a ≡ answer_of ed t (parse_zone count zone)) where
  found-is : a ≡ answer_of ed t (zone_at f v)
  found-is = finds ∙ rw (counts, lent-pool, lent-zone)

  pub in-denied : (n : Refusal) (p : ℕ) → a ≡ Err n → p ≡ place_in v → ◌≡◌ {A = Result Found Fault} (Err (n, p)) (zone_answer f v ed t (zone_at f v))
  in-denied n p e q = go (zone_at f v) (sym e ∙ found-is)
    where
      go : (x : Parsed Zone) → Err n ≡ answer_of ed t x → ◌≡◌ {A = Result Found Fault} (Err (n, p)) (zone_answer f v ed t x)
      go (got z r) h = clash cc
      go (bad i) h = let w : n ≡ i = cc in rw (w, q)

  module _ (x : Interval) (e : a ≡ Ok x) where
    pub in-ok : Finite t → FoundOk count x
    in-ok g = found_ok ed count t zone x g (sym e ∙ finds)

    pub in-found : (name : Span) (y : Found) → name ≡ text_in f v.pool v.past x.name → y ≡ answer_by name.at name.len x
        → Ok y ≡ zone_answer f v ed t (zone_at f v)
    in-found name y n q = go (zone_at f v) (sym e ∙ found-is)
      where
        go : (p : Parsed Zone) → Ok x ≡ answer_of ed t p → Ok y ≡ zone_answer f v ed t p
        go (got z r) h = let w : x ≡ in_zone t (under ed z) = cc in rw (q, n, w)
        go (bad i) h = clash cc

-- BY THE TICK
module _ (f : List ℕ) (v : FoundZone) (z : ℤ) (ed : Edition) (t : ℕ) (e : t ≡ instant_of z) where
  pub zone-outside : t ≡ 0 → ◌≡◌ {A = Result Found Fault} (Err (OutOfRange, 0)) (ask_zone f v z ed)
  unfolding ask_zone
  zone-outside h = rw (eq-eqb (instant_of z) 0 (sym e ∙ h))

  pub zone-inside : (t ≡ 0 → ⊥) → (a : Result Found Fault) → a ≡ zone_answer f v ed t (zone_at f v) → a ≡ ask_zone f v z ed
  unfolding ask_zone
  zone-inside h a k =
      rw (ne_eqb (instant_of z) 0 (λ q. h (e ∙ q))) (k ∙ ap (λ (u : ℕ). zone_answer f v ed u (zone_at f v)) e)
