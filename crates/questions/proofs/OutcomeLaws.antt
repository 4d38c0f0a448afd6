-- The question by what the walk to the asked zone and the lookup there gave. Assumes nothing.
use Rattle.base.specs.declared.Refusal.{Refusal}
use Rattle.std.specs.Prelude.{Err, Ok}
use mathlib.Core.Path.{◌≡◌, sym, ap, ◌∙◌}
use mathlib.Core.List.{List}
use Prim.Native.Nat.{ℕ}
use Rattle.base.specs.Parsed.{Parsed, got, bad}
use Rattle.zones.specs.Content.{Zone}
use Rattle.zones.specs.Parse.{parse_zone}
use Rattle.zones.specs.Editions.{under}
use Rattle.zones.specs.Lookup.{in_zone, answer_of}
use Rattle.zones.specs.declared.Edition.{Edition}
use Rattle.zones.specs.declared.Found.{Found as Interval}
use Rattle.frames.specs.Machine.{Out, refused, cut, ended, walk}
use Rattle.answers.specs.Answers.{Pool, no_pool, answered}
use Rattle.answers.specs.declared.Outcome.{Outcome}
use Rattle.answers.specs.declared.Outcome.TheVariants.{Answered, Refused, Cut, End}
use Rattle.locate.specs.Asked.{Held, holder}
use Rattle.locate.specs.View.{part, zone_out, located_out}
use Rattle.locate.specs.declared.Spot.{Spot}
use Rattle.locate.specs.declared.Located.{Located}
use Rattle.locate.specs.declared.Located.TheVariants.{Found, Refused as LocatedRefused, Cut as LocatedCut, End as LocatedEnd}
use Rattle.locate.proofs.HeldLaws.{walk-held}
use Rattle.questions.specs.Question.{answer_at, question}
use Rattle.questions.specs.View.{outcome_of, outcome_at}
use Rattle.base.proofs.Tests.{clash}

module _ (ed : Edition) (t : ℕ) (o : Out Pool Held) where
  pub out-refused : (n : Refusal) (p : ℕ) → o ≡ refused n p → Refused n p ≡ outcome_at ed t o
  out-refused n p e = rw e

  pub out-cut : (p : ℕ) → o ≡ cut p → Cut p ≡ outcome_at ed t o
  out-cut p e = rw e

  pub out-end : (m : Pool) (p : ℕ) → o ≡ ended m p → End p ≡ outcome_at ed t o
  out-end m p e = rw e

-- by what was located, and by the lookup in that zone
module _ (ed : Edition) (t : ℕ) (s : List ℕ) (m : Pool) (l : Located) where
  pub at-refused : (n : Refusal) (p : ℕ) → l ≡ LocatedRefused n p → Refused n p ≡ outcome_at ed t (located_out s m l)
  at-refused n p e = rw e

  pub at_cut : (p : ℕ) → l ≡ LocatedCut p → Cut p ≡ outcome_at ed t (located_out s m l)
  at_cut p e = rw e

  pub at-end : (p : ℕ) → l ≡ LocatedEnd p → End p ≡ outcome_at ed t (located_out s m l)
  at-end p e = rw e

  module _ (v : Spot) (h : l ≡ Found v) where
    abbrev zone : Parsed Zone
    zone = parse_zone v.count (part v.start v.past s)

    pub at-denied : (n : Refusal) → Err n ≡ answer_of ed t zone → Refused n v.place ≡ outcome_at ed t (located_out s m l)
    at-denied n e = go zone e ∙ ap (λ (x : Located). outcome_at ed t (located_out s m x)) (sym h)
      where
        go : (p : Parsed Zone) → Err n ≡ answer_of ed t p → Refused n v.place ≡ outcome_at ed t (zone_out v m p)
        go (got z r) k = clash cc
        go (bad i) k = let y : n ≡ i = cc in ap (λ (j : Refusal). Refused j v.place) y

    pub at-found : (x : Interval) → Ok x ≡ answer_of ed t zone → Answered (answered m x) ≡ outcome_at ed t (located_out s m l)
    at-found x e = go zone e ∙ ap (λ (y : Located). outcome_at ed t (located_out s m y)) (sym h)
      where
        go : (p : Parsed Zone) → Ok x ≡ answer_of ed t p → Answered (answered m x) ≡ outcome_at ed t (zone_out v m p)
        go (got z r) k = let y : x ≡ in_zone t (under ed z) = cc in ap (λ (i : Interval). Answered (answered m i)) y
        go (bad i) k = clash cc

-- of all the bytes
pub out-walk : (ed : Edition) (t : ℕ) (id s : List ℕ) (r : Outcome) → r ≡ outcome_at ed t (walk (holder id) no_pool s) → r ≡ outcome_of (walk (question ed id t) no_pool s)
out-walk ed t id s r e = e ∙ ap outcome_of (sym (walk-held (answer_at ed t) id s))
