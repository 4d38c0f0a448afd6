-- What is shown of a question holds of one that gives the same at every instant in range. And the answers are the only ones. Assumes nothing.
use Rattle.std.specs.Prelude.{Result}
use Rattle.base.specs.Coded.{Fault}
use mathlib.Core.Path.{◌≡◌, sym, ap, ◌∙◌, subst}
use mathlib.Core.List.{List, [], ◌∷◌}
use native.Mathlib.Omega.{arith}
use lib.IntN.{ℤ}
use Rattle.base.proofs.AllLaws.{all_map}
use Rattle.signed.specs.Instant.{biased_of, InRange, instant_of}
use Rattle.answers.specs.declared.Found.{Found}
use Rattle.renewals.specs.Renewal.{first_tick, no_end, end_of, renewal, Renewed, last, again, NoGap, Screen}

pub first-in-range : InRange first_tick
unfolding biased_of
first-in-range e = omega arith

module _ (q r : ℤ → Result Found Fault) (e : (z : ℤ) → InRange z → r z ≡ q z) where
  renewed-same : (z : ℤ) → InRange z → (xs : List Found) → Renewed q z xs → Renewed r z xs
  renewed-same z i _ (last a b) = last (e z i ∙ a) b
  renewed-same z i _ (again {x = x} {xs = xs} a k v) = again (e z i ∙ a) k (renewed-same (renewal x) k xs v)

  pub no-gap-same : (xs : List Found) → NoGap q xs → NoGap r xs
  no-gap-same xs g = record {
    renewed = renewed-same first_tick first-in-range xs g.renewed;
    met-once = g.met-once;
    rising = g.rising;
    joined = g.joined;
    same = all_map (λ x s z i m. e z i ∙ s z i m) g.same;
  }

  pub screen-same : (z : ℤ) → InRange z → Screen q z → Screen r z
  screen-same z i s = record {
    first = s.first;
    later = s.later;
    renewed = renewed-same z i (s.first ∷ s.later) s.renewed;
    shows = λ y j h. e y j ∙ s.shows y j h;
  }

-- what is asked, and when, is fixed by the answers
pub end-out : (z : ℤ) → z ≡ no_end → instant_of z ≡ 0
unfolding biased_of
end-out z e = ap instant_of e

not-again : (x : Found) {G : Type 0} → end_of x ≡ no_end → InRange (renewal x) → G
not-again x e r = absurd (r (end-out (renewal x) e))

pub renewed-one : (q : ℤ → Result Found Fault) (z : ℤ) (xs ys : List Found) → Renewed q z xs → Renewed q z ys → xs ≡ ys
renewed-one q z _ _ (last {x = x} a e) (last {x = y} b g) = let p : x ≡ y = cc in ap (λ (u : Found). u ∷ []) p
renewed-one q z _ _ (last {x = x} a e) (again {x = y} b r w) =
    let p : x ≡ y = cc in not-again y (subst (λ (u : Found). end_of u ≡ no_end) p e) r
renewed-one q z _ _ (again {x = x} a r w) (last {x = y} b g) =
    let p : y ≡ x = cc in not-again x (subst (λ (u : Found). end_of u ≡ no_end) p g) r
renewed-one q z _ _ (again {x = x} {xs = xs} a r v) (again {x = y} {xs = ys} b s w) =
    let p : x ≡ y = cc in
    let t : xs ≡ ys = renewed-one q (renewal x) xs ys v (subst (λ (u : Found). Renewed q (renewal u) ys) (sym p) w) in
    cc
