-- THE NUMBERS OF A MAPPING, and that 17 is exactly "there is none". Assumes nothing.
use Rattle.answers.specs.declared.Found.{Found}
use Rattle.base.specs.Refusals.{refusal_number}
use Rattle.base.specs.declared.Refusal.TheVariants.{NoInstant}
use Rattle.base.specs.Coded.{Fault}
use Rattle.std.specs.Prelude.{Err, Ok, Result}
use mathlib.Core.Path.{◌≡◌, refl, sym, ap, ◌∙◌, subst}
use mathlib.Core.Bool.{Bool, true, false}
use mathlib.Core.List.{List, [], ◌∷◌}
use Prim.Native.Nat.{ℕ}
use native.Mathlib.Omega.{arith}
use lib.Dec.{ltb, eqb}
use lib.IntN.{ℤ, pos}
use Rattle.base.specs.Pick.{pick}
use Rattle.base.specs.Numbers.{number_given}
use Rattle.signed.specs.Instant.{biased_of, ticks_of, InRange}
use Rattle.frames.specs.Machine.{Out, found, refused, cut, ended, walk}
use Rattle.zones.specs.declared.Edition.TheVariants.{Two}
use Rattle.answers.specs.Answers.{Pool, no_pool}
use Rattle.answers.specs.Numbers.{given_by_answer}
use Rattle.answers.specs.declared.Mark.TheVariants.{All}
use Rattle.locate.specs.Asked.{Held, held, holder}
use Rattle.local_times.specs.Tally.{tally_of}
use Rattle.local_times.specs.Instants.{instants_of}
use Rattle.local_times.specs.declared.Tally.{Tally}
use Rattle.wall_times.specs.WallTime.{ask_all, ReadsAs, count_of, Counts, MapsTo}
use Rattle.wall_times.specs.View.{local_of, mapping_of, mapping_at, mapping_in}
use Rattle.wall_times.specs.Numbers.{given_by_mapping}
use Rattle.wall_times.proofs.MapLaws.{map-some, map-one}
use Rattle.wall_times.proofs.EndsLaws.{only_if}
use Rattle.demands.specs.Numbers.{OfFile, OfQuestion, not_yet, question-cut, question-fault, no-zone, no-instant, InTable}
use Rattle.demands.specs.Numbers.{OfMapping, mapping-cut, mapping-fault, mapping-no-zone, mapping-none}
use Rattle.demands.proofs.Numbers.{Comes, asking-numbers, question-numbers}

map-file : (n : ℕ) → OfFile n → OfMapping n
map-file n h = mapping-fault h

map-above : (i : ℕ) → Unit {0} → ltb 1 i ≡ true → OfMapping 12
map-above i u e = mapping-no-zone refl

tally-numbers : (a : Tally) → InTable OfMapping (given_by_mapping (mapping_of a))
unfolding mapping_of
tally-numbers a = go (eqb a.count 0)
  where
    go : (t : Bool) → InTable OfMapping (given_by_mapping (pick t (Err (NoInstant, 0)) (Ok (a.count, ticks_of a.earliest, ticks_of a.latest))))
    go true = mapping-none refl
    go false = tt

module _ (f id : List ℕ) (local : ℤ) (r : Result (ℕ × ℤ × ℤ) Fault) (m : MapsTo f id local r) where
  -- A MAPPING GIVES 0, 2 TO 12 OR 17, whatever the bytes: 1 and 14 never
  pub mapping-numbers : InTable OfMapping (given_by_mapping r)
  mapping-numbers =
      subst (λ (x : Result (ℕ × ℤ × ℤ) Fault). InTable OfMapping (given_by_mapping x)) (map-one f id local (mapping_in f id local) r (map-some f id local) m)
      (go (walk (holder id) no_pool f) (asking-numbers OfMapping map-file map-above held id f))
    where
      go : (o : Out Pool Held) → Comes (holder id) OfMapping (λ i. Unit {0}) map-file map-above o → InTable OfMapping (given_by_mapping (mapping_at (local_of local) o))
      go (found v p) h = tally-numbers (tally_of (instants_of (local_of local) v.zone.body))
      go (refused n p) h = h
      go (cut p) h = mapping-cut refl
      go (ended y p) h = mapping-no-zone refl

  -- 17 is at place 0, and no instant reads as the local time (none-if in wall_times is the other way)
  pub none-exactly : number_given (given_by_mapping r) ≡ 17 → (r ≡ Err (NoInstant, 0)) × ((z : ℤ) → ReadsAs f id local z → ⊥)
  unfolding biased_of
  none-exactly e = go (ask_all f id (pos 0)) refl
    where
      epoch-in : InRange (pos 0)
      epoch-in k = omega arith

      not-asked : {G : Type 0} (n : ℕ) → OfQuestion n → n ≡ 17 → G
      not-asked n (not_yet q) k = absurd (omega arith)
      not-asked n (question-cut q) k = absurd (omega arith)
      not-asked n (question-fault q) k = absurd (omega (arith, q.high))
      not-asked n (no-zone q) k = absurd (omega arith)
      not-asked n (no-instant q) k = absurd (omega arith)

      of-count : (zs : List ℤ) → number_given (given_by_mapping (count_of zs)) ≡ 17 → count_of zs ≡ Err (NoInstant, 0)
      of-count [] k = refl
      of-count (z ∷ zs) k = absurd (omega arith)

      counted : (c : Counts (ReadsAs f id local) r) → r ≡ Err (NoInstant, 0)
      counted c = c.is ∙ of-count c.instants (ap (λ (x : Result (ℕ × ℤ × ℤ) Fault). number_given (given_by_mapping x)) (sym c.is) ∙ e)

      go : (x : Result Found Fault) → ask_all f id (pos 0) ≡ x → (r ≡ Err (NoInstant, 0)) × ((z : ℤ) → ReadsAs f id local z → ⊥)
      go (Ok x) k =
          let c : Counts (ReadsAs f id local) r = m.counts (pos 0) x epoch-in k in
          (counted c, only_if (ReadsAs f id local) r c NoInstant 0 (counted c))
      go (Err (n, p)) k =
          let w : r ≡ Err (n, p) = m.refuses (pos 0) n p epoch-in k in
          not-asked (refusal_number n) (subst (λ (y : Result Found Fault). InTable OfQuestion (given_by_answer y)) k (question-numbers f id (pos 0) All Two))
          (ap (λ (x : Result (ℕ × ℤ × ℤ) Fault). number_given (given_by_mapping x)) (sym w) ∙ e)
