-- What a mapping says: 17 exactly if no instant reads as the local time; a count's earliest is the least and its latest the greatest, and at
-- no other instant does the question give the local time back. Assumes nothing.
use Rattle.answers.specs.declared.Found.{Found}
use Rattle.base.specs.declared.Refusal.{Refusal}
use Rattle.base.specs.declared.Refusal.TheVariants.{NoInstant}
use Rattle.base.specs.Coded.{Fault}
use Rattle.std.specs.Prelude.{Err, Ok, Result}
use mathlib.Core.Path.{◌≡◌, refl, sym, ap, ◌∙◌, subst}
use mathlib.Core.List.{List, [], ◌∷◌}
use mathlib.Core.Logic.{inl, inr}
use Prim.Native.Nat.{ℕ}
use native.Mathlib.Omega.{arith}
use lib.IntN.{ℤ, pos}
use lib.ListN.{length}
use lib.Signed.{◌≤ℤ◌, ≤ℤ_refl, <ℤ-≤ℤ_trans}
use Rattle.base.proofs.Tests.{clash}
use Rattle.signed.specs.Instant.{biased_of, InRange}
use Rattle.signed.proofs.OrderLaws.{lt-le}
use Rattle.wall_times.specs.WallTime.{ask_all, ReadsAs, Among, After, Lists, latest_of, count_of, Counts, MapsTo}
use Rattle.wall_times.specs.Facts.{GivesBack}
use Rattle.wall_times.proofs.CountLaws.{among-after}

-- the ends of a rising list
latest-in : (z : ℤ) (zs : List ℤ) → Among (latest_of z zs) (z ∷ zs)
latest-in z [] = inl refl
latest-in z (y ∷ ys) = inr (latest-in y ys)

at_most : (z x : ℤ) (zs : List ℤ) → After z zs → Among x (z ∷ zs) → x ≤ℤ latest_of z zs
at_most z x [] r (inl e) = subst (λ (u : ℤ). u ≤ℤ z) (sym e) (≤ℤ_refl z)
at_most z x [] r (inr m) = absurd m
at_most z x (y ∷ ys) r (inl e) =
    subst (λ (u : ℤ). u ≤ℤ latest_of y ys) (sym e) (lt-le (<ℤ-≤ℤ_trans r.0 (at_most y y ys r.1 (inl refl))))
at_most z x (y ∷ ys) r (inr m) = at_most y x ys r.1 m

at_least : (z x : ℤ) (zs : List ℤ) → After z zs → Among x (z ∷ zs) → z ≤ℤ x
at_least z x zs r (inl e) = subst (λ (u : ℤ). z ≤ℤ u) (sym e) (≤ℤ_refl z)
at_least z x zs r (inr m) = lt-le (among-after z x zs r m)

-- "Number 17, place 0, exactly if there is none"
module _ (P : ℤ → Type 0) (r : Result (ℕ × ℤ × ℤ) Fault) (c : Counts P r) where
  pub none-if : ((z : ℤ) → P z → ⊥) → r ≡ Err (NoInstant, 0)
  none-if h = c.is ∙ go c.instants c.lists.sound
    where
      go : (zs : List ℤ) → ((z : ℤ) → Among z zs → P z) → count_of zs ≡ Err (NoInstant, 0)
      go [] s = refl
      go (z ∷ zs) s = absurd (h z (s z (inl refl)))

  pub only_if : (n : Refusal) (p : ℕ) → r ≡ Err (n, p) → (z : ℤ) → P z → ⊥
  only_if n p e z q = go c.instants (sym c.is ∙ e) (c.lists.complete z q)
    where
      go : (zs : List ℤ) → count_of zs ≡ Err (n, p) → Among z zs → ⊥
      go [] k m = m
      go (y ∷ ys) k m = clash cc

-- what is counted; nothing where that is refused
abbrev counted : Result (ℕ × ℤ × ℤ) Fault → ℕ × ℤ × ℤ
counted (Ok p) = p
counted (Err p) = (0, pos 0, pos 0)

module _ (f id : List ℕ) (local : ℤ) (n : ℕ) (a b : ℤ) where
  counts-back : Counts (ReadsAs f id local) (Ok (n, a, b)) → GivesBack f id local n a b
  counts-back c = go c.instants c.lists c.is
    where
      go : (zs : List ℤ) → Lists (ReadsAs f id local) zs → ◌≡◌ {A = Result (ℕ × ℤ × ℤ) Fault} (Ok (n, a, b)) (count_of zs) → GivesBack f id local n a b
      go [] l e = clash cc
      go (z ∷ zs) l e =
          let w : length (z ∷ zs) ≡ n = sym (ap (λ (r : Result (ℕ × ℤ × ℤ) Fault). (counted r).0) e) in
          let x : z ≡ a = sym (ap (λ (r : Result (ℕ × ℤ × ℤ) Fault). (counted r).1) e) in
          let y : latest_of z zs ≡ b = sym (ap (λ (r : Result (ℕ × ℤ × ℤ) Fault). (counted r).2) e) in
          record {
            instants = z ∷ zs;
            rising = l.rising;
            many = w;
            gives = l.sound;
            no_other = λ u q i k s. l.complete u (record { in-range = i; given = q; answer = k; sum = s });
            earliest = inl (sym x);
            least = λ u m. subst (λ (v : ℤ). v ≤ℤ u) x (at_least z u zs l.rising m);
            latest = subst (λ (v : ℤ). Among v (z ∷ zs)) y (latest-in z zs);
            greatest = λ u m. subst (λ (v : ℤ). u ≤ℤ v) y (at_most z u zs l.rising m);
          }

  -- AT EVERY INSTANT COUNTED THE QUESTION'S WALL OFFSET GIVES THE LOCAL TIME BACK, AND AT NO OTHER
  pub gives_back : MapsTo f id local (Ok (n, a, b)) → GivesBack f id local n a b
  unfolding biased_of
  gives_back m = go (ask_all f id (pos 0)) refl
    where
      epoch-in : InRange (pos 0)
      epoch-in e = omega arith

      go : (x : Result Found Fault) → ask_all f id (pos 0) ≡ x → GivesBack f id local n a b
      go (Ok x) e = counts-back (m.counts (pos 0) x epoch-in e)
      go (Err (k, p)) e = let s : ◌≡◌ {A = Result (ℕ × ℤ × ℤ) Fault} (Ok (n, a, b)) (Err (k, p)) = m.refuses (pos 0) k p epoch-in e in clash cc
