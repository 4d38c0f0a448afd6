-- The count of the integers with P is the only one. Assumes nothing.
use Rattle.std.specs.Prelude.{Result, ℕ}
use Rattle.base.specs.Coded.{Fault}
use mathlib.Core.Path.{◌≡◌, refl, sym, ap, ◌∙◌, subst}
use mathlib.Core.List.{List, [], ◌∷◌}
use mathlib.Core.Logic.{inl, inr}
use lib.IntN.{ℤ}
use lib.Signed.{◌<ℤ◌, <ℤ_irrefl}
use Rattle.signed.proofs.OrderLaws.{lt_trans}
use Rattle.wall_times.specs.WallTime.{Among, After, Ascending, count_of, Counts}

pub among-after : (a z : ℤ) (zs : List ℤ) → After a zs → Among z zs → a <ℤ z
among-after a z [] r m = absurd m
among-after a z (y ∷ ys) r (inl e) = subst (λ (u : ℤ). a <ℤ u) (sym e) r.0
among-after a z (y ∷ ys) r (inr m) = lt_trans r.0 (among-after y z ys r.1 m)

tail-rising : (z : ℤ) (zs : List ℤ) → After z zs → Ascending zs
tail-rising z [] r = tt
tail-rising z (y ∷ ys) r = r.1

not-both : {a b : ℤ} {G : Type 0} → a <ℤ b → b <ℤ a → G
not-both h k = absurd (<ℤ_irrefl (lt_trans h k))

pub lists-one : (xs ys : List ℤ) → Ascending xs → Ascending ys → ((z : ℤ) → Among z xs → Among z ys) → ((z : ℤ) → Among z ys → Among z xs) → xs ≡ ys
lists-one [] [] r s f g = refl
lists-one [] (y ∷ ys) r s f g = absurd (g y (inl refl))
lists-one (x ∷ xs) [] r s f g = absurd (f x (inl refl))
lists-one (x ∷ xs) (y ∷ ys) r s f g =
    let e : x ≡ y = heads (f x (inl refl)) (g y (inl refl)) in
    let k : xs ≡ ys = lists-one xs ys (tail-rising x xs r) (tail-rising y ys s) (there e) (back e) in
    cc
  where
    heads : Among x (y ∷ ys) → Among y (x ∷ xs) → x ≡ y
    heads (inl e) m = e
    heads (inr k) (inl e) = sym e
    heads (inr k) (inr m) = not-both (among-after y x ys s k) (among-after x y xs r m)

    there : x ≡ y → (z : ℤ) → Among z xs → Among z ys
    there e z m = go (f z (inr m))
      where
        go : Among z (y ∷ ys) → Among z ys
        go (inl k) = absurd (<ℤ_irrefl (subst (λ (u : ℤ). u <ℤ z) (e ∙ sym k) (among-after x z xs r m)))
        go (inr k) = k

    back : x ≡ y → (z : ℤ) → Among z ys → Among z xs
    back e z m = go (g z (inr m))
      where
        go : Among z (x ∷ xs) → Among z xs
        go (inl k) = absurd (<ℤ_irrefl (subst (λ (u : ℤ). u <ℤ z) (sym e ∙ sym k) (among-after y z ys s m)))
        go (inr k) = k

pub count-one : (P : ℤ → Type 0) (r s : Result (ℕ × ℤ × ℤ) Fault) → Counts P r → Counts P s → r ≡ s
count-one P r s a b =
    a.is
    ∙ ap count_of (lists-one a.instants b.instants a.lists.rising b.lists.rising (λ z m. b.lists.complete z (a.lists.sound z m)) (λ z m. a.lists.complete z (b.lists.sound z m)))
    ∙ sym b.is
