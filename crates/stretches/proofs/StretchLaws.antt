-- Going over the instants gives the list of the maximal runs, which is the only one. Assumes nothing.
use mathlib.Core.Path.{◌≡◌, refl, sym, ap, ◌∙◌, subst}
use mathlib.Core.Bool.{Bool, true, false}
use mathlib.Core.List.{List, [], ◌∷◌, ◌++◌}
use mathlib.Core.Logic.{◌⊎◌, inl, inr}
use Prim.Native.Nat.{ℕ, zero, suc, ◌+◌, ◌-◌, ◌≤◌, ◌<◌}
use native.Mathlib.Omega.{arith}
use Rattle.base.specs.Pick.{pick}
use Rattle.base.proofs.Tests.{by_order, never}
use Rattle.stretches.specs.Stretches.{Stretch, opened, closed, stretches_from, stretches}
use Rattle.stretches.specs.Maximal.{Run, Maximal, Among, InOrder, Lists}
use Rattle.stretches.proofs.StepLaws.{opened-none, opened_some, opened_one, closed_none, closed_some}

same-stretch : (x y : Stretch) → x.first ≡ y.first → x.end ≡ y.end → x ≡ y
same-stretch x y e f =
    ap (λ (a : ℕ). record { first = a; end = x.end }) e ∙ ap (λ (b : ℕ). record { first = y.first; end = b }) f

later : (a b : ℕ) (xs : List Stretch) → a ≤ b → InOrder b xs → InOrder a xs
later a b [] h r = tt
later a b (x ∷ xs) h r = (omega (arith, r.0), r.1, r.2)

module _ (P : ℕ → Bool) (first last : ℕ) where
  -- a run has no instant at which the test fails
  ends_at : (x : Stretch) (t : ℕ) → Run P first last x → P t ≡ false → x.first ≤ t → x.end ≤ t
  ends_at x t r f a = by_order t x.end (λ (h : t < x.end). never (r.throughout t a h) f) (λ h. h)

  -- t is the window's first instant, or the test fails just before it
  abbrev Begins : ℕ → Type 0
  Begins t = (t ≡ first) ⊎ ((u : ℕ) → t ≡ suc u → P u ≡ false)

  -- t is the window's end, or the test fails there
  abbrev Ends : ℕ → Type 0
  Ends t = (t ≡ last) ⊎ (P t ≡ false)

  -- a stretch is open since an instant, and holds all up to t
  record Opens (since t : ℕ) : Type 0 where
    from : first ≤ since
    some : since < t
    held : (u : ℕ) → since ≤ u → u < t → P u ≡ true
    begins : Begins since

  module _ (since t : ℕ) (o : Opens since t) (h : t ≤ last) where
    abbrev here : Stretch
    here = record { first = since; end = t }

    here-run : Run P first last here
    here-run = record { from = o.from; some = o.some; to = h; throughout = o.held }

    here-first : (y : Stretch) → Run P first last y → t ≤ y.end → since ≤ y.first
    here-first y r e = by_order y.first since (λ (k : y.first < since). absurd (go k o.begins)) (λ k. k)
      where
        go : y.first < since → Begins since → ⊥
        go k (inl i) = omega (arith, r.from)
        go k (inr f) = never (r.throughout (since - 1) (omega arith) (omega (arith, o.some))) (f (since - 1) (omega arith))

    here_end : Ends t → (y : Stretch) → Run P first last y → y.first ≤ since → y.end ≤ t
    here_end (inl e) y r a = omega (arith, r.to)
    here_end (inr f) y r a = ends_at y t r f (omega (arith, o.some))

    here-maximal : Ends t → Maximal P first last here
    here-maximal e = record {
      run = here-run;
      longest = λ y r a b. same-stretch y here (omega (arith, here-first y r b)) (omega (arith, here_end e y r a));
    }

    -- the only one that begins from there to before t
    here-only : (x : Stretch) → Maximal P first last x → since ≤ x.first → x.end ≤ t → x ≡ here
    here-only x m a b = sym (m.longest here here-run a b)

  -- where the walk stands at t
  data Stands (since t : ℕ) : Type 0 where
    shut : since ≡ 0 → first ≤ t → Begins t → Stands since t
    opens : (since ≡ 0 → ⊥) → Opens since t → Stands since t

  -- the maximal runs that begin at `low` or later
  record Rest (low : ℕ) (xs : List Stretch) : Type 0 where
    in_order : InOrder low xs
    sound : (x : Stretch) → Among x xs → Maximal P first last x × (low ≤ x.first)
    complete : (x : Stretch) → Maximal P first last x → low ≤ x.first → Among x xs

  rest-low : (a b : ℕ) (xs : List Stretch) → a ≡ b → Rest b xs → Rest a xs
  rest-low a b xs e r = subst (λ (c : ℕ). Rest c xs) (sym e) r

  low-shut : (since t : ℕ) → since ≡ 0 → opened since t ≡ t
  low-shut since t e = ap (λ (o : ℕ). opened o t) e ∙ opened-none t

  -- the window ends
  rest_end : (since t : ℕ) → t ≡ last → Stands since t → Rest (opened since t) (closed since t)
  rest_end since t e (shut z a b) = rest-low (opened since t) t (closed since t) (low-shut since t z) (subst (Rest t) (sym (ap (λ (o : ℕ). closed o t) z ∙ closed_none t)) none)
    where
      none : Rest t []
      none = record {
        in_order = tt;
        sound = λ x m. absurd m;
        complete = λ x m l. absurd (omega (arith, m.run.some, m.run.to));
      }
  rest_end since t e (opens z o) = rest-low (opened since t) since (closed since t) (opened_some since t z) (subst (Rest since) (sym (closed_some since t z)) one)
    where
      one : Rest since (here since t o (omega arith) ∷ [])
      one = record {
        in_order = (omega arith, o.some, tt);
        sound = λ x m. go x m;
        complete = λ x m l. inl (here-only since t o (omega arith) x m l (omega (arith, m.run.to)));
      }
        where
          go : (x : Stretch) → Among x (here since t o (omega arith) ∷ []) → Maximal P first last x × (since ≤ x.first)
          go x (inl i) = subst (λ (y : Stretch). Maximal P first last y × (since ≤ y.first)) (sym i) (here-maximal since t o (omega arith) (inl e), omega arith)
          go x (inr i) = absurd i

  -- the test holds at t
  opens-on : (since t : ℕ) → 0 < t → Stands since t → P t ≡ true → Opens (opened since t) (suc t)
  opens-on since t l (shut z a b) f = subst (λ (o : ℕ). Opens o (suc t)) (sym (low-shut since t z)) (record {
    from = a;
    some = omega arith;
    held = λ u i j. let e : t ≡ u = omega arith in subst (λ (v : ℕ). P v ≡ true) e f;
    begins = b;
  })
  opens-on since t l (opens z o) f = subst (λ (q : ℕ). Opens q (suc t)) (sym (opened_some since t z)) (record {
    from = o.from;
    some = omega (arith, o.some);
    held = λ u i j. by_order u t (λ (k : u < t). o.held u i k) (λ (k : t ≤ u). let e : t ≡ u = omega arith in subst (λ (v : ℕ). P v ≡ true) e f);
    begins = o.begins;
  })

  -- the test fails at t
  rest_out : (since t : ℕ) (ys : List Stretch) → t < last → Stands since t → P t ≡ false → Rest (suc t) ys → Rest (opened since t) (closed since t ++ ys)
  rest_out since t ys h (shut z a b) f r =
      rest-low (opened since t) t (closed since t ++ ys) (low-shut since t z)
      (subst (λ (xs : List Stretch). Rest t (xs ++ ys)) (sym (ap (λ (o : ℕ). closed o t) z ∙ closed_none t)) none)
    where
      none : Rest t ys
      none = record {
        in_order = later t (suc t) ys (omega arith) r.in_order;
        sound = λ x m. ((r.sound x m).0, omega (arith, (r.sound x m).1));
        complete = λ x m l. r.complete x m (by_order t x.first (λ (k : t < x.first). k) (λ (k : x.first ≤ t). absurd (omega (arith, m.run.some, ends_at x t m.run f k))));
      }
  rest_out since t ys h (opens z o) f r =
      rest-low (opened since t) since (closed since t ++ ys) (opened_some since t z)
      (subst (λ (xs : List Stretch). Rest since (xs ++ ys)) (sym (closed_some since t z)) one)
    where
      x₀ : Stretch
      x₀ = here since t o (omega arith)

      sounds : (x : Stretch) → Among x (x₀ ∷ ys) → Maximal P first last x × (since ≤ x.first)
      sounds x (inl i) = subst (λ (y : Stretch). Maximal P first last y × (since ≤ y.first)) (sym i) (here-maximal since t o (omega arith) (inr f), omega arith)
      sounds x (inr i) = ((r.sound x i).0, omega (arith, (r.sound x i).1, o.some))

      one : Rest since (x₀ ∷ ys)
      one = record {
        in_order = (omega arith, o.some, r.in_order);
        sound = sounds;
        complete = λ x m l. by_order t x.first (λ (k : t < x.first). inr (r.complete x m k)) (λ (k : x.first ≤ t). inl (here-only since t o (omega arith) x m l (ends_at x t m.run f k)));
      }

  rest_from : (n since t : ℕ) → t + n ≡ last → 0 < t → Stands since t → Rest (opened since t) (stretches_from P since n t)
  unfolding stretches_from
  rest_from zero since t e l s = rest_end since t (omega arith) s
  rest_from (suc n) since t e l s = go (P t) refl (λ (q : ℕ). rest_from n q (suc t) (omega arith) (omega arith))
    where
      standing : Stands since t → first ≤ suc t
      standing (shut z a b) = omega arith
      standing (opens z o) = omega (arith, o.from, o.some)

      go : (b : Bool) → P t ≡ b → ((q : ℕ) → Stands q (suc t) → Rest (opened q (suc t)) (stretches_from P q n (suc t)))
          → Rest (opened since t) (pick b (stretches_from P (opened since t) n (suc t)) (closed since t ++ stretches_from P 0 n (suc t)))
      go true f rec =
          let z : opened since t ≡ 0 → ⊥ = opened_one since t l in
          rest-low (opened since t) (opened (opened since t) (suc t)) _ (sym (opened_some (opened since t) (suc t) z))
          (rec (opened since t) (opens z (opens-on since t l s f)))
      go false f rec =
          rest_out since t (stretches_from P 0 n (suc t)) (omega arith) s f
          (rest-low (suc t) (opened 0 (suc t)) _ (sym (opened-none (suc t)))
          (rec 0 (shut refl (standing s) (inr (λ u i. let q : t ≡ u = omega arith in subst (λ (v : ℕ). P v ≡ false) q f)))))

  turned : last < first → Lists P first last (stretches_from P 0 (last - first) first)
  unfolding stretches_from
  turned h =
      let e : last - first ≡ 0 = omega arith in
      let f : stretches_from P 0 (last - first) first ≡ [] = rw e (closed_none first) in
      subst (Lists P first last) (sym f) (record {
        in_order = tt;
        sound = λ x m. absurd m;
        complete = λ x m. absurd (omega (arith, m.run.from, m.run.some, m.run.to));
      })

  plain : 0 < first → first ≤ last → Lists P first last (stretches_from P 0 (last - first) first)
  plain l h =
      let r : Rest first (stretches_from P 0 (last - first) first) =
      rest-low first (opened 0 first) _ (sym (opened-none first)) (rest_from (last - first) 0 first (omega arith) l (shut refl (omega arith) (inl refl))) in
      record { in_order = r.in_order; sound = λ x m. (r.sound x m).0; complete = λ x m. r.complete x m m.run.from }

  -- THE STRETCHES OF A WINDOW ARE ITS MAXIMAL RUNS, ALL OF THEM, IN TIME ORDER
  pub stretches-list : 0 < first → Lists P first last (stretches P first last)
  unfolding stretches
  stretches-list l = by_order last first turned (plain l)

-- a member of a list in order begins no earlier than the list, and behind the first it begins later
among-from : (a : ℕ) (x : Stretch) (xs : List Stretch) → InOrder a xs → Among x xs → a ≤ x.first
among-from a x [] r m = absurd m
among-from a x (y ∷ ys) r (inl e) = subst (λ (z : Stretch). a ≤ z.first) (sym e) r.0
among-from a x (y ∷ ys) r (inr m) = omega (arith, r.0, r.1, among-from (suc y.end) x ys r.2 m)

behind-first : (a : ℕ) (x y : Stretch) (ys : List Stretch) → InOrder a (y ∷ ys) → Among x ys → y.first < x.first
behind-first a x y ys r m = omega (arith, r.1, among-from (suc y.end) x ys r.2 m)

not_itself : (x y : Stretch) → x ≡ y → y.first < x.first → ⊥
not_itself x y e h = let f : x.first ≡ y.first = ap (λ (z : Stretch). z.first) e in omega arith

same_lists : (a b : ℕ) (xs ys : List Stretch) → InOrder a xs → InOrder b ys → ((x : Stretch) → Among x xs → Among x ys)
    → ((x : Stretch) → Among x ys → Among x xs) → xs ≡ ys
same_lists a b [] [] r s f g = refl
same_lists a b [] (y ∷ ys) r s f g = absurd (g y (inl refl))
same_lists a b (x ∷ xs) [] r s f g = absurd (f x (inl refl))
same_lists a b (x ∷ xs) (y ∷ ys) r s f g =
    let e : x ≡ y = heads (f x (inl refl)) (g y (inl refl)) in
    let k : xs ≡ ys = same_lists (suc x.end) (suc y.end) xs ys r.2 s.2 (there e) (back e) in
    cc
  where
    heads : Among x (y ∷ ys) → Among y (x ∷ xs) → x ≡ y
    heads (inl e) m = e
    heads (inr k) (inl e) = sym e
    heads (inr k) (inr m) = absurd (omega (arith, behind-first b x y ys s k, behind-first a y x xs r m))

    there : x ≡ y → (z : Stretch) → Among z xs → Among z ys
    there e z m = go (f z (inr m))
      where
        go : Among z (y ∷ ys) → Among z ys
        go (inl k) = absurd (not_itself z x (k ∙ sym e) (behind-first a z x xs r m))
        go (inr k) = k

    back : x ≡ y → (z : Stretch) → Among z ys → Among z xs
    back e z m = go (g z (inr m))
      where
        go : Among z (x ∷ xs) → Among z xs
        go (inl k) = absurd (not_itself z y (k ∙ e) (behind-first b z y ys s m))
        go (inr k) = k

-- THERE IS ONE SUCH LIST
pub lists-one : (P : ℕ → Bool) (first last : ℕ) (xs ys : List Stretch) → Lists P first last xs → Lists P first last ys → xs ≡ ys
lists-one P first last xs ys a b =
    same_lists first first xs ys a.in_order b.in_order (λ x m. b.complete x (a.sound x m)) (λ x m. a.complete x (b.sound x m))
