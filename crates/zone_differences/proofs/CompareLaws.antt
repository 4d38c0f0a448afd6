-- The walk over two zones at once. Assumes nothing.
use mathlib.Core.Path.{◌≡◌, refl, sym, ap, ◌∙◌, subst}
use mathlib.Core.Bool.{Bool, true, not}
use mathlib.Core.List.{List, [], ◌++◌}
use Prim.Native.Nat.{ℕ, ◌+◌, ◌-◌, ◌*◌, ◌≤◌, ◌<◌, min}
use native.Mathlib.Omega.{arith}
use lib.IntN.{ℤ}
use lib.ListN.{length, get_or}
use lib.Seq.{sets, length-sets}
use borrow.Author.Tests.{eq-eqb, ne_eqb}
use Rattle.base.specs.Equal.{equal}
use Rattle.base.specs.Moment.{Finite}
use Rattle.pool.specs.Pool.{strings_of}
use Rattle.zones.specs.declared.Found.{Found}
use Rattle.zones.specs.declared.ZoneEnd.{ZoneEnd}
use Rattle.stretches.specs.Stretches.{Stretch, closed, stretches_from, stretches, numbers_of}
use Rattle.stretches.specs.View.{ending, opening, Marked}
use Rattle.stretches.specs.declared.Marks.{Marks}
use Rattle.stretches.proofs.StepLaws.{stays, marked-count, marked-put, marked-most}
use Rattle.cursors.specs.Cursors.{found_at, Points, At}
use Rattle.cursors.specs.declared.Cursor.{Cursor}
use Rattle.cursors.proofs.CursorLaws.{held-ok, at_same}
use Rattle.zone_differences.specs.Differ.{unlike, found_by, differ_at}
use Rattle.zone_differences.specs.View.{SideAt, ComparedAt}

-- each way out of `unlike`
module _ (px py : List ℕ) (x y : Found) where
  pub by-wall : (x.wall ≡ y.wall → ⊥) → true ≡ unlike px x py y
  unfolding unlike
  by-wall h = rw (ne_eqb x.wall y.wall h)

  module _ (w : x.wall ≡ y.wall) where
    pub by-savings : (x.savings ≡ y.savings → ⊥) → true ≡ unlike px x py y
    unfolding unlike
    by-savings h = rw (eq-eqb x.wall y.wall w, ne_eqb x.savings y.savings h)

    pub by_name : (x.savings ≡ y.savings) → (b : Bool) → b ≡ equal (get_or (strings_of px) x.name []) (get_or (strings_of py) y.name []) → not b ≡ unlike px x py y
    unfolding unlike
    by_name h b e = rw (eq-eqb x.wall y.wall w, eq-eqb x.savings y.savings h) (ap not e)

-- a side at an instant
module _ (z p ix : List ℕ) (d : ZoneEnd) (c : Cursor) (k t : ℕ) (a : SideAt z p ix d c k t) (f : Finite t) where
  pub side-name : c.held.name < length (strings_of p)
  side-name = omega (arith, (held-ok k z d c t f a.at).name-ok, a.count)

  side_same : (u : ℕ) → t ≤ u → u < c.held.end → Finite u → found_by z p u ≡ c.held
  side_same u l h g = subst (λ (n : ℕ). found_at n z u ≡ c.held) a.count (at_same k z d c t f a.at u l h g)

  pub side-points : (e : ℕ) → t ≤ e → Finite e → Points k z d c × (c.held.start ≤ e) × Finite e
  side-points e l g = (a.at.points, omega (arith, a.at.holds.from), g)

  pub side-on : (x : Cursor) (e : ℕ) → At k z d e x → SideAt z p ix d x k e
  side-on x e q = record { ready = a.ready; count = a.count; at = q }

module _ (zx px sx : List ℕ) (ex : ZoneEnd) (zy py sy : List ℕ) (ey : ZoneEnd) (kx ky first last : ℕ) (d₀ : List ℤ) where
  abbrev all : List Stretch
  all = stretches (differ_at zx px zy py) first last

  abbrev rest : Marks → ℕ → List Stretch
  rest m t = stretches_from (differ_at zx px zy py) m.since (last - t) t

  -- where the walk stands
  pub record Comparing (t : ℕ) (x y : Cursor) (m : Marks) (d : List ℤ) : Type 0 where
    pub both_at : ComparedAt zx px sx ex x zy py sy ey y kx ky t last
    pub few : m.count + first ≤ t
    pub size : length d ≡ length d₀
    pub count : m.count + length (rest m t) ≡ length all
    pub kept : sets d (2 * m.count) (numbers_of (rest m t)) ≡ sets d₀ 0 (numbers_of all)

  pub comparing-start : (a b : Cursor) → ComparedAt zx px sx ex a zy py sy ey b kx ky first last → Comparing first a b (record { count = 0; since = 0 }) d₀
  unfolding stretches
  comparing-start a b h = record { both_at = h; few = omega arith; size = refl; count = omega arith; kept = refl }

  module _ (t : ℕ) (x y : Cursor) (m : Marks) (d : List ℤ) (g : Comparing t x y m d) where
    pub comparing-most : m.count ≤ 3281606784000000000
    comparing-most = omega (arith, g.few, g.both_at.from.high)

    -- one step
    module _ (l : t < last) (i e : ℕ) (h : i ≡ min x.held.end y.held.end) (j : e ≡ min i last) where
      pub step-later : t < e
      step-later = omega (arith, g.both_at.left.at.holds.to, g.both_at.right.at.holds.to)

      pub step-finite : Finite e
      step-finite = record { low = omega (arith, step-later, g.both_at.from.low); high = omega (arith, g.both_at.to.high) }

      same : (u : ℕ) → t ≤ u → u < e → differ_at zx px zy py u ≡ unlike px x.held py y.held
      same u a b =
          let f : Finite u = record { low = omega (arith, g.both_at.from.low); high = omega (arith, step-finite.high) } in
          rw (
            side_same zx px sx ex x kx t g.both_at.left g.both_at.from u a (omega arith) f,
            side_same zy py sy ey y ky t g.both_at.right g.both_at.from u a (omega arith) f,
          )

      module _ (b : Bool) (p : b ≡ unlike px x.held py y.held) where
        goes-on : rest m t ≡ ending b m.since t ++ stretches_from (differ_at zx px zy py) (opening b m.since t) (last - e) e
        goes-on = stays (differ_at zx px zy py) b m.since t e last (omega (arith, g.both_at.from.low)) step-later (omega arith) (λ u a c. same u a c ∙ sym p)

        pub comparing-next : (r : Marks) (d' : List ℤ) → Marked d m t b r d' → (x' y' : Cursor) → At kx zx ex e x' → At ky zy ey e y' → Comparing e x' y' r d'
        comparing-next r d' k x' y' u v =
            let ys : List Stretch = rest r e in
            let q : rest m t ≡ ending b m.since t ++ ys =
            goes-on ∙ ap (λ (o : ℕ). ending b m.since t ++ stretches_from (differ_at zx px zy py) o (last - e) e) (sym k.since) in
            record {
              both_at = record {
                left = side-on zx px sx ex x kx t g.both_at.left g.both_at.from x' e u;
                right = side-on zy py sy ey y ky t g.both_at.right g.both_at.from y' e v;
                from = step-finite;
                to = g.both_at.to;
              };
              few = omega (arith, g.few, marked-most d m t b r d' k ys, step-later);
              size = ap length k.put ∙ length-sets d (2 * m.count) (numbers_of (ending b m.since t)) ∙ g.size;
              count = marked-count d m t b r d' k ys ∙ ap (λ (xs : List Stretch). m.count + length xs) (sym q) ∙ g.count;
              kept = marked-put d m t b r d' k ys ∙ ap (λ (xs : List Stretch). sets d (2 * m.count) (numbers_of xs)) (sym q) ∙ g.kept;
            }

    pub comparing-size : (xs : List Stretch) (n : ℕ) (e : List ℤ) → (n ≡ m.count + length xs) × (e ≡ sets d (2 * m.count) (numbers_of xs)) → length e ≡ length d₀
    comparing-size xs n e k = ap length k.1 ∙ length-sets d (2 * m.count) (numbers_of xs) ∙ g.size

    -- the window ends
    pub comparing-end : last ≤ t → (n : ℕ) (e : List ℤ) → (n ≡ m.count + length (closed m.since t)) × (e ≡ sets d (2 * m.count) (numbers_of (closed m.since t)))
        → (n ≡ length all) × (e ≡ sets d₀ 0 (numbers_of all))
    unfolding stretches_from
    comparing-end h n e k =
        let z : last - t ≡ 0 = omega arith in
        let q : rest m t ≡ closed m.since t = rw z in (
          k.0 ∙ ap (λ (xs : List Stretch). m.count + length xs) (sym q) ∙ g.count,
          k.1 ∙ ap (λ (xs : List Stretch). sets d (2 * m.count) (numbers_of xs)) (sym q) ∙ g.kept,
        )
