-- The lookup says what it leads to, and nothing else: over any dictionary and any rule for zones. Assumes nothing.
use mathlib.Core.Path.{◌≡◌, refl, ◌∙◌}
use mathlib.Core.Bool.{Bool, true, false}
use mathlib.Core.List.{List}
use mathlib.Core.Option.{Option, none, some}
use Prim.Native.Nat.{ℕ, zero, suc, ◌+◌, ◌-◌}
use native.Mathlib.Omega.{arith}
use Rattle.base.specs.Pick.{pick}
use Rattle.aliases.specs.Dictionary.{Dictionary, target_of}
use Rattle.alias_lookup.specs.Lookup.{Named, here, unknown, deep, or_else, by_key, lookup, Steps, no_step, step, Leads, Lost, Deep, Says, by_test}

module _ {A : Type 0} (zone : List ℕ → Option A) (d : Dictionary) where
  step-on : (n : ℕ) (x t : List ℕ) → zone x ≡ none → target_of d x ≡ some t → (r : Named A) → Says zone d n t r → Says zone d (suc n) x r
  step-on n x t z k (here a) l = record { count = suc l.count; last = l.last; steps = step z k l.steps; at_most = omega (arith, l.at_most); zone-is = l.zone-is }
  step-on n x t z k unknown l = record { count = suc l.count; last = l.last; steps = step z k l.steps; at_most = omega (arith, l.at_most); no-zone = l.no-zone; no_key = l.no_key }
  step-on n x t z k deep l = record { last = l.last; steps = step z k l.steps; no-zone = l.no-zone; target = l.target; only-key = l.only-key }

  -- SOUND: what the lookup gives is so
  pub lookup-says : (n : ℕ) (x : List ℕ) → Says zone d n x (lookup zone d n x)
  unfolding lookup
  lookup-says zero x = go (zone x) refl (target_of d x) refl
    where
      go : (o : Option A) → zone x ≡ o → (k : Option (List ℕ)) → target_of d x ≡ k → Says zone d 0 x (or_else o (by_key k (λ t. deep)))
      go (some a) e k f = record { count = 0; last = x; steps = no_step; at_most = omega arith; zone-is = e }
      go none e none f = record { count = 0; last = x; steps = no_step; at_most = omega arith; no-zone = e; no_key = f }
      go none e (some t) f = record { last = x; steps = no_step; no-zone = e; target = t; only-key = f }
  lookup-says (suc n) x = go (zone x) refl (target_of d x) refl (λ t. lookup-says n t)
    where
      go : (o : Option A) → zone x ≡ o → (k : Option (List ℕ)) → target_of d x ≡ k → ((t : List ℕ) → Says zone d n t (lookup zone d n t))
          → Says zone d (suc n) x (or_else o (by_key k (λ t. lookup zone d n t)))
      go (some a) e k f rec = record { count = 0; last = x; steps = no_step; at_most = omega arith; zone-is = e }
      go none e none f rec = record { count = 0; last = x; steps = no_step; at_most = omega arith; no-zone = e; no_key = f }
      go none e (some t) f rec = step-on n x t e f (lookup zone d n t) (rec t)

  -- steps that were taken are steps fewer
  steps-lookup : (k n : ℕ) (x y : List ℕ) → Steps zone d k x y → lookup zone d (n + k) x ≡ lookup zone d n y
  unfolding lookup
  steps-lookup k n x y no_step = let z : n + 0 ≡ n = omega arith in rw z
  steps-lookup k n x y (step {n = m} {t = t} z f s) =
      let w : n + suc m ≡ suc (n + m) = omega arith in
      rw (w, z, f) (steps-lookup m n t y s)

  at-zone : (n : ℕ) (x : List ℕ) (a : A) → zone x ≡ some a → lookup zone d n x ≡ here a
  unfolding lookup
  at-zone zero x a e = rw e
  at-zone (suc n) x a e = rw e

  at_none : (n : ℕ) (x : List ℕ) → zone x ≡ none → target_of d x ≡ none → lookup zone d n x ≡ unknown
  unfolding lookup
  at_none zero x e f = rw (e, f)
  at_none (suc n) x e f = rw (e, f)

  -- COMPLETE: and each is given where it is so
  pub leads-lookup : (n : ℕ) (x : List ℕ) (a : A) → Leads zone d n x a → lookup zone d n x ≡ here a
  leads-lookup n x a l =
      let m : n - l.count + l.count ≡ n = omega (arith, l.at_most) in
      rw m at (steps-lookup l.count (n - l.count) x l.last l.steps) ∙ at-zone (n - l.count) l.last a l.zone-is

  pub lost-lookup : (n : ℕ) (x : List ℕ) → Lost zone d n x → lookup zone d n x ≡ unknown
  lost-lookup n x l =
      let m : n - l.count + l.count ≡ n = omega (arith, l.at_most) in
      rw m at (steps-lookup l.count (n - l.count) x l.last l.steps) ∙ at_none (n - l.count) l.last l.no-zone l.no_key

  pub deep-lookup : (n : ℕ) (x : List ℕ) → Deep zone d n x → lookup zone d n x ≡ deep
  unfolding lookup
  deep-lookup n x l =
      let m : 0 + n ≡ n = omega arith in
      rw m at (steps-lookup n 0 x l.last l.steps) ∙ rw (l.no-zone, l.only-key)

  -- A CYCLE, or a chain that comes to one, is "again only a key" after any number of steps
  on-cycle : (n j k : ℕ) (x y : List ℕ) → Steps zone d j x y → Steps zone d (suc k) y y → Deep zone d n x
  on-cycle zero j k x y no_step (step {t = t} z f c) = record { last = x; steps = no_step; no-zone = z; target = t; only-key = f }
  on-cycle zero j k x y (step {t = t} z f s) c = record { last = x; steps = no_step; no-zone = z; target = t; only-key = f }
  on-cycle (suc n) j k x y no_step (step {t = t} z f c) = step-on n x t z f deep (on-cycle n k k t x c (step z f c))
  on-cycle (suc n) j k x y (step {n = m} {t = t} z f s) c = step-on n x t z f deep (on-cycle n m k t y s c)

  pub cycle-deep : (n j k : ℕ) (x y : List ℕ) → Steps zone d j x y → Steps zone d (suc k) y y → lookup zone d n x ≡ deep
  cycle-deep n j k x y s c = deep-lookup n x (on-cycle n j k x y s c)

-- A rule for zones that has the same IDs leads the same way: to the zone with the ID at which a test of IDs ends.
module _ {A : Type 0} (zone : List ℕ → Option A) (test : List ℕ → Bool) (d : Dictionary)
    (yes : (x : List ℕ) → test x ≡ true → (a : A) × (zone x ≡ some a)) (no : (x : List ℕ) → test x ≡ false → zone x ≡ none) where
  abbrev pub SameWay : Named (List ℕ) → Named A → Type 0
  SameWay (here y) r = (a : A) × (zone y ≡ some a) × (r ≡ here a)
  SameWay unknown r = r ≡ unknown
  SameWay deep r = r ≡ deep

  pub same_way : (n : ℕ) (x : List ℕ) → SameWay (lookup (by_test test) d n x) (lookup zone d n x)
  unfolding lookup
  same_way zero x = go (test x) refl (target_of d x)
    where
      go : (b : Bool) → test x ≡ b → (k : Option (List ℕ))
          → SameWay (or_else (pick b (some x) none) (by_key k (λ t. deep))) (or_else (zone x) (by_key k (λ t. deep)))
      go true e k = let w = yes x e in (w.0, w.1, rw w.1)
      go false e none = rw (no x e)
      go false e (some t) = rw (no x e)
  same_way (suc n) x = go (test x) refl (target_of d x) (λ t. same_way n t)
    where
      go : (b : Bool) → test x ≡ b → (k : Option (List ℕ)) → ((t : List ℕ) → SameWay (lookup (by_test test) d n t) (lookup zone d n t))
          → SameWay (or_else (pick b (some x) none) (by_key k (λ t. lookup (by_test test) d n t))) (or_else (zone x) (by_key k (λ t. lookup zone d n t)))
      go true e k rec = let w = yes x e in (w.0, w.1, rw w.1)
      go false e none rec = rw (no x e)
      go false e (some t) rec = rw (no x e) (rec t)
