-- The zones seen, and the flags that stand for them. Assumes nothing.
use mathlib.Core.Path.{◌≡◌, refl, sym, ◌∙◌}
use mathlib.Core.Bool.{Bool, true, false}
use mathlib.Core.List.{List, [], ◌∷◌, ◌++◌}
use mathlib.Core.Option.{none, some}
use Prim.Native.Nat.{ℕ, zero, suc, ◌+◌, ◌≤◌, ◌<◌}
use native.Mathlib.Omega.{arith}
use lib.ListN.{length, get_or, set, length-set}
use lib.Seq.{take-length}
use Rattle.base.specs.Pick.{pick}
use Rattle.base.specs.Equal.{equal}
use Rattle.base.proofs.Tests.{clash, never}
use Rattle.pool.specs.Pool.{strings_of}
use Rattle.pool.specs.Index.{starts_of, room_of}
use Rattle.pool.proofs.StringLaws.{index-room}
use Rattle.pool.proofs.PoolLaws.{room-enough}
use Rattle.zones.specs.Content.{Zone}
use Rattle.alias_lookup.specs.View.{flagged}
use Rattle.alias_lookup.proofs.FlagLaws.{flagged-set, flagged-none}
use Rattle.named_fields.specs.Named.{Seen, zone_in}
use Rattle.named_fields.specs.View.{Clear, Flags}

-- one zone more
pub zone-first : (zs : List Seen) (y : Seen) (x : List ℕ) (z : Zone) → zone_in zs x ≡ some z → zone_in (zs ++ (y ∷ [])) x ≡ some z
unfolding zone_in
zone-first [] y x z h = clash cc
zone-first (u ∷ zs) y x z h = go (equal u.id x) h (zone-first zs y x z)
  where
    go : (t : Bool) → pick t (some u.zone) (zone_in zs x) ≡ some z → (zone_in zs x ≡ some z → zone_in (zs ++ (y ∷ [])) x ≡ some z)
        → pick t (some u.zone) (zone_in (zs ++ (y ∷ [])) x) ≡ some z
    go true k rec = k
    go false k rec = rec k

pub zone-last : (zs : List Seen) (y : Seen) (x : List ℕ) → zone_in zs x ≡ none → zone_in (zs ++ (y ∷ [])) x ≡ pick (equal y.id x) (some y.zone) none
unfolding zone_in
zone-last [] y x h = refl
zone-last (u ∷ zs) y x h = go (equal u.id x) h (zone-last zs y x)
  where
    go : (t : Bool) → pick t (some u.zone) (zone_in zs x) ≡ none → (zone_in zs x ≡ none → zone_in (zs ++ (y ∷ [])) x ≡ pick (equal y.id x) (some y.zone) none)
        → pick t (some u.zone) (zone_in (zs ++ (y ∷ [])) x) ≡ pick (equal y.id x) (some y.zone) none
    go true k rec = clash cc
    go false k rec = rec k

pub flags-none : (ts : List (List ℕ)) (fl : List ℕ) → length ts ≤ length fl → Clear fl → Flags ts fl []
unfolding zone_in
flags-none ts fl l c = record { room = l; yes = λ x h. never h (flagged-none 0 ts fl x c.none-set); no = λ x h. refl }

pub flags-more : (ts : List (List ℕ)) (fl : List ℕ) (zs : List Seen) (k : ℕ) (u : Zone) → k < length ts → Flags ts fl zs
    → Flags ts (set fl k 1) (zs ++ (record { id = get_or ts k []; zone = u } ∷ []))
flags-more ts fl zs k u l f = record { room = room; yes = yes; no = no }
  where
    y : Seen
    y = record { id = get_or ts k []; zone = u }

    room : length ts ≤ length (set fl k 1)
    room = omega (arith, f.room, length-set fl k 1)

    more : (x : List ℕ) → flagged ts (set fl k 1) x ≡ pick (equal (get_or ts k []) x) true (flagged ts fl x)
    more x =
        let o : 0 + k ≡ k = omega arith in
        let r : 0 + k < length fl = omega (arith, f.room) in
        rw o at (flagged-set 0 ts fl x k 1 l r (λ e. omega arith))

    yes : (x : List ℕ) → flagged ts (set fl k 1) x ≡ true → (z : Zone) × (zone_in (zs ++ (y ∷ [])) x ≡ some z)
    yes x h = go (flagged ts fl x) refl (equal (get_or ts k []) x) refl (sym (more x) ∙ h)
      where
        go : (a : Bool) → flagged ts fl x ≡ a → (t : Bool) → equal (get_or ts k []) x ≡ t → pick t true (flagged ts fl x) ≡ true
            → (z : Zone) × (zone_in (zs ++ (y ∷ [])) x ≡ some z)
        go true e t i q = let w = f.yes x e in (w.0, zone-first zs y x w.0 w.1)
        go false e true i q = (u, zone-last zs y x (f.no x e) ∙ rw i)
        go false e false i q = never q e

    no : (x : List ℕ) → flagged ts (set fl k 1) x ≡ false → zone_in (zs ++ (y ∷ [])) x ≡ none
    no x h = go (equal (get_or ts k []) x) refl (sym (more x) ∙ h)
      where
        go : (t : Bool) → equal (get_or ts k []) x ≡ t → pick t true (flagged ts fl x) ≡ false → zone_in (zs ++ (y ∷ [])) x ≡ none
        go true i q = never refl q
        go false i q = zone-last zs y x (f.no x q) ∙ rw i

-- where the index has room, the flags have
pub room-strings : (d : List ℕ) → length (strings_of d) ≤ room_of d
room-strings d = go (length (strings_of d)) refl
  where
    go : (m : ℕ) → length (strings_of d) ≡ m → length (strings_of d) ≤ room_of d
    go zero e = omega arith
    go (suc m) e =
        let l : m < length (strings_of d) = omega arith in
        omega (arith, index-room d m l (starts_of d) (record { begins = take-length (starts_of d) }), room-enough d)
