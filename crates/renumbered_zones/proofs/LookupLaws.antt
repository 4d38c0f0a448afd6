-- What is found in a renamed zone is what is found in the zone, with its name renumbered; wall times and starts are the same. Assumes nothing.
use mathlib.Core.Path.{◌≡◌, refl, ap, ap₂, ◌∙◌}
use mathlib.Core.Bool.{Bool, true, false}
use mathlib.Core.List.{List, [], ◌∷◌, ◌++◌}
use Prim.Native.Nat.{ℕ}
use native.Mathlib.Omega.{arith}
use lib.Dec.{ltb}
use borrow.Author.Tests.{ltb-false}
use lib.IntN.{ℤ}
use Rattle.base.specs.All.{All, all_none}
use Rattle.base.specs.Pick.{pick}
use Rattle.base.specs.Moment.{Finite, end_of_time}
use Rattle.base.proofs.AllLaws.{all_head, all_tail, all_left, all_right}
use Rattle.base.proofs.Tests.{pick-holds}
use Rattle.recurrence.specs.Tails.{lookup}
use Rattle.intervals.specs.declared.Interval.{Interval}
use Rattle.intervals.specs.Sound.{ListOk}
use Rattle.tails.specs.declared.NamedTail.{NamedTail}
use Rattle.zones.specs.Content.{Ending, untailed, tailed, FixedName, absent, present, Body, fixed, listed, Zone}
use Rattle.zones.specs.Editions.{nameless, under}
use Rattle.zones.specs.Lookup.{until, holding, in_list, in_tail, behind_list, fixed_name_of, in_body, in_zone}
use Rattle.zones.specs.Sound.{EndOk, BodyOk, Sound}
use Rattle.zones.specs.declared.Edition.{Edition}
use Rattle.zones.specs.declared.Edition.TheVariants.{One, Two}
use Rattle.zones.specs.declared.Found.{Found}
use Rattle.zones.proofs.EditionLaws.{under-sound}
use Rattle.signed.specs.Instant.{ticks_of}
use Rattle.zone_starts.specs.Starts.{list_starts, starts_of}
use Rattle.local_times.specs.Instants.{candidate, some, in_listing, of_list, instants_of}
use Rattle.local_times.specs.Instants.{behind_list as behind_listed}
use Rattle.renumbered_zones.specs.Renamed.{renamed_interval, renamed_intervals, renamed_tail, renamed_ending, renamed_name, renamed_body, renamed_zone, renamed_found, interval_names, ending_names, fixed_names, body_names, names_of}

-- ---- what a lookup finds
pick-renamed : (ρ : ℕ → ℕ) (b : Bool) (x y : ℕ) → pick b (ρ x) (ρ y) ≡ ρ (pick b x y)
pick-renamed ρ true x y = refl
pick-renamed ρ false x y = refl

found-pick : (ρ : ℕ → ℕ) (b : Bool) (x y : Found) → pick b (renamed_found ρ x) (renamed_found ρ y) ≡ renamed_found ρ (pick b x y)
found-pick ρ true x y = refl
found-pick ρ false x y = refl

fixed-renamed : (ρ : ℕ → ℕ) (id : ℕ) (n : FixedName) → fixed_name_of (ρ id) (renamed_name ρ n) ≡ ρ (fixed_name_of id n)
unfolding fixed_name_of renamed_name
fixed-renamed ρ id absent = refl
fixed-renamed ρ id (present n) = refl

-- without a tail, no instant is behind the list
no-end : (t end : ℕ) → Finite t → end ≡ end_of_time → ltb t end ≡ false → ⊥
no-end t end h e l = let k = ltb-false t end l in omega arith

module _ (ρ : ℕ → ℕ) (t : ℕ) where
  holding-renamed : (end : ℕ) (i : Interval) (is : List Interval)
      → holding t end (renamed_interval ρ i) (renamed_intervals ρ is) ≡ renamed_found ρ (holding t end i is)
  unfolding holding renamed_intervals
  holding-renamed end i [] = refl
  holding-renamed end i (j ∷ is) =
      ap (pick (ltb t j.start) (until (renamed_interval ρ i) j.start)) (holding-renamed end j is)
      ∙ found-pick ρ (ltb t j.start) (until i j.start) (holding t end j is)

  tail-renamed : (n : NamedTail) → in_tail t (renamed_tail ρ n) ≡ renamed_found ρ (in_tail t n)
  unfolding in_tail
  tail-renamed n =
      let x = lookup n.tail t in
      ap (λ (k : ℕ). record { wall = x.wall; savings = x.savings; name = k; start = x.start; end = x.end })
      (pick-renamed ρ x.daylight n.daylight n.standard)

  body-renamed : (pool id : ℕ) (b : Body) → Finite t → BodyOk pool b → in_body t (ρ id) (renamed_body ρ b) ≡ renamed_found ρ (in_body t id b)
  unfolding in_body in_list behind_list renamed_body renamed_intervals renamed_ending
  body-renamed pool id (fixed offset n) h k =
      ap (λ (m : ℕ). record { wall = offset; savings = 86400000; name = m; start = 0; end = end_of_time }) (fixed-renamed ρ id n)
  body-renamed pool id (listed is end e) h k = go (ltb t end) refl e k.1
    where
      list : (is : List Interval) → ListOk pool is → in_list t end (renamed_intervals ρ is) ≡ renamed_found ρ (in_list t end is)
      list [] l = absurd l
      list (i ∷ is) l = holding-renamed end i is

      go : (b : Bool) → ltb t end ≡ b → (e : Ending) → EndOk pool is end e
          → pick b (in_list t end (renamed_intervals ρ is)) (behind_list t (renamed_ending ρ e))
          ≡ renamed_found ρ (pick b (in_list t end is) (behind_list t e))
      go true l e m = list is k.0
      go false l untailed m = absurd (no-end t end h m l)
      go false l (tailed n) m = tail-renamed n

nameless-renamed : (ρ : ℕ → ℕ) (b : Body) → nameless (renamed_body ρ b) ≡ renamed_body ρ (nameless b)
unfolding nameless renamed_body renamed_name
nameless-renamed ρ (fixed offset n) = refl
nameless-renamed ρ (listed is end e) = refl

-- A LOOKUP IN THE RENAMED ZONE finds the interval of the zone, with its name renumbered
pub lookup-renamed : (ρ : ℕ → ℕ) (pool : ℕ) (z : Zone) → Sound pool z → (ed : Edition) (t : ℕ) → Finite t
    → in_zone t (under ed (renamed_zone ρ z)) ≡ renamed_found ρ (in_zone t (under ed z))
unfolding under
lookup-renamed ρ pool z o One t h =
    ap (in_body t (ρ z.id)) (nameless-renamed ρ z.body)
    ∙ body-renamed ρ t pool z.id (nameless z.body) h (under-sound One pool z o).body_ok
lookup-renamed ρ pool z o Two t h = body-renamed ρ t pool z.id z.body h o.body_ok

-- ---- the name that it finds is one of the zone's
module _ (P : ℕ → Type 0) (t : ℕ) where
  holding-name : (end : ℕ) (i : Interval) (is : List Interval) → P i.name → All P (interval_names is) → P (holding t end i is).name
  unfolding holding interval_names
  holding-name end i [] p a = p
  holding-name end i (j ∷ is) p a =
      pick-holds (λ (x : Found). P x.name) (ltb t j.start) (λ _. p) (λ _. holding-name end j is (all_head a) (all_tail a))

  body-name : (pool id : ℕ) (b : Body) → Finite t → BodyOk pool b → P id → All P (body_names b) → P (in_body t id b).name
  unfolding in_body in_list in_tail behind_list body_names fixed_names fixed_name_of interval_names ending_names
  body-name pool id (fixed offset absent) h k p a = p
  body-name pool id (fixed offset (present n)) h k p a = all_head a
  body-name pool id (listed is end e) h k p a =
      pick-holds (λ (x : Found). P x.name) (ltb t end) (λ _. list is k.0 (all_left (interval_names is) (ending_names e) a))
      (λ l. tail e l k.1 (all_right (interval_names is) (ending_names e) a))
    where
      list : (is : List Interval) → ListOk pool is → All P (interval_names is) → P (in_list t end is).name
      list [] l a = absurd l
      list (i ∷ is) l a = holding-name end i is (all_head a) (all_tail a)

      tail : (e : Ending) → ltb t end ≡ false → EndOk pool is end e → All P (ending_names e) → P (behind_list t e).name
      tail untailed l m a = absurd (no-end t end h m l)
      tail (tailed n) l m a = pick-holds P (lookup n.tail t).daylight (λ _. all_head (all_tail a)) (λ _. all_head a)

nameless-names : (P : ℕ → Type 0) (b : Body) → All P (body_names b) → All P (body_names (nameless b))
unfolding nameless body_names fixed_names
nameless-names P (fixed offset n) a = all_none
nameless-names P (listed is end e) a = a

pub lookup-name : (P : ℕ → Type 0) (pool : ℕ) (z : Zone) → Sound pool z → (ed : Edition) (t : ℕ) → Finite t → All P (names_of z)
    → P (in_zone t (under ed z)).name
unfolding under
lookup-name P pool z o One t h a =
    body-name P t pool z.id (nameless z.body) h (under-sound One pool z o).body_ok (all_head a) (nameless-names P z.body (all_tail a))
lookup-name P pool z o Two t h a = body-name P t pool z.id z.body h o.body_ok (all_head a) (all_tail a)

-- ---- what doesn't look at names
pub instants-renamed : (ρ : ℕ → ℕ) (z : Zone) (l : ℕ) → instants_of l (renamed_zone ρ z).body ≡ instants_of l z.body
unfolding renamed_body renamed_intervals renamed_ending instants_of of_list in_listing behind_listed
instants-renamed ρ z l = go z.body
  where
    listing : (end : ℕ) (i : Interval) (is : List Interval) → in_listing l end (renamed_interval ρ i) (renamed_intervals ρ is) ≡ in_listing l end i is
    listing end i [] = refl
    listing end i (j ∷ is) = ap (λ (xs : List ℕ). some (candidate l i.wall i.start j.start) ++ xs) (listing end j is)

    list : (end : ℕ) (is : List Interval) → of_list l end (renamed_intervals ρ is) ≡ of_list l end is
    list end [] = refl
    list end (i ∷ is) = listing end i is

    tail : (e : Ending) → behind_listed l (renamed_ending ρ e) ≡ behind_listed l e
    tail untailed = refl
    tail (tailed n) = refl

    go : (b : Body) → instants_of l (renamed_body ρ b) ≡ instants_of l b
    go (fixed offset n) = refl
    go (listed is end e) = ap₂ ◌++◌ (list end is) (tail e)

pub starts-renamed : (ρ : ℕ → ℕ) (z : Zone) → starts_of (renamed_zone ρ z).body ≡ starts_of z.body
unfolding renamed_body renamed_intervals starts_of list_starts
starts-renamed ρ z = go z.body
  where
    list : (is : List Interval) → list_starts (renamed_intervals ρ is) ≡ list_starts is
    list [] = refl
    list (i ∷ is) = ap (λ (xs : List ℤ). ticks_of i.start ∷ xs) (list is)

    go : (b : Body) → starts_of (renamed_body ρ b) ≡ starts_of b
    go (fixed offset n) = refl
    go (listed is end e) = list is
