-- The zones passed, step by step, and what is reached. Assumes nothing.
use Rattle.std.specs.declared.option.Option.{Option}
use Rattle.std.specs.declared.option.Option.TheVariants.{None, Some}
use mathlib.Core.Path.{◌≡◌, refl, sym, ◌∙◌, subst}
use mathlib.Core.Bool.{Bool, true, false}
use mathlib.Core.List.{List, []}
use Prim.Native.Nat.{ℕ, suc, ◌+◌, ◌≤◌, ◌<◌}
use native.Mathlib.Omega.{arith}
use native.Mathlib.Numerals.{add-one}
use lib.Dec.{eqb}
use lib.ListN.{length, get_or, set, length-set, replicate}
use lib.Seq.{get_or-set_same, get_or-set_other}
use borrow.Author.Tests.{eqb-true, eqb-false}
use Rattle.base.specs.Pick.{pick}
use Rattle.base.specs.Equal.{equal}
use Rattle.base.proofs.EqualLaws.{equal-true, equal-refl}
use Rattle.base.proofs.Tests.{never}
use Rattle.pool.proofs.PoolLaws.{few}
use Rattle.pool.proofs.StringLaws.{below}
use Rattle.locate.specs.View.{part, Lies}
use Rattle.ids.specs.Ids.{among}
use Rattle.ids.specs.Layout.{number_at}
use Rattle.ids.specs.Memory.{texts_of, Between, Numbered, Finds, Added}
use Rattle.ids.specs.declared.Gap.{Gap}
use Rattle.ids.specs.declared.Gap.TheVariants.{Known, New}
use Rattle.ids.proofs.PlaceLaws.{between-new}
use Rattle.ids.proofs.MemoryLaws.{keeps-start, inserted-each, inserted_same, inserted-sorted}
use Rattle.trace_records.specs.Passed.{pool_strings, walk_to, Fails, ZoneAt, NextZone, NextTo, NextIs, PassedOk, ReachedAs}
use Rattle.trace_records.specs.declared.PassedZones.{PassedZones}

-- behind field 0 none is passed
pub passed_none : (s : List ℕ) (d e : ℕ) (fs ts : List ℕ) → Lies s d e → length fs ≡ 8192 → length ts ≡ 8192
    → PassedOk s d e (replicate 8449 0) fs ts (record { at = e; prev = 0; ids = 0 })
passed_none s d e fs ts l b c = record {
  some = l.some;
  inside = l.inside;
  sorted = (keeps-start (pool_strings s d e) 8449 (omega (arith, few (part d e s)))).sorted;
  from-room = b;
  to_room = c;
  seen = λ i h. absurd (omega arith);
  rest = λ id q. refl;
}

module _ (s : List ℕ) (d e : ℕ) (od fs ts : List ℕ) (at prev n : ℕ) (g : PassedOk s d e od fs ts (record { at = at; prev = prev; ids = n })) where
  abbrev texts : List (List ℕ)
  texts = texts_of (pool_strings s d e) od n

  -- the walk to an ID that was not seen ends at the place
  pub passed-fails : NextTo s d e at prev None → (id : List ℕ) → among id texts ≡ false → Fails (walk_to s d e id)
  passed-fails x id q = x id (g.rest id q)

  module _ (i a b k : ℕ) (x : NextZone s d e at prev i a b k) (later : at < b) (inside : b ≤ length s) where
    abbrev new : List ℕ
    new = get_or (pool_strings s d e) k []

    -- a zone whose ID was seen
    pub passed-seen : among new texts ≡ true → PassedOk s d e od fs ts (record { at = b; prev = i; ids = n })
    passed-seen h = record {
      some = omega (arith, g.some);
      inside = inside;
      sorted = g.sorted;
      from-room = g.from-room;
      to_room = g.to_room;
      seen = g.seen;
      rest = λ id q. x.past id (g.rest id q) (other id q (equal new id) refl);
    }
      where
        other : (id : List ℕ) → among id texts ≡ false → (t : Bool) → equal new id ≡ t → t ≡ false
        other id q false r = refl
        other id q true r = never (subst (λ (y : List ℕ). among y texts ≡ true) (equal-true new id r) h) q

    -- one with a new ID, whose number was put at its place
    module _ (p : ℕ) (between : Between (pool_strings s d e) od n new p) (od' : List ℕ) (put : Added od n p k od') where
      zone-new : (id : List ℕ) → equal new id ≡ true → ZoneAt s d e id a b
      zone-new id h =
          x.here id (g.rest id (subst (λ (y : List ℕ). among y texts ≡ false) (equal-true new id h) (between-new (pool_strings s d e) od n new p between))) h

      -- an ID that is not seen then was not, and is not the new one
      both-not : (id : List ℕ) → among id (texts_of (pool_strings s d e) od' (suc n)) ≡ false → (equal new id ≡ false) × (among id texts ≡ false)
      both-not id h = go (equal new id) (among id texts) refl refl (sym (inserted_same (pool_strings s d e) od od' n p k g.sorted between put x.known id) ∙ h)
        where
          go : (t u : Bool) → equal new id ≡ t → among id texts ≡ u → pick (equal new id) true (among id texts) ≡ false → (t ≡ false) × (u ≡ false)
          go true u q r v = never (rw q refl) v
          go false true q r v = never (rw (q, r) refl) v
          go false false q r v = (refl, refl)

      still-new : (id : List ℕ) → among id texts ≡ false → equal new id ≡ false → among id (texts_of (pool_strings s d e) od' (suc n)) ≡ false
      still-new id q r = inserted_same (pool_strings s d e) od od' n p k g.sorted between put x.known id ∙ rw (r, q) refl

      module _ (small : k < 8192) where
        seen-each : (i : ℕ) → i < suc n → ZoneAt s d e (get_or (pool_strings s d e) (number_at od' i) []) (get_or (set fs k a) (number_at od' i) 0) (get_or (set ts k b) (number_at od' i) 0)
        seen-each =
            inserted-each (pool_strings s d e) od od' n p k g.sorted between put x.known (λ j. ZoneAt s d e (get_or (pool_strings s d e) j []) (get_or (set fs k a) j 0) (get_or (set ts k b) j 0))
            (λ j h. old (number_at od j) (g.seen j h) (eqb (number_at od j) k) refl) here
          where
            here : ZoneAt s d e new (get_or (set fs k a) k 0) (get_or (set ts k b) k 0)
            here =
                rw (get_or-set_same fs k a 0 (omega (arith, g.from-room)), get_or-set_same ts k b 0 (omega (arith, g.to_room)))
                (zone-new new (equal-refl new))

            old : (j : ℕ) → ZoneAt s d e (get_or (pool_strings s d e) j []) (get_or fs j 0) (get_or ts j 0) → (t : Bool) → eqb j k ≡ t
                → ZoneAt s d e (get_or (pool_strings s d e) j []) (get_or (set fs k a) j 0) (get_or (set ts k b) j 0)
            old j z true q = subst (λ (u : ℕ). ZoneAt s d e (get_or (pool_strings s d e) u []) (get_or (set fs k a) u 0) (get_or (set ts k b) u 0)) (sym (eqb-true j k q)) here
            old j z false q = rw (get_or-set_other fs k j a 0 (eqb-false j k q), get_or-set_other ts k j b 0 (eqb-false j k q)) z

        pub passed-new : PassedOk s d e od' (set fs k a) (set ts k b) (record { at = b; prev = i; ids = n + 1 })
        passed-new = record {
          some = omega (arith, g.some);
          inside = inside;
          sorted = rw (add-one n) (inserted-sorted (pool_strings s d e) od od' n p k g.sorted between put x.known);
          from-room = length-set fs k a ∙ g.from-room;
          to_room = length-set ts k b ∙ g.to_room;
          seen = λ j h. seen-each j (omega arith);
          rest = λ id q. let w = both-not id (rw (add-one n) at q) in x.past id (g.rest id w.1) w.0;
        }

        -- the asked zone
        pub reached-new : (id : List ℕ) → true ≡ equal new id
            → ReachedAs s d e id od' (set fs k a) (set ts k b) (record { start = a; end = b; passed = record { at = b; prev = i; ids = n + 1 } })
        reached-new id h = record {
          reached = λ l. (zone-new id (sym h), passed-new);
          none = λ q. absurd (omega (arith, later));
        }

        pub not_yet : (id : List ℕ) → among id texts ≡ false → false ≡ equal new id → among id (texts_of (pool_strings s d e) od' (n + 1)) ≡ false
        not_yet id q h = rw (add-one n) (still-new id q (sym h))

  -- no zone is reached
  pub reached-none : NextTo s d e at prev None → (id : List ℕ) → among id texts ≡ false → (od' fs' ts' : List ℕ) (p : PassedZones)
      → ReachedAs s d e id od' fs' ts' (record { start = 0; end = 0; passed = p })
  reached-none x id q od' fs' ts' p = record { reached = λ h. absurd (omega arith); none = λ h. passed-fails x id q }

-- what looking for an ID among those seen gives
module _ (s : List ℕ) (d e : ℕ) (od fs ts : List ℕ) (p : PassedZones) (g : PassedOk s d e od fs ts p) (id : List ℕ) (r : Gap)
    (f : Finds (pool_strings s d e) od p.ids id r) where
  module _ (k : ℕ) (q : r ≡ Known k) where
    look-seen : Numbered (pool_strings s d e) od p.ids id k
    look-seen = (rw q at f).is

    look-zone : ZoneAt s d e id (get_or fs k 0) (get_or ts k 0)
    look-zone =
        let w = look-seen in
        subst (λ (y : List ℕ). ZoneAt s d e y (get_or fs k 0) (get_or ts k 0)) w.is
        (subst (λ (j : ℕ). ZoneAt s d e (get_or (pool_strings s d e) j []) (get_or fs j 0) (get_or ts j 0)) w.number (g.seen w.place w.inside))

    pub look-room : (k < 8192) × (get_or fs k 0 ≤ 4194304) × (get_or ts k 0 ≤ 4194304)
    look-room =
        let w = look-seen in
        let z = look-zone in
        let l : k < length (pool_strings s d e) = rw w.number at (g.sorted.known w.place w.inside) in
        (below (part d e s) k l, omega (arith, z.spotted.order, z.limit), z.limit)

    pub reached-seen : ReachedAs s d e id od fs ts (record { start = get_or fs k 0; end = get_or ts k 0; passed = p })
    reached-seen = let z = look-zone in record { reached = λ l. (z, g); none = λ h. absurd (omega (arith, z.some)) }

  pub look-new : (i j : ℕ) → r ≡ New i j → among id (texts_of (pool_strings s d e) od p.ids) ≡ false
  look-new i j q = between-new (pool_strings s d e) od p.ids id (i + j) (rw q at f).is.1

-- by what was read
module _ (s : List ℕ) (count at prev : ℕ) (r : Option (ℕ × ℕ × ℕ × ℕ)) (h : NextIs s count at prev r) (d e : ℕ) (c : count ≡ length (pool_strings s d e)) where
  pub read-nothing : r ≡ None → NextTo s d e at prev None
  read-nothing q = (rw q at h).means d e c

  module _ (i a b k : ℕ) (q : r ≡ Some (i, a, b, k)) where
    pub read-zone : NextZone s d e at prev i a b k
    read-zone = (rw q at h).means d e c

    pub read-inside : (at < a) × (a ≤ b) × (b ≤ length s) × (b ≤ 4194304)
    read-inside = (rw q at h).lies
