-- Where the walk of the named question stands, and each way on from there. Assumes nothing.
use Rattle.base.specs.declared.Refusal.{Refusal}
use mathlib.Core.Path.{◌≡◌, refl, sym, ap, ◌∙◌, subst}
use mathlib.Core.Bool.{Bool, true, false}
use mathlib.Core.List.{List, [], ◌∷◌, ◌++◌, append-nil}
use mathlib.Core.Option.{Option, none, some}
use Prim.Native.Nat.{ℕ, ◌+◌, ◌-◌, ◌≤◌, ◌<◌}
use native.Mathlib.Omega.{arith}
use lib.ListN.{length, take, drop, get_or}
use lib.Dec.{eqb}
use lib.Seq.{drop-drop}
use borrow.Author.Tests.{eqb-true, eqb-false, le-ltb, ne_eqb}
use Rattle.base.specs.Pick.{pick}
use Rattle.base.specs.Equal.{equal}
use Rattle.base.specs.Parsed.{Parsed, got, bad as unread}
use Rattle.base.proofs.Parts.{part-from}
use Rattle.base.proofs.Tests.{clash}
use Rattle.pool.specs.Pool.{parse_pool}
use Rattle.zones.specs.Content.{Zone}
use Rattle.zones.specs.Parse.{parse_zone}
use Rattle.alias_lookup.specs.Lookup.{Named, here, unknown, deep, lookup, most}
use Rattle.aliases.specs.Dictionary.{Dictionary}
use Rattle.aliases.specs.Field.{parse_aliases}
use Rattle.frames.specs.Frame.{frame, Field}
use Rattle.frames.specs.Machine.{Out, found, Content, bad, answer, keep, state_at, field_at, from, walk}
use Rattle.frames.specs.declared.Frame.{Frame}
use Rattle.frames.specs.declared.Frame.TheVariants.{End as FrameEnd, Cut as FrameCut, Refused as FrameRefused, Version, Whole}
use Rattle.frames.proofs.AtLaws.{body-part, at-end, at_cut, at-refused, at-version, whole-inside, at-bad, at-answer, at-keep}
use Rattle.frames.proofs.StepLaws.{from-answer, from-keep}
use Rattle.frames.proofs.HeadLaws.{whole-headed, headed-whole, headed-reached, order-follows}
use Rattle.answers.specs.Answers.{Pool}
use Rattle.locate.specs.Asked.{zone_says, says as asked_says, Held, held, holder}
use Rattle.locate.specs.View.{part, pool_at, PoolAt, zone_here, zone_out, located_out, Within}
use Rattle.locate.specs.declared.Spot.{Spot}
use Rattle.locate.specs.declared.Located.{Located}
use Rattle.locate.specs.declared.Located.TheVariants.{Found, Refused, Cut, End}
use Rattle.locate.specs.declared.Judged.{Judged}
use Rattle.locate.specs.declared.Judged.TheVariants.{Here, Keep, Fault}
use Rattle.locate.proofs.WalkingLaws.{pool-bad, pool-keep}
use Rattle.named_fields.specs.Named.{Seen, zone_in, Known, nothing, zones_of, remembered, resolved, alias_says, says, naming}
use Rattle.named_fields.specs.View.{known_at, strings_at, Clear, Flags, state_from, Meets, told, NamedAs, content_out, FieldTo, JudgedField, JudgedAliases, by_pool}
use Rattle.named_fields.proofs.SeenLaws.{zone-first, zone-last, flags-none}
use Rattle.named_fields.proofs.JudgeLaws.{no-zones, one-zone, says-zone}

module _ (x : List ℕ) (s : List ℕ) (start end : ℕ) where
  abbrev m : Pool
  m = pool_at s start end

  abbrev ts : List (List ℕ)
  ts = strings_at s start end

  abbrev whole : Out Known Held
  whole = from (naming held x) (state_at end (drop end s) true 0 (known_at s start end []))

  pub record Walking (at prev : ℕ) (fl : List ℕ) : Type 0 where
    pub some-place : 0 < at
    pub inside : at ≤ length s
    pub zs : List Seen
    pub flags : Flags ts fl zs
    pub meets : Meets s start end at prev zs
    pub goes : whole ≡ from (naming held x) (state_at at (drop at s) true prev (known_at s start end zs))

  pub walking_start : (fl : List ℕ) → 0 < end → end ≤ length s → length ts ≤ length fl → Clear fl → Walking end 0 fl
  unfolding zone_in
  walking_start fl a b l c =
      record {
        some-place = a;
        inside = b;
        zs = [];
        flags = flags-none ts fl l c;
        meets = record { one = λ y z h. clash cc; others = λ o y h. refl };
        goes = refl;
      }

  module _ (at prev : ℕ) (fl : List ℕ) (w : Walking at prev fl) (f : Frame) (read : f ≡ frame 3 at true prev (take (length s - at) (drop at s))) where
    abbrev k : Known
    k = known_at s start end w.zs

    abbrev here' : Out Known Held
    here' = from (naming held x) (state_at at (drop at s) true prev k)

    stops : (r : Located) → Within s m r → told here' ≡ told (located_out s m r) → NamedAs s m whole r
    stops r i h = record { within = i; goes = ap told w.goes ∙ h }

    pub walking-end : f ≡ FrameEnd → NamedAs s m whole (End at)
    walking-end e = stops (End at) (record { lies = tt }) (ap told (at-end (naming held x) s at true prev k w.inside f read e))

    pub walking-cut : f ≡ FrameCut → NamedAs s m whole (Cut at)
    walking-cut e = stops (Cut at) (record { lies = tt }) (ap told (at_cut (naming held x) s at true prev k w.inside f read e))

    pub walking-refused : (n : Refusal) → f ≡ FrameRefused n → NamedAs s m whole (Refused n at)
    walking-refused n e = stops (Refused n at) (record { lies = tt }) (ap told (at-refused (naming held x) s at true prev k w.inside f read n e))

    pub walking-version : {A : Type 0} → f ≡ Version → A
    walking-version e = absurd (omega (arith, w.some-place, at-version (naming held x) s at true prev k w.inside f read e))

    module _ (i h n : ℕ) (e : f ≡ Whole i h n) where
      pub walking-inside : (0 < h) × (at + h + n ≤ length s) × (at + h + n ≤ 4194304)
      walking-inside = whole-inside (naming held x) s at true prev k w.inside f read i h n e

      framed : frame 3 at true prev (drop at s) ≡ Whole i h n
      framed = sym (rw (part-from at s) at read) ∙ e

      abbrev g : Field
      g = field_at at (drop at s) i h n

      rises : (prev ≤ i) × (0 < i)
      rises =
          let o = order-follows prev i (whole-headed 3 at true prev (drop at s) i h n framed).ordered in
          (o.rising, o.some)

      -- no ID above 3 is shown to the job
      low : i ≤ 3
      low = (whole-headed 3 at true prev (drop at s) i h n framed).reached

      -- field 3 stops the walk
      content-out : (c : Content Known Held) → ((k' : Known) → c ≡ keep k' → ⊥) → says held x k g ≡ c → told here' ≡ told (content_out at c)
      content-out (bad j) stopped y = ap told (at-bad (naming held x) s at true prev k w.inside f read i h n e j y)
      content-out (answer v) stopped y = ap told (at-answer (naming held x) s at true prev k w.inside f read i h n e v y)
      content-out (keep k') stopped y = absurd (stopped k' refl)

      says-aliases : i ≡ 3 → says held x k g ≡ alias_says held x k (parse_aliases ts g.body)
      unfolding says
      says-aliases o = rw (le-ltb i 2 (omega arith), ne_eqb i 2 (omega arith))

      never-keep : (p : Parsed Dictionary) (k' : Known) → alias_says held x k p ≡ keep k' → ⊥
      never-keep (unread j) k' y = clash cc
      never-keep (got es r) k' y = go (lookup (zone_in w.zs) es most x) y
        where
          go : (d : Named Zone) → resolved held m d ≡ keep k' → ⊥
          go (here z) q = clash cc
          go unknown q = clash cc
          go deep q = clash cc

      pub walking-aliases : i ≡ 3 → (r : Located) → JudgedAliases x s start end at (at + h) (at + h + n) fl r → NamedAs s m whole r
      walking-aliases o r j =
          let y = j.means w.zs prev w.flags w.meets in
          stops r y.within
          (content-out (alias_says held x k (parse_aliases ts g.body)) (never-keep (parse_aliases ts g.body)) (says-aliases o)
          ∙ ap (λ (d : List ℕ). told (content_out at (alias_says held x k (parse_aliases ts d)))) (body-part s at h n)
          ∙ y.goes)

      module _ (fl' : List ℕ) (three : i ≡ 3 → ⊥) (j : Judged) (p : JudgedField x s start end i (at + h) (at + h + n) fl fl' j) where
        below : i < 3
        below = omega (arith, low, three)

        field-says : (r : Judged) → j ≡ r → FieldTo x s start end g fl' w.zs r
        field-says r o =
            (subst (JudgedField x s start end i (at + h) (at + h + n) fl fl') o p).means w.zs g w.flags rises.1 below refl (body-part s at h n)

        pub walking_here : (count : ℕ) → count ≡ length ts → j ≡ Here
            → NamedAs s m whole (Found (record { place = at; start = at + h; past = at + h + n; count = count }))
        walking_here count c o =
            stops _ (record { lies = record { order = omega arith; inside = walking-inside.1; count-is = c } })
            (go (parse_zone (length ts) g.body) (field-says Here o).1 ∙ ap (λ (z : Parsed Zone). told (zone_out spot m z)) same)
          where
            spot : Spot
            spot = record { place = at; start = at + h; past = at + h + n; count = count }

            same : parse_zone (length ts) g.body ≡ parse_zone count (part (at + h) (at + h + n) s)
            same = rw (c, body-part s at h n)

            go : (z : Parsed Zone) → says held x k g ≡ remembered k g (zone_here m z) → told here' ≡ told (zone_out spot m z)
            go (got z r) y = ap told (at-answer (naming held x) s at true prev k w.inside f read i h n e (held m z) y)
            go (unread l) y = ap told (at-bad (naming held x) s at true prev k w.inside f read i h n e l y)

        pub walking-fault : (l : Refusal) → j ≡ Fault l → NamedAs s m whole (Refused l at)
        walking-fault l o =
            stops (Refused l at) (record { lies = tt }) (ap told (at-bad (naming held x) s at true prev k w.inside f read i h n e l (field-says (Fault l) o)))

        -- the same field, as the walk by ID meets it
        module _ (one-id : i ≡ 1) (k' : Known) (kept : says held x k g ≡ keep k') where
          zone-read : (z : Zone) × (l : List ℕ) × (parse_zone (length ts) g.body ≡ got z l)
          zone-read = go (parse_zone (length ts) g.body) refl (sym (says-zone x s start end i (at + h) (at + h + n) w.zs g one-id) ∙ kept)
            where
              go : (y : Parsed Zone) → parse_zone (length ts) g.body ≡ y → remembered k g (zone_says held x m y) ≡ keep k'
                  → (z : Zone) × (l : List ℕ) × (parse_zone (length ts) g.body ≡ got z l)
              go (got z l) q r = (z, l, q)
              go (unread l) q r = clash cc

          abbrev zone : Zone
          zone = zone-read.0

          abbrev seen : Seen
          seen = record { id = get_or ts zone.id []; zone = zone }

          seen_one : zones_of ts g ≡ seen ∷ []
          seen_one = one-zone ts g one-id ∙ rw zone-read.2

          asked-says : (y : List ℕ) → asked_says held y m g ≡ pick (equal (get_or ts zone.id []) y) (answer (held m zone)) (keep m)
          unfolding asked_says
          asked-says y = rw (ne_eqb i 0 (omega arith), zone-read.2)

          asked-frame : Whole i h n ≡ frame 1 at true prev (drop at s)
          asked-frame =
              let d = whole-headed 3 at true prev (drop at s) i h n framed in
              sym (headed-whole 1 at true prev (drop at s) i h n (headed-reached 1 at true prev 3 (drop at s) i h n d (omega arith)))

          asked-answers : (y : List ℕ) → equal (get_or ts zone.id []) y ≡ true
              → from (holder y) (state_from s start end at prev) ≡ found (held m zone) (at + (h + n))
          asked-answers y q = from-answer (holder y) at (drop at s) true prev m i h n asked-frame _ (asked-says y ∙ rw q)

          asked-keeps : (y : List ℕ) → equal (get_or ts zone.id []) y ≡ false
              → from (holder y) (state_from s start end at prev) ≡ from (holder y) (state_from s start end (at + h + n) i)
          asked-keeps y q =
              let e₁ : at + (h + n) ≡ at + h + n = omega arith in
              from-keep (holder y) at (drop at s) true prev m i h n asked-frame m (asked-says y ∙ rw q) ∙ rw (drop-drop, e₁)

          meets-more : Meets s start end (at + h + n) i (w.zs ++ (seen ∷ []))
          meets-more = record { one = λ y z q. one y z (zone_in w.zs y) refl q; others = λ l y q. others y (zone_in w.zs y) refl q }
            where
              one : (y : List ℕ) (z : Zone) (o : Option Zone) → zone_in w.zs y ≡ o → zone_in (w.zs ++ (seen ∷ [])) y ≡ some z
                  → (p' : ℕ) × (from (holder y) (state_from s start end end 0) ≡ found (held m z) p')
              one y z (some u) o q =
                  let r : some u ≡ some z = sym (zone-first w.zs seen y u o) ∙ q in
                  let v : u ≡ z = cc in
                  w.meets.one y z (o ∙ ap some v)
              one y z none o q = go (equal (get_or ts zone.id []) y) refl (sym (zone-last w.zs seen y o) ∙ q)
                where
                  go : (c : Bool) → equal (get_or ts zone.id []) y ≡ c → pick c (some zone) none ≡ some z
                      → (p' : ℕ) × (from (holder y) (state_from s start end end 0) ≡ found (held m z) p')
                  go true c r =
                      let u : zone ≡ z = cc in
                      (at + (h + n), w.meets.others (omega (arith, rises)) y o ∙ asked-answers y c ∙ ap (λ (v : Zone). found (held m v) (at + (h + n))) u)
                  go false c r = clash cc

              others : (y : List ℕ) (o : Option Zone) → zone_in w.zs y ≡ o → zone_in (w.zs ++ (seen ∷ [])) y ≡ none
                  → from (holder y) (state_from s start end end 0) ≡ from (holder y) (state_from s start end (at + h + n) i)
              others y (some u) o q = let r : some u ≡ none = sym (zone-first w.zs seen y u o) ∙ q in clash cc
              others y none o q = go (equal (get_or ts zone.id []) y) refl (sym (zone-last w.zs seen y o) ∙ q)
                where
                  go : (c : Bool) → equal (get_or ts zone.id []) y ≡ c → pick c (some zone) none ≡ none
                      → from (holder y) (state_from s start end end 0) ≡ from (holder y) (state_from s start end (at + h + n) i)
                  go true c r = clash cc
                  go false c r = w.meets.others (omega (arith, rises)) y o ∙ asked-keeps y c

        pub walking-keep : j ≡ Keep → Walking (at + h + n) i fl'
        walking-keep o =
            let y = field-says Keep o in
            record {
              some-place = omega (arith, walking-inside.0);
              inside = walking-inside.1;
              zs = w.zs ++ zones_of ts g;
              flags = y.1;
              meets = go (eqb i 1) refl y.0;
              goes = w.goes ∙ at-keep (naming held x) s at true prev k w.inside f read i h n e (known_at s start end (w.zs ++ zones_of ts g)) y.0;
            }
          where
            go : (b : Bool) → eqb i 1 ≡ b → says held x k g ≡ keep (known_at s start end (w.zs ++ zones_of ts g)) → Meets s start end (at + h + n) i (w.zs ++ zones_of ts g)
            go true b q = rw (seen_one (eqb-true i 1 b) _ q) (meets-more (eqb-true i 1 b) _ q)
            go false b q =
                let u = eqb-false i 1 b in
                let v : w.zs ++ zones_of ts g ≡ w.zs = ap (λ (ys : List Seen). w.zs ++ ys) (no-zones ts g u) ∙ append-nil w.zs in
                rw v (record { one = w.meets.one; others = λ l. absurd (u (omega (arith, rises))) })

-- field 0 itself
module _ (x s : List ℕ) (a e : ℕ) (p : Parsed (List (List ℕ))) where
  pub named-fault : (n : Refusal) → p ≡ unread n → NamedAs s (pool_at s a e) (by_pool x s a e p) (Refused n 4)
  unfolding by_pool
  named-fault n k = record { within = record { lies = tt }; goes = rw k }

  pub named-on : (ts : List (List ℕ)) (q : List ℕ) → p ≡ got ts q → {r : Located}
      → NamedAs s (pool_at s a e) (from (naming held x) (state_at e (drop e s) true 0 (known_at s a e []))) r → NamedAs s (pool_at s a e) (by_pool x s a e p) r
  unfolding by_pool
  named-on ts q k h = rw k h

pub pool-walk : {s : List ℕ} {a e : ℕ} → PoolAt s a e → (x : List ℕ) → walk (naming held x) nothing s ≡ by_pool x s a e (parse_pool (part a e s))
unfolding by_pool says asked_says zones_of
pool-walk {s} {a} {e} p x = go (parse_pool (part a e s)) refl
  where
    go : (q : Parsed (List (List ℕ))) → parse_pool (part a e s) ≡ q → walk (naming held x) nothing s ≡ by_pool x s a e q
    go (unread n) z = pool-bad p (naming held x) nothing n (rw z)
    go (got us r) z = pool-keep p (naming held x) nothing (known_at s a e []) (rw z)
