-- The zone kept for a name, and the offset kept with it, answer as the question on that name. Assumes nothing.
use Rattle.base.specs.declared.Refusal.{Refusal}
use Rattle.base.specs.declared.Refusal.TheVariants.{OutOfRange}
use Rattle.std.specs.Prelude.{Err, Ok}
use mathlib.Core.Path.{◌≡◌, refl, sym, ap, ◌∙◌, subst}
use mathlib.Core.Bool.{Bool, true, false}
use mathlib.Core.List.{List}
use Prim.Native.Nat.{ℕ, ◌+◌, ◌-◌, ◌≤◌, ◌<◌}
use native.Mathlib.Omega.{arith}
use lib.IntN.{ℤ}
use lib.Dec.{eqb}
use lib.ListN.{length, take, drop}
use borrow.Author.Tests.{eq-eqb, eqb-false}
use Rattle.base.specs.Pick.{pick}
use Rattle.base.specs.Parsed.{Parsed, got, bad}
use Rattle.base.specs.Equal.{equal}
use Rattle.base.specs.Moment.{Finite}
use Rattle.base.proofs.EqualLaws.{equal-true}
use Rattle.base.proofs.Tests.{never}
use Rattle.signed.specs.Instant.{instant_of, InRange}
use Rattle.zones.specs.Content.{Zone}
use Rattle.zones.specs.declared.Edition.TheVariants.{Two}
use Rattle.questions.specs.Question.{ask}
use Rattle.traces.specs.Trace.{name_start, name_length, instant_at, shown_at, name_at}
use Rattle.found_zones.specs.FoundZone.{zone_at, zone_answer, ask_zone, FindsZone}
use Rattle.found_zones.specs.declared.FoundZone.{FoundZone}
use Rattle.trace_records.specs.Record.{same_as, gives, shows, agrees}
use Rattle.trace_records.specs.Kept.{name_by, kept_zone, kept_of, with_offset, KeptAs, Lasts, OffsetAt, Filled, KeptOk, HasName, StillAgrees, Takes, TakesZone}
use Rattle.trace_records.specs.declared.Kept.{Kept}
use Rattle.trace_records.specs.declared.Lasting.{Lasting}
use Rattle.trace_records.specs.declared.Taken.{Taken}

-- the place of a zone is told with a fault alone
place-free : (f : List ℕ) (a n : ℕ) (v : FoundZone) (z w : ℤ) → gives w (ask_zone f v z Two) ≡ gives w (ask_zone f (kept_zone (kept_of a n v)) z Two)
unfolding ask_zone
place-free f a n v z w = go (eqb (instant_of z) 0) (zone_at f v)
  where
    go : (b : Bool) (p : Parsed Zone)
        → gives w (pick b (Err (OutOfRange, 0)) (zone_answer f v Two (instant_of z) p)) ≡ gives w (pick b (Err (OutOfRange, 0)) (zone_answer f (kept_zone (kept_of a n v)) Two (instant_of z) p))
    go true p = refl
    go false (got y r) = refl
    go false (bad k) = refl

pub none-ok : (f : List ℕ) (names : ℕ) (s : List ℕ) (k : Kept) → k.end ≡ 0 → KeptOk f names s k
none-ok f names s k e = record { to = λ h. absurd (omega arith) }

pub none-kept-as : (start len : ℕ) (v : FoundZone) (k : Kept) → k.end ≡ 0 → KeptAs start len v k
none-kept-as start len v k e = record { to = λ h. absurd (omega arith) }

-- a part of the trace that is a name
pub name-part : (s : List ℕ) (names start len : ℕ) → take (names + start + len - (names + start)) (drop (names + start) s) ≡ name_by names start len s
unfolding name_by
name-part s names start len = let k : names + start + len - (names + start) ≡ len = omega arith in ap (λ (n : ℕ). take n (drop (names + start) s)) k

-- that of the record at a place
pub name-is : (s : List ℕ) (names at start len : ℕ) → start ≡ name_start at s → len ≡ name_length at s → name_by names start len s ≡ name_at names at s
unfolding name_by
name-is s names at start len a b =
    ap (λ (n : ℕ). take len (drop (names + n) s)) a ∙ ap (λ (n : ℕ). take n (drop (names + name_start at s) s)) b

-- a record by the zone v, which k is kept for
module _ (f : List ℕ) (v : FoundZone) (k : Kept) (t : ℕ) (g : Finite t) (shown : ℤ) (x : Lasting) (o : OffsetAt f v t x) (new : Kept) (n : new ≡ with_offset k x) where
  pub zone-shown : t < x.to → (b : Bool) → b ≡ same_as x.wall shown → TakesZone f v k t shown (record { agrees = b; kept = new })
  zone-shown h b e = record {
    agreed = λ z q.
        e ∙ o.lasts.each z shown (λ u. omega (arith, g.low, q)) (subst (λ (u : ℕ). x.from ≤ u) q (o.begun h)) (subst (λ (u : ℕ). u < x.to) q h);
    offset = x;
    kept = n;
    lasts = o.lasts;
  }

  pub zone-refused : x.to ≤ t → TakesZone f v k t shown (record { agrees = false; kept = new })
  zone-refused h = record { agreed = λ z q. o.none h z shown q; offset = x; kept = n; lasts = o.lasts }

-- the record at a place, by its instant and the offset shown
module _ (f : List ℕ) (names : ℕ) (s : List ℕ) (at : ℕ) (z w : ℤ) (instant : z ≡ instant_at at s) (offset : w ≡ shown_at at s) where
  by-numbers : shows f (name_at names at s) z w ≡ agrees f names s at
  unfolding agrees
  by-numbers = ap (λ (y : ℤ). shows f (name_at names at s) y w) instant ∙ ap (shows f (name_at names at s) (instant_at at s)) offset

  -- out of range
  pub outside-agrees : (t : ℕ) → t ≡ instant_of z → t ≡ 0 → false ≡ agrees f names s at
  unfolding shows ask
  outside-agrees t e h = let q : instant_of z ≡ 0 = sym e ∙ h in rw (eq-eqb (instant_of z) 0 q) at by-numbers

  -- of a zone that is kept for its name
  module _ (k : Kept) (ok : KeptOk f names s k) (some : 0 < k.end) (name : name_by names k.name k.len s ≡ name_at names at s) where
    kept-agrees : gives w (ask_zone f (kept_zone k) z Two) ≡ agrees f names s at
    kept-agrees = (ok.to some).shown z w ∙ ap (λ (x : List ℕ). shows f x z w) name ∙ by-numbers

    pub takes-held : (t : ℕ) → Finite t → t ≡ instant_of z → t < k.to → k.from ≤ t → (b : Bool) → b ≡ same_as k.wall w
        → Takes f names s (agrees f names s at) (record { agrees = b; kept = k })
    takes-held t g q h l b e = record {
      agreed =
          e ∙ (ok.to some).lasts.each z w (λ u. omega (arith, g.low, q)) (subst (λ (u : ℕ). k.from ≤ u) q l) (subst (λ (u : ℕ). u < k.to) q h)
          ∙ kept-agrees;
      kept = ok;
    }

    pub takes-kept : (v : FoundZone) → v ≡ kept_zone k → (t : ℕ) → t ≡ instant_of z → (r : Taken) → TakesZone f v k t w r
        → Takes f names s (agrees f names s at) r
    takes-kept v q t e r h = record {
      agreed = h.agreed z e ∙ ap (λ (u : FoundZone). gives w (ask_zone f u z Two)) q ∙ kept-agrees;
      kept = subst (KeptOk f names s) (sym h.kept) (record {
        to = λ l. record {
          inside = (ok.to some).inside;
          shown = (ok.to some).shown;
          lasts = subst (λ (u : FoundZone). Lasts f u h.offset.from h.offset.to h.offset.wall) q h.lasts;
        };
      });
    }

  -- of a zone that was found for it
  module _ (start len : ℕ) (starts : start ≡ name_start at s) (long : len ≡ name_length at s) (within : names + (name_start at s + name_length at s) ≤ length s)
      (v : FoundZone) (finds : FindsZone f (name_at names at s) (Ok v)) where
    found-shows : (y u : ℤ) → gives u (ask_zone f v y Two) ≡ shows f (name_at names at s) y u
    unfolding shows
    found-shows y u = ap (gives u) (finds.to y Two)

    pub takes-found : (k : Kept) → KeptAs start len v k → (t : ℕ) → t ≡ instant_of z → (r : Taken) → TakesZone f v k t w r
        → Takes f names s (agrees f names s at) r
    takes-found k q t e r h = record {
      agreed = h.agreed z e ∙ found-shows z w ∙ by-numbers;
      kept = subst (KeptOk f names s) (sym h.kept) (record { to = λ l. filled (q.to l) });
    }
      where
        filled : k ≡ kept_of start len v → Filled f names s (with_offset k h.offset)
        filled p = subst (λ (u : Kept). Filled f names s (with_offset u h.offset)) (sym p) (record {
          inside = omega (arith, starts, long);
          shown = λ y u. sym (place-free f start len v y u) ∙ found-shows y u ∙ ap (λ (x : List ℕ). shows f x y u) (sym (name-is s names at start len starts long));
          lasts = record { each = λ y u i a b. h.lasts.each y u i a b ∙ place-free f start len v y u };
        })

-- no zone has the name
pub nowhere-agrees : (f : List ℕ) (names : ℕ) (s : List ℕ) (at : ℕ) (n : Refusal) (p : ℕ) → FindsZone f (name_at names at s) (Err (n, p)) → agrees f names s at ≡ false
unfolding agrees shows ask
nowhere-agrees f names s at n p h = go (eqb (instant_of (instant_at at s)) 0) refl
  where
    go : (b : Bool) → eqb (instant_of (instant_at at s)) 0 ≡ b → agrees f names s at ≡ false
    go true q = rw q
    go false q = ap (gives (shown_at at s)) (h.to (instant_at at s) Two (eqb-false (instant_of (instant_at at s)) 0 q))

-- the offset kept
pub still-true : (f : List ℕ) (names : ℕ) (s : List ℕ) (at : ℕ) (k : Kept) → KeptOk f names s k → (r : Bool) → StillAgrees names s at k r → r ≡ true
    → agrees f names s at ≡ true
still-true f names s at k ok r h e =
    let n = h.named.to e in
    let i = h.held e in
    sym ((ok.to n.0).lasts.each (instant_at at s) (shown_at at s) i.0 i.1 i.2 ∙ kept-agrees f names s at (instant_at at s) (shown_at at s) refl refl k ok n.0 n.1)
    ∙ h.shown e

-- whether a zone is kept for a record's name
module _ (names : ℕ) (s : List ℕ) (at : ℕ) (k : Kept) where
  pub no_name : HasName names s at k false
  no_name = record { to = λ e. never e refl }

  pub not-still : StillAgrees names s at k false
  not-still = record { named = no_name; held = λ e. never e refl; shown = λ e. never e refl }

  pub still : (r : Bool) → HasName names s at k r → (z : ℤ) → z ≡ instant_at at s → (t : ℕ) → t ≡ instant_of z → (t ≡ 0 → ⊥) → k.from ≤ t → t < k.to
      → (w : ℤ) → w ≡ shown_at at s → (b : Bool) → b ≡ same_as k.wall w → b ≡ true → StillAgrees names s at k r
  still r h z p t q i l m w u b e y =
      let o : t ≡ instant_of (instant_at at s) = q ∙ ap instant_of p in
      record {
        named = h;
        held = λ _. (λ v. i (o ∙ v), subst (λ (n : ℕ). k.from ≤ n) o l, subst (λ (n : ℕ). n < k.to) o m);
        shown = λ _. ap (same_as k.wall) (sym u) ∙ sym e ∙ y;
      }

  module _ (start len : ℕ) (starts : start ≡ name_start at s) (long : len ≡ name_length at s) where
    pub name-here : (k.end ≡ 0 → ⊥) → k.len ≡ len → k.name ≡ start → HasName names s at k true
    name-here h a b = record {
      to = λ e. (
        omega (arith, h),
        ap (λ (n : ℕ). name_by names n k.len s) b ∙ ap (λ (n : ℕ). name_by names start n s) a ∙ name-is s names at start len starts long,
      );
    }

    pub name-same : (k.end ≡ 0 → ⊥) → k.len ≡ len → (r : Bool)
        → r ≡ equal (take (names + k.name + len - (names + k.name)) (drop (names + k.name) s)) (take (names + start + len - (names + start)) (drop (names + start) s))
        → HasName names s at k r
    name-same h a r e = record {
      to = λ t. (
        omega (arith, h),
        ap (λ (n : ℕ). name_by names k.name n s) a ∙ sym (name-part s names k.name len) ∙ equal-true _ _ (sym e ∙ t) ∙ name-part s names start len
            ∙ name-is s names at start len starts long,
      );
    }
