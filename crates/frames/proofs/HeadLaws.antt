-- What a whole field is, for jobs that go to different IDs. Assumes nothing.
use Rattle.std.specs.Prelude.{Err, Ok}
use Rattle.base.specs.Coded.{Coded}
use Rattle.std.specs.declared.option.Option.{Option}
use Rattle.std.specs.declared.option.Option.TheVariants.{Some, None}
use Rattle.base.specs.Refusals.{refusal_number}
use Rattle.base.specs.declared.Refusal.{Refusal}
use Rattle.base.specs.declared.Refusal.TheVariants.{BadCode, FieldOrder, FirstField, NotFound, TooLarge}
use mathlib.Core.Path.{◌≡◌, refl, ap, sym}
use mathlib.Core.Bool.{Bool, true, false}
use mathlib.Core.List.{List, [], ◌∷◌}
use Prim.Native.Nat.{ℕ, zero, suc, ◌+◌, ◌≤◌, ◌<◌}
use native.Mathlib.Omega.{arith}
use lib.ListN.{length, take}
use lib.Dec.{ltb, leb, eqb}
use borrow.Author.Tests.{leb-true, le-leb, lt-ltb, le-ltb, ltb-false, eqb-true, eqb-false, eq-eqb, ne_eqb}
use Rattle.base.specs.Pick.{pick}
use Rattle.base.proofs.Tests.{by_order, never, pick-holds, clash}
use Rattle.frames.specs.Frame.{largest, once, order, zeros, version, read_size, sized, allowed, field, frame}
use Rattle.frames.specs.declared.Frame.{Frame}
use Rattle.frames.specs.declared.Frame.TheVariants.{End, Cut, Refused, Version, Whole}

-- What a whole field is: a frame is one exactly where all of these hold.
pub record Headed (last at : ℕ) (seen : Bool) (prev : ℕ) (r : List ℕ) (i h n : ℕ) : Type 0 where
  pub place : at ≡ 0 → ⊥
  pub tail : List ℕ
  pub starts : r ≡ i ∷ tail
  pub ordered : order seen prev i ≡ None
  pub reached : i ≤ last
  pub used : ℕ
  pub head : h ≡ 1 + used
  pub size : read_size tail ≡ Ok (n, used)
  pub limit : at + (h + n) ≤ largest
  pub whole : h + n ≤ length r

unfoldable is_whole : Frame → Bool
is_whole (Whole i h n) = true
is_whole End = false
is_whole Cut = false
is_whole (Refused n) = false
is_whole Version = false

version-whole : (r : List ℕ) → is_whole (version r) ≡ false
unfolding version is_whole
version-whole r =
    pick-holds (λ f. is_whole f ≡ false) (leb 4 (length r))
    (λ k. pick-holds (λ f. is_whole f ≡ false) (zeros (take 4 r)) (λ j. refl) (λ j. refl))
    (λ k. refl)

module _ (last at : ℕ) (seen : Bool) (prev : ℕ) where
  pub whole-headed : (r : List ℕ) (i h n : ℕ) → frame last at seen prev r ≡ Whole i h n → Headed last at seen prev r i h n
  unfolding frame field sized is_whole
  whole-headed r i h n = by_place (eqb at 0) refl r
    where
      by_place : (t : Bool) → eqb at 0 ≡ t → (r : List ℕ) → pick t (version r) (field last at seen prev r) ≡ Whole i h n
          → Headed last at seen prev r i h n
      by_place true p r e = never (ap is_whole e) (version-whole r)
      by_place false p [] e = never (ap is_whole e) refl
      by_place false p (j ∷ r) e = by-id (order seen prev j) refl (ltb last j) refl (read_size r) refl e
        where
          by_size : (v u : ℕ) → read_size r ≡ Ok (v, u) → order seen prev j ≡ None → j ≤ last → (s t : Bool)
              → ltb largest (at + (1 + u + v)) ≡ s → leb (u + v) (length r) ≡ t
              → pick s (Refused TooLarge) (pick t (Whole j (1 + u) v) Cut) ≡ Whole i h n → Headed last at seen prev (j ∷ r) i h n
          by_size v u c o k true t a b e = never (ap is_whole e) refl
          by_size v u c o k false false a b e = never (ap is_whole e) refl
          by_size v u c o k false true a b e =
              let i= : j ≡ i = cc in
              let h= : 1 + u ≡ h = cc in
              let n= : v ≡ n = cc in
              record {
                place = eqb-false at 0 p;
                tail = r;
                starts = rw i=;
                ordered = rw i= at o;
                reached = omega arith;
                used = u;
                head = sym h=;
                size = rw n= at c;
                limit = omega (arith, ltb-false largest (at + (1 + u + v)) a);
                whole = omega (arith, leb-true (u + v) (length r) b);
              }

          by-id : (s : Option Refusal) → order seen prev j ≡ s → (t : Bool) → ltb last j ≡ t → (x : Coded ℕ) → read_size r ≡ x
              → allowed s (pick t (Refused NotFound) (sized at j r x)) ≡ Whole i h n
              → Headed last at seen prev (j ∷ r) i h n
          by-id (Some k) o t l x c e = never (ap is_whole e) refl
          by-id None o true l x c e = never (ap is_whole e) refl
          by-id None o false l (Err k) c e = cut-size (eqb (refusal_number k) 9) e
            where
              cut-size : (t : Bool) → pick t Cut (Refused BadCode) ≡ Whole i h n → Headed last at seen prev (j ∷ r) i h n
              cut-size true e = never (ap is_whole e) refl
              cut-size false e = never (ap is_whole e) refl
          by-id None o false l (Ok (v, u)) c e =
              by_size v u c o (ltb-false last j l) (ltb largest (at + (1 + u + v))) (leb (u + v) (length r))
              refl refl e

  pub headed-whole : (r : List ℕ) (i h n : ℕ) → Headed last at seen prev r i h n → frame last at seen prev r ≡ Whole i h n
  unfolding frame field sized
  headed-whole r i h n d =
      let l : length r ≡ suc (length d.tail) = ap length d.starts in
      let a : at + (1 + d.used + n) ≤ largest = omega (arith, d.limit, d.head) in
      let b : d.used + n ≤ length d.tail = omega (arith, d.whole, d.head) in
      rw (ne_eqb at 0 d.place, d.starts, d.ordered, le-ltb last i d.reached)
      (rw (d.size, d.head, le-ltb _ _ a, le-leb _ _ b))

  -- a whole field for a job that goes further
  pub headed-above : (more : ℕ) (r : List ℕ) (i h n : ℕ) → Headed more at seen prev r i h n → last < i
      → frame last at seen prev r ≡ Refused NotFound
  unfolding frame field
  headed-above more r i h n d l = rw (ne_eqb at 0 d.place, d.starts, d.ordered, lt-ltb last i l)

  pub headed-reached : (more : ℕ) (r : List ℕ) (i h n : ℕ) → Headed more at seen prev r i h n → i ≤ last → Headed last at seen prev r i h n
  headed-reached more r i h n d l =
      record {
        place = d.place;
        tail = d.tail;
        starts = d.starts;
        ordered = d.ordered;
        reached = l;
        used = d.used;
        head = d.head;
        size = d.size;
        limit = d.limit;
        whole = d.whole;
      }

-- no field is there
abbrev pub bare : Frame → Bool
bare End = true
bare Cut = false
bare (Refused n) = false
bare Version = true
bare (Whole i h n) = false

sized-bare : (at i : ℕ) (r : List ℕ) (x : Coded ℕ) → bare (sized at i r x) ≡ false
unfolding sized
sized-bare at i r (Err n) = pick-holds (λ f. bare f ≡ false) (eqb (refusal_number n) 9) (λ k. refl) (λ k. refl)
sized-bare at i r (Ok (v, u)) =
    pick-holds (λ f. bare f ≡ false) (ltb largest (at + (1 + u + v))) (λ k. refl)
    (λ k. pick-holds (λ f. bare f ≡ false) (leb (u + v) (length r)) (λ j. refl) (λ j. refl))

field-bare : (last at : ℕ) (seen : Bool) (prev j : ℕ) (r : List ℕ) → bare (field last at seen prev (j ∷ r)) ≡ false
unfolding field
field-bare last at seen prev j r = go (order seen prev j)
  where
    go : (o : Option Refusal) → bare (allowed o (pick (ltb last j) (Refused NotFound) (sized at j r (read_size r)))) ≡ false
    go None = pick-holds (λ f. bare f ≡ false) (ltb last j) (λ l. refl) (λ l. sized-bare at j r (read_size r))
    go (Some k) = refl

-- the version, and the bytes' end, are the same for every job
pub frame-bare : (last more at : ℕ) (seen : Bool) (prev : ℕ) (r : List ℕ) → bare (frame more at seen prev r) ≡ true
    → frame last at seen prev r ≡ frame more at seen prev r
unfolding frame field
frame-bare last more at seen prev r = go (eqb at 0) r
  where
    go : (t : Bool) (r : List ℕ) → bare (pick t (version r) (field more at seen prev r)) ≡ true
        → pick t (version r) (field last at seen prev r) ≡ pick t (version r) (field more at seen prev r)
    go true r h = refl
    go false [] h = refl
    go false (j ∷ r) h = never h (field-bare more at seen prev j r)

-- the version stands at 0 only
pub version-place : (last at : ℕ) (seen : Bool) (prev : ℕ) (r : List ℕ) → frame last at seen prev r ≡ Version → at ≡ 0
unfolding frame field
version-place last at seen prev r = go (eqb at 0) refl r
  where
    go : (t : Bool) → eqb at 0 ≡ t → (r : List ℕ) → pick t (version r) (field last at seen prev r) ≡ Version → at ≡ 0
    go true e r h = eqb-true at 0 e
    go false e [] h = clash cc
    go false e (j ∷ r) h = never (ap bare h) (field-bare last at seen prev j r)

-- behind a field with the ID prev IDs do not fall, and 0 does not come back
pub record Follows (prev i : ℕ) : Type 0 where
  pub rising : prev ≤ i
  pub some : 0 < i

pub order-follows : (prev i : ℕ) → order true prev i ≡ None → Follows prev i
unfolding order
order-follows prev i h = record { rising = rising (ltb i prev) refl h; some = some i h }
  where
    rising : (t : Bool) → ltb i prev ≡ t → ◌≡◌ {A = Option Refusal} (pick t (Some FieldOrder) (pick (eqb i prev) (pick (once i) (Some FieldOrder) None) None)) None → prev ≤ i
    rising true e k = clash cc
    rising false e k = ltb-false i prev e

    twice : {G : Type 0} → ◌≡◌ {A = Option Refusal} (Some FieldOrder) None → G
    twice e = clash cc

    some : (j : ℕ) → ◌≡◌ {A = Option Refusal} (pick (ltb j prev) (Some FieldOrder) (pick (eqb j prev) (pick (once j) (Some FieldOrder) None) None)) None → 0 < j
    some zero k =
        by_order 0 prev
        (λ l. twice (rw (lt-ltb 0 prev l) at k))
        (λ l. twice (rw (le-ltb 0 prev l, eq-eqb 0 prev (omega arith)) at k))
    some (suc j) k = omega arith

pub order-first : (prev i : ℕ) → order false prev i ≡ None → i ≡ 0
unfolding order
order-first prev i = go (eqb i 0) refl
  where
    go : (t : Bool) → eqb i 0 ≡ t → ◌≡◌ {A = Option Refusal} (pick t None (Some FirstField)) None → i ≡ 0
    go true e h = eqb-true i 0 e
    go false e h = clash cc
