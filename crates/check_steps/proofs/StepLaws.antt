-- One frame of the walk, a law for each way out of the code, and the walk from step to step. Assumes nothing.
use Rattle.std.specs.declared.option.Option.TheVariants.{None}
use Rattle.base.specs.declared.Refusal.{Refusal}
use Rattle.std.specs.Prelude.{Err, Ok, Result}
use Rattle.base.specs.declared.Refusal.TheVariants.{CutShort}
use mathlib.Core.Path.{◌≡◌, refl, sym, ◌∙◌, ap}
use mathlib.Core.Bool.{Bool, true, false}
use mathlib.Core.List.{List, [], ◌∷◌}
use Prim.Native.Nat.{ℕ, ◌+◌, ◌-◌, ◌≤◌, ◌<◌}
use native.Mathlib.Omega.{arith}
use lib.ListN.{length, take, drop, replicate, length-drop, length-replicate, get_or-replicate}
use lib.Seq.{drop-drop}
use native.Mathlib.Nat.{pos_of_ne-zero}
use borrow.Author.Tests.{eq-eqb, ne_eqb, lt-ltb, le-ltb, ltb-false}
use Rattle.base.proofs.Parts.{part-from}
use Rattle.counts.specs.Groups.{read_groups}
use Rattle.pool.specs.Index.{starts_in, room_of}
use Rattle.pool.proofs.PoolLaws.{room_most}
use Rattle.ids.proofs.PutLaws.{roomy-none}
use Rattle.ids.proofs.MemoryLaws.{keeps-none}
use Rattle.frames.specs.Frame.{order, field, frame}
use Rattle.frames.specs.Machine.{Content, bad, answer, keep, state_at, field_at, from, walk}
use Rattle.frames.specs.declared.Frame.{Frame}
use Rattle.frames.specs.declared.Frame.TheVariants.{End, Cut, Refused as Unframed, Version, Whole}
use Rattle.frames.proofs.HeadLaws.{Headed, whole-headed, order-follows}
use Rattle.frames.proofs.StepLaws.{Room, whole_room, version-room, from-end, from_cut, from-refused, from-version, from-bad, from-keep}
use Rattle.field_checks.specs.Check.{TextPlace, Memory, start, judged, job, concluded, concludes, conclusion}
use Rattle.field_readers.specs.Remembered.{part, text_of, Wide, Indexed, Stands, Says, TookField}
use Rattle.check_steps.specs.Room.{room_at, room_for, Started}
use Rattle.check_steps.specs.Cursor.{seen_at, state_of, Represents, Onward, Stepped}
use Rattle.field_checks.specs.declared.Conclusion.{Conclusion}
use Rattle.field_checks.specs.declared.Conclusion.TheVariants.{Refused as Ill, Bare, WithText}
use Rattle.field_readers.specs.declared.Kept.{Kept}
use Rattle.check_steps.specs.declared.Cursor.{Cursor}
use Rattle.check_steps.specs.declared.Turn.{Turn}
use Rattle.check_steps.specs.declared.Turn.TheVariants.{Done, Next}

-- what the definition says where the code refuses, or keeps
module _ (s ix od : List ℕ) where
  says-bad : (x : Content Memory ⊥) (m : Refusal) → Says s ix od x (Err m) → x ≡ bad m
  says-bad (bad n) m h = ap bad (sym h)
  says-bad (answer v) m h = absurd v
  says-bad (keep y) m h = absurd h

  says-keep : (x : Content Memory ⊥) (k : Kept) → Says s ix od x (Ok k)
      → (y : Memory) × (x ≡ keep y) × Indexed s k ix × Stands s k od y
  says-keep (bad n) k h = absurd h
  says-keep (answer v) k h = absurd v
  says-keep (keep y) k h = (y, refl, h.0, h.1)

-- the ID before the first field says nothing of it
first_frame : (last at prev : ℕ) (r : List ℕ) → frame last at false prev r ≡ frame last at false 0 r
unfolding frame field order
first_frame last at prev [] = refl
first_frame last at prev (i ∷ r) = refl

-- the field 0 comes first
zero-first : (seen : Bool) (prev i : ℕ) → order seen prev i ≡ None → i ≡ 0 → seen ≡ false
zero-first true prev i o z = absurd (omega (arith, (order-follows prev i o).some))
zero-first false prev i o z = refl

module _ (s : List ℕ) (c : Cursor) (ix od : List ℕ) (f : Frame)
    (h : f ≡ frame 255 c.at (seen_at c.at) c.prev (take (length s - c.at) (drop c.at s))) where
  abbrev rest : List ℕ
  rest = drop c.at s

  abbrev seen : Bool
  seen = seen_at c.at

  here : (x : Frame) → f ≡ x → x ≡ frame 255 c.at seen c.prev rest
  here x q = sym q ∙ h ∙ ap (frame 255 c.at seen c.prev) (part-from c.at s)

  pub step_end : (x : Conclusion) → f ≡ End → x ≡ concluded (text_of c.kept) c.at → Stepped s c ix od ix od (Done x)
  step_end x q e =
      record {
        means = λ y hd.
            rw (from-end job c.at rest seen c.prev y (here End q)) (e ∙ ap (λ (t : TextPlace). concluded t c.at) (sym hd.stands.text));
      }

  pub step_cut : f ≡ Cut → Stepped s c ix od ix od (Done (Ill CutShort c.at))
  step_cut q = record { means = λ y hd. rw (from_cut job c.at rest seen c.prev y (here Cut q)) refl }

  pub step-refused : (n : Refusal) → f ≡ Unframed n → Stepped s c ix od ix od (Done (Ill n c.at))
  step-refused n q =
      record { means = λ y hd. rw (from-refused job c.at rest seen c.prev y n (here (Unframed n) q)) refl }

  -- a state farther on, as the code has it
  moved : (m : ℕ) (b : Bool) (prev : ℕ) (y : Memory) → seen_at (c.at + m) ≡ b
      → from job (state_at (c.at + m) (drop m rest) b prev y)
      ≡ from job (state_at (c.at + m) (drop (c.at + m) s) (seen_at (c.at + m)) prev y)
  moved m b prev y e = rw (drop-drop m c.at s, e)

  pub version-fits : f ≡ Version → c.at ≤ length s → c.at + 4 ≤ length s
  version-fits q l =
      omega (arith, (version-room 255 c.at seen c.prev rest (here Version q)).1, length-drop c.at s)

  pub step-version : f ≡ Version
      → Stepped s c ix od ix od (Next (record { at = c.at + 4; prev = 0; kept = c.kept }))
  step-version q =
      record {
        means = λ y hd.
            let z : c.at ≡ 0 = (version-room 255 c.at seen c.prev rest (here Version q)).0 in
            record {
              memory = y;
              holds =
                  record {
                    inside = version-fits q hd.inside;
                    indexed = hd.indexed;
                    stands = hd.stands;
                    place = λ l. omega arith;
                    fresh = λ l. hd.fresh (omega arith);
                  };
              farther = omega arith;
              same = from-version job c.at rest seen c.prev y (here Version q) ∙ moved 4 false 0 y (le-ltb 4 (c.at + 4) (omega arith));
            };
      }

  -- a whole field
  module _ (i n m : ℕ) (q : f ≡ Whole i n m) where
    room : Room c.at n m rest
    room = whole_room 255 c.at seen c.prev rest i n m (here (Whole i n m) q)

    pub field_fits : c.at ≤ length s → (c.at + (n + m) ≤ length s) × (c.at + (n + m) ≤ 4194304) × (0 < n)
    field_fits l = (omega (arith, room.within, length-drop c.at s), room.limit, room.head)

    body-part : take m (drop n rest) ≡ part s (c.at + n) (c.at + (n + m))
    body-part =
        let z : c.at + (n + m) - (c.at + n) ≡ m = omega arith in
        rw z (ap (take m) (drop-drop n c.at s))

    headed : Headed 255 c.at seen c.prev rest i n m
    headed = whole-headed 255 c.at seen c.prev rest i n m (sym (here (Whole i n m) q))

    first-zero : i ≡ 0 → c.at ≤ 4
    first-zero z = ltb-false 4 c.at (zero-first seen c.prev i headed.ordered z)

    -- the field ends past the version
    pub ends-past : (0 < c.at → 4 ≤ c.at) → 4 < c.at + (n + m)
    ends-past p = let l : 4 ≤ c.at = p (pos_of_ne-zero headed.place) in omega (arith, room.head)

    content-is : (y : Memory) (x : Content Memory ⊥) → judged y i (c.at + n) (part s (c.at + n) (c.at + (n + m))) ≡ x
        → job.content y (field_at c.at rest i n m) ≡ x
    content-is y x e = ap (judged y i (c.at + n)) body-part ∙ e

    -- field 0 needs as much room as was counted for it
    pub first-room : (0 < c.at → 4 ≤ c.at) → i ≡ 0 → room_of (part s (c.at + n) (c.at + (n + m))) ≡ room_for s
    first-room p z =
        let l : c.at ≡ 4 = omega (arith, p (pos_of_ne-zero headed.place), first-zero z) in
        go c.at c.prev l (here (Whole i n m) q)
      where
        go : (at prev : ℕ) → at ≡ 4 → Whole i n m ≡ frame 255 at (seen_at at) prev (drop at s) → room_of (part s (at + n) (at + (n + m))) ≡ room_for s
        go at prev l h = rw l (ap (room_at s) (rw l at h ∙ first_frame 255 4 prev (drop 4 s)))

    module _ (ix' od' : List ℕ) (r : Result Kept Refusal)
        (t : TookField s c.kept i (c.at + n) (c.at + (n + m)) ix od ix' od' r) (wide : i ≡ 0 → Wide ix od) where
      pub step-bad : (k : Refusal) → r ≡ Err k → Stepped s c ix od ix' od' (Done (Ill k c.at))
      step-bad k e =
          record {
            means = λ y hd.
                let w = says-bad s ix' od' _ k (rw e at (t.means y hd.stands (λ z. (hd.fresh (first-zero z), wide z)))) in
                rw (from-bad job c.at rest seen c.prev y i n m (here (Whole i n m) q) k (content-is y (bad k) w)) refl;
          }

      pub step-keep : (k : Kept) → r ≡ Ok k
          → Stepped s c ix od ix' od' (Next (record { at = c.at + (n + m); prev = i; kept = k }))
      step-keep k e =
          record {
            means = λ y hd.
                let w = says-keep s ix' od' _ k (rw e at (t.means y hd.stands (λ z. (hd.fresh (first-zero z), wide z)))) in
                let l = field_fits hd.inside in
                let p = ends-past hd.place in
                record {
                  memory = w.0;
                  holds =
                      record {
                        inside = l.0;
                        indexed = w.2;
                        stands = w.3;
                        place = λ z. omega arith;
                        fresh = λ z. absurd (omega arith);
                      };
                  farther = omega (arith, l.2);
                  same =
                      from-keep job c.at rest seen c.prev y i n m (here (Whole i n m) q) w.0 (content-is y (keep w.0) w.1)
                      ∙ moved (n + m) true i w.0 (lt-ltb 4 (c.at + (n + m)) p);
                };
          }

-- the places that the code counts, by what stands behind the version
pub room-short : (s : List ℕ) → length s < 4 → 0 ≡ room_for s
unfolding frame field
room-short s l = rw (drop-long s l)
  where
    drop-long : (s : List ℕ) → length s < 4 → drop 4 s ≡ []
    drop-long [] l = refl
    drop-long (a ∷ []) l = refl
    drop-long (a ∷ b ∷ []) l = refl
    drop-long (a ∷ b ∷ c ∷ []) l = refl
    drop-long (a ∷ b ∷ c ∷ d ∷ r) l = absurd (omega arith)

pub room_by : (s : List ℕ) (f : Frame) → f ≡ frame 255 4 false 0 (take (length s - 4) (drop 4 s)) → (x : Frame) → f ≡ x → room_at s x ≡ room_for s
room_by s f h x q = ap (room_at s) (sym q ∙ h ∙ ap (frame 255 4 false 0) (part-from 4 s))

-- 8,192 places are enough for every file
pub room-all : (s : List ℕ) → room_for s ≤ 8192
room-all s = go (frame 255 4 false 0 (drop 4 s))
  where
    go : (f : Frame) → room_at s f ≤ 8192
    go End = omega arith
    go Cut = omega arith
    go (Unframed n) = omega arith
    go Version = omega arith
    go (Whole i n m) = room_most (part s (4 + n) (4 + (n + m)))

-- arrays of zeros
pub started : (s : List ℕ) (m k : ℕ) → room_for s ≤ m → m + 257 ≤ k → Started s (replicate m 0) (replicate k 0)
started s m k r w =
    record {
      room = omega (arith, length-replicate {A = ℕ} m 0);
      wide = omega (arith, length-replicate {A = ℕ} m 0, length-replicate {A = ℕ} k 0);
      empty = get_or-replicate {A = ℕ} k 256 0 0 (omega arith);
    }

-- the walk has come to a cursor
pub record Walking (s : List ℕ) (c : Cursor) (ix od : List ℕ) : Type 0 where
  pub memory : Memory
  pub holds : Represents s c ix od memory
  pub same : conclusion s ≡ concludes (from job (state_of s c memory))

abbrev pub nothing : Kept
nothing = record { start = 0; end = 0; count = 0; zones = 0; text = 0; len = 0 }

pub walking_start : (s ix od : List ℕ) → Started s ix od → Walking s (record { at = 0; prev = 0; kept = nothing }) ix od
unfolding conclusion walk starts_in read_groups
walking_start s ix od a =
    record {
      memory = start;
      holds =
          record {
            inside = omega arith;
            indexed =
                record { first = omega arith; last = omega arith; ready = record { begins = refl }; count = refl };
            stands = record { strings = refl; ids = keeps-none _ od (omega (arith, a.wide)) (roomy-none od 0 a.empty); text = refl };
            place = λ z. absurd (omega arith);
            fresh = λ z. refl;
          };
      same = refl;
    }

module _ (s : List ℕ) (c : Cursor) (ix od ix' od' : List ℕ) (t : Turn) (w : Walking s c ix od)
    (h : Stepped s c ix od ix' od' t) where
  pub walking-done : (x : Conclusion) → t ≡ Done x → x ≡ conclusion s
  walking-done x q = (rw q at (h.means w.memory w.holds)) ∙ sym w.same

  onward-is : (d : Cursor) → t ≡ Next d → Onward s c w.memory d ix' od'
  onward-is d q = rw q at (h.means w.memory w.holds)

  pub walking-next : (d : Cursor) → t ≡ Next d → Walking s d ix' od'
  walking-next d q =
      let o = onward-is d q in
      record { memory = o.memory; holds = o.holds; same = w.same ∙ ap concludes o.same }

  pub walking-less : (d : Cursor) → t ≡ Next d → length s - d.at < length s - c.at
  walking-less d q = let o = onward-is d q in omega (arith, o.farther, o.holds.inside)
