-- Behind a field with an ID above 7 the check reads nothing more, so its walk goes on from where the whole fields end. Assumes nothing.
use Rattle.std.specs.declared.option.Option.TheVariants.{None}
use Rattle.std.specs.Prelude.{Ok}
use mathlib.Core.Path.{◌≡◌, refl, sym, ◌∙◌, ap, subst}
use mathlib.Core.Bool.{Bool, true, false}
use mathlib.Core.List.{List}
use Prim.Native.Nat.{ℕ, zero, suc, ◌+◌, ◌-◌, ◌≤◌, ◌<◌}
use native.Mathlib.Omega.{arith}
use lib.ListN.{length, take, drop, length-drop}
use lib.Dec.{ltb}
use borrow.Author.Tests.{lt-ltb, le-ltb, ltb-false}
use Rattle.base.specs.Pick.{pick}
use Rattle.base.proofs.Parts.{part-from}
use Rattle.frames.specs.Frame.{order, frame}
use Rattle.frames.specs.Machine.{from}
use Rattle.frames.specs.declared.Frame.{Frame}
use Rattle.frames.specs.declared.Frame.TheVariants.{End, Cut, Refused as Unframed, Version, Whole}
use Rattle.frames.proofs.HeadLaws.{whole-headed, order-follows}
use Rattle.frames.proofs.StepLaws.{whole_room, version-room}
use Rattle.extents.specs.Extent.{behind_frame, step_of, steps, extent_of}
use Rattle.extents.specs.declared.Extent.{Extent}
use Rattle.field_checks.specs.Check.{Memory, job}
use Rattle.field_readers.specs.declared.Kept.{Kept}
use Rattle.field_readers.proofs.TakeLaws.{field-other}
use Rattle.field_readers.proofs.FlagLaws.{flags-other}
use Rattle.check_steps.specs.Cursor.{seen_at, state_of, Represents, Onward, Stepped}
use Rattle.check_steps.specs.Flags.{SoFar, FlagsStepped}
use Rattle.check_steps.specs.Passed.{extent_at, cursor_at, passed}
use Rattle.check_steps.specs.declared.Cursor.{Cursor}
use Rattle.check_steps.specs.declared.Turn.TheVariants.{Next}
use Rattle.check_steps.proofs.StepLaws.{step-keep}
use Rattle.check_steps.proofs.FlagLaws.{flags-field}

-- the walk goes from d as from c, with the arrays as they are
record Resumes (s : List ℕ) (c d : Cursor) (ix od : List ℕ) (y : Memory) : Type 0 where
  memory : Memory
  holds : Represents s d ix od memory
  farther : c.at ≤ d.at
  same : from job (state_of s c y) ≡ from job (state_of s d memory)

record Passes (s : List ℕ) (c d : Cursor) : Type 0 where
  walks : (ix od : List ℕ) (y : Memory) → Represents s c ix od y → Resumes s c d ix od y
  flags : (fl : List ℕ) → SoFar s c fl → SoFar s d fl

passes_none : (s : List ℕ) (c : Cursor) → Passes s c c
passes_none s c = record { walks = λ ix od y hd. record { memory = y; holds = hd; farther = omega arith; same = refl }; flags = λ fl g. g }

passes-both : (s : List ℕ) (c d e : Cursor) → Passes s c d → Passes s d e → Passes s c e
passes-both s c d e p q =
    record {
      walks = λ ix od y hd.
          let u = p.walks ix od y hd in
          let v = q.walks ix od u.memory u.holds in
          record { memory = v.memory; holds = v.holds; farther = omega (arith, u.farther, v.farther); same = u.same ∙ v.same };
      flags = λ fl g. q.flags fl (p.flags fl g);
    }

module _ (s : List ℕ) (k : Kept) where
  -- behind an ID above 7, past the version
  record Behind (x : Extent) : Type 0 where
    above : 7 < x.prev
    past : 4 < x.at
    inside : x.at ≤ length s

  abbrev frame_at : Extent → Frame
  frame_at x = frame 255 x.at (ltb 4 x.at) x.prev (drop x.at s)

  stepped : (x : Extent) (f : Frame) → frame_at x ≡ f → step_of s x ≡ behind_frame x f
  unfolding step_of
  stepped x f e = ap (behind_frame x) e

  -- a field more
  field-passes : (x : Extent) → Behind x → (i u n : ℕ) → frame_at x ≡ Whole i u n
      → Behind (record { at = x.at + (u + n); prev = i }) × Passes s (cursor_at k x) (cursor_at k (record { at = x.at + (u + n); prev = i }))
  field-passes x b i u n e =
      let d = whole-headed 255 x.at (ltb 4 x.at) x.prev (drop x.at s) i u n e in
      let r = whole_room 255 x.at (ltb 4 x.at) x.prev (drop x.at s) i u n (sym e) in
      let o : order true x.prev i ≡ None = rw (lt-ltb 4 x.at b.past) at d.ordered in
      let g : 7 < i = omega (arith, b.above, (order-follows x.prev i o).rising) in
      let h : frame 255 x.at (ltb 4 x.at) x.prev (take (length s - x.at) (drop x.at s)) ≡ Whole i u n
      = ap (frame 255 x.at (ltb 4 x.at) x.prev) (part-from x.at s) ∙ e in (
        record { above = g; past = omega (arith, b.past); inside = omega (arith, r.within, length-drop x.at s, b.inside) },
        record {
          walks = λ ix od y hd.
              let t = field-other s k i (x.at + u) (x.at + (u + n)) ix od (λ z. omega arith) (λ z. omega arith) hd.indexed (λ z. omega arith) (λ z. omega arith)
              (λ z. omega arith) (λ z. omega arith) in
              let w = (step-keep s (cursor_at k x) ix od _ refl i u n h ix od (Ok k) t (λ z. absurd (omega arith)) k refl).means y hd in
              record { memory = w.memory; holds = w.holds; farther = omega arith; same = w.same };
          flags = λ fl q.
              (flags-field s (cursor_at k x) fl _ refl i u n k fl (Ok k) h (flags-other s i (x.at + u) (x.at + (u + n)) fl (Ok k) (λ z. omega arith)) refl).means q;
        },
      )

  step-passes : (x : Extent) → Behind x → Behind (step_of s x) × Passes s (cursor_at k x) (cursor_at k (step_of s x))
  step-passes x b = go (frame_at x) refl
    where
      by : (f : Frame) → frame_at x ≡ f → Behind (behind_frame x f) × Passes s (cursor_at k x) (cursor_at k (behind_frame x f))
          → Behind (step_of s x) × Passes s (cursor_at k x) (cursor_at k (step_of s x))
      by f e h = subst (λ z. Behind z × Passes s (cursor_at k x) (cursor_at k z)) (sym (stepped x f e)) h

      go : (f : Frame) → frame_at x ≡ f → Behind (step_of s x) × Passes s (cursor_at k x) (cursor_at k (step_of s x))
      go End e = by End e (b, passes_none s (cursor_at k x))
      go Cut e = by Cut e (b, passes_none s (cursor_at k x))
      go (Unframed n) e = by (Unframed n) e (b, passes_none s (cursor_at k x))
      go Version e = absurd (omega (arith, b.past, (version-room 255 x.at (ltb 4 x.at) x.prev (drop x.at s) (sym e)).0))
      go (Whole i u n) e = by (Whole i u n) e (field-passes x b i u n e)

  steps-pass : (m : ℕ) (x : Extent) → Behind x → Passes s (cursor_at k x) (cursor_at k (steps m s x))
  unfolding steps
  steps-pass zero x b = passes_none s (cursor_at k x)
  steps-pass (suc m) x b =
      let p = step-passes x b in
      passes-both s (cursor_at k x) (cursor_at k (step_of s x)) (cursor_at k (steps m s (step_of s x))) p.1 (steps-pass m (step_of s x) p.0)

-- a cursor that passes
module _ (s : List ℕ) (d : Cursor) (inside : d.at ≤ length s) where
  passes-passed : 4 < d.at → Passes s d (passed s d)
  passes-passed l = go (ltb d.prev 8) refl
    where
      go : (t : Bool) → ltb d.prev 8 ≡ t → Passes s d (pick t d (cursor_at d.kept (extent_of s (extent_at d))))
      go true e = passes_none s d
      go false e = steps-pass s d.kept (length s) (extent_at d) (record { above = ltb-false d.prev 8 e; past = l; inside = inside })

  module _ (c : Cursor) (past : (0 < c.at → 4 ≤ c.at) → 4 < d.at) where
    pub stepped-passed : (ix od ix' od' : List ℕ) → Stepped s c ix od ix' od' (Next d) → Stepped s c ix od ix' od' (Next (passed s d))
    stepped-passed ix od ix' od' h =
        record {
          means = λ y hd.
              let o = h.means y hd in
              let p = (passes-passed (past hd.place)).walks ix' od' o.memory o.holds in
              record { memory = p.memory; holds = p.holds; farther = omega (arith, o.farther, p.farther); same = o.same ∙ p.same };
        }

    pub flags-passed : (fl fl' : List ℕ) → FlagsStepped s c fl fl' (Next d) → FlagsStepped s c fl fl' (Next (passed s d))
    flags-passed fl fl' h = record { means = λ g. (passes-passed (past g.place)).flags fl' (h.means g) }

-- the ways out of the code
module _ (s : List ℕ) (c : Cursor) where
  pub passed_none : c.prev < 8 → c ≡ passed s c
  passed_none l = rw (lt-ltb c.prev 8 l)

  pub passed-some : 8 ≤ c.prev → (x : Extent) → x ≡ extent_of s (extent_at c) → cursor_at c.kept x ≡ passed s c
  passed-some l x e = rw (le-ltb c.prev 8 l) (ap (cursor_at c.kept) e)
