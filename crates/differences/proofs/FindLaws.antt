-- Each way out of the walk to the asked zone. Assumes nothing.
use Rattle.base.specs.declared.Refusal.{Refusal}
use Rattle.base.specs.Coded.{Fault}
use Rattle.std.specs.Prelude.{Err, Ok, Result}
use Rattle.base.specs.declared.Refusal.TheVariants.{CutShort, NotFound}
use mathlib.Core.Path.{◌≡◌, refl, sym, ap, ◌∙◌, subst}
use mathlib.Core.List.{List}
use Prim.Native.Nat.{ℕ, ◌≤◌}
use native.Mathlib.Omega.{arith}
use lib.ListN.{length}
use lib.Seq.{sets, length-sets}
use Rattle.base.specs.Moment.{Finite}
use Rattle.pool.specs.Index.{Ready, room_of}
use Rattle.pool.proofs.PoolLaws.{room_most}
use Rattle.frames.specs.Machine.{Out, refused, cut, ended}
use Rattle.answers.specs.Answers.{Pool}
use Rattle.locate.specs.Asked.{Held, held}
use Rattle.locate.specs.View.{part, pool_at, Lies, zone_out, Spotted}
use Rattle.locate.specs.declared.Spot.{Spot}
use Rattle.zones.specs.declared.ZoneEnd.{ZoneEnd}
use Rattle.cursors.specs.Cursors.{Points, At, OpenedAs}
use Rattle.cursors.specs.declared.Cursor.{Cursor}
use Rattle.cursors.proofs.OpenLaws.{refused-is, cursor-is}
use Rattle.differences.specs.View.{SideIn, HeldBy, Refuses, AskedAs}
use Rattle.differences.specs.declared.Side.{Side}

module _ (s ix : List ℕ) (t : ℕ) (o : Out Pool Held) where
  pub out-refused : (n : Refusal) (p : ℕ) → o ≡ refused n p → AskedAs s o ix t (Err (n, p))
  out-refused n p e = rw e (record { to = (refl, refl) })

  pub out-cut : (p : ℕ) → o ≡ cut p → AskedAs s o ix t (Err (CutShort, p))
  out-cut p e = rw e (record { to = (refl, refl) })

  pub out-end : (m : Pool) (p : ℕ) → o ≡ ended m p → AskedAs s o ix t (Err (NotFound, p))
  out-end m p e = rw e (record { to = (refl, refl) })

  pub out-on : (q : Out Pool Held) → o ≡ q → (r : Result Side Fault) → AskedAs s q ix t r → AskedAs s o ix t r
  out-on q e r h = subst (λ (x : Out Pool Held). AskedAs s x ix t r) (sym e) h

  -- the zone where the walk stops
  module _ (d e : ℕ) (v : Spot) (k : Spotted s (pool_at s d e) o v) where
    abbrev zone : List ℕ
    zone = part v.start v.past s

    pub out-denied : (r : Result (Cursor × ZoneEnd) Refusal) → OpenedAs v.count zone r → (n : Refusal) → r ≡ Err n → AskedAs s o ix t (Err (n, v.place))
    out-denied r h n q = out-refused n v.place (k.goes ∙ ap (zone_out v (pool_at s d e)) (refused-is v.count zone r h n q))

    pub out-seeks : (r : Result (Cursor × ZoneEnd) Refusal) → OpenedAs v.count zone r → (c : Cursor) (b : ZoneEnd) → r ≡ Ok (c, b) → Finite t → Points v.count zone b c × (c.held.start ≤ t) × Finite t
    out-seeks r h c b q f = let w = cursor-is v.count zone r h c b q in (w.0, omega (arith, w.1), f)

    pub out-zone : (c : Cursor) (b : ZoneEnd) → At v.count zone b t c → Lies s d e → Ready (part d e s) ix
        → AskedAs s o ix t (Ok (record { pool = d; past = e; from = v.start; to = v.past; count = v.count; ending = b; cursor = c }))
    out-zone c b a l r = record {
      to = (
        record { lies = l; order = k.order; inside = k.inside; count-is = k.count-is; ready = r; at = a },
        record {
          held = held (pool_at s d e) a.points.whole.zone;
          past = v.past;
          is = k.goes ∙ ap (zone_out v (pool_at s d e)) a.points.whole.is;
          pool-is = refl;
          parsed = a.points.whole.is;
        },
      );
    }

-- by what was given
module _ {s ix : List ℕ} {t : ℕ} {o : Out Pool Held} {r : Result Side Fault} (h : AskedAs s o ix t r) where
  pub asked-zone : (x : Side) → r ≡ Ok x → SideIn s ix t x × HeldBy s o x
  asked-zone x e = (subst (AskedAs s o ix t) e h).to

  pub asked-refused : (n : Refusal) (p : ℕ) → r ≡ Err (n, p) → Refuses o n p
  asked-refused n p e = (subst (AskedAs s o ix t) e h).to

-- the index has room for every pool, and keeps its length
pub room-in : (d : List ℕ) (n : ℕ) → 8192 ≤ n → room_of d ≤ n
room-in d n h = omega (arith, room_most d)

pub same_size : (vs ix₀ ix : List ℕ) → ix ≡ sets ix₀ 0 vs → length ix ≡ length ix₀
same_size vs ix₀ ix e = ap length e ∙ length-sets ix₀ 0 vs
