-- Each way out of the walk and the zone's reader. Assumes nothing.
use Rattle.base.specs.declared.Refusal.{Refusal}
use Rattle.base.specs.Coded.{Fault}
use Rattle.std.specs.Prelude.{Err, Ok, Result}
use Rattle.base.specs.declared.Refusal.TheVariants.{CutShort, NoInstant, NotFound}
use mathlib.Core.Path.{◌≡◌, sym, ap, ◌∙◌}
use mathlib.Core.List.{List}
use Prim.Native.Nat.{ℕ}
use lib.IntN.{ℤ}
use borrow.Author.Tests.{eq-eqb, ne_eqb}
use Rattle.base.specs.Parsed.{Parsed, got, bad}
use Rattle.base.proofs.Tests.{clash}
use Rattle.signed.specs.Instant.{ticks_of}
use Rattle.zones.specs.Content.{Zone}
use Rattle.zones.specs.Parse.{parse_zone}
use Rattle.frames.specs.Machine.{Out, refused, cut, ended}
use Rattle.answers.specs.Answers.{Pool}
use Rattle.locate.specs.Asked.{Held}
use Rattle.locate.specs.View.{part, zone_out, Spotted}
use Rattle.locate.specs.declared.Spot.{Spot}
use Rattle.local_times.specs.Tally.{tally_of}
use Rattle.local_times.specs.Instants.{instants_of}
use Rattle.local_times.specs.View.{answer_of}
use Rattle.local_times.specs.declared.Tally.{Tally}
use Rattle.wall_times.specs.View.{mapping_of, mapping_at}

-- a tally in ticks
pub ticks-none : (a : Tally) → a.count ≡ 0 → ◌≡◌ {A = Result (ℕ × ℤ × ℤ) Fault} (Err (NoInstant, 0)) (mapping_of a)
unfolding mapping_of
ticks-none a h = rw (eq-eqb a.count 0 h)

pub ticks-some : (a : Tally) (x y : ℤ) → (a.count ≡ 0 → ⊥) → x ≡ ticks_of a.earliest → y ≡ ticks_of a.latest → ◌≡◌ {A = Result (ℕ × ℤ × ℤ) Fault} (Ok (a.count, x, y)) (mapping_of a)
unfolding mapping_of
ticks-some a x y h e f = rw (ne_eqb a.count 0 h, e, f)

-- the walk
module _ (l : ℕ) (o : Out Pool Held) where
  pub out-refused : (n : Refusal) (p : ℕ) → o ≡ refused n p → ◌≡◌ {A = Result (ℕ × ℤ × ℤ) Fault} (Err (n, p)) (mapping_at l o)
  out-refused n p e = rw e

  pub out-cut : (p : ℕ) → o ≡ cut p → ◌≡◌ {A = Result (ℕ × ℤ × ℤ) Fault} (Err (CutShort, p)) (mapping_at l o)
  out-cut p e = rw e

  pub out-end : (m : Pool) (p : ℕ) → o ≡ ended m p → ◌≡◌ {A = Result (ℕ × ℤ × ℤ) Fault} (Err (NotFound, p)) (mapping_at l o)
  out-end m p e = rw e

  -- the zone where the walk stops
  module _ (s : List ℕ) (m : Pool) (v : Spot) (k : Spotted s m o v) where
    abbrev parsed : Parsed Zone
    parsed = parse_zone v.count (part v.start v.past s)

    pub out-denied : (n : Refusal) → Err n ≡ answer_of l parsed → ◌≡◌ {A = Result (ℕ × ℤ × ℤ) Fault} (Err (n, v.place)) (mapping_at l o)
    out-denied n e = go parsed k.goes e
      where
        go : (p : Parsed Zone) → o ≡ zone_out v m p → Err n ≡ answer_of l p → ◌≡◌ {A = Result (ℕ × ℤ × ℤ) Fault} (Err (n, v.place)) (mapping_at l o)
        go (got z r) g h = clash cc
        go (bad i) g h = let y : n ≡ i = cc in rw (y, g)

    pub out-found : (a : Tally) (r : Result (ℕ × ℤ × ℤ) Fault) → Ok a ≡ answer_of l parsed → r ≡ mapping_of a → r ≡ mapping_at l o
    out-found a r e i = go parsed k.goes e
      where
        go : (p : Parsed Zone) → o ≡ zone_out v m p → Ok a ≡ answer_of l p → r ≡ mapping_at l o
        go (got z q) g h = let y : a ≡ tally_of (instants_of l z.body) = cc in i ∙ ap mapping_of y ∙ sym (ap (mapping_at l) g)
        go (bad j) g h = clash cc
