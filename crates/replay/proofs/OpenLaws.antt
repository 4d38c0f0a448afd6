-- What a file's field 0 and the zones behind it say to each record. Assumes nothing.
use Rattle.base.specs.declared.Refusal.{Refusal}
use Rattle.base.specs.declared.Refusal.TheVariants.{CutShort, NotFound}
use Rattle.base.specs.Coded.{Fault}
use Rattle.std.specs.declared.option.Option.{Option}
use Rattle.std.specs.Prelude.{Ok, Result}
use Rattle.std.specs.declared.option.Option.TheVariants.{None, Some}
use mathlib.Core.Path.{◌≡◌, refl, sym, ◌∙◌, subst}
use mathlib.Core.Bool.{false}
use mathlib.Core.List.{List}
use Prim.Native.Nat.{ℕ, zero, suc, ◌+◌, ◌-◌, ◌<◌}
use native.Mathlib.Omega.{arith}
use lib.ListN.{take, drop}
use Rattle.base.specs.Parsed.{got, bad}
use Rattle.pool.specs.Pool.{parse_pool}
use Rattle.frames.specs.Machine.{Out, found, refused, cut, ended, walk}
use Rattle.answers.specs.Answers.{Pool, no_pool}
use Rattle.locate.specs.Asked.{Held, holder}
use Rattle.locate.specs.View.{part, by_pool, PoolAt}
use Rattle.locate.proofs.WalkingLaws.{pool-walk}
use Rattle.found_zones.specs.FoundZone.{FindsZone}
use Rattle.found_zones.specs.declared.FoundZone.{FoundZone}
use Rattle.found_zones.proofs.FindLaws.{out-refused, out-cut, out-end, out-on, out-zone, finds-zone}
use Rattle.traces.specs.Trace.{name_start, name_length, name_at}
use Rattle.trace_records.specs.Record.{agrees}
use Rattle.trace_records.proofs.KeptLaws.{name-part, name-is, nowhere-agrees}
use Rattle.trace_records.specs.Passed.{spot_at, walk_to, Fails, ZoneAt, PassedOk, ReachedAs}
use Rattle.trace_records.specs.declared.ReachedZone.{ReachedZone}
use Rattle.replay.specs.Reports.{first_wrong}
use Rattle.replay.specs.View.{reached_zone, PoolRead}

-- a walk that comes to no zone
module _ (f : List ℕ) (names : ℕ) (s : List ℕ) (at : ℕ) where
  pub refused-agrees : (n : Refusal) (p : ℕ) → walk (holder (name_at names at s)) no_pool f ≡ refused n p → agrees f names s at ≡ false
  refused-agrees n p e = nowhere-agrees f names s at n p (finds-zone _ _ _ (out-refused _ _ n p e))

  pub cut-agrees : (p : ℕ) → walk (holder (name_at names at s)) no_pool f ≡ cut p → agrees f names s at ≡ false
  cut-agrees p e = nowhere-agrees f names s at CutShort p (finds-zone _ _ _ (out-cut _ _ p e))

  pub ended-agrees : (m : Pool) (p : ℕ) → walk (holder (name_at names at s)) no_pool f ≡ ended m p → agrees f names s at ≡ false
  ended-agrees m p e = nowhere-agrees f names s at NotFound p (finds-zone _ _ _ (out-end _ _ m p e))

  pub fails-agrees : (d e : ℕ) → PoolRead f d e → Fails (walk_to f d e (name_at names at s)) → agrees f names s at ≡ false
  fails-agrees d e o h = go (walk_to f d e (name_at names at s)) refl
    where
      go : (x : Out Pool Held) → walk_to f d e (name_at names at s) ≡ x → agrees f names s at ≡ false
      go (found v p) q = absurd (h v p q)
      go (refused n p) q = refused-agrees n p (o.walks (name_at names at s) ∙ q)
      go (cut p) q = cut-agrees p (o.walks (name_at names at s) ∙ q)
      go (ended m p) q = ended-agrees m p (o.walks (name_at names at s) ∙ q)

  -- the first record
  pub first-is-wrong : agrees f names s at ≡ false → (n : ℕ) → 0 < n → ◌≡◌ {A = Result (Option ℕ) Fault} (Ok (Some 0)) (first_wrong f names s n 0 at)
  unfolding first_wrong
  first-is-wrong e zero h = absurd (omega arith)
  first-is-wrong e (suc n) h = rw e

  pub no-records : (n : ℕ) → n ≡ 0 → Ok None ≡ first_wrong f names s n 0 at
  unfolding first_wrong
  no-records zero h = refl
  no-records (suc n) h = absurd (omega arith)

-- field 0
module _ (f : List ℕ) (d e : ℕ) (p : PoolAt f d e) where
  pub pool-read : (ts : List (List ℕ)) (r : List ℕ) → parse_pool (part d e f) ≡ got ts r → PoolRead f d e
  unfolding by_pool
  pool-read ts r q = record { lies = p.lies; walks = λ id. pool-walk p id ∙ rw q }

  pub pool-refuses : (n : Refusal) → parse_pool (part d e f) ≡ bad n → (id : List ℕ) → walk (holder id) no_pool f ≡ refused n 4
  unfolding by_pool
  pool-refuses n q id = pool-walk p id ∙ rw q

-- a zone reached is the one that is found
reached-found : (f : List ℕ) (d e : ℕ) → PoolRead f d e → (id : List ℕ) (a b : ℕ) → ZoneAt f d e id a b → FindsZone f id (Ok (reached_zone d e a b))
reached-found f d e o id a b z =
    finds-zone f id (Ok (reached_zone d e a b)) (out-on f _ (walk_to f d e id) (o.walks id) (Ok (reached_zone d e a b))
    (out-zone f (walk_to f d e id) d e (spot_at f d e a b) z.spotted (Ok z.number) z.good o.lies z.number refl))

module _ (f : List ℕ) (d e : ℕ) (id od fs ts : List ℕ) (r : ReachedZone) (h : ReachedAs f d e id od fs ts r) (some : r.end ≡ 0 → ⊥) where
  pub reached-finds : PoolRead f d e → (v : FoundZone) → v ≡ reached_zone d e r.start r.end → FindsZone f id (Ok v)
  reached-finds o v q =
      subst (λ (u : FoundZone). FindsZone f id (Ok u)) (sym q) (reached-found f d e o id r.start r.end (h.reached (omega (arith, some))).0)

  pub reached-passed : PassedOk f d e od fs ts r.passed
  reached-passed = (h.reached (omega (arith, some))).1

-- by the name's place and length
pub reached-named : (f : List ℕ) (d e : ℕ) (od fs ts : List ℕ) (r : ReachedZone) (s : List ℕ) (names at start len : ℕ) → start ≡ name_start at s → len ≡ name_length at s
    → ReachedAs f d e (take (names + start + len - (names + start)) (drop (names + start) s)) od fs ts r → ReachedAs f d e (name_at names at s) od fs ts r
reached-named f d e od fs ts r s names at start len a b h =
    subst (λ (id : List ℕ). ReachedAs f d e id od fs ts r) (name-part s names start len ∙ name-is s names at start len a b) h
