-- No more than 4,098 instants are counted, and the place of a refusal is at most 4,194,304. Assumes nothing.
use Rattle.std.specs.Prelude.{Result}
use Rattle.base.specs.Coded.{Fault}
use mathlib.Core.Path.{◌≡◌, refl, subst}
use mathlib.Core.List.{List, [], ◌∷◌}
use Prim.Native.Nat.{ℕ, ◌≤◌}
use native.Mathlib.Omega.{arith}
use lib.Dec.{eqb}
use lib.IntN.{ℤ}
use lib.ListN.{length}
use Rattle.base.proofs.Tests.{pick-holds}
use Rattle.frames.specs.Machine.{Out, found, refused, cut, ended, walk}
use Rattle.frames.proofs.NearLaws.{Near, walk-near}
use Rattle.answers.specs.Answers.{Pool, no_pool}
use Rattle.locate.specs.Asked.{Held, holder}
use Rattle.locate.proofs.HeldLaws.{held-sound}
use Rattle.local_times.specs.Tally.{tally_of}
use Rattle.local_times.specs.Instants.{instants_of}
use Rattle.local_times.specs.declared.Tally.{Tally}
use Rattle.local_times.proofs.MostLaws.{instants-most}
use Rattle.wall_times.specs.WallTime.{MapsTo}
use Rattle.wall_times.specs.Facts.{Bounded}
use Rattle.wall_times.specs.View.{local_of, mapping_of, mapping_at, mapping_in}
use Rattle.wall_times.proofs.MapLaws.{map-some, map-one}

pub tally-count : (ts : List ℕ) → (tally_of ts).count ≡ length ts
tally-count [] = refl
tally-count (t ∷ ts) = refl

pub mapping-bounded : (a : Tally) → a.count ≤ 4098 → Bounded (mapping_of a)
unfolding mapping_of
mapping-bounded a h = pick-holds Bounded (eqb a.count 0) (λ e. record { to = omega arith }) (λ e. record { to = h })

in-bounded : (f id : List ℕ) (local : ℤ) → Bounded (mapping_in f id local)
in-bounded f id local = go (walk (holder id) no_pool f) refl (walk-near (holder id) no_pool f)
  where
    go : (o : Out Pool Held) → walk (holder id) no_pool f ≡ o → Near o → Bounded (mapping_at (local_of local) o)
    go (found v p) e n =
        mapping-bounded (tally_of (instants_of (local_of local) v.zone.body))
        (omega (
          arith,
          tally-count (instants_of (local_of local) v.zone.body),
          instants-most _ (local_of local) v.zone.body (held-sound id f v p e).body_ok,
        ))
    go (refused k p) e n = record { to = n.to }
    go (cut p) e n = record { to = n.to }
    go (ended m p) e n = record { to = n.to }

pub map-bounded : (f id : List ℕ) (local : ℤ) (r : Result (ℕ × ℤ × ℤ) Fault) → MapsTo f id local r → Bounded r
map-bounded f id local r m = subst Bounded (map-one f id local (mapping_in f id local) r (map-some f id local) m) (in-bounded f id local)
