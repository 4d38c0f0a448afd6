-- A zone as an edition shows it: a listed one is the same, and a well-formed one is well formed. Assumes nothing.
use mathlib.Core.Path.{◌≡◌, refl}
use mathlib.Core.Logic.{◌⊎◌, inl, inr}
use Prim.Native.Nat.{ℕ}
use Rattle.zones.specs.Content.{FixedName, Body, fixed, listed, Zone}
use Rattle.zones.specs.Sound.{BodyOk, Sound}
use Rattle.zones.specs.Editions.{nameless, under}
use Rattle.zones.specs.declared.Edition.{Edition}
use Rattle.zones.specs.declared.Edition.TheVariants.{One, Two}

pub fixed-or-same : (b : Body) → (nameless b ≡ b) ⊎ ((offset : ℕ) × (n : FixedName) × (b ≡ fixed offset n))
unfolding nameless
fixed-or-same (fixed offset n) = inr (offset, n, refl)
fixed-or-same (listed is end e) = inl refl

nameless-ok : (pool : ℕ) (b : Body) → BodyOk pool b → BodyOk pool (nameless b)
unfolding nameless
nameless-ok pool (fixed offset n) h = (h.0, h.1, tt)
nameless-ok pool (listed is end e) h = h

pub under-sound : (ed : Edition) (pool : ℕ) (z : Zone) → Sound pool z → Sound pool (under ed z)
unfolding under
under-sound One pool z h = record { id-ok = h.id-ok; body_ok = nameless-ok pool z.body h.body_ok }
under-sound Two pool z h = h
