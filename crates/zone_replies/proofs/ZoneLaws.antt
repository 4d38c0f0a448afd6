-- A found zone as the C functions give it. Assumes nothing.
use Rattle.base.specs.declared.Refusal.{Refusal}
use Rattle.base.specs.Coded.{Fault}
use Rattle.std.specs.Prelude.{Err, Ok, Result}
use mathlib.Core.Path.{◌≡◌, refl}
use mathlib.Core.List.{List, [], ◌∷◌}
use Prim.Native.Nat.{ℕ}
use Rattle.found_zones.specs.declared.FoundZone.{FoundZone}
use Rattle.replies.specs.Reply.{refusal}
use Rattle.zone_replies.specs.Zones.{GivesZone}

module _ (x : Result FoundZone Fault) (d : List ℕ) where
  pub gave-zone : (v : FoundZone) → x ≡ Ok v → GivesZone x d 0 (v.pool ∷ v.past ∷ v.start ∷ v.end ∷ v.place ∷ [])
  gave-zone v h = rw h (record { result = refl; output = refl })

  pub denied-zone : (n : Refusal) (p r : ℕ) → x ≡ Err (n, p) → r ≡ refusal n p → GivesZone x d r d
  denied-zone n p r h q = rw h (record { result = q; output = refl })
