-- "a well-formed file has at most one": no field before the asked zone has its ID bytes. Assumes nothing.
use mathlib.Core.Path.{◌≡◌, sym, ◌∙◌}
use mathlib.Core.List.{List, [], ◌∷◌, ◌++◌, append_assoc}
use Prim.Native.Nat.{ℕ}
use Rattle.base.specs.All.{All, all_none, all-also}
use Rattle.frames.specs.Frame.{Field}
use Rattle.frames.specs.Fields.{fields}
use Rattle.field_checks.specs.Check.{WellFormed, file_pool, HasId}
use Rattle.field_checks.proofs.ZoneIdLaws.{one-zone}
use Rattle.demands.specs.Zones.{Asked}

unshared : (f : List ℕ) → WellFormed f → (x : List ℕ) (g : Field) (behind : List Field) → HasId (file_pool (fields f)) x g → (pre gs : List Field)
    → fields f ≡ pre ++ (gs ++ g ∷ behind) → All (λ h. HasId (file_pool (fields f)) x h → ⊥) gs
unshared f w x g behind k pre [] e = all_none
unshared f w x g behind k pre (h ∷ gs) e =
    all-also (λ m. one-zone f w pre h gs g behind x e m k)
    (unshared f w x g behind k (pre ++ h ∷ []) gs (e ∙ sym (append_assoc pre (h ∷ []) (gs ++ g ∷ behind))))

pub none_before : (f id : List ℕ) (g : Field) → WellFormed f → (a : Asked f id g) → All (λ h. HasId (file_pool (fields f)) id h → ⊥) a.before
none_before f id g w a = unshared f w id g a.behind a.has [] a.before a.splits
