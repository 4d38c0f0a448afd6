-- The pool and the zones of the preferred file are those of the file. Assumes nothing.
use mathlib.Core.Path.{◌≡◌, refl, ap, sym, ◌∙◌, subst⁻¹}
use mathlib.Core.Bool.{false}
use mathlib.Core.List.{List, [], ◌∷◌, ◌++◌}
use Prim.Native.Nat.{ℕ}
use native.Mathlib.Omega.{arith}
use lib.ListN.{length, get_or}
use Rattle.base.specs.Parsed.{got}
use Rattle.pool.specs.Pool.{strings_of}
use Rattle.zones.specs.Content.{Zone}
use Rattle.zones.specs.Parse.{parse_zone}
use Rattle.frames.specs.Frame.{Field}
use Rattle.base.specs.All.{All, all_none, all-also}
use Rattle.base.proofs.AllLaws.{all_head, all_tail}
use Rattle.frames.proofs.ChainLaws.{Chain, chain_first}
use Rattle.field_checks.specs.Check.{file_pool, HasId}
use Rattle.field_checks.specs.File.{AsZone}
use Rattle.rewrite.proofs.KeptLaws.{preferred_data, FieldKept}
use Rattle.rewrite.proofs.MovedLaws.{moved_to, moved}

-- field 0 is copied
pub moved-pool : (f : List ℕ) (at : ℕ) (gs : List Field) → Chain f false 0 4 gs → All FieldKept gs → file_pool (moved at gs) ≡ file_pool gs
unfolding file_pool moved
moved-pool f at [] c a = refl
moved-pool f at (g ∷ gs) c a = ap strings_of ((all_head a).copied (λ i. omega (arith, (chain_first f 4 g gs c).0)))

-- where the fields before one are moved too, it ends up at some place
pub record Around (at : ℕ) (gs : List Field) (g : Field) (hs : List Field) : Type 0 where
  pub to : ℕ
  pub splits : moved at (gs ++ g ∷ hs) ≡ moved at gs ++ moved_to to g ∷ moved (moved_to to g).past hs

pub moved-around : (at : ℕ) (gs : List Field) (g : Field) (hs : List Field) → Around at gs g hs
unfolding moved
moved-around at [] g hs = record { to = at; splits = refl }
moved-around at (k ∷ gs) g hs =
    let r = moved-around (moved_to at k).past gs g hs in
    record { to = r.to; splits = ap (λ (xs : List Field). moved_to at k ∷ xs) r.splits }

module _ (ts : List (List ℕ)) (x : List ℕ) where
  -- a zone with an ID in the preferred file is one with that ID in the file
  pub moved-has : (at : ℕ) (g : Field) → FieldKept g → AsZone ts g → HasId ts x (moved_to at g) → HasId ts x g
  moved-has at g k r h =
      let d = r h.is-zone in
      let p : parse_zone (length ts) (preferred_data g.id g.body) ≡ got d.zone [] = k.zone h.is-zone (length ts) d.zone [] d.parsed in
      let q : got d.zone [] ≡ got h.zone h.rest = sym p ∙ h.parsed in
      let z : d.zone ≡ h.zone = cc in
      record {
        zone = d.zone;
        rest = [];
        is-zone = h.is-zone;
        parsed = d.parsed;
        bytes = subst⁻¹ (λ (u : Zone). get_or ts u.id [] ≡ x) z h.bytes;
      }

  pub moved-lacks : (at : ℕ) (gs : List Field) → All FieldKept gs → All (AsZone ts) gs → All (λ g. HasId ts x g → ⊥) gs
      → All (λ g. HasId ts x g → ⊥) (moved at gs)
  unfolding moved
  moved-lacks at [] k r n = all_none
  moved-lacks at (g ∷ gs) k r n =
      all-also (λ h. all_head n (moved-has at g (all_head k) (all_head r) h))
      (moved-lacks (moved_to at g).past gs (all_tail k) (all_tail r) (all_tail n))
