-- How the IDs of the fields around one go up, and the fields up to an ID. Assumes nothing.
use Rattle.std.specs.declared.option.Option.{Option}
use Rattle.std.specs.declared.option.Option.TheVariants.{Some, None}
use Rattle.base.specs.declared.Refusal.{Refusal}
use Rattle.base.specs.declared.Refusal.TheVariants.{FieldOrder}
use mathlib.Core.Path.{◌≡◌, refl}
use mathlib.Core.Bool.{Bool, true, false}
use mathlib.Core.List.{List, [], ◌∷◌, ◌++◌}
use Prim.Native.Nat.{ℕ, ◌≤◌, ◌<◌}
use native.Mathlib.Omega.{arith}
use lib.Dec.{ltb, eqb}
use borrow.Author.Tests.{ltb-false, eqb-false}
use Rattle.base.specs.Pick.{pick}
use Rattle.base.specs.All.{All, all_none, all-also}
use Rattle.base.proofs.AllLaws.{all_map}
use Rattle.base.proofs.Tests.{clash}
use Rattle.frames.specs.Frame.{once, order, Field}
use Rattle.frames.specs.Fields.{up_to}
use Rattle.frames.proofs.HeadLaws.{order-follows}
use Rattle.frames.proofs.ChainLaws.{Chain, chain-after}

module _ (f : List ℕ) where
  after_less : (prev at : ℕ) (gs : List Field) (g : Field) (hs : List Field) → Chain f true prev at (gs ++ g ∷ hs) → once g.id ≡ true
      → prev < g.id
  unfolding order
  after_less prev at [] g hs c o = go (ltb g.id prev) refl (eqb g.id prev) refl c.2
    where
      go : (a : Bool) → ltb g.id prev ≡ a → (b : Bool) → eqb g.id prev ≡ b → ◌≡◌ {A = Option Refusal} (pick a (Some FieldOrder) (pick b (pick (once g.id) (Some FieldOrder) None) None)) None
          → prev < g.id
      go true e b q h = clash cc
      go false e true q h = let z : ◌≡◌ {A = Option Refusal} (Some FieldOrder) None = rw o at h in clash cc
      go false e false q h =
          let n : g.id ≡ prev → ⊥ = eqb-false g.id prev q in
          omega (arith, ltb-false g.id prev e)
  after_less prev at (h ∷ gs) g hs c o =
      let r = (order-follows prev h.id c.2).rising in
      omega (arith, after_less h.id h.past gs g hs c.3 o)

  -- an ID that stands once only is above all before it
  pub chain-less : (seen : Bool) (prev at : ℕ) (gs : List Field) (g : Field) (hs : List Field) → Chain f seen prev at (gs ++ g ∷ hs)
      → once g.id ≡ true → All (λ h. h.id < g.id) gs
  chain-less seen prev at [] g hs c o = all_none
  chain-less seen prev at (h ∷ gs) g hs c o =
      all-also (after_less h.id h.past gs g hs c.3 o) (chain-less true h.id h.past gs g hs c.3 o)

  -- no ID behind a field is below its own
  pub chain-behind : (seen : Bool) (prev at : ℕ) (gs : List Field) (g : Field) (hs : List Field) → Chain f seen prev at (gs ++ g ∷ hs)
      → All (λ h. g.id ≤ h.id) hs
  chain-behind seen prev at [] g hs c = all_map (λ h a. a.follows.rising) (chain-after f g.id g.past hs c.3)
  chain-behind seen prev at (h ∷ gs) g hs c = chain-behind true h.id h.past gs g hs c.3

-- the fields up to an ID have no larger one (up_to-first in PartLaws: they come first)
pub up_to-low : (last : ℕ) (gs : List Field) → All (λ h. h.id ≤ last) (up_to last gs)
unfolding up_to
up_to-low last [] = all_none
up_to-low last (g ∷ gs) = go (ltb last g.id) refl (up_to-low last gs)
  where
    go : (t : Bool) → ltb last g.id ≡ t → All (λ h. h.id ≤ last) (up_to last gs) → All (λ h. h.id ≤ last) (pick t [] (g ∷ up_to last gs))
    go true e a = all_none
    go false e a = let l : g.id ≤ last = ltb-false last g.id e in all-also l a
