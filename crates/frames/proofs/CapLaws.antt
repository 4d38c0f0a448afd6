-- The fields that two jobs see which go to different IDs, in a file of whole fields only. Assumes nothing.
use Rattle.base.specs.declared.Refusal.TheVariants.{NotFound}
use mathlib.Core.Path.{◌≡◌, refl, ap, ◌∙◌}
use mathlib.Core.Bool.{Bool, true, false}
use mathlib.Core.List.{List, ◌∷◌}
use mathlib.Core.Option.{Option, none, some}
use Prim.Native.Nat.{ℕ, zero, suc, ◌+◌}
use lib.ListN.{length, drop}
use borrow.Author.Tests.{lt-ltb, le-ltb}
use Rattle.base.proofs.Tests.{by_order, clash}
use Rattle.frames.specs.Frame.{frame, Field}
use Rattle.frames.specs.Machine.{field_at}
use Rattle.frames.specs.Fields.{Ending, refused_at, end_at, Listing, listed, scan, listing, up_to, first_above}
use Rattle.frames.specs.declared.Frame.{Frame}
use Rattle.frames.specs.declared.Frame.TheVariants.{End, Cut, Refused, Version, Whole}
use Rattle.frames.proofs.HeadLaws.{whole-headed, headed-whole, headed-above, headed-reached, bare, frame-bare}

-- 12 at a place, if there is one
abbrev pub stop_at : Option ℕ → Ending → Ending
stop_at none x = x
stop_at (some p) x = refused_at NotFound p

-- y is the listing x for a job that goes to last
pub record Capped (last : ℕ) (x y : Listing) : Type 0 where
  pub fewer : y.fields ≡ up_to last x.fields
  pub ends : y.ending ≡ stop_at (first_above last x.fields) x.ending

module _ (last more p : ℕ) where
  scan-capped : (k at : ℕ) (seen : Bool) (prev : ℕ) (r : List ℕ) → (scan k more at seen prev r).ending ≡ end_at p
      → Capped last (scan k more at seen prev r) (scan k last at seen prev r)
  unfolding scan up_to first_above
  scan-capped zero at seen prev r h = clash cc
  scan-capped (suc k) at seen prev r h = go (frame more at seen prev r) refl h (scan-capped k)
    where
      go : (f : Frame) → frame more at seen prev r ≡ f → (listed at r f (scan k more)).ending ≡ end_at p
          → ((a : ℕ) (s : Bool) (q : ℕ) (t : List ℕ) → (scan k more a s q t).ending ≡ end_at p
          → Capped last (scan k more a s q t) (scan k last a s q t))
          → Capped last (listed at r f (scan k more)) (listed at r (frame last at seen prev r) (scan k last))
      go End e h rec = rw (frame-bare last more at seen prev r (ap bare e) ∙ e) (record { fewer = refl; ends = refl })
      go Cut e h rec = clash cc
      go (Refused n) e h rec = clash cc
      go Version e h rec = rw (frame-bare last more at seen prev r (ap bare e) ∙ e) (rec (at + 4) false 0 (drop 4 r) h)
      go (Whole i n d) e h rec =
          let w = whole-headed more at seen prev r i n d e in
          by_order last i
          (λ l. rw (headed-above last at seen prev more r i n d w l) (record { fewer = rw (lt-ltb last i l); ends = rw (lt-ltb last i l) }))
          (λ l.
          let c = rec (at + (n + d)) true i (drop (n + d) r) h in
          rw (headed-whole last at seen prev r i n d (headed-reached last at seen prev more r i n d w l))
          (record {
            fewer = rw (le-ltb last i l) (ap (λ (gs : List Field). field_at at r i n d ∷ gs) c.fewer);
            ends = rw (le-ltb last i l) c.ends;
          }))

pub listing-capped : (last more : ℕ) (bs : List ℕ) (p : ℕ) → (listing more bs).ending ≡ end_at p
    → Capped last (listing more bs) (listing last bs)
unfolding listing
listing-capped last more bs p h = scan-capped last more p (suc (length bs)) 0 false 0 bs h
