-- What a walk over the mentions does with a field. Assumes nothing.
use mathlib.Core.Path.{◌≡◌, ap, ◌∙◌}
use mathlib.Core.List.{List}
use Prim.Native.Nat.{ℕ, ◌≤◌}
use lib.Dec.{ltb}
use lib.ListN.{length}
use borrow.Author.Tests.{ne_eqb}
use Rattle.use_order.specs.Order.{mention_all}
use Rattle.mentions.specs.Content.{numbers_of}
use Rattle.mention_runs.specs.Run.{Room}
use Rattle.counted_zones.specs.Steps.{zone_names, zone_end}
use Rattle.renumbering.specs.Table.{Fits}
use Rattle.closed_files.specs.File.{unread_id}
use Rattle.closed_walks.specs.View.{ZoneStepped}

pub unread-other : (i : ℕ) → (i ≡ 4 → ⊥) → (i ≡ 5 → ⊥) → ltb 7 i ≡ unread_id i
unfolding unread_id
unread-other i a b = rw (ne_eqb i 4 a, ne_eqb i 5 b)

-- a zone, by its codes' first bytes
module _ (i : ℕ) (d u : List ℕ) (z : ZoneStepped i d) (e : i ≡ 1) where
  pub zone-fits : Fits u (length d) → (zone_end d ≤ length d) × Room u (length d)
  zone-fits t = (z.within e, record { room = t.room })

  pub zone-counted : (w : List ℕ) → w ≡ mention_all (zone_names d) u → w ≡ mention_all (numbers_of i d) u
  zone-counted w h = h ∙ ap (λ (ns : List ℕ). mention_all ns u) (z.names e)
