-- The starts with which a list of intervals begins. Assumes nothing.
use Rattle.std.specs.Prelude.{Ok}
use mathlib.Core.Path.{◌≡◌, refl, ap, ◌∙◌}
use mathlib.Core.Bool.{Bool, true, false}
use mathlib.Core.List.{List}
use Prim.Native.Nat.{ℕ, ◌+◌, ◌-◌, ◌*◌, ◌≤◌}
use native.Mathlib.Omega.{arith}
use lib.ListN.{length, drop, get_or}
use lib.Dec.{leb}
use borrow.Author.Tests.{leb-true}
use Rattle.base.specs.Pick.{pick}
use Rattle.base.specs.Parsed.{parse}
use Rattle.base.specs.Moment.{start_of_time, first_instant, last_instant}
use Rattle.counts.proofs.CountLaws.{byte-count}
use Rattle.transitions.specs.Transition.{hour, from_count, read_moment}
use Rattle.transitions.specs.Later.{Later}
use Rattle.places.specs.Placed.{at, Stands}
use Rattle.places.specs.Short.{two_bytes, hours_in}
use Rattle.places.proofs.ShortLaws.{reads, hours-are, hours-later}
use Rattle.interval_runs.specs.Run.{hours_at}

module _ (prev : ℕ) (s : List ℕ) (place : ℕ) (p : place ≤ length s) (w : 2 ≤ length s - place) where
  mark-read : get_or s place 0 ≡ 0 → read_moment prev (drop place s) ≡ Ok (start_of_time, 1)
  unfolding read_moment from_count
  mark-read z = rw (byte-count s place (omega arith) (omega arith), z)

  pub mark-at : get_or s place 0 ≡ 0 → Stands s (parse (read_moment prev) (drop place s)) (at start_of_time (place + 1))
  mark-at z = reads (read_moment prev) s place start_of_time 1 (mark-read z) (omega arith)

-- two bytes of hours
module _ (prev : ℕ) (s : List ℕ) (place v : ℕ) (w : place + 2 ≤ length s) (e : v ≡ hours_at s place) (z : v ≡ 0 → ⊥) (l : v ≤ 16383) where
  hours-two : (v ≡ two_bytes s place) × (128 ≤ v)
  unfolding hours_at
  hours-two = go (leb 128 (two_bytes s place)) refl e
    where
      go : (t : Bool) → leb 128 (two_bytes s place) ≡ t → v ≡ pick t (two_bytes s place) 0 → (v ≡ two_bytes s place) × (128 ≤ v)
      go true q k = (k, omega (arith, leb-true 128 (two_bytes s place) q))
      go false q k = absurd (z k)

  pub hours-start : first_instant ≤ prev → prev ≤ last_instant → prev + v * hour ≤ last_instant → Later prev (drop place s) 2 (prev + v * hour)
  hours-start a b h =
      let i : prev + v * hour ≡ hours_in prev (two_bytes s place) = hours-are prev v hours-two.1 l a b h ∙ ap (hours_in prev) hours-two.0 in
      rw i (hours-later prev s place w)

-- what a reader goes on with
pub later-at : (prev : ℕ) (s : List ℕ) (place n m : ℕ) → Later prev (drop place s) n m → (m ≡ 0 → ⊥) → place + n ≤ length s
    → Stands s (parse (read_moment prev) (drop place s)) (at m (place + n))
later-at prev s place n m h z w = reads (read_moment prev) s place m n (h.moment (omega arith)) w
