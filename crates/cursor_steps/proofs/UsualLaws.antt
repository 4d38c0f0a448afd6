-- A cursor moved on over one interval of five bytes. Assumes nothing.
use mathlib.Core.Path.{◌≡◌, refl, sym, subst}
use mathlib.Core.List.{List}
use Prim.Native.Nat.{ℕ, ◌+◌, ◌-◌, ◌≤◌, ◌<◌}
use native.Mathlib.Omega.{arith}
use lib.ListN.{length}
use Rattle.intervals.specs.Short.{short_interval}
use Rattle.next_intervals.proofs.NextLaws.{next-none}
use Rattle.zones.specs.Lookup.{until}
use Rattle.zones.specs.declared.ZoneEnd.{ZoneEnd}
use Rattle.cursors.specs.Cursors.{Points, At, usual_cursor}
use Rattle.cursors.specs.declared.Cursor.{Cursor}
use Rattle.cursors.proofs.StepLaws.{at_inner, next-listed}
use Rattle.cursor_steps.specs.Usual.{UsualEnd}

pub usual-none : (s : List ℕ) (pool : ℕ) (c : Cursor) (t : ℕ) → UsualEnd s pool c t 0
usual-none s pool c t =
    record { listed = λ z. absurd (z refl); from = λ z. absurd (z refl); to = λ z. absurd (z refl); next = next-none s pool c.place c.next.start }

module _ (pool : ℕ) (s : List ℕ) (ending : ZoneEnd) (c : Cursor) (p : Points pool s ending c) where
  -- the intervals behind the next one stand in the zone
  pub usual-inside : 1 < c.left → c.place ≤ length s
  usual-inside h = (next-listed pool s ending c p (omega arith)).list_at.stand.inside

  pub usual-at : (t m : ℕ) → UsualEnd s pool c t m → (m ≡ 0 → ⊥) → (r : Cursor) → r ≡ usual_cursor s c.next (c.left - 1) c.place m
      → At pool s ending t r
  usual-at t m u z r e =
      let n = next-listed pool s ending c p (omega (arith, u.listed z)) in
      let w = at_inner _ _ _ _ _ _ n.list_at (λ q. omega (arith, u.listed z)) (short_interval s (c.place + 2) m) (c.place + 5) (u.next.stands z) (until c.next m) refl in
      subst (At pool s ending t) (sym e) (record { points = w.0; holds = record { from = omega (arith, n.start_is, u.from z); to = u.to z } })
