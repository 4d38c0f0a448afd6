-- What a cursor holds is what the lookup gives at each instant of the interval. Assumes nothing.
use mathlib.Core.Path.{◌≡◌, sym, ap, ◌∙◌}
use mathlib.Core.List.{List, [], ◌∷◌}
use Prim.Native.Nat.{ℕ, ◌≤◌, ◌<◌}
use native.Mathlib.Omega.{arith}
use borrow.Author.Tests.{lt-ltb}
use Rattle.base.specs.Parsed.{behind}
use Rattle.base.specs.Moment.{Finite}
use Rattle.recurrence.specs.Tails.{lookup, Holds as TailHolds}
use Rattle.recurrence.proofs.IntervalLaws.{held, lookup-in, same-lookup}
use Rattle.intervals.specs.declared.Interval.{Interval}
use Rattle.zones.specs.Content.{Ending, untailed, tailed, listed}
use Rattle.zones.specs.Intervals.{Holds}
use Rattle.zones.specs.Sound.{FoundOk}
use Rattle.zones.specs.Lookup.{until, holding, in_list, named, in_tail, in_body}
use Rattle.zones.specs.declared.Found.{Found}
use Rattle.zones.specs.declared.ZoneEnd.{ZoneEnd}
use Rattle.zones.proofs.PartitionLaws.{behind-start}
use Rattle.zones.proofs.SoundLaws.{zone-sound}
use Rattle.zones.proofs.RangeLaws.{zone-found}
use Rattle.cursors.specs.declared.Cursor.{Cursor}
use Rattle.cursors.specs.Cursors.{found_in, found_at, Onward, next_start, InList, Position, in-list, in-tail, Points, At}

module _ (pool : ℕ) (s : List ℕ) where
  -- a listed interval
  module _ (i : Interval) (end : ℕ) where
    -- it ends no later than the list
    inside-list : (is : List Interval) (e : Ending) → Onward pool s i is end e → (t : ℕ) → Finite t → t < next_start end is → t < end
    unfolding next_start behind
    inside-list [] e o t f h = h
    inside-list (j ∷ js) untailed o t f h = omega (arith, o.end-ok, f.high)
    inside-list (j ∷ js) (tailed n) o t f h = omega (arith, o.end-ok.0, behind-start pool j.start js o.rising.1)

    -- and after its start
    pub start-before : (is : List Interval) (e : Ending) → Onward pool s i is end e → i.start < next_start end is
    unfolding next_start behind
    start-before [] untailed o = omega (arith, o.end-ok, o.first)
    start-before [] (tailed n) o = o.end-ok.0
    start-before (j ∷ js) e o = o.rising.0.rises

    list_same : (is : List Interval) (e : Ending) (o : Onward pool s i is end e) (t : ℕ) → Finite t → t < next_start end is
        → in_body t o.id (listed (i ∷ is) end e) ≡ until i (next_start end is)
    unfolding next_start in_body in_list holding
    list_same [] e o t f h = rw (lt-ltb t end h)
    list_same (j ∷ js) e o t f h = rw (lt-ltb t end (inside-list (j ∷ js) e o t f h), lt-ltb t j.start h)

  module _ (ending : ZoneEnd) (c : Cursor) where
    list_held : (i : Interval) (is : List Interval) (end : ℕ) (e : Ending) → InList pool s ending c i is end e → (t : ℕ) → Finite t → Holds c.held t
        → found_at pool s t ≡ c.held
    list_held i is end e k t f h =
        k.onward.on t f (omega (arith, h.from, ap (λ (x : Found). x.start) k.held-is))
        ∙ list_same i end is e k.onward t f (omega (arith, h.to, ap (λ (x : Found). x.end) k.held-is))
        ∙ sym k.held-is

    -- WHAT A CURSOR HOLDS IS WHAT THE LOOKUP GIVES AT EACH INSTANT OF THE INTERVAL
    pub held_same : Points pool s ending c → (t : ℕ) → Finite t → Holds c.held t → found_at pool s t ≡ c.held
    unfolding in_tail
    held_same p t f h = go p.position
      where
        go : Position pool s ending c → found_at pool s t ≡ c.held
        go (in-list i is end e k) = list_held i is end e k t f h
        go (in-tail n u k) =
            let w : TailHolds (lookup n.tail u) t = record {
              from = omega (arith, h.from, ap (λ (x : Found). x.start) k.held-is);
              to = omega (arith, h.to, ap (λ (x : Found). x.end) k.held-is);
            } in
            let o = k.tail-on.named.tail-ok in
            let b = held n.tail o (lookup n.tail u) (lookup-in n.tail o u k.from k.finite).0 t w in
            k.tail-on.on t f b.0 ∙ ap (named n) (same-lookup n.tail o u t k.from k.finite w) ∙ sym k.held-is

    -- its name is a number of the pool
    pub held-ok : (t : ℕ) → Finite t → At pool s ending t c → FoundOk pool c.held
    unfolding found_in
    held-ok t f a =
        let w = a.points.whole in
        let e : found_at pool s t ≡ c.held = held_same a.points t f a.holds in
        rw (← e, w.is) (zone-found pool t w.zone (zone-sound pool s w.zone [] w.is).0 f)

    -- from the instant at which it stands to the interval's end
    pub at_same : (t : ℕ) → Finite t → At pool s ending t c → (u : ℕ) → t ≤ u → u < c.held.end → Finite u → found_at pool s u ≡ c.held
    at_same t f a u l h g = held_same a.points u g (record { from = omega (arith, a.holds.from); to = h })
