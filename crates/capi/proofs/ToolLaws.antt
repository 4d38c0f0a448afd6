-- The numbers of the three tools of Ask 14 fit where they go, and what the functions that fill lent room leave. Assumes nothing.
use Rattle.std.specs.declared.option.Option.{Option as Maybe}
use Rattle.base.specs.Coded.{Fault}
use Rattle.std.specs.Prelude.{Err, Ok, Result}
use mathlib.Core.Path.{◌≡◌, refl, ap, ◌∙◌, subst, subst⁻¹}
use mathlib.Core.Bool.{Bool, true, false}
use mathlib.Core.List.{List, [], ◌∷◌}
use mathlib.Core.Option.{Option, none, some}
use Prim.Native.Nat.{ℕ, zero, suc, ◌+◌, ◌<◌, ◌≤◌, ◌^◌}
use native.Mathlib.Omega.{arith}
use lib.IntN.{ℤ}
use lib.ListN.{length}
use lib.Dec.{ltb, leb}
use borrow.Author.Tests.{ltb-false, leb-true}
use Rattle.base.specs.Pick.{pick}
use Rattle.base.specs.All.{All}
use Rattle.base.proofs.AllLaws.{all_head, all_tail}
use Rattle.base.proofs.Tests.{clash, by_order, pick-holds}
use Rattle.frames.specs.Frame.{largest, Field}
use Rattle.frames.specs.Fields.{fields, FieldOf}
use Rattle.frames.specs.Machine.{Out, found, refused, cut, ended, walk}
use Rattle.frames.proofs.ChainLaws.{listing-chain, chain-fields}
use Rattle.frames.proofs.NearLaws.{Near, walk-near}
use Rattle.field_checks.specs.Check.{check_of}
use Rattle.answers.specs.Answers.{Pool, no_pool}
use Rattle.locate.specs.Asked.{Held, holder}
use Rattle.halving.specs.Halving.{find_start}
use Rattle.halving.proofs.StepLaws.{find_none}
use Rattle.halving.proofs.HalvingLaws.{halving-finds}
use Rattle.traces.specs.Trace.{record_count, records_at, names_at, trace_ok}
use Rattle.traces.proofs.TraceLaws.{trace-fits}
use Rattle.trace_records.specs.Record.{agrees}
use Rattle.replay.specs.Reports.{first_wrong, replay}
use Rattle.zone_starts.specs.Starts.{starts_of}
use Rattle.starts.specs.Table.{entries_of, filled_at, FillsFrom}
use Rattle.differences.specs.Difference.{differences, difference, filled, Gives as GivesListing}
use Rattle.differences.specs.Means.{Bounded}
use Rattle.differences.proofs.MostLaws.{difference-bounded}
use Rattle.closed_files.specs.File.{closed, unread_id, first_unread, given_sized, given_read, given, close_of}
use Rattle.replies.specs.Reply.{Gives}
use Rattle.replies.specs.Small.{SmallLength, SmallCount, SmallPair}
use Rattle.replies.proofs.ReplyLaws.{gives_as}
use Rattle.capi_contracts.specs.Functions.{FillsStarts, ListsDifference}
use Rattle.tool_replies.specs.Functions.{filling_reply, listing_reply}
use Rattle.tool_replies.specs.Small.{SmallReport}
use Rattle.capi.proofs.PlaceLaws.{check-near}

-- halving: an entry of the table, and 63 looks at most
search-near : (xs : List ℤ) (z : ℤ) → length xs < 2 ^ 63 → SmallPair (find_start xs z)
search-near xs z l =
    by_order 0 (length xs)
    (λ h.
    let f = halving-finds xs z h in
    subst⁻¹ SmallPair f.is (record { to = (omega (arith, f.inside), omega (arith, f.looks 63 (omega arith))) }))
    (λ h. subst SmallPair (find_none xs z (omega arith)) (record { to = omega arith }))

pub search-small : (xs : List ℤ) (z : ℤ) → length xs < 2 ^ 63 → (x : Result (ℕ × ℕ) Fault) → x ≡ find_start xs z → SmallPair x
search-small xs z l x e = subst⁻¹ SmallPair e (search-near xs z l)

-- replay: the number of a record, which lies in the trace
module _ (f : List ℕ) (names : ℕ) (s : List ℕ) where
  wrong-near : (n i at : ℕ) → i + n < 2 ^ 63 → SmallReport (first_wrong f names s n i at)
  unfolding first_wrong
  wrong-near zero i at l = record { to = tt }
  wrong-near (suc n) i at l =
      pick-holds SmallReport (agrees f names s at) (λ e. wrong-near n (i + 1) (at + 20) (omega arith)) (λ e. record { to = omega arith })

replay-near : (f s : List ℕ) → length s < 2 ^ 63 → SmallReport (replay f s)
unfolding replay
replay-near f s l =
    pick-holds SmallReport (trace_ok s)
    (λ e. wrong-near f (names_at s) s (record_count s) 0 (records_at s) (omega (arith, (trace-fits s e).recorded)))
    (λ e. record { to = omega arith })

pub report-small : (f s : List ℕ) → length s < 2 ^ 63 → (x : Result (Maybe ℕ) Fault) → x ≡ replay f s → SmallReport x
report-small f s l x e = subst⁻¹ SmallReport e (replay-near f s l)

-- the table of starts: no more entries than it has room for
filled-near : (o : Out Pool Held) (d : List ℤ) → length d < 2 ^ 63 → Near o → SmallCount (filled_at o d)
unfolding entries_of
filled-near (found v p) d l n =
    let xs = starts_of v.zone.body in
    pick-holds SmallCount (leb (length xs) (length d))
    (λ e. record { to = omega (arith, leb-true (length xs) (length d) e) })
    (λ e. record { to = omega arith })
filled-near (refused k p) d l n = record { to = n.to }
filled-near (cut p) d l n = record { to = n.to }
filled-near (ended m p) d l n = record { to = n.to }

pub filling-small : (f id : List ℕ) (d : List ℤ) → length d < 2 ^ 63 → (x : Result ℕ Fault) → x ≡ filled_at (walk (holder id) no_pool f) d → SmallCount x
filling-small f id d l x e =
    subst⁻¹ SmallCount e (filled-near (walk (holder id) no_pool f) d l (walk-near (holder id) no_pool f))

pub fills-starts : (f id : List ℕ) (d c : List ℤ) (x : Result ℕ Fault) (r : ℕ) (e n : List ℤ) → FillsFrom f id d x e
    → Gives (filling_reply x) c r n → FillsStarts f id d c r e n
fills-starts f id d c x r e n h g = record { gives = gives_as _ _ c r n (ap filling_reply h.0) g; table = h.1 }

-- the difference
bounded-small : (x : Result ℕ Fault) → Bounded x → SmallCount x
bounded-small (Ok n) h = record { to = omega (arith, h.to) }
bounded-small (Err (n, p)) h = record { to = h.to }

pub listing-small : (f g id : List ℕ) (first last : ℤ) (room : ℕ) (x : Result ℕ Fault) → x ≡ difference f g id first last room → SmallCount x
listing-small f g id first last room x e =
    subst⁻¹ SmallCount e (bounded-small (difference f g id first last room) (difference-bounded f g id first last room))

pub lists-difference : (f g id : List ℕ) (first last : ℤ) (d c : List ℤ) (x : Result ℕ Fault) (r : ℕ) (e n : List ℤ) → GivesListing f g id first last d x e
    → Gives (listing_reply x) c r n → ListsDifference f g id first last d c r e n
lists-difference f g id first last d c x r e n h k = record {
  gives = gives_as _ _ c r n (ap listing_reply h.result) k;
  list = h.output ∙ ap (λ (y : Result ℕ Fault). filled y (differences f g id first last) d) h.result;
}

-- the closed file: a field ends no further than a file may
unread-near : (f : List ℕ) (gs : List Field) (p : ℕ) → All (FieldOf f) gs → first_unread gs ≡ some p → p ≤ 4194304
unfolding first_unread
unread-near f [] p a e = clash cc
unread-near f (g ∷ gs) p a e = go (unread_id g.id) e (λ k. unread-near f gs p (all_tail a) k)
  where
    go : (t : Bool) → pick t (some g.place) (first_unread gs) ≡ some p → (first_unread gs ≡ some p → p ≤ 4194304) → p ≤ 4194304
    go true k rec = let w = all_head a in let z : g.place ≡ p = cc in omega (arith, w.starts, w.ends, w.limit)
    go false k rec = rec k

sized-near : (xs d : List ℕ) → SmallLength (given_sized xs d)
unfolding given_sized
sized-near xs d =
    pick-holds SmallLength (ltb largest (length xs)) (λ e. record { to = omega arith })
    (λ e. pick-holds SmallLength (leb (length xs) (length d))
    (λ h. record { to = ltb-false largest (length xs) e })
    (λ h. record { to = omega arith }))

close-near : (f d : List ℕ) → SmallLength (close_of f d)
unfolding close_of
close-near f d = go (check_of f) refl
  where
    read : (u : Option ℕ) → first_unread (fields f) ≡ u → SmallLength (given_read u (closed f) d)
    read none e = sized-near (closed f) d
    read (some p) e = record { to = unread-near f (fields f) p (chain-fields f false 0 4 (fields f) (listing-chain f 255)) e }

    go : (v : Result (Unit {0}) Fault) → v ≡ check_of f → SmallLength (given v (first_unread (fields f)) (closed f) d)
    go (Err (n, p)) e = record { to = (check-near f (Err (n, p)) e).to }
    go (Ok tt) e = read (first_unread (fields f)) refl

pub closed-small : (f d : List ℕ) (x : Result ℕ Fault) → x ≡ close_of f d → SmallLength x
closed-small f d x e = subst⁻¹ SmallLength e (close-near f d)
