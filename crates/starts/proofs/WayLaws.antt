-- Each way out of the walk and the zone's reader. Assumes nothing.
use Rattle.base.specs.declared.Refusal.{Refusal}
use Rattle.base.specs.Coded.{Fault}
use Rattle.std.specs.Prelude.{Err, Ok, Result}
use Rattle.base.specs.declared.Refusal.TheVariants.{CutShort, NotFound, TooShort}
use mathlib.Core.Path.{◌≡◌, refl, ap, ◌∙◌, subst}
use mathlib.Core.Bool.{Bool, true, false}
use mathlib.Core.List.{List}
use Prim.Native.Nat.{ℕ}
use lib.Dec.{leb}
use lib.IntN.{ℤ}
use lib.ListN.{length}
use Rattle.base.specs.Pick.{pick}
use Rattle.base.specs.Parsed.{Parsed, got, bad}
use Rattle.zones.specs.Content.{Zone}
use Rattle.zones.specs.Parse.{parse_zone}
use Rattle.frames.specs.Machine.{Out, refused, cut, ended}
use Rattle.answers.specs.Answers.{Pool}
use Rattle.locate.specs.Asked.{Held}
use Rattle.locate.specs.View.{part, zone_out, Spotted}
use Rattle.locate.specs.declared.Spot.{Spot}
use Rattle.zone_starts.specs.Starts.{starts_of, count_of, filled, table, Fills}
use Rattle.zone_starts.specs.declared.ZoneStarts.{ZoneStarts}
use Rattle.zone_starts.specs.declared.ZoneStarts.TheVariants.{Filled as Put, Short, Refused as Denied}
use Rattle.starts.specs.Table.{entries_of, FillsAt}

-- the walk
module _ (o : Out Pool Held) (d : List ℤ) where
  pub out-refused : (n : Refusal) (p : ℕ) → o ≡ refused n p → FillsAt o d (Err (n, p)) d
  out-refused n p e = rw e (refl, refl)

  pub out-cut : (p : ℕ) → o ≡ cut p → FillsAt o d (Err (CutShort, p)) d
  out-cut p e = rw e (refl, refl)

  pub out-end : (m : Pool) (p : ℕ) → o ≡ ended m p → FillsAt o d (Err (NotFound, p)) d
  out-end m p e = rw e (refl, refl)

  -- the walk that goes on is this one
  pub out-on : (q : Out Pool Held) (r : Result ℕ Fault) (e : List ℤ) → q ≡ o → FillsAt q d r e → FillsAt o d r e
  out-on q r e k h = subst (λ (x : Out Pool Held). FillsAt x d r e) k h

-- what the zone's reader says, at the place of its field
abbrev pub at_place : ℕ → ZoneStarts → Result ℕ Fault
at_place p (Put n) = Ok n
at_place p Short = Err (TooShort, 0)
at_place p (Denied n) = Err (n, p)

count_at : (p : ℕ) (xs d : List ℤ) → at_place p (count_of xs d) ≡ entries_of xs d
unfolding count_of entries_of
count_at p xs d = go (leb (length xs) (length d))
  where
    go : (t : Bool) → at_place p (pick t (Put (length xs)) Short) ≡ pick t (Ok (length xs)) (Err (TooShort, 0))
    go true = refl
    go false = refl

-- the zone where the walk stops
module _ (o : Out Pool Held) (d : List ℤ) (s : List ℕ) (m : Pool) (v : Spot) (k : Spotted s m o v) where
  abbrev parsed : Parsed Zone
  parsed = parse_zone v.count (part v.start v.past s)

  pub out-zone : (y x : ZoneStarts) (e : List ℤ) → Fills parsed d y e → y ≡ x → FillsAt o d (at_place v.place x) e
  out-zone y x e f h =
      let w : Fills parsed d x e = subst (λ (u : ZoneStarts). Fills parsed d u e) h f in
      go parsed k.goes w.0 w.1
    where
      go : (p : Parsed Zone) → o ≡ zone_out v m p → x ≡ filled p d → e ≡ table p d → FillsAt o d (at_place v.place x) e
      go (got z q) g a b = rw g (ap (at_place v.place) a ∙ count_at v.place (starts_of z.body) d, b)
      go (bad n) g a b = rw g (ap (at_place v.place) a, b)
