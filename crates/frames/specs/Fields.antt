-- The fields of a file as a list, apart from any job, and a job as a fold over it. To be believed; `walk-fields` (proofs/PartLaws.antt) ties the walk to it.
use Rattle.std.specs.Prelude.{ℕ, zero, suc, ◌+◌, ◌≤◌, ◌≡◌, Bool, true, false, List, [], ◌∷◌, length, get_or, take, drop, ltb, Ok}
use Rattle.std.proofs.Math.Option.{Option, none, some}
use Rattle.base.specs.declared.Refusal.{Refusal}
use Rattle.base.specs.Pick.{pick}
use Rattle.base.specs.Run.{Step, next, follow}
use Rattle.frames.specs.Frame.{largest, read_size, frame, Field}
use Rattle.frames.specs.Machine.{Out, refused, cut, ended, Content, field_at, verdict, onward}
use Rattle.frames.specs.declared.Frame.{Frame}
use Rattle.frames.specs.declared.Frame.TheVariants.{End, Cut, Refused, Version, Whole}

-- Where the whole fields of some bytes end, with the place: at a refusal of version, ID or size, with it; inside the version or a
-- field; or with the bytes.
pub data Ending : Type 0 where
  refused_at : Refusal → ℕ → Ending
  cut_at : ℕ → Ending
  end_at : ℕ → Ending

-- the whole fields in file order, up to the first that isn't: "the same fields in the same order with the same data" is said of these
pub record Listing : Type 0 where
  pub fields : List Field
  pub ending : Ending

-- no whole field
abbrev pub no_field : Ending → Listing
no_field e = record { fields = []; ending = e }

-- one field more, in front
abbrev pub before : Field → Listing → Listing
before g l = record { fields = g ∷ l.fields; ending = l.ending }

-- by the frame at a place, where r is the bytes from there on, and go lists what follows it
abbrev pub listed : ℕ → List ℕ → Frame → (ℕ → Bool → ℕ → List ℕ → Listing) → Listing
listed at r End go = no_field (end_at at)
listed at r Cut go = no_field (cut_at at)
listed at r (Refused n) go = no_field (refused_at n at)
listed at r Version go = go (at + 4) false 0 (drop 4 r)
listed at r (Whole i h n) go = before (field_at at r i h n) (go (at + (h + n)) true i (drop (h + n) r))

-- at most k frames from a place on; each takes a byte at least, so the bytes left bound them
unfoldable pub scan : ℕ → ℕ → ℕ → Bool → ℕ → List ℕ → Listing
scan zero last at seen prev r = no_field (cut_at 0)
scan (suc k) last at seen prev r = listed at r (frame last at seen prev r) (scan k last)

-- the fields of a file, with 12 at the first ID above last
unfoldable pub listing : ℕ → List ℕ → Listing
listing last bs = scan (suc (length bs)) last 0 false 0 bs

-- the fields of a file, every ID allowed
abbrev pub fields : List ℕ → List Field
fields bs = (listing 255 bs).fields

abbrev pub place_of : Ending → ℕ
place_of (refused_at n p) = p
place_of (cut_at p) = p
place_of (end_at p) = p

-- "the place of the first unfinished field (0 in the version, or after 3; the held length if all are whole; where 4 to 7 at an ID or size
-- stops the walk, that ID byte ..)"
abbrev pub unfinished : List ℕ → ℕ
unfinished bs = place_of (listing 255 bs).ending

-- "ID byte, size as a count, data": g is a field of the file f
pub record FieldOf (f : List ℕ) (g : Field) : Type 0 where
  pub id-byte : get_or f g.place 0 ≡ g.id
  pub used : ℕ
  pub size : read_size (drop (g.place + 1) f) ≡ Ok (length g.body, used)
  pub starts : g.start ≡ g.place + 1 + used
  pub bytes : g.body ≡ take (length g.body) (drop g.start f)
  pub ends : g.past ≡ g.start + length g.body
  pub within : g.past ≤ length f
  pub limit : g.past ≤ largest

-- a job over fields in order: what it remembers behind them, or what it stops with
unfoldable pub pass : {M A : Type 0} → (M → Field → Content M A) → M → List Field → Step M (Out M A)
pass c m [] = next m
pass c m (g ∷ gs) = onward (verdict g (c m g)) (λ m'. pass c m' gs)

-- behind the last whole field
abbrev pub outcome : {M A : Type 0} → Ending → M → Out M A
outcome (refused_at n p) m = refused n p
outcome (cut_at p) m = cut p
outcome (end_at p) m = ended m p

-- a job over some bytes: over their whole fields, then what ends them
abbrev pub over : {M A : Type 0} → (M → Field → Content M A) → M → Listing → Out M A
over c m l = follow (pass c m l.fields) (outcome l.ending)

-- the fields before the first with an ID above last
unfoldable pub up_to : ℕ → List Field → List Field
up_to last [] = []
up_to last (g ∷ gs) = pick (ltb last g.id) [] (g ∷ up_to last gs)

-- the place of the first field with an ID above last: "for 12 by a higher ID it is that ID byte"
unfoldable pub first_above : ℕ → List Field → Option ℕ
first_above last [] = none
first_above last (g ∷ gs) = pick (ltb last g.id) (some g.place) (first_above last gs)
