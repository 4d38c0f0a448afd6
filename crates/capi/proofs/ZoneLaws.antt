-- The numbers that the functions on a found zone give fit where they go. Assumes nothing.
use Rattle.std.specs.declared.option.Option.TheVariants.{None, Some}
use Rattle.base.specs.Coded.{Fault}
use Rattle.std.specs.Prelude.{Err, Ok, Result}
use mathlib.Core.Path.{◌≡◌, refl, subst, subst⁻¹}
use mathlib.Core.Bool.{Bool, true, false}
use mathlib.Core.List.{List}
use Prim.Native.Nat.{ℕ, zero, suc, ◌+◌, ◌/◌, ◌≤◌, ◌<◌, ◌^◌}
use native.Mathlib.Omega.{arith}
use lib.Dec.{eqb, leb}
use lib.IntN.{ℤ, pos}
use lib.Signed.{le_z, lt_z}
use lib.ListN.{length}
use borrow.Author.Tests.{leb-true}
use Rattle.base.specs.Pick.{pick, both}
use Rattle.base.proofs.Tests.{pick-holds, both_right}
use Rattle.signed.specs.Instant.{biased_of, instant_of, InRange}
use Rattle.zones.specs.declared.Edition.{Edition}
use Rattle.zones.specs.declared.Edition.TheVariants.{Two}
use Rattle.answers.specs.declared.Mark.TheVariants.{All}
use Rattle.answers.specs.declared.Found.{Found}
use Rattle.found_zones.specs.FoundZone.{ask_zone, FindsZone}
use Rattle.found_zones.specs.declared.FoundZone.{FoundZone}
use Rattle.found_zones.proofs.InsideLaws.{zone-name, zone-place}
use Rattle.halving.specs.Halving.{find_start}
use Rattle.answer_tables.specs.Table.{answer_at, starts_of, holds_in, kept_by, kept_row, answer_or, ask_listed}
use Rattle.answer_tables.specs.Lists.{list_for, listed_by, ListsAnswers}
use Rattle.answer_tables.proofs.ListLaws.{list-few}
use Rattle.zone_wall_times.specs.ZoneMapping.{MapsZone}
use Rattle.zone_wall_times.proofs.ZoneMapLaws.{zone-bounded}
use Rattle.file_replies.specs.Small.{SmallAnswer, SmallMapping}
use Rattle.replies.specs.Small.{SmallCount}
use Rattle.zone_replies.specs.Small.{SmallFinding}
use Rattle.capi.proofs.SmallLaws.{ask-small, bounded-small}

epoch-in : InRange (pos 0)
unfolding biased_of
epoch-in e = absurd (omega arith)

-- the refusal of a search is a question's
pub finding-small : (f id : List ℕ) → length f < 2 ^ 63 → (r : Result FoundZone Fault) → FindsZone f id r → SmallFinding r
finding-small f id l (Ok v) h = record { to = tt }
finding-small f id l (Err (n, p)) h =
    record { to = (subst SmallAnswer (h.to (pos 0) Two epoch-in) (ask-small f id (pos 0) All Two l)).to }

pub zone-small : (f : List ℕ) (v : FoundZone) (z : ℤ) (ed : Edition) → length f < 2 ^ 63 → SmallAnswer (ask_zone f v z ed)
zone-small f v z ed l = go (ask_zone f v z ed) refl
  where
    go : (a : Result Found Fault) → ask_zone f v z ed ≡ a → SmallAnswer a
    go (Ok x) e = let i = zone-name f v z ed x e in record { to = (omega arith, omega arith) }
    go (Err (n, p)) e = record { to = zone-place f v z ed n p e }

-- a row that is given has its name in f
pub table-small : (f : List ℕ) (v : FoundZone) (rows : List ℤ) (z : ℤ) (ed : Edition) → length f < 2 ^ 63 → SmallAnswer (ask_listed f v rows z ed)
unfolding ask_listed kept_row
table-small f v rows z ed l =
    pick-holds SmallAnswer (eqb (instant_of z) 0) (λ e. record { to = omega arith }) (λ e. by-search (find_start (starts_of rows) z))
  where
    by_row : (x : Found) (t : Bool) → holds_in (length f) x z ≡ t → SmallAnswer (answer_or (pick t (Some x) None) (ask_zone f v z ed))
    by_row x true e =
        let q = both_right (le_z x.start z) (both (lt_z z x.end) (leb (x.name + x.length) (length f))) e in
        let i = leb-true (x.name + x.length) (length f) (both_right (lt_z z x.end) (leb (x.name + x.length) (length f)) q) in
        record { to = (omega arith, omega arith) }
    by_row x false e = zone-small f v z ed l

    by-search : (s : Result (ℕ × ℕ) Fault) → SmallAnswer (answer_or (kept_by (length f) rows z s) (ask_zone f v z ed))
    by-search (Ok (k, looks)) = by_row (answer_at rows k) (holds_in (length f) (answer_at rows k) z) refl
    by-search (Err (n, p)) = zone-small f v z ed l

-- no more rows than there is room for
pub listed_small : (f : List ℕ) (v : FoundZone) (z : ℤ) (ed : Edition) (d e : List ℤ) (x : Result ℕ Fault) → length d < 2 ^ 63 → ListsAnswers f v z ed d x e → SmallCount x
listed_small f v z ed d e x l h =
    subst⁻¹ SmallCount h.result (go (ask_zone f v z ed) refl (length d / 7) (length (list_for f v ed z d)) (list-few f v ed (length d / 7) z) (omega arith))
  where
    go : (a : Result Found Fault) → ask_zone f v z ed ≡ a → (room count : ℕ) → count ≤ room → room < 2 ^ 63 → SmallCount (listed_by a room count)
    go (Err (n, p)) q room count i j = record { to = zone-place f v z ed n p q }
    go (Ok y) q zero count i j = record { to = omega arith }
    go (Ok y) q (suc k) count i j = record { to = omega arith }

pub zone-map-small : (f : List ℕ) (v : FoundZone) (local : ℤ) (m : Result (ℕ × ℤ × ℤ) Fault) → MapsZone f v local m → SmallMapping m
zone-map-small f v local m h = bounded-small m (zone-bounded f v local m h)
