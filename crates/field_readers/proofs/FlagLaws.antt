-- What the flag of a zone says, and what the reader of each field does to it. Assumes nothing.
use Rattle.field_readers.specs.declared.Kept.{Kept}
use Rattle.base.specs.declared.Refusal.{Refusal}
use Rattle.std.specs.Prelude.{Err, Ok, Result}
use mathlib.Core.Path.{◌≡◌, refl, sym, ◌∙◌, ap}
use mathlib.Core.Bool.{Bool, true, false}
use mathlib.Core.List.{List, [], ◌∷◌}
use Prim.Native.Nat.{ℕ, zero, suc, ◌-◌}
use native.Mathlib.Omega.{arith}
use lib.ListN.{get_or, set}
use Rattle.base.specs.Pick.{both}
use Rattle.base.specs.Parsed.{Parsed, got, bad, parse}
use Rattle.base.proofs.PairLaws.{ok_parts}
use Rattle.base.proofs.ParseLaws.{bind-good}
use Rattle.base.proofs.Tests.{clash, both_right}
use Rattle.counts.specs.Count.{read_count}
use Rattle.places.specs.Name.{parse_name}
use Rattle.pieces.specs.Form.{data_preferred, flag_at, flag_of, Flagged}
use Rattle.intervals.proofs.FormLaws.{name-count}
use Rattle.zones.specs.Content.{Zone}
use Rattle.zones.specs.Parse.{after_id, parse_zone}
use Rattle.zones.proofs.SoundLaws.{zone-id}
use Rattle.lookups.specs.View.{form_of}
use Rattle.field_readers.specs.Remembered.{part}
use Rattle.field_readers.specs.Flags.{flag_set, FlagsTaken}

-- a flag that was set, and one that is not
set_own : (flags : List ℕ) (id : ℕ) → get_or (set flags id 1) id 1 ≡ 1
set_own [] id = refl
set_own (x ∷ xs) zero = refl
set_own (x ∷ xs) (suc id) = set_own xs id

set-none : (flags : List ℕ) (id v : ℕ) → get_or (set flags id 1) v 1 ≡ 0 → get_or flags v 1 ≡ 0
set-none [] id v e = e
set-none (x ∷ xs) zero zero e = absurd (omega arith)
set-none (x ∷ xs) zero (suc v) e = e
set-none (x ∷ xs) (suc id) zero e = e
set-none (x ∷ xs) (suc id) (suc v) e = set-none xs id v e

-- what a flag says it says still
flag-older : (flags : List ℕ) (id : ℕ) (b : Bool) (d : List ℕ) → Flagged flags d → Flagged (flag_set id b flags) d
unfolding flag_of
flag-older flags id true d h = h
flag-older flags id false d h = record { means = λ e. h.means (go (parse read_count d) e) }
  where
    go : (p : Parsed ℕ) → flag_at (set flags id 1) p ≡ 0 → flag_at flags p ≡ 0
    go (got v r) e = set-none flags id v e
    go (bad k) e = e

-- and so it is for the zone that was read
flag-newer : (flags : List ℕ) (id : ℕ) (b : Bool) (d q : List ℕ) → parse read_count d ≡ got id q → (b ≡ true → data_preferred d ≡ true)
    → Flagged (flag_set id b flags) d
unfolding flag_of
flag-newer flags id true d q e h = record { means = λ f. h refl }
flag-newer flags id false d q e h = record { means = λ f. let x : get_or (set flags id 1) id 1 ≡ 0 = rw e at f in absurd (omega (arith, set_own flags id)) }

-- the pool number of a zone's ID is the count that stands first
zone-count : (pool : ℕ) (d : List ℕ) (z : Zone) (q : List ℕ) → parse_zone pool d ≡ got z q → (r : List ℕ) × (parse read_count d ≡ got z.id r)
unfolding parse_zone
zone-count pool d z q e =
    let a = bind-good (parse_name pool d) (after_id pool) z q e in
    (a.rest, name-count pool d a.first a.rest a.is ∙ ap (λ (y : ℕ). got y a.rest) (sym (zone-id pool d z q a.first a.rest a.is e)))

-- a field 1, by what the check of the zone gives
module _ (s : List ℕ) (pool a e : ℕ) (flags : List ℕ) (asked : Bool) (v : Result (ℕ × Bool) Refusal)
    (h : v ≡ form_of (both asked (data_preferred (part s a e))) (parse_zone pool (part s a e))) where
  pub flags-set : (id : ℕ) (b : Bool) (flags' : List ℕ) (r : Result Kept Refusal) → v ≡ Ok (id, b) → flags' ≡ flag_set id b flags → FlagsTaken s 1 a e flags flags' r
  flags-set id b flags' r f g =
      rw g
      (record {
        older = flag-older flags id b;
        newer = λ k i j. go (parse_zone pool (part s a e)) refl (sym f ∙ h);
      })
    where
      go : (p : Parsed Zone) → parse_zone pool (part s a e) ≡ p → Ok (id, b) ≡ form_of (both asked (data_preferred (part s a e))) p
          → Flagged (flag_set id b flags) (part s a e)
      go (got z q) i j =
          let w : z.id ≡ id = sym (ok_parts j).0 in
          let x : b ≡ both asked (data_preferred (part s a e)) = (ok_parts j).1 in
          let c = zone-count pool (part s a e) z q i in
          flag-newer flags id b (part s a e) c.0 (c.1 ∙ ap (λ (y : ℕ). got y c.0) w) (λ y. both_right asked _ (sym x ∙ y))
      go (bad n) i j = clash cc

-- a zone that is refused
pub flags-kept : (s : List ℕ) (a e : ℕ) (flags : List ℕ) (n : Refusal) → FlagsTaken s 1 a e flags flags (Err n)
flags-kept s a e flags n = record { older = λ d k. k; newer = λ k g j. clash cc }

-- a field that is no zone
pub flags-other : (s : List ℕ) (i a e : ℕ) (flags : List ℕ) (r : Result Kept Refusal) → (i ≡ 1 → ⊥) → FlagsTaken s i a e flags flags r
flags-other s i a e flags r n = record { older = λ d k. k; newer = λ k g j. absurd (n j) }

pub flags-zone : (s : List ℕ) (i a e : ℕ) (flags flags' : List ℕ) (r : Result Kept Refusal) → i ≡ 1 → FlagsTaken s 1 a e flags flags' r → FlagsTaken s i a e flags flags' r
flags-zone s i a e flags flags' r j h = rw j h
