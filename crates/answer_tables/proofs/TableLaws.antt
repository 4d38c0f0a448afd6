-- Over right rows a question gives what the question on the zone gives. Assumes nothing.
use Rattle.base.specs.declared.Refusal.TheVariants.{OutOfRange}
use Rattle.std.specs.declared.option.Option.TheVariants.{None, Some}
use Rattle.base.specs.Coded.{Fault}
use Rattle.std.specs.Prelude.{Err, Ok, Result}
use mathlib.Core.Path.{◌≡◌, refl, sym}
use mathlib.Core.Bool.{Bool, true, false}
use mathlib.Core.List.{List}
use Prim.Native.Nat.{ℕ, ◌+◌, ◌/◌, ◌<◌}
use lib.Dec.{T, eqb, leb}
use lib.IntN.{ℤ}
use lib.Signed.{le_z, lt_z}
use lib.ListN.{length}
use borrow.Author.Tests.{eqb-true, eqb-false}
use Rattle.base.specs.Pick.{pick, both}
use Rattle.signed.specs.Instant.{instant_of, InRange}
use Rattle.zones.specs.declared.Edition.{Edition}
use Rattle.halving.specs.Halving.{find_start}
use Rattle.found_zones.specs.FoundZone.{ask_zone}
use Rattle.found_zones.specs.declared.FoundZone.{FoundZone}
use Rattle.found_zones.proofs.AskLaws.{zone-outside}
use Rattle.answer_tables.specs.Table.{answer_at, starts_of, kept_by, kept_row, answer_or, ask_listed}
use Rattle.answer_tables.specs.Facts.{Right}
use Rattle.answer_tables.proofs.RowLaws.{left-inside}

told : {b : Bool} → b ≡ true → T b
told {b} e = rw e tt

module _ (f : List ℕ) (v : FoundZone) (ed : Edition) (rows : List ℤ) (r : Right f v ed rows) (z : ℤ) where
  by-kept : InRange z → (s : Result (ℕ × ℕ) Fault) → ((k looks : ℕ) → s ≡ Ok (k, looks) → k < length rows / 7)
      → answer_or (kept_by (length f) rows z s) (ask_zone f v z ed) ≡ ask_zone f v z ed
  by-kept g (Err (n, p)) i = refl
  by-kept g (Ok (k, looks)) i =
      go (le_z (answer_at rows k).start z) refl (lt_z z (answer_at rows k).end) refl (leb ((answer_at rows k).name + (answer_at rows k).length) (length f))
    where
      go : (a : Bool) → le_z (answer_at rows k).start z ≡ a → (b : Bool) → lt_z z (answer_at rows k).end ≡ b → (c : Bool)
          → answer_or (pick (both a (both b c)) (Some (answer_at rows k)) None) (ask_zone f v z ed) ≡ ask_zone f v z ed
      go true p true q true = sym (r.row k (i k looks refl) z g (record { le = told p }) (record { lt = told q }))
      go true p true q false = refl
      go true p false q c = refl
      go false p b q c = refl

  -- OVER RIGHT ROWS THE QUESTION IS THE ONE ON THE ZONE
  pub listed_same : ask_listed f v rows z ed ≡ ask_zone f v z ed
  unfolding ask_listed kept_row
  listed_same = go (eqb (instant_of z) 0) refl
    where
      go : (t : Bool) → eqb (instant_of z) 0 ≡ t
          → pick t (Err (OutOfRange, 0)) (answer_or (kept_by (length f) rows z (find_start (starts_of rows) z)) (ask_zone f v z ed)) ≡ ask_zone f v z ed
      go true e = zone-outside f v z ed (instant_of z) refl (eqb-true (instant_of z) 0 e)
      go false e = by-kept (eqb-false (instant_of z) 0 e) (find_start (starts_of rows) z) (left-inside rows z)
