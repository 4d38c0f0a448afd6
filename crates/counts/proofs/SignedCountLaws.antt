-- The signed count's laws, from those of the groups and of the map. Assumes nothing.
use Rattle.base.specs.declared.Refusal.{Refusal}
use Rattle.std.specs.Prelude.{Err, Ok, Result}
use Rattle.base.specs.declared.Refusal.TheVariants.{BadCode}
use mathlib.Core.Path.{◌≡◌, ap, sym, ◌∙◌, subst⁻¹}
use mathlib.Core.List.{List, ◌++◌}
use Prim.Native.Nat.{ℕ, ◌≤◌, ◌<◌}
use native.Mathlib.Omega.{arith}
use lib.IntN.{ℤ}
use lib.ListN.{length, drop}
use mir.Syntax.{w32}
use mir.Val.{SFits}
use borrow.Author.Tests.{le-leb, lt-leb}
use Rattle.base.specs.Writing.{bytes, Writes}
use Rattle.base.proofs.Parts.{Bytes}
use Rattle.base.proofs.WriteLaws.{not_carried}
use Rattle.signed.specs.Number.{number}
use Rattle.signed.specs.Zigzag.{zigzag_of, unzigzag_of}
use Rattle.signed.proofs.NumberLaws.{number-of}
use Rattle.signed.proofs.IntegerLaws.{unzigzag-zigzag, zigzag-unzigzag, zigzag-fits, unzigzag-fits}
use Rattle.counts.specs.Groups.{read_groups, write_groups}
use Rattle.counts.specs.SignedCount.{read_signed_count, write_signed_count, signed_count_form}
use Rattle.counts.proofs.GroupLaws.{group, read-written, read-form}
pub use Rattle.counts.specs.Facts.{SignedCounted, SignedWritten}

pub signed-counted : (s : List ℕ) {z : ℤ} {n : ℕ} → Ok (z, n) ≡ read_signed_count s → SignedCounted s z n
signed-counted s {z} {n} e =
    let o = number-of unzigzag_of (read_groups 4 15 s) e in
    let g = group 4 15 s o.read in
    record { small = subst⁻¹ (SFits w32) o.is (unzigzag-fits o.value (omega arith)); some = omega arith; size = omega arith; within = omega arith }

-- a signed count that was written is read back, whatever follows
pub signed-count-written : (z : ℤ) (rest : List ℕ) → SFits w32 z
    → read_signed_count (write_signed_count z ++ rest) ≡ Ok (z, length (write_signed_count z))
signed-count-written z rest h =
    let l : zigzag_of z < 4294967296 = zigzag-fits z h in
    ap (number unzigzag_of) (read-written 4 15 (zigzag_of z) rest (omega arith) (omega arith))
    ∙ ap (λ (y : ℤ). Ok (y, length (write_signed_count z))) (unzigzag-zigzag z (omega arith))

pub signed-count-form : (s : List ℕ) {z : ℤ} {n : ℕ} → Bytes s → Ok (z, n) ≡ read_signed_count s → SignedWritten s z n
signed-count-form s {z} {n} h e =
    let o = number-of unzigzag_of (read_groups 4 15 s) e in
    let g = group 4 15 s o.read in
    let w = read-form 4 15 s (omega arith) h o.read in
    let i : o.value ≡ zigzag_of z = sym (ap zigzag_of o.is ∙ zigzag-unzigzag o.value (omega arith)) in
    record {
      form = w.form ∙ ap (λ (u : ℕ). write_groups 4 u ++ drop n s) i;
      size = w.size ∙ ap (λ (u : ℕ). length (write_groups 4 u)) i;
    }

-- the two ways out of the writer
module _ (z : ℤ) (u : ℕ) (i : u ≡ zigzag_of z) (d : List ℕ) where
  pub signed-carried : (r : Result ℕ Refusal) (e : List ℕ) → u ≤ 4294967295 → Writes (bytes (write_groups 4 u)) d r e → Writes (signed_count_form z) d r e
  signed-carried r e h w =
      let l : zigzag_of z ≤ 4294967295 = omega arith in
      rw (le-leb (zigzag_of z) 4294967295 l) (rw i at w)

  pub signed_above : 4294967295 < u → Writes (signed_count_form z) d (Err BadCode) d
  signed_above h =
      let l : 4294967295 < zigzag_of z = omega arith in
      rw (lt-leb (zigzag_of z) 4294967295 l) (not_carried BadCode d)
