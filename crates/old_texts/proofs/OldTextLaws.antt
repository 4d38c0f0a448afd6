-- The older string: where one that reads lies, that reading and writing undo one another, and what the writer leaves. Assumes nothing.
use Rattle.base.specs.declared.Refusal.{Refusal}
use Rattle.std.specs.Prelude.{Err, Ok, Result}
use Rattle.base.specs.Coded.{Coded}
use Rattle.base.specs.declared.Refusal.TheVariants.{BadText, TooLarge}
use mathlib.Core.Path.{◌≡◌, refl, sym, ◌∙◌, ap, ap₂}
use mathlib.Core.List.{List, ◌++◌, append_assoc}
use mathlib.Core.Bool.{Bool, true, false}
use Prim.Native.Nat.{ℕ, ◌+◌, ◌≤◌, ◌<◌}
use native.Mathlib.Omega.{arith}
use lib.ListN.{length, take, drop, length-append}
use lib.Seq.{drop-append_seam}
use borrow.Author.Tests.{lt-ltb, le-ltb, le-leb}
use Rattle.base.specs.Parsed.{got}
use Rattle.base.specs.Writing.{bytes, placed, Writes}
use Rattle.base.proofs.ParseLaws.{bad-got, got-value, got-rest}
use Rattle.base.proofs.Parts.{Bytes}
use Rattle.base.proofs.WriteLaws.{not_carried}
use Rattle.utf8.specs.Utf8.{utf8}
use Rattle.texts.specs.Text.{text_sized, behind_text}
use Rattle.texts.specs.Facts.{Fit}
use Rattle.texts.proofs.SizedLaws.{sized-held, sized-back, sized-written, sized-length, sized-form}
use Rattle.old_counts.specs.OldCount.{read_old_count, write_old_count, old_count_form}
use Rattle.old_counts.proofs.OldCountLaws.{count-sized, count-form, count-written}
use Rattle.old_texts.specs.OldText.{read_old_text, parse_old_text, write_old_text, old_text_form}
pub use Rattle.old_texts.specs.Facts.{Held, Written}

-- what the reader says of a length
pub text-is : (s : List ℕ) (g x : Coded ℕ) → g ≡ read_old_count s → g ≡ x → text_sized s x ≡ read_old_text s
text-is s g x h e = ap (text_sized s) (sym e ∙ h)

pub text-unread : (s : List ℕ) (g : Coded ℕ) (k : Refusal) → g ≡ read_old_count s → g ≡ Err k → Err k ≡ read_old_text s
unfolding text_sized
text-unread s g k h e = text-is s g (Err k) h e

pub held : (s : List ℕ) (a n : ℕ) → read_old_text s ≡ Ok (a, n) → Held s a n
held s a n e =
    let h = sized-held s (read_old_count s) a n e in
    let c = count-sized s (sym h.code) in
    let i : a + n ≤ length s = omega (arith, h.room, c.within) in
    record {
      count = h.code;
      some = c.some;
      short = c.size;
      inside = i;
      fit = record { small = omega (arith, h.small, sized-length s a n i); valid = h.valid };
    }

-- a string that was written is read back, whatever follows
pub text-written : (t rest : List ℕ) → Fit t → read_old_text (write_old_text t ++ rest) ≡ Ok (length (write_old_count (length t)), length t)
text-written t rest f =
    let w : List ℕ = write_old_count (length t) in
    ap (text_sized (write_old_text t ++ rest)) (ap read_old_count (append_assoc w t rest) ∙ count-written (length t) (t ++ rest) (omega (arith, f.small)))
    ∙ sized-written w t rest f

pub parse-written : (t rest : List ℕ) → Fit t → parse_old_text (write_old_text t ++ rest) ≡ got t rest
parse-written t rest f =
    let w : List ℕ = write_old_count (length t) in
    let l : length w + length t ≡ length (write_old_text t) = sym (length-append w t) in
    ap (behind_text (write_old_text t ++ rest)) (text-written t rest f)
    ∙ ap₂ got (sized-back w t rest) (ap (λ (x : ℕ). drop x (write_old_text t ++ rest)) l ∙ drop-append_seam (write_old_text t) rest)

pub parse-form : (s t r : List ℕ) → Bytes s → parse_old_text s ≡ got t r → Written s t r
parse-form s t r b e = go (read_old_text s) refl e
  where
    go : (x : Result (ℕ × ℕ) Refusal) → read_old_text s ≡ x → behind_text s x ≡ got t r → Written s t r
    go (Err k) h p = bad-got p
    go (Ok (a, n)) h p =
        let q = held s a n h in
        let w = count-form s b (sym q.count) in
        let l : length (take n (drop a s)) ≡ n = sized-length s a n q.inside in
        let v : take n (drop a s) ≡ t = got-value p in
        let z : drop (a + n) s ≡ r = got-rest p in
        let m : length t ≡ n = ap length (sym v) ∙ l in
        let f : s ≡ (write_old_count n ++ take n (drop a s)) ++ drop (a + n) s = sized-form s (write_old_count n) a n w.form in
        record { fit = rw v at q.fit; form = rw m (rw (v, z) at f) }

-- the length's code that stands in the output
pub length-written : (n : ℕ) (d out : List ℕ) → n ≤ 1024 → out ≡ placed (old_count_form n) d → out ≡ placed (bytes (write_old_count n)) d
length-written n d out l q = q ∙ rw (le-leb n 2147483647 (omega arith))

-- the tests of the writer
pub form-long : (t d : List ℕ) → 1024 < length t → Writes (old_text_form t) d (Err TooLarge) d
form-long t d h = rw (lt-ltb 1024 (length t) h) (not_carried TooLarge d)

module _ (t d : List ℕ) (l : length t ≤ 1024) (b : Bool) (q : b ≡ utf8 t) where
  pub form-invalid : b ≡ false → Writes (old_text_form t) d (Err BadText) d
  form-invalid e = rw (le-ltb 1024 (length t) l, sym q ∙ e) (not_carried BadText d)

  pub form-valid : b ≡ true → (r : Result ℕ Refusal) (o : List ℕ) → Writes (bytes (write_old_text t)) d r o → Writes (old_text_form t) d r o
  form-valid e r o h = rw (le-ltb 1024 (length t) l, sym q ∙ e) h
