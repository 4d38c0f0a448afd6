-- Texts: what the reader's tests say, where a text that reads lies, that reading and writing undo one another, and what the writer
-- leaves. Assumes nothing.
use Rattle.base.specs.declared.Refusal.{Refusal}
use Rattle.std.specs.Prelude.{Err, Ok, Result}
use Rattle.base.specs.Coded.{Coded}
use Rattle.base.specs.declared.Refusal.TheVariants.{BadText}
use mathlib.Core.Path.{◌≡◌, sym, ◌∙◌, ap, subst}
use mathlib.Core.List.{List, [], ◌++◌, append_assoc}
use mathlib.Core.Bool.{Bool}
use Prim.Native.Nat.{ℕ, ◌+◌, ◌-◌, ◌≤◌}
use native.Mathlib.Omega.{arith}
use lib.ListN.{length, take, drop, length-append}
use Rattle.base.specs.Pick.{pick}
use Rattle.base.proofs.Parts.{Bytes}
use Rattle.counts.specs.Count.{read_count, write_count}
use Rattle.counts.proofs.CountLaws.{counted, count-written, count-form}
use Rattle.utf8.specs.Utf8.{utf8}
use Rattle.texts.specs.Text.{text_sized, read_text, part_of, text_bytes, write_text}
use Rattle.texts.proofs.SizedLaws.{sized-tested, sized-held, sized-written, sized-back, sized-length, sized-form}
pub use Rattle.texts.specs.Facts.{Held, Fit, Written}

-- what the tests of the reader say
pub text-is : (s : List ℕ) (g x : Coded ℕ) → g ≡ read_count s → g ≡ x → text_sized s x ≡ read_text s
text-is s g x h e = ap (text_sized s) (sym e ∙ h)

pub text-unread : (s : List ℕ) (g : Coded ℕ) (k : Refusal) → g ≡ read_count s → g ≡ Err k → Err k ≡ read_text s
unfolding text_sized
text-unread s g k h e = text-is s g (Err k) h e

pub text-tested : (s : List ℕ) (g : Coded ℕ) → g ≡ read_count s → (n a : ℕ) → g ≡ Ok (n, a) → n ≤ 1024 → (b : Bool) → n ≤ length s - a
    → b ≡ utf8 (take (a + n - a) (drop a s)) → pick b (Ok (a, n)) (Err BadText) ≡ read_text s
text-tested s g h n a e l b k q = sized-tested s n a l b k q ∙ text-is s g (Ok (n, a)) h e

pub held : (s : List ℕ) (a n : ℕ) → read_text s ≡ Ok (a, n) → Held s a n
held s a n e =
    let h = sized-held s (read_count s) a n e in
    let c = counted s (sym h.code) in
    record { count = h.code; small = h.small; some = c.some; short = c.size; inside = omega (arith, h.room, c.within); valid = h.valid }

-- a text that was written is read back, whatever follows
pub text-written : (t rest : List ℕ) → Fit t → read_text (write_text t ++ rest) ≡ Ok (length (write_count (length t)), length t)
text-written t rest f =
    let w : List ℕ = write_count (length t) in
    ap (text_sized (write_text t ++ rest)) (ap read_count (append_assoc w t rest) ∙ count-written (length t) (t ++ rest) (omega (arith, f.small)))
    ∙ sized-written w t rest f

pub text-back : (t rest : List ℕ) → Fit t → text_bytes (write_text t ++ rest) ≡ t
text-back t rest f = ap (part_of (write_text t ++ rest)) (text-written t rest f) ∙ sized-back (write_count (length t)) t rest

pub text-form : (s : List ℕ) (a n : ℕ) → Bytes s → read_text s ≡ Ok (a, n) → Written s (text_bytes s) a n
text-form s a n b e =
    let h = held s a n e in
    let w = count-form s b (sym h.count) in
    let t : List ℕ = take n (drop a s) in
    let l : length t ≡ n = sized-length s a n h.inside in
    subst (λ (x : List ℕ). Written s x a n) (ap (part_of s) (sym e))
    (record {
      fit = record { small = omega (arith, h.small); valid = h.valid };
      size = rw (length-append (write_count (length t)) t, l) (omega (arith, w.size));
      form = rw l (sized-form s (write_count n) a n w.form);
    })

-- the bytes of the text that reads
pub bytes-held : (s : List ℕ) (r : Result (ℕ × ℕ) Refusal) (a n : ℕ) → r ≡ read_text s → r ≡ Ok (a, n) → take (a + n - a) (drop a s) ≡ text_bytes s
bytes-held s r a n h e =
    let z : a + n - a ≡ n = omega arith in
    rw z (ap (part_of s) (sym e ∙ h))

pub bytes-none : (s : List ℕ) (r : Result (ℕ × ℕ) Refusal) (k : Refusal) → r ≡ read_text s → r ≡ Err k → [] ≡ text_bytes s
bytes-none s r k h e = ap (part_of s) (sym e ∙ h)
