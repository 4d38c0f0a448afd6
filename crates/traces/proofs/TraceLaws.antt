-- Parts that lie in the trace. Assumes nothing.
use mathlib.Core.Path.{◌≡◌, refl, sym, ap, ◌∙◌}
use mathlib.Core.Bool.{Bool, true, false}
use mathlib.Core.List.{List}
use Prim.Native.Nat.{ℕ, zero, suc, ◌+◌, ◌-◌, ◌*◌, ◌≤◌, ◌<◌}
use native.Mathlib.Omega.{arith}
use lib.ListN.{length}
use borrow.Author.Tests.{le-leb, lt-leb, leb-true}
use Rattle.base.specs.Pick.{both}
use Rattle.base.proofs.Tests.{both_left, both_right}
use Rattle.traces.specs.Trace.{record_count, records_at, names_size, names_at, name_start, name_length, within, names_within, trace_ok}

module _ (start size length : ℕ) where
  pub within-yes : start + size ≤ length → true ≡ within start size length
  unfolding within
  within-yes h = sym (le-leb (start + size) length h)

  pub within-no : length < start + size → false ≡ within start size length
  unfolding within
  within-no h = sym (lt-leb (start + size) length h)

  pub within-is : within start size length ≡ true → start + size ≤ length
  unfolding within
  within-is e = leb-true (start + size) length e

-- a part judged by numbers that were read
pub judged : (b r : Bool) (x y z x' y' : ℕ) → r ≡ b → r ≡ within x y z → x ≡ x' → y ≡ y' → b ≡ within x' y' z
judged b r x y z x' y' e f g h = sym e ∙ f ∙ ap (λ (u : ℕ). within u y z) g ∙ ap (λ (u : ℕ). within x' u z) h

both-none : (a b : Bool) → b ≡ false → both a b ≡ false
both-none true b e = e
both-none false b e = refl

-- the loop over the records' names
module _ (s : List ℕ) (size : ℕ) where
  pub names-next : (n at : ℕ) → 0 < n → true ≡ within (name_start at s) (name_length at s) size → names_within n at size s ≡ names_within (n - 1) (at + 20) size s
  unfolding names_within
  names-next zero at h e = absurd (omega arith)
  names-next (suc n) at h e = let w : n ≡ suc n - 1 = omega arith in rw (sym e) (ap (λ (m : ℕ). names_within m (at + 20) size s) w)

  pub names-out : (n at : ℕ) → 0 < n → false ≡ within (name_start at s) (name_length at s) size → false ≡ names_within n at size s
  unfolding names_within
  names-out zero at h e = absurd (omega arith)
  names-out (suc n) at h e = rw (sym e) refl

  pub names-done : (n at : ℕ) → n ≡ 0 → true ≡ names_within n at size s
  unfolding names_within
  names-done zero at h = refl
  names-done (suc n) at h = absurd (omega arith)

  -- each name lies in the names
  pub names-first : (n at : ℕ) → 0 < n → names_within n at size s ≡ true → name_start at s + name_length at s ≤ size
  unfolding names_within
  names-first zero at h e = absurd (omega arith)
  names-first (suc n) at h e = within-is _ _ _ (both_left _ _ e)

  pub names-rest : (n at : ℕ) → 0 < n → names_within n at size s ≡ true → names_within (n - 1) (at + 20) size s ≡ true
  unfolding names_within
  names-rest zero at h e = absurd (omega arith)
  names-rest (suc n) at h e = let w : suc n - 1 ≡ n = omega arith in rw w (both_right (within (name_start at s) (name_length at s) size) (names_within n (at + 20) size s) e)

module _ (s : List ℕ) where
  abbrev header : Bool
  header = within 0 16 (length s)

  abbrev records : Bool
  records = within (records_at s) (record_count s * 20) (length s)

  abbrev names : Bool
  names = within (names_at s) (names_size s) (length s)

  abbrev each : Bool
  each = names_within (record_count s) (records_at s) (names_size s) s

  pub no_header : length s < 16 → false ≡ trace_ok s
  unfolding trace_ok
  no_header h = rw (sym (within-no 0 16 (length s) (omega arith))) refl

  pub no-records : false ≡ records → false ≡ trace_ok s
  unfolding trace_ok
  no-records e = sym (both-none header _ (rw (sym e) refl))

  pub no_names : false ≡ names → false ≡ trace_ok s
  unfolding trace_ok
  no_names e = sym (both-none header _ (both-none records _ (rw (sym e) refl)))

  pub by_names : 16 ≤ length s → true ≡ records → true ≡ names → each ≡ trace_ok s
  unfolding trace_ok
  by_names h e f = rw (sym (within-yes 0 16 (length s) (omega arith)), sym e, sym f) refl

  pub trace-judged : (n at size : ℕ) (r : Bool) → r ≡ names_within n at size s → n ≡ record_count s → at ≡ records_at s → size ≡ names_size s
      → 16 ≤ length s → true ≡ records → true ≡ names → r ≡ trace_ok s
  trace-judged n at size r e a b c h f g =
      e ∙ ap (λ (u : ℕ). names_within u at size s) a ∙ ap (λ (u : ℕ). names_within (record_count s) u size s) b
      ∙ ap (λ (u : ℕ). names_within (record_count s) (records_at s) u s) c ∙ by_names h f g

  -- WHAT HOLDS OF A TRACE WHOSE PARTS LIE IN IT
  pub record Fits : Type 0 where
    pub head : 16 ≤ length s
    pub recorded : records_at s + record_count s * 20 ≤ length s
    pub named : names_at s + names_size s ≤ length s
    pub each-name : names_within (record_count s) (records_at s) (names_size s) s ≡ true

  pub trace-fits : trace_ok s ≡ true → Fits
  unfolding trace_ok
  trace-fits e =
      let r = both_right header _ e in
      let q = both_right records _ r in
      record {
        head = within-is 0 16 (length s) (both_left header _ e);
        recorded = within-is _ _ _ (both_left records _ r);
        named = within-is _ _ _ (both_left names _ q);
        each-name = both_right names _ q;
      }
