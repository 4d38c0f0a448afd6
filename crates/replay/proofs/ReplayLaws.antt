-- Replaying record by record. Assumes nothing.
use Rattle.std.specs.declared.option.Option.{Option}
use Rattle.std.specs.declared.option.Option.TheVariants.{None, Some}
use Rattle.base.specs.Coded.{Fault}
use Rattle.std.specs.Prelude.{Err, Ok, Result}
use Rattle.base.specs.declared.Refusal.TheVariants.{BadTrace}
use mathlib.Core.Path.{◌≡◌, refl, sym, ap, ◌∙◌, subst}
use mathlib.Core.Bool.{Bool, true, false}
use mathlib.Core.List.{List}
use Prim.Native.Nat.{ℕ, zero, suc, ◌+◌, ◌-◌, ◌*◌, ◌≤◌, ◌<◌}
use native.Mathlib.Omega.{arith}
use lib.Dec.{eqb}
use lib.ListN.{length, get_or, set, replicate, length-set, length-replicate, get_or-replicate}
use lib.Seq.{get_or-set_same, get_or-set_other}
use borrow.Author.Tests.{eqb-true, eqb-false}
use Rattle.base.specs.Pick.{pick}
use Rattle.locate.specs.View.{Lies}
use Rattle.trace_records.specs.Passed.{PassedOk}
use Rattle.trace_records.specs.declared.PassedZones.{PassedZones}
use Rattle.trace_records.proofs.PassedLaws.{passed_none}
use Rattle.traces.specs.Trace.{record_count, records_at, names_at, names_size, name_start, name_length, names_within, trace_ok}
use Rattle.traces.proofs.TraceLaws.{Fits, trace-fits, names-first, names-rest}
use Rattle.trace_records.specs.Record.{agrees}
use Rattle.trace_records.specs.Kept.{KeptOk, StillAgrees, Takes}
use Rattle.trace_records.specs.declared.Kept.{Kept}
use Rattle.trace_records.specs.declared.Taken.{Taken}
use Rattle.trace_records.proofs.KeptLaws.{none-ok, still-true}
use Rattle.replay.specs.Reports.{first_wrong, replay}
use Rattle.replay.specs.View.{Records}

-- a record's name lies in the trace
module _ (s : List ℕ) (names : ℕ) where
  pub records-first : (n at : ℕ) → Records s names n at → 0 < n → (at + 20 ≤ length s) × (names + (name_start at s + name_length at s) ≤ length s)
  records-first n at r h = (omega (arith, r.recorded), omega (arith, r.named, names-first s r.size n at h r.each-name))

  pub records-rest : (n at : ℕ) → Records s names n at → 0 < n → Records s names (n - 1) (at + 20)
  records-rest n at r h = record {
    size = r.size;
    few = omega (arith, r.few);
    recorded = omega (arith, r.recorded);
    named = r.named;
    each-name = names-rest s r.size n at h r.each-name;
  }

-- the loop over the records, by the zones kept and passed
module _ (f : List ℕ) (d e names : ℕ) (s : List ℕ) (n at : ℕ) where
  -- how far it has come
  pub record Going (left i place : ℕ) : Type 0 where
    pub records : Records s names left place
    pub count : i + left ≡ n
    pub same : first_wrong f names s n 0 at ≡ first_wrong f names s left i place

  pub record Replayed (od fs ts marks : List ℕ) (kept : List Kept) (last : Kept) (p : PassedZones) (left i place : ℕ) : Type 0 where
    pub going : Going left i place
    pub passed : PassedOk f d e od fs ts p
    pub marked : length marks ≡ 512
    pub slots : length kept ≡ 512
    pub good : (j : ℕ) (x : Kept) → j < 512 → KeptOk f names s (get_or kept j x)
    pub latest : KeptOk f names s last

  pub replayed-start : Records s names n at → Lies f d e → (k : Kept) → k.end ≡ 0
      → Replayed (replicate 8449 0) (replicate 8192 0) (replicate 8192 0) (replicate 512 0) (replicate 512 k) k (record { at = e; prev = 0; ids = 0 }) n 0 at
  replayed-start r l k q = record {
    going = record { records = r; count = omega arith; same = refl };
    passed =
        passed_none f d e (replicate 8192 0) (replicate 8192 0) l (length-replicate {A = ℕ} 8192 0) (length-replicate {A = ℕ} 8192 0);
    marked = length-replicate {A = ℕ} 512 0;
    slots = length-replicate 512 k;
    good = λ j x h. subst (KeptOk f names s) (sym (get_or-replicate 512 j k x h)) (none-ok f names s k q);
    latest = none-ok f names s k q;
  }

  module _ (left i place : ℕ) (g : Going left i place) (h : 0 < left) where
    going_next : agrees f names s place ≡ true → Going (left - 1) (i + 1) (place + 20)
    unfolding first_wrong
    going_next a = record {
      records = records-rest s names left place g.records h;
      count = omega (arith, g.count);
      same = g.same ∙ go left h;
    }
      where
        go : (m : ℕ) → 0 < m → first_wrong f names s m i place ≡ first_wrong f names s (m - 1) (i + 1) (place + 20)
        go zero h = absurd (omega arith)
        go (suc m) h = let w : m ≡ suc m - 1 = omega arith in rw a (ap (λ (k : ℕ). first_wrong f names s k (i + 1) (place + 20)) w)

    pub going-wrong : agrees f names s place ≡ false → Ok (Some i) ≡ first_wrong f names s n 0 at
    unfolding first_wrong
    going-wrong a = sym (g.same ∙ go left h)
      where
        go : (m : ℕ) → 0 < m → first_wrong f names s m i place ≡ Ok (Some i)
        go zero h = absurd (omega arith)
        go (suc m) h = rw a refl

  pub going_done : (left i place : ℕ) → Going left i place → left ≡ 0 → Ok None ≡ first_wrong f names s n 0 at
  unfolding first_wrong
  going_done left i place g h = sym (g.same ∙ go left h)
    where
      go : (m : ℕ) → m ≡ 0 → first_wrong f names s m i place ≡ Ok None
      go zero h = refl
      go (suc m) h = absurd (omega arith)

  module _ (od fs ts marks : List ℕ) (kept : List Kept) (last : Kept) (p : PassedZones) (left i place : ℕ)
      (g : Replayed od fs ts marks kept last p left i place) (h : 0 < left) where
    -- by the offset kept
    pub replayed-still : (b : Bool) → StillAgrees names s place last b → b ≡ true
        → Replayed od fs ts marks kept last p (left - 1) (i + 1) (place + 20)
    replayed-still b w q = record {
      going = going_next left i place g.going h (still-true f names s place last g.latest b w q);
      passed = g.passed;
      marked = g.marked;
      slots = g.slots;
      good = g.good;
      latest = g.latest;
    }

    module _ (r : Taken) (t : Takes f names s (agrees f names s place) r) where
      put : (j : ℕ) → j < 512 → (k : ℕ) (x : Kept) → k < 512 → (b : Bool) → eqb k j ≡ b → KeptOk f names s (get_or (set kept j r.kept) k x)
      put j l k x u true q =
          let w : j < length kept = omega (arith, g.slots) in
          subst (λ (y : ℕ). KeptOk f names s (get_or (set kept j r.kept) y x)) (sym (eqb-true k j q))
          (subst (KeptOk f names s) (sym (get_or-set_same kept j r.kept x w)) t.kept)
      put j l k x u false q = subst (KeptOk f names s) (sym (get_or-set_other kept j k r.kept x (eqb-false k j q))) (g.good k x u)

      -- by the zone kept for the name
      pub replayed-same : r.agrees ≡ true → (j : ℕ) → j < 512
          → Replayed od fs ts marks (set kept j r.kept) r.kept p (left - 1) (i + 1) (place + 20)
      replayed-same a j l = record {
        going = going_next left i place g.going h (sym t.agreed ∙ a);
        passed = g.passed;
        marked = g.marked;
        slots = length-set kept j r.kept ∙ g.slots;
        good = λ k x u. put j l k x u (eqb k j) refl;
        latest = t.kept;
      }

      -- by the zone found for it
      pub replayed-found : r.agrees ≡ true → (j m : ℕ) → j < 512 → (od' fs' ts' : List ℕ) (p' : PassedZones) → PassedOk f d e od' fs' ts' p'
          → Replayed od' fs' ts' (set marks j m) (set kept j r.kept) r.kept p' (left - 1) (i + 1) (place + 20)
      replayed-found a j m l od' fs' ts' p' v = record {
        going = going_next left i place g.going h (sym t.agreed ∙ a);
        passed = v;
        marked = length-set marks j m ∙ g.marked;
        slots = length-set kept j r.kept ∙ g.slots;
        good = λ k x u. put j l k x u (eqb k j) refl;
        latest = t.kept;
      }

      pub replayed-wrong : r.agrees ≡ false → Ok (Some i) ≡ first_wrong f names s n 0 at
      replayed-wrong a = going-wrong left i place g.going h (sym t.agreed ∙ a)

module _ (f s : List ℕ) where
  pub replay-bad : false ≡ trace_ok s → ◌≡◌ {A = Result (Option ℕ) Fault} (Err (BadTrace, 0)) (replay f s)
  unfolding replay
  replay-bad e = rw (sym e) refl

  pub replay-good : true ≡ trace_ok s → first_wrong f (names_at s) s (record_count s) 0 (records_at s) ≡ replay f s
  unfolding replay
  replay-good e = rw (sym e) refl

  -- by the numbers of the header
  pub replay-read : (n at names : ℕ) (r : Result (Option ℕ) Fault) → r ≡ first_wrong f names s n 0 at → n ≡ record_count s → at ≡ records_at s → names ≡ names_at s
      → true ≡ trace_ok s → r ≡ replay f s
  replay-read n at names r e a b c h =
      e ∙ ap (λ (u : ℕ). first_wrong f u s n 0 at) c ∙ ap (λ (u : ℕ). first_wrong f (names_at s) s u 0 at) a
      ∙ ap (λ (u : ℕ). first_wrong f (names_at s) s (record_count s) 0 u) b ∙ replay-good h

pub records-read : (s : List ℕ) (n at names : ℕ) → n ≡ record_count s → at ≡ records_at s → names ≡ names_at s → n < 4294967296 → true ≡ trace_ok s
    → Records s names n at
records-read s n at names a b c h e =
    let t : Fits s = trace-fits s (sym e) in
    record {
      size = names_size s;
      few = h;
      recorded = omega (arith, t.recorded);
      named = omega (arith, t.named);
      each-name = ap (λ (u : ℕ). names_within u at (names_size s) s) a ∙ ap (λ (u : ℕ). names_within (record_count s) u (names_size s) s) b ∙ t.each-name;
    }
