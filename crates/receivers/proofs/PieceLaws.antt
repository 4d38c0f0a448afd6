-- A piece behind what is held, and the walk that goes on over it. Assumes nothing.
use mathlib.Core.Path.{◌≡◌, refl, sym, ap, ◌∙◌}
use mathlib.Core.Bool.{true, false}
use mathlib.Core.List.{List, ◌++◌, append_assoc}
use Prim.Native.Nat.{ℕ, ◌+◌, ◌-◌, ◌≤◌, ◌<◌}
use native.Mathlib.Omega.{arith}
use lib.ListN.{length, take, drop, length-take, length-append, drop_of_length-le}
use lib.Seq.{take_all, take-append_seam, drop-drop}
use borrow.Rule.Slice.PartMut.{put_mid}
use borrow.Author.Tests.{le-leb, lt-leb, ne_eqb}
use Rattle.base.proofs.Parts.{part-from, put-from}
use Rattle.frames.specs.Frame.{frame, field}
use Rattle.extents.specs.declared.Extent.{Extent}
use Rattle.extents.specs.Extent.{step_of, extent_of}
use Rattle.extents.proofs.ExtentLaws.{steps-stay}
use Rattle.receivers.specs.declared.Receiver.{Receiver}
use Rattle.receivers.specs.Receive.{held_bytes, fits, walked, holding, outcome_of, buffer_of, Adds}

-- past the bytes no field stands
pub extent-past : (s : List ℕ) (c : Extent) → length s < c.at → c ≡ extent_of s c
unfolding step_of frame field
extent-past s c l = sym (steps-stay (length s) s c stays)
  where
    stays : step_of s c ≡ c
    stays = rw (drop_of_length-le s {i = c.at} (omega arith), ne_eqb c.at 0 (λ z. omega arith))

-- the held bytes of a buffer that took a piece
pub front : (n : ℕ) (d p z : List ℕ) → n ≤ length d → take (n + length p) (take n d ++ (p ++ z)) ≡ take n d ++ p
front n d p z h =
    let a = take n d in
    let l : n + length p ≡ length (a ++ p) = simp (length-append, length-take) (omega arith) in
    ap (take (n + length p)) (sym (append_assoc a p z)) ∙ ap (λ (k : ℕ). take k ((a ++ p) ++ z)) l ∙ take-append_seam (a ++ p) z

module _ (r : Receiver) (d p : List ℕ) where
  pub refused : length d < r.held + length p → Adds r d p (record { receiver = r; number = 15 }) d
  unfolding outcome_of buffer_of
  refused h =
      let t : fits r d p ≡ false = lt-leb (r.held + length p) (length d) h in
      record { outcome = rw t; buffer = rw t }

  module _ (h : r.held + length p ≤ length d) (m : ℕ) (ys : List ℕ) (em : m ≡ length p)
      (ey : ys ≡ take (length p) p ++ drop (length p) (take (length d - r.held) (drop r.held d))) where
    put : put_mid r.held (length d - r.held) d ys ≡ held_bytes r d ++ (p ++ drop (r.held + length p) d)
    put =
        put-from r.held d ys (omega arith)
        ∙ ap (λ (l : List ℕ). held_bytes r d ++ l) (ey ∙ rw (take_all (length p) p (omega arith), part-from r.held d, drop-drop (length p) r.held d))

    held-part : take (r.held + m) (put_mid r.held (length d - r.held) d ys) ≡ held_bytes r d ++ p
    held-part = ap (take (r.held + m)) put ∙ rw em (front r.held d p (drop (r.held + length p) d) (omega arith))

    pub held-length : r.held + m ≡ length (take (r.held + m) (put_mid r.held (length d - r.held) d ys))
    held-length = simp (ap length held-part, length-append, length-take) (omega arith)

    pub taken : (c : Extent) → c ≡ extent_of (take (r.held + m) (put_mid r.held (length d - r.held) d ys)) (walked r)
        → Adds r d p (record { receiver = holding (r.held + m) c; number = 0 }) (put_mid r.held (length d - r.held) d ys)
    unfolding outcome_of buffer_of
    taken c e =
        let t : fits r d p ≡ true = le-leb (r.held + length p) (length d) h in
        record { outcome = rw (t, em, e ∙ ap (λ (l : List ℕ). extent_of l (walked r)) held-part) refl; buffer = rw t put }
