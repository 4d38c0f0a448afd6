-- Where the field at a place ends, by its ID byte and its size: a law for each way out of the code. Assumes nothing.
use Rattle.std.specs.declared.option.Option.{Option}
use Rattle.std.specs.declared.option.Option.TheVariants.{None, Some}
use Rattle.base.specs.Refusals.{refusal_number}
use Rattle.base.specs.declared.Refusal.TheVariants.{FirstField}
use Rattle.base.specs.declared.Refusal.{Refusal}
use Rattle.std.specs.Prelude.{Err, Ok}
use Rattle.base.specs.Coded.{Coded}
use mathlib.Core.Path.{◌≡◌, refl, sym, ap, ◌∙◌}
use mathlib.Core.Bool.{Bool, true, false}
use mathlib.Core.List.{List, [], ◌∷◌}
use Prim.Native.Nat.{ℕ, zero, suc, ◌+◌, ◌-◌, ◌≤◌, ◌<◌}
use native.Mathlib.Omega.{arith}
use lib.ListN.{length, get_or, take, drop, length-drop}
use lib.Seq.{get_or-drop, drop-drop}
use lib.Dec.{ltb, eqb}
use borrow.Author.Tests.{lt-ltb, le-ltb, eq-eqb, le-leb, lt-leb, ne_eqb}
use native.Mathlib.Nat.{add-zero}
use Rattle.base.proofs.Tests.{by_order, clash, pick-holds}
use Rattle.base.specs.Pick.{pick}
use Rattle.base.proofs.Parts.{part-from}
use Rattle.frames.specs.Frame.{largest, order, read_size, sized, field, frame, version}
use Rattle.frames.specs.declared.Frame.{Frame}
use Rattle.frames.specs.declared.Frame.TheVariants.{End, Cut, Refused, Version, Whole}
use Rattle.frames.proofs.SizeLaws.{size-read}
use Rattle.frames.proofs.ReadLaws.{field-none, field-order, field-sized, size-whole}
use Rattle.frames.proofs.HeadLaws.{whole-headed}
use Rattle.frames.proofs.StepLaws.{version-room}
use Rattle.extents.specs.declared.Extent.{Extent}
use Rattle.extents.specs.Extent.{behind_frame, step_of, unrefused}
use Rattle.extents.specs.Span.{span_of}

unrefused-none : (o : Option Refusal) → unrefused o ≡ true → o ≡ None
unrefused-none None e = refl
unrefused-none (Some k) e = clash cc

module _ (s : List ℕ) (at prev : ℕ) (past : 0 < at) (inside : at ≤ length s) where
  abbrev here : Extent
  here = record { at = at; prev = prev }

  -- a step by what stands there
  by_field : (x : Frame) → x ≡ field 255 at (ltb 4 at) prev (drop at s) → step_of s here ≡ behind_frame here x
  unfolding step_of frame
  by_field x e = let z : at ≡ 0 → ⊥ = λ q. omega arith in rw (ne_eqb at 0 z, ← e)

  pub end_none : length s ≡ at → at ≡ (step_of s here).at
  end_none e = ap (λ (d : Extent). d.at) (sym (by_field End (field-none 255 at (ltb 4 at) prev (drop at s) (omega (arith, length-drop at s)))))

  module _ (some : at < length s) (t : Bool) (stands : t ≡ unrefused (order (ltb 4 at) prev (get_or s at 0))) where
    first : get_or (drop at s) 0 0 ≡ get_or s at 0
    first = rw (add-zero at) at (get_or-drop at s 0 0)

    long : 0 < length (drop at s)
    long = omega (arith, length-drop at s)

    pub end-order : t ≡ false → at ≡ (step_of s here).at
    end-order f = go (order (ltb 4 at) prev (get_or s at 0)) refl
      where
        go : (o : Option Refusal) → order (ltb 4 at) prev (get_or s at 0) ≡ o → at ≡ (step_of s here).at
        go None e = let z : true ≡ false = sym (ap unrefused e) ∙ sym stands ∙ f in clash cc
        go (Some k) e =
            let h = field-order 255 at (ltb 4 at) prev (drop at s) (Some k) long (sym e ∙ ap (order (ltb 4 at) prev) (sym first)) k refl in
            ap (λ (d : Extent). d.at) (sym (by_field (Refused k) h))

    module _ (f : t ≡ true) (byte : get_or s at 0 ≤ 255) where
      sized-there : sized at (get_or s at 0) (drop (at + 1) s) (read_size (drop (at + 1) s)) ≡ field 255 at (ltb 4 at) prev (drop at s)
      sized-there =
          rw (first, drop-drop 1 at s) at (field-sized 255 at (ltb 4 at) prev (drop at s) None long (sym (rw first (unrefused-none _ (sym stands ∙ f)))) refl (rw first byte))

      by_size : (x : Coded ℕ) → read_size (drop (at + 1) s) ≡ x → step_of s here ≡ behind_frame here (sized at (get_or s at 0) (drop (at + 1) s) x)
      by_size x e = by_field _ (rw e at sized-there)

      stays : (x : Coded ℕ) → read_size (drop (at + 1) s) ≡ x → at ≡ (behind_frame here (sized at (get_or s at 0) (drop (at + 1) s) x)).at → at ≡ (step_of s here).at
      stays x e h = h ∙ ap (λ (d : Extent). d.at) (sym (by_size x e))

      span_none : 0 ≡ span_of (read_size (drop (at + 1) s)) → at ≡ (step_of s here).at
      unfolding sized
      span_none = go (read_size (drop (at + 1) s)) refl
        where
          go : (x : Coded ℕ) → read_size (drop (at + 1) s) ≡ x → 0 ≡ span_of x → at ≡ (step_of s here).at
          go (Ok (v, u)) e h = absurd (omega (arith, (size-read (drop (at + 1) s) (sym e)).some))
          go (Err k) e h = stays (Err k) e (pick-holds (λ (y : Frame). at ≡ (behind_frame here y).at) (eqb (refusal_number k) 9) (λ _. refl) (λ _. refl))

      module _ (n : ℕ) (spans : n ≡ span_of (read_size (drop (at + 1) s))) where
        -- a size v of u bytes, or none
        by_value : (P : Type 0) → ((v u : ℕ) → read_size (drop (at + 1) s) ≡ Ok (v, u) → n ≡ u + v → P) → (n ≡ 0 → P) → P
        by_value P k j = go (read_size (drop (at + 1) s)) refl
          where
            go : (x : Coded ℕ) → read_size (drop (at + 1) s) ≡ x → P
            go (Ok (v, u)) e = k v u e (spans ∙ ap span_of e)
            go (Err i) e = j (spans ∙ ap span_of e)

        pub span-nothing : n ≡ 0 → at ≡ (step_of s here).at
        span-nothing z = span_none (sym z ∙ spans)

        pub span-cut : length s - (at + 1) < n → at ≡ (step_of s here).at
        unfolding sized
        span-cut l =
            by_value _ (λ v u e q. stays (Ok (v, u)) e
            (rw (lt-leb (u + v) (length (drop (at + 1) s)) (omega (arith, length-drop (at + 1) s)))
            (pick-holds (λ (y : Frame). at ≡ (behind_frame here y).at) (ltb largest (at + (1 + u + v))) (λ _. refl) (λ _. refl)))) span-nothing

        pub span-far : 4194304 < at + 1 + n → at ≡ (step_of s here).at
        unfolding sized
        span-far l = by_value _ (λ v u e q. stays (Ok (v, u)) e (rw (lt-ltb largest (at + (1 + u + v)) (omega arith)))) span-nothing

        pub span-ends : (n ≡ 0 → ⊥) → n ≤ length s - (at + 1) → at + 1 + n ≤ 4194304 → at + 1 + n ≡ (step_of s here).at
        span-ends k l m = by_value _ ends (λ z. absurd (k z))
          where
            ends : (v u : ℕ) → read_size (drop (at + 1) s) ≡ Ok (v, u) → n ≡ u + v → at + 1 + n ≡ (step_of s here).at
            ends v u e q =
                let i = get_or s at 0 in
                let h = size-whole at i (drop (at + 1) s) v u (sym e) false (sym (le-ltb largest (at + (1 + u + v)) (omega arith))) refl (omega (arith, length-drop (at + 1) s)) in
                let w : at + 1 + n ≡ at + (1 + u + v) = omega arith in
                w ∙ ap (λ (d : Extent). d.at) (sym (by_field (Whole i (1 + u) v) (h ∙ sized-there)))

  -- the ID of a field that ends farther on is the byte at its place
  step-id : ((step_of s here).at ≡ at → ⊥) → step_of s here ≡ record { at = (step_of s here).at; prev = get_or s at 0 }
  unfolding step_of
  step-id h = go (frame 255 at (ltb 4 at) prev (drop at s)) refl h
    where
      go : (x : Frame) → frame 255 at (ltb 4 at) prev (drop at s) ≡ x → ((behind_frame here x).at ≡ at → ⊥)
          → behind_frame here x ≡ record { at = (behind_frame here x).at; prev = get_or s at 0 }
      go End e k = absurd (k refl)
      go Cut e k = absurd (k refl)
      go (Refused n) e k = absurd (k refl)
      go Version e k = absurd (omega (arith, (version-room 255 at (ltb 4 at) prev (drop at s) (sym e)).0))
      go (Whole i u n) e k =
          let d = whole-headed 255 at (ltb 4 at) prev (drop at s) i u n e in
          let q : i ≡ get_or s at 0 = ap (λ (xs : List ℕ). get_or xs 0 0) (sym d.starts) ∙ rw (add-zero at) at (get_or-drop at s 0 0) in
          ap (λ (j : ℕ). record { at = at + (u + n); prev = j }) q

  -- the step behind a field that ends at e
  pub field_next : (e : ℕ) → e ≡ (step_of s here).at → (e ≡ at → ⊥) → record { at = e; prev = get_or s at 0 } ≡ step_of s here
  field_next e q h = ap (λ (a : ℕ). record { at = a; prev = get_or s at 0 }) q ∙ sym (step-id (λ z. h (q ∙ z)))

-- whether an ID may stand, by one test
module _ (prev i : ℕ) where
  pub again-zone : i ≡ prev → i ≡ 1 → true ≡ unrefused (order true prev i)
  unfolding order
  again-zone e h = rw (le-ltb i prev (omega arith), eq-eqb i prev e, eq-eqb i 1 h)

  pub again-other : i ≡ prev → (i ≡ 1 → ⊥) → ltb 7 i ≡ unrefused (order true prev i)
  unfolding order
  again-other e h =
      by_order 7 i
      (λ l. rw (lt-ltb 7 i l, le-ltb i prev (omega arith), eq-eqb i prev e, ne_eqb i 1 h, le-ltb i 8 (omega arith)))
      (λ l. rw (le-ltb 7 i l, le-ltb i prev (omega arith), eq-eqb i prev e, ne_eqb i 1 h, lt-ltb i 8 (omega arith)))

  pub another : (i ≡ prev → ⊥) → ltb prev i ≡ unrefused (order true prev i)
  unfolding order
  another h =
      by_order prev i
      (λ l. rw (lt-ltb prev i l, le-ltb i prev (omega arith), ne_eqb i prev h))
      (λ l. let m : i < prev = omega (arith, h) in rw (le-ltb prev i l, lt-ltb i prev m))

  pub as_first : eqb i 0 ≡ unrefused (order false prev i)
  unfolding order
  as_first = go (eqb i 0) refl
    where
      go : (t : Bool) → eqb i 0 ≡ t → t ≡ unrefused (pick t None (Some FirstField))
      go true e = refl
      go false e = refl
