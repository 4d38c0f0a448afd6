-- The fields of a file one behind the other: where each lies, what its bytes are, and how their IDs go up. Assumes nothing.
use Rattle.std.specs.declared.option.Option.TheVariants.{None}
use mathlib.Core.Path.{◌≡◌, refl, sym, ◌∙◌}
use mathlib.Core.Bool.{Bool, true, false}
use mathlib.Core.List.{List, [], ◌∷◌, ◌++◌}
use Prim.Native.Nat.{ℕ, zero, suc, ◌+◌, ◌≤◌, ◌<◌}
use native.Mathlib.Omega.{arith}
use lib.ListN.{length, get_or, take, drop, length-drop}
use lib.Seq.{drop-cons, drop-drop, length-take-le}
use Rattle.frames.specs.Frame.{order, frame, Field}
use Rattle.frames.specs.Machine.{field_at}
use Rattle.frames.specs.Fields.{listed, scan, listing, FieldOf}
use Rattle.frames.specs.declared.Frame.{Frame}
use Rattle.frames.specs.declared.Frame.TheVariants.{End, Cut, Refused, Version, Whole}
use Rattle.base.specs.All.{All, all_none, all-also}
use Rattle.base.proofs.AllLaws.{all_map, all_head, all_right}
use Rattle.frames.proofs.HeadLaws.{Headed, whole-headed, version-place, Follows, order-follows, order-first}

headed-field : (f : List ℕ) (last at : ℕ) (seen : Bool) (prev i h n : ℕ) → Headed last at seen prev (drop at f) i h n
    → FieldOf f (field_at at (drop at f) i h n)
headed-field f last at seen prev i h n d =
    let l : h + n ≤ length (drop at f) = d.whole in
    let l' : at + (h + n) ≤ length f = omega (arith, rw length-drop at l, d.head) in
    let s : length (take n (drop h (drop at f))) ≡ n = length-take-le n (drop h (drop at f)) (rw length-drop (omega arith)) in
    let t : drop (at + 1) f ≡ d.tail = sym (drop-drop 1 at f) ∙ rw d.starts in
    let b : drop at f ≡ get_or f at 0 ∷ drop (suc at) f = drop-cons f at 0 (omega (arith, d.head)) in
    record {
      id-byte = cc (b, d.starts);
      used = d.used;
      size = rw (s, t) d.size;
      starts = omega (arith, d.head);
      bytes = rw (s, drop-drop);
      ends = rw s (omega arith);
      within = l';
      limit = d.limit;
    }

-- gs are fields of f one behind the other from the place at on, their IDs in order behind prev
abbrev pub Chain : List ℕ → Bool → ℕ → ℕ → List Field → Type 0
Chain f seen prev at [] = Unit {0}
Chain f seen prev at (g ∷ gs) = (g.place ≡ at) × FieldOf f g × (order seen prev g.id ≡ None) × Chain f true g.id g.past gs

module _ (f : List ℕ) (last : ℕ) where
  scan-chain : (k at : ℕ) (seen : Bool) (prev : ℕ) (r : List ℕ) → 0 < at → r ≡ drop at f
      → Chain f seen prev at (scan k last at seen prev r).fields
  unfolding scan
  scan-chain zero at seen prev r a e = tt
  scan-chain (suc k) at seen prev r a e =
      go (frame last at seen prev r) refl (λ i p. scan-chain k p true i (drop p f))
    where
      go : (x : Frame) → frame last at seen prev r ≡ x
          → ((i p : ℕ) → 0 < p → drop p f ≡ drop p f → Chain f true i p (scan k last p true i (drop p f)).fields)
          → Chain f seen prev at (listed at r x (scan k last)).fields
      go End h rec = tt
      go Cut h rec = tt
      go (Refused n) h rec = tt
      go Version h rec = absurd (omega (arith, version-place last at seen prev r h))
      go (Whole i u n) h rec =
          let d = rw e at (whole-headed last at seen prev r i u n h) in
          rw (e, drop-drop (u + n) at f)
          (refl, headed-field f last at seen prev i u n d, d.ordered, rec i (at + (u + n)) (omega arith) refl)

  pub listing-chain : Chain f false 0 4 (listing last f).fields
  unfolding listing scan
  listing-chain = go (frame last 0 false 0 f) refl
    where
      go : (x : Frame) → frame last 0 false 0 f ≡ x → Chain f false 0 4 (listed 0 f x (scan (length f) last)).fields
      go End h = tt
      go Cut h = tt
      go (Refused n) h = tt
      go Version h = scan-chain (length f) 4 false 0 (drop 4 f) (omega arith) refl
      go (Whole i u n) h = absurd ((whole-headed last 0 false 0 f i u n h).place refl)

module _ (f : List ℕ) where
  pub chain-fields : (seen : Bool) (prev at : ℕ) (gs : List Field) → Chain f seen prev at gs → All (FieldOf f) gs
  chain-fields seen prev at [] c = all_none
  chain-fields seen prev at (g ∷ gs) c = all-also c.1 (chain-fields true g.id g.past gs c.3)

  -- behind a field with the ID prev that ends at a place
  pub record After (prev at : ℕ) (g : Field) : Type 0 where
    pub follows : Follows prev g.id
    pub apart : at ≤ g.place

  wider : (prev at prev' at' : ℕ) (g : Field) → prev ≤ prev' → at ≤ at' → After prev' at' g → After prev at g
  wider prev at prev' at' g l m a =
      let r : prev' ≤ g.id = a.follows.rising in
      record { follows = record { rising = omega arith; some = a.follows.some }; apart = omega arith }

  pub chain-after : (prev at : ℕ) (gs : List Field) → Chain f true prev at gs → All (After prev at) gs
  chain-after prev at [] c = all_none
  chain-after prev at (g ∷ gs) c =
      let o : Follows prev g.id = order-follows prev g.id c.2 in
      let p : g.place ≡ at = c.0 in
      let s : g.start ≡ g.place + 1 + c.1.used = c.1.starts in
      let e : g.past ≡ g.start + length g.body = c.1.ends in
      let first : After prev at g = record { follows = o; apart = omega arith } in
      all-also first (all_map (λ h k. wider prev at g.id g.past h (omega arith) (omega arith) k) (chain-after g.id g.past gs c.3))

  -- the fields before one have no larger ID and end before it
  pub record Earlier (g h : Field) : Type 0 where
    pub rising : h.id ≤ g.id
    pub apart : h.past ≤ g.place

  pub chain-split : (seen : Bool) (prev at : ℕ) (gs : List Field) (g : Field) (hs : List Field) → Chain f seen prev at (gs ++ g ∷ hs)
      → All (Earlier g) gs
  chain-split seen prev at [] g hs c = all_none
  chain-split seen prev at (h ∷ gs) g hs c =
      let a : After h.id h.past g = all_head (all_right gs (g ∷ hs) (chain-after h.id h.past (gs ++ g ∷ hs) c.3)) in
      let first : Earlier g h = record { rising = a.follows.rising; apart = a.apart } in
      all-also first (chain-split true h.id h.past gs g hs c.3)

  -- "first field isn't ID 0" is refused, and so is a second 0
  pub chain_first : (at : ℕ) (g : Field) (gs : List Field) → Chain f false 0 at (g ∷ gs) → (g.id ≡ 0) × All (λ h. 0 < h.id) gs
  chain_first at g gs c =
      (order-first 0 g.id c.2, all_map (λ h k. k.follows.some) (chain-after g.id g.past gs c.3))
