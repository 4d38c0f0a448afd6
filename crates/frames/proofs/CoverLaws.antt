-- A FILE BY ITS BYTES: version and fields to the end are those that the walk lists, both ways. Assumes nothing.
use Rattle.std.specs.declared.option.Option.{Option}
use Rattle.std.specs.declared.option.Option.TheVariants.{Some, None}
use Rattle.base.specs.declared.Refusal.{Refusal}
use Rattle.base.specs.declared.Refusal.TheVariants.{FieldOrder, WrongVersion}
use mathlib.Core.Path.{◌≡◌, refl, sym, ap, ◌∙◌, subst}
use mathlib.Core.Bool.{Bool, true, false}
use mathlib.Core.List.{List, [], ◌∷◌}
use mathlib.Core.Logic.{inl, inr}
use Prim.Native.Nat.{ℕ, zero, suc, ◌+◌, ◌≤◌, ◌<◌}
use native.Mathlib.Omega.{arith}
use lib.Dec.{ltb, leb, eqb}
use lib.ListN.{length, take, drop, get_or, length-drop, drop_of_length-le}
use lib.Seq.{drop-drop, drop-cons}
use borrow.Author.Tests.{le-leb, le-ltb, eq-eqb, ne_eqb, ltb-false, eqb-true, eqb-false, leb-true}
use Rattle.base.specs.Pick.{pick}
use Rattle.base.specs.Bytes.{Bytes}
use Rattle.base.specs.All.{All, all_none, all-also}
use Rattle.base.proofs.Tests.{never, clash}
use Rattle.frames.specs.Frame.{order, zeros, version, field, frame, Field}
use Rattle.frames.specs.Machine.{field_at}
use Rattle.frames.specs.Fields.{FieldOf, end_at, no_field, listed, scan, listing, fields}
use Rattle.frames.specs.Covers.{Covers, Next, rises, again, InOrder, Framed}
use Rattle.frames.specs.declared.Frame.{Frame}
use Rattle.frames.specs.declared.Frame.TheVariants.{End, Cut, Refused, Version, Whole}
use Rattle.frames.proofs.HeadLaws.{headed-whole, whole-headed, version-place, order-first}
use Rattle.frames.proofs.ChainLaws.{Chain, listing-chain}

-- THE FIELDS OF A FRAMED FILE are those that the walk lists
-- the ID of a field behind prev, or of the first, is not refused
abbrev Runs : Bool → ℕ → List Field → Type 0
Runs seen prev [] = Unit {0}
Runs seen prev (g ∷ gs) = (order seen prev g.id ≡ None) × Runs true g.id gs

next-order : (prev i : ℕ) → Next prev i → order true prev i ≡ None
unfolding order
next-order prev i (rises l) = rw (le-ltb i prev (omega arith), ne_eqb i prev (λ e. omega arith))
next-order prev i (again e (inl o)) = rw (le-ltb i prev (omega arith), eq-eqb i prev (sym e), eq-eqb i 1 o)
next-order prev i (again e (inr o)) = rw (le-ltb i prev (omega arith), eq-eqb i prev (sym e), ne_eqb i 1 (λ z. omega arith), le-ltb i 8 o)

in-order-runs : (prev : ℕ) (gs : List Field) → InOrder prev gs → Runs true prev gs
in-order-runs prev [] o = tt
in-order-runs prev (g ∷ gs) o = (next-order prev g.id o.0, in-order-runs g.id gs o.1)

-- behind the first field no ID is 0
pub ordered-some : (prev : ℕ) (gs : List Field) → InOrder prev gs → All (λ g. 0 < g.id) gs
ordered-some prev [] o = all_none
ordered-some prev (g ∷ gs) o = all-also (go o.0) (ordered-some g.id gs o.1)
  where
    go : Next prev g.id → 0 < g.id
    go (rises l) = omega arith
    go (again e (inl i)) = omega arith
    go (again e (inr i)) = omega arith

module _ (f : List ℕ) (b : Bytes f) where
  -- the frame at the place of a field
  field-frame : (seen : Bool) (prev : ℕ) (g : Field) → 0 < g.place → FieldOf f g → order seen prev g.id ≡ None
      → (h : ℕ) × (g.start ≡ g.place + h) × (frame 255 g.place seen prev (drop g.place f) ≡ Whole g.id h (length g.body))
  field-frame seen prev g p o r =
      let at = g.place in
      let n = length g.body in
      let first : drop at f ≡ get_or f at 0 ∷ drop (suc at) f = drop-cons f at 0 (omega (arith, o.starts, o.ends, o.within)) in
      let one : suc at ≡ at + 1 = omega arith in (
        1 + o.used,
        omega (arith, o.starts),
        headed-whole 255 at seen prev (drop at f) g.id (1 + o.used) n
            (record {
              place = λ z. omega arith;
              tail = drop (at + 1) f;
              starts = first ∙ ap (λ (i : ℕ). i ∷ drop (suc at) f) o.id-byte ∙ ap (λ (q : ℕ). g.id ∷ drop q f) one;
              ordered = r;
              reached = omega (arith, b at, o.id-byte);
              used = o.used;
              head = refl;
              size = o.size;
              limit = omega (arith, o.limit, o.starts, o.ends);
              whole = rw length-drop (omega (arith, o.starts, o.ends, o.within));
            }),
      )

  -- the same field, as the walk makes it
  field-same : (g : Field) (h : ℕ) → FieldOf f g → g.start ≡ g.place + h → field_at g.place (drop g.place f) g.id h (length g.body) ≡ g
  field-same g h o s =
      let n = length g.body in
      let body : take n (drop h (drop g.place f)) ≡ g.body
      = ap (take n) (drop-drop h g.place f ∙ ap (λ (q : ℕ). drop q f) (sym s)) ∙ sym o.bytes in
      let past : g.place + (h + n) ≡ g.past = omega (arith, o.ends) in
      ap (λ (q : ℕ). record { place = g.place; id = g.id; start = q; past = g.place + (h + n); body = take n (drop h (drop g.place f)) }) (sym s)
      ∙ ap (λ (q : ℕ). record { place = g.place; id = g.id; start = g.start; past = q; body = take n (drop h (drop g.place f)) }) past
      ∙ ap (λ (d : List ℕ). record { place = g.place; id = g.id; start = g.start; past = g.past; body = d }) body

  no-more : (at : ℕ) (seen : Bool) (prev : ℕ) → 0 < at → frame 255 at seen prev [] ≡ End
  unfolding frame field
  no-more at seen prev l = rw (ne_eqb at 0 (λ z. omega arith))

  scan-covered : (k : ℕ) (seen : Bool) (prev at : ℕ) (gs : List Field) → Covers f at gs → Runs seen prev gs → 0 < at → length f < at + k
      → scan k 255 at seen prev (drop at f) ≡ record { fields = gs; ending = end_at (length f) }
  unfolding scan
  scan-covered zero seen prev at [] c r p l = absurd (omega arith)
  scan-covered zero seen prev at (g ∷ gs) c r p l = absurd (omega (arith, c.0, c.1.starts, c.1.ends, c.1.within))
  scan-covered (suc k) seen prev at [] c r p l =
      rw (drop_of_length-le f {i = at} (omega arith), no-more at seen prev p) (ap (λ (q : ℕ). no_field (end_at q)) c)
  scan-covered (suc k) seen prev at (g ∷ gs) c r p l =
      let o : FieldOf f g = c.1 in
      let e : at ≡ g.place = sym c.0 in
      let w = field-frame seen prev g (omega arith) o r.0 in
      let h = w.0 in
      let n = length g.body in
      let q : g.place + (h + n) ≡ g.past = omega (arith, o.ends, w.1) in
      let rest : drop (h + n) (drop g.place f) ≡ drop g.past f = drop-drop (h + n) g.place f ∙ ap (λ (y : ℕ). drop y f) q in
      let rec = scan-covered k true g.id g.past gs c.2 r.1 (omega (arith, o.starts, o.ends)) (omega (arith, o.starts, o.ends)) in
      rw (e, w.2, field-same g h o w.1, q, rest, rec)

  version-first : take 4 f ≡ 0 ∷ 0 ∷ 0 ∷ 0 ∷ [] → 4 ≤ length f → listing 255 f ≡ scan (length f) 255 4 false 0 (drop 4 f)
  unfolding listing scan frame version zeros
  version-first e l = rw (le-leb 4 (length f) l, e)

  pub framed-listing : (g : Field) (gs : List Field) → Framed f g gs → listing 255 f ≡ record { fields = g ∷ gs; ending = end_at (length f) }
  unfolding order
  framed-listing g gs w =
      let c = w.whole in
      let s : 4 < length f = omega (arith, c.0, c.1.starts, c.1.ends, c.1.within) in
      let r : Runs true g.id gs = subst (λ (i : ℕ). Runs true i gs) (sym w.is-first) (in-order-runs 0 gs w.ordered) in
      version-first w.version (omega arith)
      ∙ scan-covered (length f) false 0 4 (g ∷ gs) c (rw (eq-eqb g.id 0 w.is-first), r) (omega arith) (omega arith)

-- THE OTHER WAY: what the walk lists up to the bytes' end
module _ (f : List ℕ) where
  scan-covers : (k at : ℕ) (seen : Bool) (prev : ℕ) (r : List ℕ) → 0 < at → (scan k 255 at seen prev r).ending ≡ end_at (length f)
      → Chain f seen prev at (scan k 255 at seen prev r).fields → Covers f at (scan k 255 at seen prev r).fields
  unfolding scan
  scan-covers zero at seen prev r a e c = clash cc
  scan-covers (suc k) at seen prev r a e c = go (frame 255 at seen prev r) refl e c (scan-covers k)
    where
      go : (x : Frame) → frame 255 at seen prev r ≡ x → (listed at r x (scan k 255)).ending ≡ end_at (length f)
          → Chain f seen prev at (listed at r x (scan k 255)).fields
          → ((p : ℕ) (s : Bool) (v : ℕ) (q : List ℕ) → 0 < p → (scan k 255 p s v q).ending ≡ end_at (length f)
          → Chain f s v p (scan k 255 p s v q).fields → Covers f p (scan k 255 p s v q).fields)
          → Covers f at (listed at r x (scan k 255)).fields
      go End h e c rec = cc
      go Cut h e c rec = clash cc
      go (Refused n) h e c rec = clash cc
      go Version h e c rec = absurd (omega (arith, version-place 255 at seen prev r h))
      go (Whole i u n) h e c rec = (c.0, c.1, rec (at + (u + n)) true i (drop (u + n) r) (omega arith) e c.3)

  pub listing-covers : (listing 255 f).ending ≡ end_at (length f) → (fields f ≡ [] → ⊥) → Covers f 4 (fields f)
  unfolding listing scan
  listing-covers e n = go (frame 255 0 false 0 f) refl e n (listing-chain f 255)
    where
      go : (x : Frame) → frame 255 0 false 0 f ≡ x → (listed 0 f x (scan (length f) 255)).ending ≡ end_at (length f)
          → ((listed 0 f x (scan (length f) 255)).fields ≡ [] → ⊥)
          → Chain f false 0 4 (listed 0 f x (scan (length f) 255)).fields → Covers f 4 (listed 0 f x (scan (length f) 255)).fields
      go End h e n c = absurd (n refl)
      go Cut h e n c = absurd (n refl)
      go (Refused m) h e n c = absurd (n refl)
      go Version h e n c = scan-covers (length f) 4 false 0 (drop 4 f) (omega arith) e c
      go (Whole i u m) h e n c = absurd (omega arith)

-- a file with a field begins with four zero bytes
zero-byte : (b : ℕ) (t : Bool) → pick (eqb b 0) t false ≡ true → (b ≡ 0) × (t ≡ true)
zero-byte b t = go (eqb b 0) refl
  where
    go : (u : Bool) → eqb b 0 ≡ u → pick u t false ≡ true → (b ≡ 0) × (t ≡ true)
    go true e h = (eqb-true b 0 e, h)
    go false e h = never h refl

four-zeros : (s : List ℕ) → 4 ≤ length s → zeros (take 4 s) ≡ true → take 4 s ≡ 0 ∷ 0 ∷ 0 ∷ 0 ∷ []
unfolding zeros
four-zeros [] l z = absurd (omega arith)
four-zeros (a ∷ []) l z = absurd (omega arith)
four-zeros (a ∷ b ∷ []) l z = absurd (omega arith)
four-zeros (a ∷ b ∷ c ∷ []) l z = absurd (omega arith)
four-zeros (a ∷ b ∷ c ∷ d ∷ s) l z =
    let p = zero-byte a _ z in
    let q = zero-byte b _ p.1 in
    let r = zero-byte c _ q.1 in
    let t = zero-byte d _ r.1 in
    rw (p.0, q.0, r.0, t.0)

version-bytes : (f : List ℕ) → version f ≡ Version → take 4 f ≡ 0 ∷ 0 ∷ 0 ∷ 0 ∷ []
unfolding version
version-bytes f = go (leb 4 (length f)) refl (zeros (take 4 f)) refl
  where
    go : (t : Bool) → leb 4 (length f) ≡ t → (u : Bool) → zeros (take 4 f) ≡ u → pick t (pick u Version (Refused WrongVersion)) Cut ≡ Version
        → take 4 f ≡ 0 ∷ 0 ∷ 0 ∷ 0 ∷ []
    go true e true z h = four-zeros f (leb-true 4 (length f) e) z
    go true e false z h = clash cc
    go false e u z h = clash cc

pub starts-zero : (f : List ℕ) → (fields f ≡ [] → ⊥) → take 4 f ≡ 0 ∷ 0 ∷ 0 ∷ 0 ∷ []
unfolding listing scan frame
starts-zero f n = go (version f) refl n
  where
    go : (x : Frame) → version f ≡ x → ((listed 0 f x (scan (length f) 255)).fields ≡ [] → ⊥) → take 4 f ≡ 0 ∷ 0 ∷ 0 ∷ 0 ∷ []
    go End e k = absurd (k refl)
    go Cut e k = absurd (k refl)
    go (Refused m) e k = absurd (k refl)
    go Version e k = version-bytes f e
    go (Whole i h m) e k = absurd ((whole-headed 255 0 false 0 f i h m (e' e)).place refl)
      where
        e' : version f ≡ Whole i h m → frame 255 0 false 0 f ≡ Whole i h m
        e' e = e

order-next : (prev i : ℕ) → order true prev i ≡ None → Next prev i
unfolding order
order-next prev i = go (ltb i prev) refl (eqb i prev) refl (eqb i 1) refl (ltb i 8) refl
  where
    go : (t : Bool) → ltb i prev ≡ t → (u : Bool) → eqb i prev ≡ u → (v : Bool) → eqb i 1 ≡ v → (y : Bool) → ltb i 8 ≡ y
        → ◌≡◌ {A = Option Refusal} (pick t (Some FieldOrder) (pick u (pick (pick v false y) (Some FieldOrder) None) None)) None → Next prev i
    go true a u c v d y e h = clash cc
    go false a false c v d y e h = let n = eqb-false i prev c in rises (omega (arith, ltb-false i prev a))
    go false a true c true d y e h = again (sym (eqb-true i prev c)) (inl (eqb-true i 1 d))
    go false a true c false d true e h = clash cc
    go false a true c false d false e h = again (sym (eqb-true i prev c)) (inr (ltb-false i 8 e))

pub chain-ordered : (f : List ℕ) (prev at : ℕ) (gs : List Field) → Chain f true prev at gs → InOrder prev gs
chain-ordered f prev at [] c = tt
chain-ordered f prev at (g ∷ gs) c = (order-next prev g.id c.2, chain-ordered f g.id g.past gs c.3)

pub listing-framed : (f : List ℕ) (g : Field) (gs : List Field) → (listing 255 f).ending ≡ end_at (length f) → fields f ≡ g ∷ gs → Framed f g gs
listing-framed f g gs e s =
    let some : fields f ≡ [] → ⊥ = λ n. let z : g ∷ gs ≡ [] = sym s ∙ n in clash cc in
    let c : Chain f false 0 4 (g ∷ gs) = rw s at (listing-chain f 255) in
    let i : g.id ≡ 0 = order-first 0 g.id c.2 in
    record {
      version = starts-zero f some;
      whole = rw s at (listing-covers f e some);
      is-first = i;
      ordered = subst (λ (j : ℕ). InOrder j gs) i (chain-ordered f g.id g.past gs c.3);
    }
