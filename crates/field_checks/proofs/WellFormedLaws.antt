-- A file is well formed exactly where the check gives 0. Assumes nothing.
use Rattle.base.specs.declared.Refusal.TheVariants.{FirstField, WrongVersion}
use Rattle.base.specs.Coded.{Fault}
use Rattle.std.specs.Prelude.{Err, Ok, Result}
use mathlib.Core.Path.{◌≡◌, refl, sym, ◌∙◌, ap}
use mathlib.Core.Bool.{Bool, true, false}
use mathlib.Core.List.{List, [], ◌∷◌}
use Prim.Native.Nat.{ℕ, zero, suc, ◌<◌}
use native.Mathlib.Omega.{arith}
use lib.ListN.{length, take, drop}
use lib.Dec.{leb}
use borrow.Author.Tests.{eq-eqb, ne_eqb}
use Rattle.base.specs.Pick.{pick}
use Rattle.frames.specs.Frame.{zeros, version, frame, Field}
use Rattle.frames.specs.Machine.{Out, found, refused, cut, ended, walk}
use Rattle.frames.specs.Fields.{end_at, listed, scan, listing, fields}
use Rattle.frames.specs.declared.Frame.{Frame}
use Rattle.frames.specs.declared.Frame.TheVariants.{End, Cut, Refused as Unframed, Version, Whole}
use Rattle.frames.proofs.HeadLaws.{version-place}
use Rattle.frames.proofs.StepLaws.{version-room}
use Rattle.frames.proofs.ChainLaws.{Chain, listing-chain}
use Rattle.frames.proofs.PartLaws.{walk-ended}
use Rattle.field_checks.specs.Check.{TextPlace, nowhere, placed, Memory, start, job, concluded, concludes, conclusion}
use Rattle.field_checks.specs.Check.{verdict_of, check_of, WellFormed}
use Rattle.base.proofs.Tests.{clash}
use Rattle.field_checks.specs.declared.Conclusion.TheVariants.{Refused as Ill}

-- at the end of bytes that are the version alone
pub none_seen : (t : TextPlace) (p : ℕ) → p ≡ 4 → Ill FirstField p ≡ concluded t p
unfolding concluded
none_seen nowhere p q = rw (eq-eqb p 4 q)
none_seen (placed a n) p q = rw (eq-eqb p 4 q)

version-no-end : (r : List ℕ) → version r ≡ End → ⊥
unfolding version
version-no-end r = go (leb 4 (length r)) (zeros (take 4 r))
  where
    go : (p q : Bool) → pick p (pick q Version (Unframed WrongVersion)) Cut ≡ End → ⊥
    go true true e = clash cc
    go true false e = clash cc
    go false q e = clash cc

-- bytes that end with the version: no field begins behind it
behind-version : (k : ℕ) (r : List ℕ) (p : ℕ) → 0 < k → (scan k 255 4 false 0 r).ending ≡ end_at p
    → (scan k 255 4 false 0 r).fields ≡ [] → p ≡ 4
unfolding scan
behind-version zero r p l e n = absurd (omega arith)
behind-version (suc k) r p l e n = go (frame 255 4 false 0 r) refl e n
  where
    go : (x : Frame) → frame 255 4 false 0 r ≡ x → (listed 4 r x (scan k 255)).ending ≡ end_at p
        → (listed 4 r x (scan k 255)).fields ≡ [] → p ≡ 4
    go End q e n = cc
    go Cut q e n = clash cc
    go (Unframed m) q e n = clash cc
    go Version q e n = absurd (omega (arith, version-place 255 4 false 0 r q))
    go (Whole i h m) q e n = clash cc

no-field : (f : List ℕ) (p : ℕ) → (listing 255 f).ending ≡ end_at p → fields f ≡ [] → p ≡ 4
unfolding listing scan frame
no-field f p e n = go (version f) refl e n
  where
    go : (x : Frame) → version f ≡ x → (listed 0 f x (scan (length f) 255)).ending ≡ end_at p
        → (listed 0 f x (scan (length f) 255)).fields ≡ [] → p ≡ 4
    go End q e n = absurd (version-no-end f q)
    go Cut q e n = clash cc
    go (Unframed m) q e n = clash cc
    go Version q e n = behind-version (length f) (drop 4 f) p (omega (arith, (version-room 255 0 false 0 f (sym q)).1)) e n
    go (Whole i h m) q e n = clash cc

-- a field ends past the version
pub some-field : (f : List ℕ) (gs : List Field) → Chain f false 0 4 gs → (gs ≡ [] → ⊥) → 4 < length f
some-field f [] c n = absurd (n refl)
some-field f (g ∷ gs) c n = omega (arith, c.0, c.1.starts, c.1.ends, c.1.within)

good-end : (t : TextPlace) (p : ℕ) → (p ≡ 4 → ⊥) → verdict_of (concluded t p) ≡ Ok tt
unfolding concluded
good-end nowhere p o = rw (ne_eqb p 4 o)
good-end (placed a n) p o = rw (ne_eqb p 4 o)

-- THE CHECK GIVES 0 TO A WELL-FORMED FILE
pub well-formed-good : (f : List ℕ) → WellFormed f → check_of f ≡ Ok tt
unfolding conclusion
well-formed-good f w =
    let l = some-field f (fields f) (listing-chain f 255) w.some-field in
    rw w.ends (good-end w.memory.text (length f) (λ z. omega arith))

-- and to no other
pub good-well-formed : (f : List ℕ) → check_of f ≡ Ok tt → WellFormed f
unfolding conclusion
good-well-formed f = go (walk job start f) refl
  where
    go : (o : Out Memory ⊥) → walk job start f ≡ o → verdict_of (concludes o) ≡ Ok tt → WellFormed f
    go (found v p) e h = absurd v
    go (refused n p) e h = clash cc
    go (cut p) e h = clash cc
    go (ended m p) e h =
        let t = walk-ended job start m f p e in
        record {
          memory = m;
          ends = e ∙ ap (ended m) t.all;
          some-field = λ n. bad-end (ap verdict_of (none_seen m.text p (no-field f p t.whole n)) ∙ h);
        }
      where
        bad-end : ◌≡◌ {A = Result (Unit {0}) Fault} (Err (FirstField, p)) (Ok tt) → ⊥
        bad-end q = clash cc
