-- What the check of a file has shown, and the walk over its fields. Assumes nothing.
use Rattle.std.specs.Prelude.{Ok, Result}
use Rattle.base.specs.Coded.{Fault}
use mathlib.Core.Path.{◌≡◌, refl, sym, ap, ◌∙◌, subst, subst⁻¹}
use mathlib.Core.Bool.{Bool, true, false}
use mathlib.Core.List.{List, [], ◌∷◌, ◌++◌, append-nil, append_assoc}
use Prim.Native.Nat.{ℕ, ◌+◌, ◌-◌, ◌≤◌, ◌<◌}
use native.Mathlib.Omega.{arith}
use lib.ListN.{length, get_or, take, drop, length-append, length-drop}
use lib.Seq.{take-append_seam}
use lib.Dec.{eqb}
use borrow.Author.Tests.{eqb-true}
use Rattle.base.proofs.Tests.{never}
use Rattle.counts.specs.Groups.{write_groups}
use Rattle.base.proofs.Parts.{Bytes}
use Rattle.counts.specs.Count.{write_count}
use Rattle.frames.specs.Frame.{Field}
use Rattle.frames.specs.Fields.{FieldOf, fields}
use Rattle.base.specs.All.{All, all_none, all-also}
use Rattle.base.proofs.AllLaws.{all_head, all_tail}
use Rattle.frames.proofs.ChainLaws.{listing-chain, chain-fields}
use Rattle.field_checks.specs.Check.{WellFormed, file_pool, check_of}
use Rattle.pieces.specs.Content.{content_of}
use Rattle.pieces.proofs.HeadLaws.{print-other}
use Rattle.pieces.proofs.PutLaws.{InTwo}
use Rattle.rewrite.specs.Preferred.{contents, content, print_fields, print_file, preferred}
use Rattle.preferred_fields.specs.Field.{print_field, field_with}
use Rattle.preferred_fields.specs.View.{Told, Unchanged}
use Rattle.frames.specs.Covers.{Covers}
use Rattle.field_checks.specs.File.{AsZone}
use Rattle.check_steps.specs.Flags.{ZoneFlagged, AllFlagged, FlagsChecked}
use Rattle.field_checks.proofs.WellFormedLaws.{good-well-formed}
use Rattle.field_checks.proofs.ZoneIdLaws.{zones-read}
use Rattle.sizes.specs.View.{IsField, part_of}
use Rattle.sizes.specs.declared.Extent.{Extent}
use Rattle.sizes.proofs.FieldLaws.{turned, none_left, field-empty, read-stands}
use Rattle.preferred_walks.specs.View.{Readable, Rewritable, Empty}
use Rattle.rewrite.proofs.ZoneLaws.{zone-kept}
use Rattle.rewrite.proofs.KeptLaws.{field-bytes}
use Rattle.rewrite.proofs.Rewriting.{file-covers, never-longer, preferred-limit}

-- every zone of a well-formed file has a content that can be printed
zones-readable : (f flags : List ℕ) (gs : List Field) → Bytes f → All (AsZone (file_pool (fields f))) gs → All (FieldOf f) gs → All (ZoneFlagged flags) gs
    → All (Readable flags) gs
zones-readable f flags [] b r o h = all_none
zones-readable f flags (g ∷ gs) b r o h = all-also first (zones-readable f flags gs b (all_tail r) (all_tail o) (all_tail h))
  where
    first : Readable flags g
    first i =
        let z = all_head r i in
        let k = zone-kept (length (file_pool (fields f))) g.body z.zone [] (field-bytes f g b (all_head o)) z.parsed in
        record { content = record { content = content_of 1 g.body; is = k.read; shorter = k.shorter; exact = k.exact }; flagged = all_head h i }

-- A WELL-FORMED FILE IS READY to be rewritten
pub file-ready : (f flags : List ℕ) → WellFormed f → Bytes f → AllFlagged f flags → Rewritable f flags
file-ready f flags w b h =
    record {
      covers = file-covers f w;
      readable = zones-readable f flags (fields f) b (zones-read f w) (chain-fields f false 0 4 (fields f) (listing-chain f 255)) h;
      shorter = never-longer f w b;
      limit = preferred-limit f w b;
    }

-- and so is a file that the check found good, with the flags that it left
pub checked-ready : (f flags : List ℕ) (v : Result (Unit {0}) Fault) → v ≡ check_of f → FlagsChecked f flags v → v ≡ Ok tt → Bytes f → Rewritable f flags
checked-ready f flags v e h g b = file-ready f flags (good-well-formed f (sym e ∙ g)) b (h.means g)

-- the walk over f stands at a place: the fields before it make `done` of the preferred ones
pub record Walking (f flags : List ℕ) (at : ℕ) (done : List ℕ) : Type 0 where
  pub rest : List Field
  pub covers : Covers f at rest
  pub readable : All (Readable flags) rest
  pub all : print_fields (content f) ≡ done ++ print_fields (contents rest)

pub walking_start : (f flags : List ℕ) → Rewritable f flags → Walking f flags 4 []
walking_start f flags r = record { rest = fields f; covers = r.covers; readable = r.readable; all = refl }

pub walking-done : (f flags : List ℕ) (at : ℕ) (done : List ℕ) → Walking f flags at done → length f ≤ at → print_fields (content f) ≡ done
unfolding contents print_fields
walking-done f flags at done w l =
    w.all ∙ ap (λ (gs : List Field). done ++ print_fields (contents gs)) (none_left f at w.rest w.covers l) ∙ append-nil done

pub walking-nil : (f flags : List ℕ) (at : ℕ) (done : List ℕ) → Walking f flags at done → Walking f flags at (done ++ [])
walking-nil f flags at done w = rw (append-nil done) w

pub walking-sum : (f flags : List ℕ) (at : ℕ) (done : List ℕ) → Walking f flags at done → length done ≤ length (print_fields (content f))
walking-sum f flags at done w = rw (w.all, length-append) (omega arith)

-- the field r that was read at the place, and the walk behind it
pub record Turn (f flags : List ℕ) (at : ℕ) (done : List ℕ) (r : Extent) : Type 0 where
  pub ordered : r.start ≤ r.end
  pub ahead : at < r.start
  pub farther : at < r.end
  pub within : r.end ≤ length f
  pub readable : r.id ≡ 1 → Told flags (part_of f r)
  pub next : Walking f flags r.end (done ++ print_field (field_with r.id (part_of f r)))

pub walking-turn : (f flags : List ℕ) (at : ℕ) (done : List ℕ) (r : Extent) → Walking f flags at done → at < length f → IsField f at r
    → Turn f flags at done r
unfolding contents print_fields
walking-turn f flags at done r w l i =
    let u = turned f at w.rest r w.covers l i in
    let g : Field = u.field in
    let a : All (Readable flags) (g ∷ u.others) = subst (All (Readable flags)) u.split w.readable in
    record {
      ordered = u.ordered;
      ahead = u.farther;
      farther = omega (arith, u.farther, u.ordered);
      within = u.within;
      readable = λ z. subst⁻¹ (Told flags) u.body (all_head a (sym u.id ∙ z));
      next = record {
        rest = u.others;
        covers = u.covers;
        readable = all_tail a;
        all =
            w.all
            ∙ ap (λ (gs : List Field). done ++ print_fields (contents gs)) u.split
            ∙ sym (append_assoc done (print_field (field_with g.id g.body)) (print_fields (contents u.others)))
            ∙ ap (λ (x : List ℕ). (done ++ print_field (field_with g.id x)) ++ print_fields (contents u.others)) (sym u.body)
            ∙ ap (λ (j : ℕ). (done ++ print_field (field_with j (part_of f r))) ++ print_fields (contents u.others)) (sym u.id);
      };
    }

-- what is done and the field that follows, in an output with room for the file
pub turn_two : {f flags : List ℕ} {at : ℕ} {done : List ℕ} {r : Extent} → Turn f flags at done r → (d : List ℕ) → length (print_fields (content f)) ≤ length d
    → InTwo (done ++ print_field (field_with r.id (part_of f r))) done (print_field (field_with r.id (part_of f r))) d
turn_two {f} {flags} {at} {done} {r} t d h =
    let n = walking-sum f flags r.end _ t.next in
    record { all = refl; room = omega arith }

pub turn-sum : {f flags : List ℕ} {at : ℕ} {done : List ℕ} {r : Extent} → Turn f flags at done r
    → length done + length (print_field (field_with r.id (part_of f r))) ≤ length (print_fields (content f))
turn-sum {f} {flags} {at} {done} {r} t = let n = walking-sum f flags r.end _ t.next in rw length-append at n

-- the version, then the fields
pub file-two : (f d : List ℕ) → length (preferred f) ≤ length d → InTwo (preferred f) (0 ∷ 0 ∷ 0 ∷ 0 ∷ []) (print_fields (content f)) d
unfolding print_file
file-two f d h = record { all = refl; room = h }

-- the bytes of f from one place to another are fields that are in their preferred form
pub record Pending (f : List ℕ) (from at : ℕ) (held : List ℕ) : Type 0 where
  pub whole : held ++ drop at f ≡ drop from f
  pub order : from ≤ at
  pub within : at ≤ length f

pub pending-none : (f : List ℕ) (at : ℕ) → at ≤ length f → Pending f at at []
pending-none f at h = record { whole = refl; order = omega arith; within = h }

pub pending-start : (f flags : List ℕ) → Rewritable f flags → Pending f 4 4 []
pending-start f flags r = pending-none f 4 (covers-within (fields f) r.covers)
  where
    covers-within : (gs : List Field) → Covers f 4 gs → 4 ≤ length f
    covers-within [] c = omega arith
    covers-within (g ∷ gs) c = omega (arith, c.0, c.1.starts, c.1.ends, c.1.within)

module _ {f held : List ℕ} {from at : ℕ} (p : Pending f from at held) where
  pending-length : length held ≡ at - from
  pending-length =
      let e : length held + (length f - at) ≡ length f - from = (rw (length-append, length-drop, length-drop) at (ap length p.whole)) in
      omega (arith, p.order, p.within)

  -- they are what is copied
  pub pending-is : take (at - from) (drop from f) ≡ held
  pending-is = rw (← pending-length, ← p.whole) (take-append_seam held (drop at f))

  pub pending-two : (done d : List ℕ) → length (done ++ held) ≤ length d → InTwo (done ++ held) done (take (at - from) (drop from f)) d
  pending-two done d h = record { all = ap (λ (x : List ℕ). done ++ x) (sym pending-is); room = h }

  -- up to the end
  pub pending-last : (done d : List ℕ) → length (done ++ held) ≤ length d → length f ≤ at
      → InTwo (done ++ held) done (take (length f - from) (drop from f)) d
  pending-last done d h l = let e : length f ≡ at = omega (arith, p.within) in rw e (pending-two done d h)

  -- one field more
  module _ (flags done : List ℕ) (r : Extent) (b : Bytes f) (w : Walking f flags at (done ++ held)) (l : at < length f) (i : IsField f at r)
      (t : Bool) (u : Unchanged r.id (r.start - at) (part_of f r) t) (q : t ≡ true) where
    field-same : print_field (field_with r.id (part_of f r)) ≡ r.id ∷ (write_count (length (part_of f r)) ++ part_of f r)
    unfolding print_field
    field-same = rw (u.same q)

    pub pending_next : Pending f from r.end (held ++ print_field (field_with r.id (part_of f r)))
    pending_next =
        let x = walking-turn f flags at (done ++ held) r w l i in
        record {
          whole =
              append_assoc held (print_field (field_with r.id (part_of f r))) (drop r.end f)
              ∙ ap (λ (x : List ℕ). held ++ x)
              (ap (λ (x : List ℕ). x ++ drop r.end f) field-same ∙ read-stands f b at w.rest r w.covers l i (u.size q))
              ∙ p.whole;
          order = omega (arith, p.order, x.farther);
          within = x.within;
        }

    pub walking-over : Walking f flags r.end (done ++ (held ++ print_field (field_with r.id (part_of f r))))
    walking-over =
        let x = walking-turn f flags at (done ++ held) r w l i in
        subst (Walking f flags r.end) (append_assoc done held (print_field (field_with r.id (part_of f r)))) x.next

  -- a field of no data more
  module _ (flags done : List ℕ) (b : Bytes f) (w : Walking f flags at (done ++ held)) (t : Bool) (u : Empty f at t) (q : t ≡ true) where
    abbrev empty : Extent
    empty = record { id = get_or f at 0; start = at + 2; end = at + 2 }

    inside : at < length f
    inside = omega (arith, u.inside q)

    read : IsField f at empty
    read = field-empty f at (u.inside q) (u.size q)

    no-data : part_of f empty ≡ []
    no-data = let z : at + 2 - (at + 2) ≡ 0 = omega arith in rw z refl

    unchanged : Unchanged (get_or f at 0) (at + 2 - at) (part_of f empty) true
    unfolding write_groups
    unchanged =
        let z : at + 2 - at ≡ 2 = omega arith in
        rw (no-data, z) (record { same = λ _. print-other (get_or f at 0) [] (u.other q); size = λ _. refl })

    pub empty-next : Pending f from (at + 2) (held ++ print_field (field_with (get_or f at 0) (part_of f empty)))
    empty-next = pending_next flags done empty b w inside read true unchanged refl

    pub empty-over : Walking f flags (at + 2) (done ++ (held ++ print_field (field_with (get_or f at 0) (part_of f empty))))
    empty-over = walking-over flags done empty b w inside read true unchanged refl

-- what tells such a field
pub empty-not : (f : List ℕ) (at : ℕ) → Empty f at false
empty-not f at = record { inside = λ t. never t refl; other = λ t. never t refl; size = λ t. never t refl }

pub empty-so : (f : List ℕ) (at : ℕ) → at + 2 ≤ length f → (get_or f at 0 ≡ 1 → ⊥) → Empty f at (eqb (get_or f (at + 1) 0) 0)
empty-so f at l n = record { inside = λ t. l; other = λ t. n; size = λ t. eqb-true (get_or f (at + 1) 0) 0 t }
