-- The walk to the first field that isn't read. Assumes nothing.
use mathlib.Core.Path.{◌≡◌, refl, sym, ap, ◌∙◌}
use mathlib.Core.Bool.{Bool, true, false}
use mathlib.Core.List.{List}
use mathlib.Core.Option.{none, some}
use Prim.Native.Nat.{ℕ, ◌≤◌, ◌<◌}
use lib.ListN.{length}
use Rattle.base.specs.Pick.{pick}
use Rattle.frames.specs.Frame.{Field}
use Rattle.frames.specs.Fields.{fields}
use Rattle.frames.specs.Covers.{Covers}
use Rattle.sizes.specs.View.{IsField}
use Rattle.sizes.specs.declared.Extent.{Extent}
use Rattle.sizes.proofs.FieldLaws.{Turned, turned, none_left}
use Rattle.closed_files.specs.File.{unread_id, first_unread}
use Rattle.closed_walks.specs.View.{Walkable}

module _ (f : List ℕ) where
  -- no field before the place is one that isn't read
  pub record Seeking (at : ℕ) : Type 0 where
    pub rest : List Field
    pub covers : Covers f at rest
    pub same : first_unread (fields f) ≡ first_unread rest

  pub seeking-start : Walkable f → Seeking 4
  seeking-start w = record { rest = fields f; covers = w.covers; same = refl }

  module _ (at : ℕ) (s : Seeking at) where
    module _ (r : Extent) (l : at < length f) (i : IsField f at r) where
      pub turn : Turned f at s.rest r
      turn = turned f at s.rest r s.covers l i

      -- by what the test says of the field's ID
      by : (t : Bool) → unread_id r.id ≡ t → first_unread (fields f) ≡ pick t (some at) (first_unread turn.others)
      unfolding first_unread
      by t h =
          let u = turn in
          s.same ∙ ap first_unread u.split ∙ ap (λ (j : ℕ). pick (unread_id j) (some u.field.place) (first_unread u.others)) (sym u.id)
          ∙ ap (λ (p : ℕ). pick (unread_id r.id) (some p) (first_unread u.others)) u.place
          ∙ ap (λ (b : Bool). pick b (some at) (first_unread u.others)) h

      pub seeking-found : unread_id r.id ≡ true → first_unread (fields f) ≡ some at
      seeking-found h = by true h

      pub seeking-next : unread_id r.id ≡ false → Seeking r.end
      seeking-next h = record { rest = turn.others; covers = turn.covers; same = by false h }

    pub seeking-end : length f ≤ at → first_unread (fields f) ≡ none
    unfolding first_unread
    seeking-end l = s.same ∙ ap first_unread (none_left f at s.rest s.covers l)
