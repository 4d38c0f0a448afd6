-- The mentions of all fields counted. Assumes nothing.
use mathlib.Core.Path.{◌≡◌, refl, sym, ap, ◌∙◌, subst}
use mathlib.Core.List.{List, [], ◌∷◌, ◌++◌}
use Prim.Native.Nat.{ℕ, zero, suc, ◌+◌, ◌-◌, ◌≤◌, ◌<◌}
use native.Mathlib.Omega.{arith}
use lib.ListN.{length, get_or, length-take}
use Rattle.base.specs.All.{All}
use Rattle.base.specs.Parsed.{Parsed, got, bad}
use Rattle.base.proofs.AllLaws.{all_head, all_tail}
use Rattle.frames.specs.Frame.{Field}
use Rattle.frames.specs.Fields.{fields}
use Rattle.frames.specs.Covers.{Covers}
use Rattle.sizes.specs.View.{IsField, part_of}
use Rattle.sizes.specs.declared.Extent.{Extent}
use Rattle.sizes.proofs.FieldLaws.{Turned, turned, none_left}
use Rattle.use_order.specs.Order.{mention, mention_all}
use Rattle.use_order.proofs.NumberLaws.{mention-most, length-uses}
use Rattle.mentions.specs.declared.Stage.{Stage}
use Rattle.mentions.specs.Walk.{first_stage}
use Rattle.mentions.specs.Content.{Mention, parse_mention, onward, content_from, numbers_in, numbers_of}
use Rattle.mentions.proofs.ContentLaws.{mention-left}
use Rattle.renumbering.specs.Table.{Fits}
use Rattle.closed_files.specs.File.{mentions_in}
use Rattle.closed_fields.specs.View.{PoolChecked}
use Rattle.closed_walks.specs.View.{ZoneStepped, Walkable}

mention-append : (a b u : List ℕ) → mention_all (a ++ b) u ≡ mention_all b (mention_all a u)
unfolding mention_all
mention-append [] b u = refl
mention-append (k ∷ a) b u = mention-append a b (mention k u)

uses-most : (ks u : List ℕ) (k : ℕ) → get_or (mention_all ks u) k 0 ≤ get_or u k 0 + length ks
unfolding mention_all
uses-most [] u k = omega arith
uses-most (j ∷ ks) u k = let r = uses-most ks (mention j u) k in let m = mention-most j k u in omega arith

-- a field mentions no more strings than it has bytes
numbers-most : (n : ℕ) (σ : Stage) (s : List ℕ) → length (numbers_in (content_from n σ s).mentions) ≤ length s
unfolding content_from numbers_in
numbers-most zero σ s = omega arith
numbers-most (suc n) σ s = go (parse_mention σ s) refl (λ τ r. numbers-most n τ r)
  where
    go : (p : Parsed Mention) → parse_mention σ s ≡ p → ((τ : Stage) (r : List ℕ) → length (numbers_in (content_from n τ r).mentions) ≤ length r)
        → length (numbers_in (onward s p (content_from n)).mentions) ≤ length s
    go (got m r) e rec = let l = mention-left σ s m r e in let h = rec m.behind r in omega arith
    go (bad k) e rec = omega arith

module _ (f start : List ℕ) where
  -- the uses so far and the mentions from the place on make the uses of the file
  pub record Counting (uses : List ℕ) (at : ℕ) : Type 0 where
    pub rest : List Field
    pub covers : Covers f at rest
    pub pools : All (λ g. PoolChecked g.id g.body) rest
    pub zones : All (λ g. ZoneStepped g.id g.body) rest
    pub all : length uses ≡ length start
    pub room : (k : ℕ) → get_or uses k 0 + (length f - at) ≤ 4294967295
    pub same : mention_all (mentions_in rest) uses ≡ mention_all (mentions_in (fields f)) start

  pub counting-start : Walkable f → Fits start (length f) → Counting start 4
  counting-start w t = record { rest = fields f; covers = w.covers; pools = w.pools; zones = w.zones; all = refl; room = λ k. omega (arith, t.room k); same = refl }

  module _ (uses : List ℕ) (at : ℕ) (c : Counting uses at) where
    module _ (r : Extent) (l : at < length f) (i : IsField f at r) where
      pub turn : Turned f at c.rest r
      turn = turned f at c.rest r c.covers l i

      pools-turned : All (λ g. PoolChecked g.id g.body) (turn.field ∷ turn.others)
      pools-turned = subst (All (λ g. PoolChecked g.id g.body)) turn.split c.pools

      pub pool-here : PoolChecked r.id (part_of f r)
      pool-here = let u = turn in rw (u.id, u.body) (all_head pools-turned)

      zones-turned : All (λ g. ZoneStepped g.id g.body) (turn.field ∷ turn.others)
      zones-turned = subst (All (λ g. ZoneStepped g.id g.body)) turn.split c.zones

      pub zone-here : ZoneStepped r.id (part_of f r)
      zone-here = let u = turn in rw (u.id, u.body) (all_head zones-turned)

      part_length : length (part_of f r) ≤ r.end - r.start
      part_length = rw length-take (omega arith)

      pub field_fits : Fits uses (length (part_of f r))
      field_fits = let u = turn in let p = part_length in record { room = λ k. omega (arith, c.room k, u.farther, u.ordered, u.within) }

      pub counting-next : (after : List ℕ) → after ≡ mention_all (numbers_of r.id (part_of f r)) uses → Counting after r.end
      unfolding mentions_in
      counting-next after e =
          let u = turn in
          let p = part_length in
          let b : numbers_of u.field.id u.field.body ≡ numbers_of r.id (part_of f r) = ap (λ (j : ℕ). numbers_of j u.field.body) (sym u.id) ∙ ap (numbers_of r.id) (sym u.body) in
          rw e (record {
            rest = u.others;
            covers = u.covers;
            pools = all_tail pools-turned;
            zones = all_tail zones-turned;
            all = length-uses (numbers_of r.id (part_of f r)) uses ∙ c.all;
            room = λ k. let m = uses-most (numbers_of r.id (part_of f r)) uses k in let n : length (numbers_of r.id (part_of f r)) ≤ length (part_of f r) = numbers-most (suc (length (part_of f r))) (first_stage r.id) (part_of f r) in omega (arith, c.room k, u.farther, u.ordered, u.within);
            same =
                sym (mention-append (numbers_of r.id (part_of f r)) (mentions_in u.others) uses)
                ∙ ap (λ (q : List ℕ). mention_all (q ++ mentions_in u.others) uses) (sym b)
                ∙ sym (ap (λ (q : List Field). mention_all (mentions_in q) uses) u.split)
                ∙ c.same;
          })

    pub counting-end : length f ≤ at → uses ≡ mention_all (mentions_in (fields f)) start
    unfolding mentions_in mention_all
    counting-end l = sym (ap (λ (q : List Field). mention_all (mentions_in q) uses) (none_left f at c.rest c.covers l)) ∙ c.same
