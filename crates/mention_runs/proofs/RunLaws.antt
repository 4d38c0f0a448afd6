-- Uses counted over a run of mentions. Assumes nothing.
use mathlib.Core.Path.{◌≡◌, refl, sym, ap, ◌∙◌, subst⁻¹}
use mathlib.Core.Bool.{Bool}
use mathlib.Core.List.{List}
use Prim.Native.Nat.{ℕ, ◌+◌, ◌-◌, ◌≤◌, ◌<◌}
use native.Mathlib.Omega.{arith}
use lib.ListN.{length, get_or, set, drop}
use lib.Seq.{set_out}
use Rattle.base.specs.Parsed.{parse}
use Rattle.counts.specs.Count.{read_count}
use Rattle.places.specs.Placed.{at, Stands}
use Rattle.places.proofs.PlaceLaws.{on, here}
use Rattle.use_order.specs.Order.{mention, mention_all}
use Rattle.use_order.proofs.NumberLaws.{length-mention, mention-most}
use Rattle.mentions.specs.declared.Stage.{Stage}
use Rattle.mentions.specs.declared.Stage.TheVariants.{Interval, Names}
use Rattle.mentions.specs.Walk.{location_names, ahead_of}
use Rattle.mentions.specs.Content.{Content, numbers_in}
use Rattle.mentions.specs.View.{MentionAt}
use Rattle.mentions.proofs.WalkLaws.{names_more, names-next}
use Rattle.mentions.proofs.ContentLaws.{content-next, mention-here}
use Rattle.zone_mentions.specs.declared.Start.{Start}
use Rattle.zone_mentions.specs.Short.{StartAt}
use Rattle.mention_runs.specs.Run.{Room, Counted}

pub mention-some : (k : ℕ) (u : List ℕ) → set u k (get_or u k 0 + 1) ≡ mention k u
unfolding mention
mention-some k u = refl

pub mention-none : (k : ℕ) (u : List ℕ) → length u ≤ k → u ≡ mention k u
unfolding mention
mention-none k u h = sym (set_out u k (get_or u k 0 + 1) h)

-- the next mention in a run
module _ (s : List ℕ) (place : ℕ) (h : place ≤ length s) (n : ℕ) (l : 0 < n) (v e : ℕ) where
  pub name-here : (locations : ℕ) (numbered : Bool) → Stands s (parse read_count (drop place s)) (at v e)
      → MentionAt s place (Names n locations numbered) (Names (n - 1) locations numbered) v place e
  unfolding ahead_of
  name-here locations numbered c = mention-here s place (Names n locations numbered) _ _ (names_more s place n locations numbered l h) h v e c

-- the name of the next interval, whatever its codes
pub start-here : (s : List ℕ) (place : ℕ) → place ≤ length s → (last n : ℕ) → (n ≡ 0 → ⊥) → (r : Start) → StartAt s place last r → (r.place ≡ 0 → ⊥)
    → (v e : ℕ) → Stands s (parse read_count (drop r.place s)) (at v e) → MentionAt s place (Interval last n) (Interval r.start (n - 1)) v r.place e
unfolding ahead_of
start-here s place h last n l r a z v e c = mention-here s place (Interval last n) _ _ (a.ahead z n l) h v e c

-- the first name of the next location
pub location-here : (s : List ℕ) (place : ℕ) → place ≤ length s → (n locations : ℕ) (numbered : Bool) → n ≤ 0 → (locations ≡ 0 → ⊥)
    → (m p : ℕ) → Stands s (location_names numbered (drop place s)) (at m p) → (v e : ℕ) → Stands s (parse read_count (drop p s)) (at v e)
    → MentionAt s place (Names n locations numbered) (Names m (locations - 1) numbered) v p e
unfolding ahead_of
location-here s place h n l numbered z q m p a v e c =
    mention-here s place (Names n l numbered) _ _ (names-next s place n l numbered _ z q (on a _ _ _ _ refl (here _ _ _ _ refl a.within))) h v e c

pub counted_none : (s : List ℕ) (a : ℕ) (σ : Stage) (u : List ℕ) → a ≤ length s → Counted s a σ u a σ u
counted_none s a σ u h = record { onward = omega arith; within = h; all = refl; most = λ k. omega arith; same = refl }

module _ (s : List ℕ) (a : ℕ) (σ : Stage) (u : List ℕ) (b : ℕ) (τ : Stage) (w : List ℕ) (c : Counted s a σ u b τ w) (υ : Stage) (v p e : ℕ) (m : MentionAt s b τ υ v p e) where
  pub counted-room : Room u (length s - a) → get_or w v 0 < 4294967295
  counted-room r = omega (arith, r.room v, c.most v, c.onward, m.first, m.rises, m.last)

  pub counted_next : (after : List ℕ) → after ≡ mention v w → Counted s a σ u e υ after
  unfolding numbers_in mention_all
  counted_next after h =
      rw h (record {
        onward = omega (arith, c.onward, m.first, m.rises);
        within = m.last;
        all = length-mention v w ∙ c.all;
        most = λ k. let z = mention-most v k w in omega (arith, c.most k, m.first, m.rises);
        same = sym (ap (λ (x : Content). mention_all (numbers_in x.mentions) w) (content-next τ (drop b s) _ (drop e s) m.read)) ∙ c.same;
      })

-- two runs, one behind the other
module _ (s : List ℕ) (a : ℕ) (σ : Stage) (u : List ℕ) (b : ℕ) (τ : Stage) (w : List ℕ) (c : Counted s a σ u b τ w) where
  pub counted-rest : Room u (length s - a) → Room w (length s - b)
  counted-rest r = record { room = λ k. omega (arith, r.room k, c.most k, c.onward, c.within) }

  pub counted-on : (e : ℕ) (υ : Stage) (x : List ℕ) → Counted s b τ w e υ x → Counted s a σ u e υ x
  counted-on e υ x d =
      record {
        onward = omega (arith, c.onward, d.onward);
        within = d.within;
        all = d.all ∙ c.all;
        most = λ k. omega (arith, c.most k, d.most k);
        same = d.same ∙ c.same;
      }

-- from a stage, where it is known which
pub counted_is : (s : List ℕ) (a : ℕ) (σ σ' : Stage) (u : List ℕ) (b : ℕ) (τ : Stage) (w : List ℕ) → σ ≡ σ' → Counted s a σ' u b τ w → Counted s a σ u b τ w
counted_is s a σ σ' u b τ w e c = subst⁻¹ (λ (υ : Stage). Counted s a υ u b τ w) e c
