-- Uses counted while walking a field. Assumes nothing.
use mathlib.Core.Path.{◌≡◌, refl, sym, ap, ◌∙◌}
use mathlib.Core.List.{List, ◌∷◌}
use Prim.Native.Nat.{ℕ, ◌+◌, ◌-◌, ◌≤◌, ◌<◌}
use native.Mathlib.Omega.{arith}
use lib.ListN.{length, get_or, drop}
use Rattle.use_order.specs.Order.{mention, mention_all}
use Rattle.use_order.proofs.NumberLaws.{length-mention, mention-most}
use Rattle.mentions.specs.declared.Stage.{Stage}
use Rattle.mentions.specs.Walk.{first_stage}
use Rattle.mentions.specs.Content.{Content, content_at, numbers_in, numbers_of}
use Rattle.mentions.specs.View.{MentionAt, NoMention}
use Rattle.mentions.proofs.ContentLaws.{content-next, content-end}
use Rattle.mention_runs.specs.Run.{Room, Counted}
use Rattle.renumbering.specs.Table.{Fits}

module _ (i : ℕ) (s start : List ℕ) where
  -- the walk stands at a place: the uses so far and the mentions from there on make the uses of the whole
  pub record Counting (uses : List ℕ) (place : ℕ) (σ : Stage) : Type 0 where
    pub within : place ≤ length s
    pub all : length uses ≡ length start
    pub room : (k : ℕ) → get_or uses k 0 + (length s - place) ≤ 4294967295
    pub same : mention_all (numbers_in (content_at σ (drop place s)).mentions) uses ≡ mention_all (numbers_of i s) start

  pub counting-start : (σ : Stage) → σ ≡ first_stage i → Fits start (length s) → Counting start 0 σ
  counting-start σ e f = rw e (record { within = omega arith; all = refl; room = λ k. omega (arith, f.room k); same = refl })

  module _ (uses : List ℕ) (place : ℕ) (σ : Stage) (c : Counting uses place σ) where
    -- behind a run
    pub run_room : Room uses (length s - place)
    run_room = record { room = c.room }

    pub counting-run : (b : ℕ) (τ : Stage) (w : List ℕ) → Counted s place σ uses b τ w → Counting w b τ
    counting-run b τ w r =
        record {
          within = r.within;
          all = r.all ∙ c.all;
          room = λ k. omega (arith, c.room k, r.most k, r.onward, r.within);
          same = r.same ∙ c.same;
        }

    pub counting-next : (τ : Stage) (v p e : ℕ) (after : List ℕ) → MentionAt s place σ τ v p e → after ≡ mention v uses → Counting after e τ
    unfolding numbers_in mention_all
    counting-next τ v p e after m h =
        rw h (record {
          within = m.last;
          all = length-mention v uses ∙ c.all;
          room = λ k. let z = mention-most v k uses in omega (arith, c.room k, m.first, m.rises, m.last);
          same = sym (ap (λ (x : Content). mention_all (numbers_in x.mentions) uses) (content-next σ (drop place s) _ (drop e s) m.read)) ∙ c.same;
        })

    pub counting-room : (τ : Stage) (v p e : ℕ) → MentionAt s place σ τ v p e → get_or uses v 0 < 4294967295
    counting-room τ v p e m = omega (arith, c.room v, m.first, m.rises, m.last)

    pub counting-end : NoMention s place σ → uses ≡ mention_all (numbers_of i s) start
    unfolding numbers_in mention_all
    counting-end n = sym (ap (λ (x : Content). mention_all (numbers_in x.mentions) uses) (content-end σ (drop place s) n.fault n.none)) ∙ c.same
