-- The mentions of a field's data one by one, and what the content says of the data. Assumes nothing.
use Rattle.base.specs.declared.Refusal.{Refusal}
use mathlib.Core.Path.{◌≡◌, refl, ap}
use mathlib.Core.List.{List, []}
use Prim.Native.Nat.{ℕ, zero, suc, ◌-◌, ◌≤◌, ◌<◌}
use native.Mathlib.Omega.{arith}
use native.Mathlib.Nat.{not-suc-le-zero}
use lib.ListN.{length, drop, length-drop}
use Rattle.base.specs.Parsed.{Parsed, got, bad, parse}
use Rattle.base.proofs.ParseLaws.{bind-good, got-rest}
use Rattle.counts.specs.Count.{read_count}
use Rattle.places.specs.Placed.{at, no, Stands}
use Rattle.pieces.proofs.PieceLaws.{up-to-places}
use Rattle.mentions.specs.declared.Stage.{Stage}
use Rattle.mentions.specs.Walk.{ahead_of}
use Rattle.mentions.specs.Content.{Mention, parse_mention, before, onward, content_from, content_at}
use Rattle.mentions.specs.View.{MentionAt, NoMention}
use Rattle.mentions.proofs.WalkLaws.{ahead-left, count_left}

-- a mention takes a byte at least
pub mention-left : (σ : Stage) (s : List ℕ) (m : Mention) (r : List ℕ) → parse_mention σ s ≡ got m r → length r < length s
unfolding parse_mention
mention-left σ s m r e =
    let a = bind-good (ahead_of σ s) _ m r e in
    let b = bind-good (parse read_count a.rest) _ m r a.on in
    let h = ahead-left σ s a.first a.rest a.is in
    let k = count_left a.rest b.first b.rest b.is in
    let q : b.rest ≡ r = got-rest b.on in
    rw (← q) (omega arith)

enough : (k j : ℕ) (σ : Stage) (s : List ℕ) → length s < k → length s < j → content_from k σ s ≡ content_from j σ s
unfolding content_from
enough zero j σ s h i = absurd (not-suc-le-zero h)
enough (suc k) zero σ s h i = absurd (not-suc-le-zero i)
enough (suc k) (suc j) σ s h i = go (parse_mention σ s) refl (λ τ r. enough k j τ r)
  where
    go : (p : Parsed Mention) → parse_mention σ s ≡ p → ((τ : Stage) (r : List ℕ) → length r < k → length r < j → content_from k τ r ≡ content_from j τ r)
        → onward s p (content_from k) ≡ onward s p (content_from j)
    go (got m r) e rec = let l = mention-left σ s m r e in ap (before m) (rec m.behind r (omega arith) (omega arith))
    go (bad n) e rec = refl

pub content-next : (σ : Stage) (s : List ℕ) (m : Mention) (r : List ℕ) → parse_mention σ s ≡ got m r → content_at σ s ≡ before m (content_at m.behind r)
unfolding content_from
content-next σ s m r e =
    let l = mention-left σ s m r e in
    rw e (ap (before m) (enough (length s) (suc (length r)) m.behind r (omega arith) (omega arith)))

pub content-end : (σ : Stage) (s : List ℕ) (k : Refusal) → parse_mention σ s ≡ bad k → content_at σ s ≡ record { mentions = []; rest = s }
unfolding content_from
content-end σ s k e = rw e

-- ---- what the code finds
module _ (s : List ℕ) (place : ℕ) (σ : Stage) where
  pub none_ahead : (k : Refusal) → Stands s (ahead_of σ (drop place s)) (no k) → NoMention s place σ
  unfolding parse_mention
  none_ahead k a = record { fault = k; none = rw a.means }

  module _ (τ : Stage) (p : ℕ) (a : Stands s (ahead_of σ (drop place s)) (at τ p)) where
    pub none_number : (k : Refusal) → Stands s (parse read_count (drop p s)) (no k) → NoMention s place σ
    unfolding parse_mention
    none_number k b = record { fault = k; none = rw (a.means, b.means) }

    first-le : place ≤ length s → place ≤ p
    first-le h =
        let l = ahead-left σ (drop place s) τ (drop p s) a.means in
        let m : length s - p ≤ length s - place = rw (length-drop, length-drop) at l in
        omega (arith, a.within)

    pub mention-here : place ≤ length s → (v e : ℕ) → Stands s (parse read_count (drop p s)) (at v e) → MentionAt s place σ τ v p e
    unfolding parse_mention
    mention-here h v e b =
        let l = count_left (drop p s) v (drop e s) b.means in
        let m : length s - e < length s - p = rw (length-drop, length-drop) at l in
        record {
          read = rw (a.means, b.means, up-to-places s place p h a.within);
          first = first-le h;
          rises = omega (arith, b.within);
          last = b.within;
        }
