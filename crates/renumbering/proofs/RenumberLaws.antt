-- Renumbered data measured and written while walking a field. Assumes nothing.
use mathlib.Core.Path.{◌≡◌, refl, sym, ap, ◌∙◌, subst⁻¹}
use mathlib.Core.List.{List, [], ◌++◌, append_assoc}
use Prim.Native.Nat.{ℕ, ◌+◌, ◌*◌, ◌-◌, ◌≤◌, ◌<◌}
use native.Mathlib.Omega.{arith}
use lib.ListN.{length, take, drop, length-append, length-drop}
use lib.Seq.{length-take-le}
use Rattle.base.proofs.Parts.{part-from}
use Rattle.counts.specs.Count.{write_count}
use Rattle.counts.proofs.CountLaws.{count-size}
use Rattle.pieces.specs.View.{Put}
use borrow.Rule.Slice.PartMut.{put_mid}
use Rattle.pieces.proofs.PutLaws.{InTwo, put-none, put-length, both-put}
use Rattle.mentions.specs.declared.Stage.{Stage}
use Rattle.mentions.specs.Content.{Content, content_at, print_mentions, print}
use Rattle.mentions.specs.View.{MentionAt, NoMention}
use Rattle.mentions.proofs.ContentLaws.{content-next, content-end}
use Rattle.mentions.proofs.PrintLaws.{print-before}
use Rattle.renumbering.specs.Run.{Going, MeasuredRun, WrittenRun}

pub not_none : {n : ℕ} → 0 < n → n ≡ 0 → ⊥
not_none h z = omega arith

module _ (ρ : ℕ → ℕ) (s : List ℕ) where
  -- what is to be written from a place and a stage on
  abbrev pub ahead : ℕ → Stage → List ℕ
  ahead place σ = print ρ (content_at σ (drop place s))

  -- the bytes before a mention at the place p of the number v, and its new number
  abbrev pub printed : ℕ → ℕ → ℕ → List ℕ
  printed place p v = take (p - place) (drop place s) ++ write_count (ρ v)

  pub going-none : (place : ℕ) (σ : Stage) → place ≤ length s → Going ρ s (ahead place σ) place place σ []
  going-none place σ h = record { onward = omega arith; within = h; all = refl; few = omega arith }

  module _ (whole : List ℕ) (a place : ℕ) (σ : Stage) (done : List ℕ) (g : Going ρ s whole a place σ done) where
    pub going-sum : length done ≤ length whole
    going-sum = rw (g.all, length-append) (omega arith)

    -- what is left to write has room behind what is written
    pub going-left : length done + length (ahead place σ) ≡ length whole
    going-left = rw (g.all, length-append)

    module _ (τ : Stage) (v p e : ℕ) (m : MentionAt s place σ τ v p e) where
      pub printed-length : length (printed place p v) ≡ (p - place) + length (write_count (ρ v))
      printed-length =
          let h : p - place ≤ length (drop place s) = rw length-drop (omega (arith, m.rises, m.last)) in
          rw (length-append, length-take-le (p - place) (drop place s) h)

      pub done-length : length (done ++ printed place p v) ≡ length done + ((p - place) + length (write_count (ρ v)))
      done-length = rw (length-append, printed-length)

      pub going_next : Going ρ s whole a e τ (done ++ printed place p v)
      going_next =
          record {
            onward = omega (arith, g.onward, m.first, m.rises);
            within = m.last;
            all =
                g.all
                ∙ ap (λ (x : Content). done ++ print ρ x) (content-next σ (drop place s) _ (drop e s) m.read)
                ∙ ap (λ (x : List ℕ). done ++ x) (print-before ρ _ (content_at τ (drop e s)))
                ∙ sym (append_assoc done (printed place p v) (print ρ (content_at τ (drop e s))));
            few = rw done-length (omega (arith, g.few, (count-size (ρ v)).most, m.first, m.rises));
          }

      -- the same of a sum of numbers, as the code has it
      module _ (n k c : ℕ) (i₁ : n ≡ length done) (i₂ : k ≡ ρ v) (i₃ : c ≡ length (write_count k)) where
        size_is : c ≡ length (write_count (ρ v))
        size_is = i₃ ∙ ap (λ (x : ℕ). length (write_count x)) i₂

        pub size-next : n + ((p - place) + c) ≡ length (done ++ printed place p v)
        size-next = rw (i₁, size_is) (sym done-length)

        pub size-most : n + ((p - place) + c) ≤ 5 * length s
        size-most = rw size-next (omega (arith, going_next.few, m.last))

    -- a run behind what is done
    pub going_on : (b : ℕ) (τ : Stage) (more : List ℕ) → Going ρ s (ahead place σ) place b τ more → Going ρ s whole a b τ (done ++ more)
    going_on b τ more h =
        record {
          onward = omega (arith, g.onward, h.onward);
          within = h.within;
          all = g.all ∙ ap (λ (x : List ℕ). done ++ x) h.all ∙ sym (append_assoc done more (ahead b τ));
          few = rw length-append (omega (arith, g.few, h.few));
        }

    -- behind the last mention the data are copied
    pub going_end : NoMention s place σ → whole ≡ done ++ drop place s
    unfolding print print_mentions
    going_end n = g.all ∙ ap (λ (x : Content). done ++ print ρ x) (content-end σ (drop place s) n.fault n.none)

    pub end-length : NoMention s place σ → length done + (length s - place) ≡ length whole
    end-length n = rw (going_end n, length-append, length-drop)

    pub end-two : (o : List ℕ) → length whole ≤ length o → NoMention s place σ → InTwo whole done (take (length s - place) (drop place s)) o
    end-two o h n = record { all = going_end n ∙ ap (λ (x : List ℕ). done ++ x) (sym (part-from place s)); room = h }

  -- what is done and the mention that follows, with its new number k
  pub going-two : (whole : List ℕ) (a place : ℕ) (σ : Stage) (done : List ℕ) (g : Going ρ s whole a place σ done) (τ : Stage) (v p e : ℕ) (m : MentionAt s place σ τ v p e)
      (k : ℕ) → k ≡ ρ v → (o : List ℕ) → length whole ≤ length o → InTwo (done ++ printed place p v) done (take (p - place) (drop place s) ++ write_count k) o
  going-two whole a place σ done g τ v p e m k q o h =
      let n = going_next whole a place σ done g τ v p e m in
      let l = going-sum whole a e τ (done ++ printed place p v) n in
      record { all = ap (λ (x : ℕ). done ++ (take (p - place) (drop place s) ++ write_count x)) (sym q); room = omega arith }

  -- a name behind a name has no bytes before it
  alone : (place v : ℕ) → printed place place v ≡ write_count (ρ v)
  alone place v = let z : place - place ≡ 0 = omega arith in rw z

  pub names-two : (whole : List ℕ) (a place : ℕ) (σ : Stage) (done : List ℕ) (g : Going ρ s whole a place σ done) (τ : Stage) (v e : ℕ) (m : MentionAt s place σ τ v place e)
      (k : ℕ) → k ≡ ρ v → (o : List ℕ) → length whole ≤ length o → InTwo (done ++ printed place place v) done (write_count k) o
  names-two whole a place σ done g τ v e m k q o h =
      let l = going-sum whole a e τ (done ++ printed place place v) (going_next whole a place σ done g τ v place e m) in
      record { all = ap (λ (x : List ℕ). done ++ x) (alone place v ∙ ap write_count (sym q)); room = omega arith }

  pub names-size : (n k c place : ℕ) (done : List ℕ) (v : ℕ) → n ≡ length done → k ≡ ρ v → c ≡ length (write_count k) → n + c ≡ length (done ++ printed place place v)
  names-size n k c place done v i j l = rw (alone place v, length-append, i, l, j)

  -- a run behind what is done, written
  pub run-two : (whole : List ℕ) (a place : ℕ) (σ : Stage) (done : List ℕ) (g : Going ρ s whole a place σ done) (b : ℕ) (τ : Stage) (more : List ℕ)
      → Going ρ s (ahead place σ) place b τ more → (o : List ℕ) → length whole ≤ length o → InTwo (done ++ more) done more o
  run-two whole a place σ done g b τ more h o l =
      let n = going-sum whole a b τ (done ++ more) (going_on whole a place σ done g b τ more h) in
      record { all = refl; room = omega arith }

  pub whole-two : (whole : List ℕ) (a place : ℕ) (σ : Stage) (done : List ℕ) → Going ρ s whole a place σ done → (o : List ℕ) → length whole ≤ length o
      → InTwo whole done (ahead place σ) o
  whole-two whole a place σ done g o h = record { all = g.all; room = h }

  module _ (a : ℕ) (σ : Stage) (h : a ≤ length s) where
    pub measured-none : MeasuredRun ρ s a σ a σ 0
    measured-none = record { done = []; going = going-none a σ h; size = refl }

    pub written_none : (o : List ℕ) → WrittenRun ρ s a σ o a σ 0 o
    written_none o = record { done = []; going = going-none a σ h; put = put-none o }

  -- from a stage, where it is known which
  pub measured-is : (a : ℕ) (σ σ' : Stage) (b : ℕ) (τ : Stage) (n : ℕ) → σ ≡ σ' → MeasuredRun ρ s a σ' b τ n → MeasuredRun ρ s a σ b τ n
  measured-is a σ σ' b τ n e m = subst⁻¹ (λ (υ : Stage). MeasuredRun ρ s a υ b τ n) e m

  pub written_is : (a : ℕ) (σ σ' : Stage) (o : List ℕ) (b : ℕ) (τ : Stage) (n : ℕ) (f : List ℕ) → σ ≡ σ' → WrittenRun ρ s a σ' o b τ n f → WrittenRun ρ s a σ o b τ n f
  written_is a σ σ' o b τ n f e m = subst⁻¹ (λ (υ : Stage). WrittenRun ρ s a υ o b τ n f) e m

  pub room-is : (a : ℕ) (σ σ' : Stage) (o : List ℕ) → σ ≡ σ' → length (ahead a σ) ≤ length o → length (ahead a σ') ≤ length o
  room-is a σ σ' o e h = rw (← e) h

  -- ---- a run one mention further
  module _ (a : ℕ) (σ : Stage) (b : ℕ) (τ : Stage) (n : ℕ) (m : MeasuredRun ρ s a σ b τ n) (k c : ℕ) (j : c ≡ length (write_count k)) where
    module _ (υ : Stage) (v p e : ℕ) (h : MentionAt s b τ υ v p e) (i : k ≡ ρ v) where
      pub measured-next : MeasuredRun ρ s a σ e υ (n + ((p - b) + c))
      measured-next =
          record {
            done = m.done ++ printed b p v;
            going = going_next _ a b τ m.done m.going υ v p e h;
            size = size-next _ a b τ m.done m.going υ v p e h n k c m.size i j;
          }

      pub measured-most : n + ((p - b) + c) ≤ 5 * length s
      measured-most = size-most _ a b τ m.done m.going υ v p e h n k c m.size i j

    -- a name behind a name
    module _ (υ : Stage) (v e : ℕ) (h : MentionAt s b τ υ v b e) (i : k ≡ ρ v) where
      pub measured-name : MeasuredRun ρ s a σ e υ (n + c)
      measured-name =
          record {
            done = m.done ++ printed b b v;
            going = going_next _ a b τ m.done m.going υ v b e h;
            size = names-size n k c b m.done v m.size i j;
          }

      pub name-most : n + c ≤ 5 * length s
      name-most = omega (arith, measured-most υ v b e h i)

  module _ (a : ℕ) (σ : Stage) (o : List ℕ) (b : ℕ) (τ : Stage) (w : ℕ) (f : List ℕ) (r : WrittenRun ρ s a σ o b τ w f) where
    pub written-length : length (ahead a σ) ≤ length o → length f ≡ length o
    written-length h = put-length r.put (omega (arith, going-sum _ a b τ r.done r.going))

    module _ (υ : Stage) (v p e : ℕ) (h : MentionAt s b τ υ v p e) where
      pub written-two : (k : ℕ) → k ≡ ρ v → length (ahead a σ) ≤ length o → InTwo (r.done ++ printed b p v) r.done (take (p - b) (drop b s) ++ write_count k) o
      written-two k i l = going-two _ a b τ r.done r.going υ v p e h k i o l

      pub written_next : (x : ℕ) (g : List ℕ) → Put (r.done ++ printed b p v) o x g → WrittenRun ρ s a σ o e υ x g
      written_next x g q = record { done = r.done ++ printed b p v; going = going_next _ a b τ r.done r.going υ v p e h; put = q }

    pub name-two : (υ : Stage) (v e : ℕ) → MentionAt s b τ υ v b e → (k : ℕ) → k ≡ ρ v → length (ahead a σ) ≤ length o
        → InTwo (r.done ++ printed b b v) r.done (write_count k) o
    name-two υ v e h k i l = names-two _ a b τ r.done r.going υ v e h k i o l

  -- ---- from the front of a field on
  pub measured-start : (σ σ₀ : Stage) → σ ≡ σ₀ → MeasuredRun ρ s 0 σ₀ 0 σ 0
  measured-start σ σ₀ e = rw e (measured-none 0 σ₀ (omega arith))

  pub written_start : (σ σ₀ : Stage) (o : List ℕ) → σ ≡ σ₀ → WrittenRun ρ s 0 σ₀ o 0 σ 0 o
  written_start σ σ₀ o e = rw e (written_none 0 σ₀ (omega arith) o)

  module _ (a : ℕ) (σ : Stage) (b : ℕ) (τ : Stage) (n : ℕ) (m : MeasuredRun ρ s a σ b τ n) where
    pub measured-bound : n ≤ 5 * b
    measured-bound = omega (arith, m.going.few, m.size)

    pub measured-on : (e : ℕ) (υ : Stage) (k : ℕ) → MeasuredRun ρ s b τ e υ k → MeasuredRun ρ s a σ e υ (n + k)
    measured-on e υ k q =
        record {
          done = m.done ++ q.done;
          going = going_on _ a b τ m.done m.going e υ q.done q.going;
          size = rw (m.size, q.size) (sym (length-append m.done q.done));
        }

    pub measured-end : NoMention s b τ → n + (length s - b) ≡ length (ahead a σ)
    measured-end h = rw m.size (end-length _ a b τ m.done m.going h)

  module _ (a : ℕ) (σ : Stage) (o : List ℕ) (l : length (ahead a σ) ≤ length o) (b : ℕ) (τ : Stage) (w : ℕ) (f : List ℕ) (r : WrittenRun ρ s a σ o b τ w f) where
    pub written-bound : w ≤ length o
    written-bound = omega (arith, r.put.size, going-sum _ a b τ r.done r.going)

    pub written-left : InTwo (ahead a σ) r.done (ahead b τ) o
    written-left = whole-two _ a b τ r.done r.going o l

    pub written_on : (e : ℕ) (υ : Stage) (x : ℕ) (g : List ℕ) → WrittenRun ρ s b τ (take (length f - w) (drop w f)) e υ x g
        → WrittenRun ρ s a σ o e υ (w + x) (put_mid w (length f - w) f g)
    written_on e υ x g q =
        record {
          done = r.done ++ q.done;
          going = going_on _ a b τ r.done r.going e υ q.done q.going;
          put = both-put (run-two _ a b τ r.done r.going e υ q.done q.going o l) r.put q.put;
        }

    pub written-end : NoMention s b τ → InTwo (ahead a σ) r.done (take (length s - b) (drop b s)) o
    written-end h = end-two _ a b τ r.done r.going o l h
