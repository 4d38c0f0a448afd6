-- A question is the lookup of an instant in the asked zone, which is held with no instant. Assumes nothing.
use Rattle.std.specs.Prelude.{Ok}
use mathlib.Core.Path.{◌≡◌, refl, sym, ap, ◌∙◌}
use mathlib.Core.List.{List}
use Prim.Native.Nat.{ℕ}
use native.Mathlib.Omega.{arith}
use lib.IntN.{ℤ}
use lib.ListN.{length}
use borrow.Author.Tests.{ne_eqb}
use Rattle.signed.specs.Instant.{instant_of}
use Rattle.pool.specs.Pool.{strings_of}
use Rattle.zones.specs.Sound.{Sound}
use Rattle.zones.specs.declared.Edition.{Edition}
use Rattle.frames.specs.Machine.{Out, found, refused, cut, ended, walk}
use Rattle.frames.specs.Mapped.{map_out}
use Rattle.answers.specs.Answers.{Pool, no_pool}
use Rattle.answers.specs.declared.Mark.{Mark}
use Rattle.answers.specs.declared.Found.{Found}
use Rattle.locate.specs.Asked.{Held, holder, of_held}
use Rattle.locate.proofs.HeldLaws.{walk-held, held-sound}
use Rattle.questions.specs.Question.{answer_at, finish, ask}

-- the asked zone of some bytes, and the place just past its field
pub record Holding (bs id : List ℕ) : Type 0 where
  pub zone : Held
  pub past : ℕ
  pub is : walk (holder id) no_pool bs ≡ found zone past

module _ (bs id : List ℕ) (z : ℤ) (mark : Mark) (ed : Edition) (h : instant_of z ≡ 0 → ⊥) where
  -- at an instant in range the question looks up what is held
  pub ask-held : ask bs id z mark ed ≡ finish mark (map_out (of_held (answer_at ed (instant_of z))) (walk (holder id) no_pool bs))
  unfolding ask
  ask-held = rw (ne_eqb (instant_of z) 0 h) (ap (finish mark) (walk-held (answer_at ed (instant_of z)) id bs))

  -- so one answer tells that a zone is held
  pub ask-holding : (x : Found) → ask bs id z mark ed ≡ Ok x → Holding bs id
  ask-holding x e = go (walk (holder id) no_pool bs) refl (sym ask-held ∙ e)
    where
      no : {A : Type 0} → ◌≡◌ {A = ℕ} 0 1 → A
      no e = absurd (omega arith)

      go : (o : Out Pool Held) → walk (holder id) no_pool bs ≡ o → finish mark (map_out (of_held (answer_at ed (instant_of z))) o) ≡ Ok x → Holding bs id
      go (found v p) k f = record { zone = v; past = p; is = k }
      go (refused n p) k f = no cc
      go (cut p) k f = no cc
      go (ended m p) k f = no cc

  -- and every question in range then gives its lookup
  pub holding-asks : (k : Holding bs id) → ask bs id z mark ed ≡ Ok (of_held (answer_at ed (instant_of z)) k.zone)
  holding-asks k = ask-held ∙ rw k.is

-- the content of a zone that is held is in its ranges
pub holding-sound : (bs id : List ℕ) (k : Holding bs id) → Sound (length (strings_of k.zone.pool.body)) k.zone.zone
holding-sound bs id k = held-sound id bs k.zone k.past k.is
