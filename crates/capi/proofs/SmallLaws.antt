-- The numbers that the functions below give fit where they go. Assumes nothing.
use Rattle.base.specs.declared.Refusal.{Refusal}
use Rattle.std.specs.Prelude.{Err, Ok, Result}
use Rattle.base.specs.Coded.{Coded, Fault}
use mathlib.Core.Path.{◌≡◌, refl, sym}
use mathlib.Core.Logic.{inl, inr}
use mathlib.Core.List.{List}
use Prim.Native.Nat.{ℕ, ◌<◌, ◌^◌}
use native.Mathlib.Omega.{arith}
use lib.IntN.{ℤ}
use lib.ListN.{length}
use lib.Dec.{eqb}
use borrow.Author.Tests.{eqb-false}
use Rattle.base.proofs.Tests.{pick-holds}
use Rattle.base.proofs.MomentLaws.{Moment}
use Rattle.signed.specs.Instant.{instant_of}
use Rattle.counts.specs.Count.{read_count}
use Rattle.counts.proofs.CountLaws.{counted}
use Rattle.counts.specs.SignedCount.{read_signed_count}
use Rattle.counts.proofs.SignedCountLaws.{signed-counted}
use Rattle.offsets.specs.Offset.{read_offset}
use Rattle.offsets.proofs.OffsetLaws.{offset_read}
use Rattle.transitions.specs.Transition.{read_moment}
use Rattle.transitions.proofs.MomentLaws.{moment-read}
use Rattle.texts.specs.Text.{read_text}
use Rattle.texts.proofs.TextLaws.{held}
use Rattle.zones.specs.declared.Edition.{Edition}
use Rattle.frames.specs.Machine.{Out, found, refused, cut, ended, walk}
use Rattle.field_checks.specs.Check.{version_of}
use Rattle.field_checks.proofs.VersionLaws.{text-of-field}
use Rattle.answers.specs.Answers.{Pool, no_pool}
use Rattle.questions.specs.Question.{answer_at, question, finish, ask}
use Rattle.named_fields.specs.Named.{Known, nothing, naming, ask_named}
use Rattle.named_questions.proofs.NameLaws.{name-inside as named-inside}
use Rattle.answers.specs.declared.Mark.{Mark}
use Rattle.answers.specs.declared.Found.{Found}
use Rattle.signed.proofs.IntegerLaws.{instant-finite}
use Rattle.questions.proofs.NameLaws.{name-inside}
use Rattle.replies.specs.Small.{SmallRead, SmallNumber, SmallText, SmallPair}
use Rattle.wall_times.specs.WallTime.{MapsTo}
use Rattle.wall_times.specs.Facts.{Bounded}
use Rattle.wall_times.proofs.MostLaws.{map-bounded}
use Rattle.file_replies.specs.Small.{SmallAnswer, SmallMapping}
use Rattle.frames.proofs.NearLaws.{Near, walk-near}
use Rattle.capi.proofs.PlaceLaws.{version-near}

pub count_small : (s : List ℕ) (c : Coded ℕ) → c ≡ read_count s → SmallRead c
count_small s (Ok (v, n)) e = let x = counted s e in record { to = (omega arith, omega arith) }
count_small s (Err k) e = record { to = tt }

moment-below : (m : ℕ) → Moment m → m < 2 ^ 63
moment-below m (inl e) = omega arith
moment-below m (inr (inl e)) = omega arith
moment-below m (inr (inr f)) = omega arith

pub moment-small : (p : ℕ) (s : List ℕ) (c : Coded ℕ) → c ≡ read_moment p s → SmallRead c
moment-small p s (Ok (m, n)) e = let x = moment-read p s e in record { to = (moment-below m x.is, omega (arith, x.size)) }
moment-small p s (Err k) e = record { to = tt }

pub signed-count-small : (s : List ℕ) (c : Coded ℤ) → c ≡ read_signed_count s → SmallNumber c
signed-count-small s (Ok (z, n)) e = let x = signed-counted s e in record { to = omega (arith, x.size) }
signed-count-small s (Err k) e = record { to = tt }

pub offset-small : (s : List ℕ) (c : Coded ℤ) → c ≡ read_offset s → SmallNumber c
offset-small s (Ok (z, n)) e = let x = offset_read s e in record { to = omega (arith, x.size) }
offset-small s (Err k) e = record { to = tt }

pub text-small : (s : List ℕ) (t : Result (ℕ × ℕ) Refusal) → t ≡ read_text s → SmallText t
text-small s (Ok (a, n)) e = let x = held s a n (sym e) in record { to = (omega arith, omega arith) }
text-small s (Err k) e = record { to = tt }

pub version-small : (f : List ℕ) → length f < 2 ^ 63 → (t : Result (ℕ × ℕ) Fault) → t ≡ version_of f → SmallPair t
version-small f l (Ok (a, n)) e = let x = text-of-field f a n (sym e) in record { to = (omega (arith, x.within), omega (arith, x.within)) }
version-small f l (Err (n, p)) e = record { to = version-near f n p (sym e) }

module _ (bs id : List ℕ) (z : ℤ) (mark : Mark) (ed : Edition) (l : length bs < 2 ^ 63) where
  finish-small : (instant_of z ≡ 0 → ⊥) → (o : Out Pool Found) → walk (question ed id (instant_of z)) no_pool bs ≡ o → Near o → SmallAnswer (finish mark o)
  finish-small h (found x p) e k =
      let i = name-inside bs id ed (instant_of z) (instant-finite (instant_of z) z refl h) x p e in
      record { to = (omega arith, omega arith) }
  finish-small h (refused n p) e k = record { to = k.to }
  finish-small h (cut p) e k = record { to = k.to }
  finish-small h (ended m p) e k = record { to = k.to }

  pub ask-small : SmallAnswer (ask bs id z mark ed)
  unfolding ask
  ask-small =
      pick-holds SmallAnswer (eqb (instant_of z) 0)
      (λ e. record { to = omega arith })
      (λ e. finish-small (eqb-false (instant_of z) 0 e) (walk (question ed id (instant_of z)) no_pool bs) refl
      (walk-near (question ed id (instant_of z)) no_pool bs))

  named-finish-small : (instant_of z ≡ 0 → ⊥) → (o : Out Known Found) → walk (naming (answer_at ed (instant_of z)) id) nothing bs ≡ o → Near o → SmallAnswer (finish mark o)
  named-finish-small h (found x p) e k =
      let i = named-inside bs id ed (instant_of z) (instant-finite (instant_of z) z refl h) x p e in
      record { to = (omega arith, omega arith) }
  named-finish-small h (refused n p) e k = record { to = k.to }
  named-finish-small h (cut p) e k = record { to = k.to }
  named-finish-small h (ended m p) e k = record { to = k.to }

  pub named_small : SmallAnswer (ask_named bs id z mark ed)
  unfolding ask_named
  named_small =
      pick-holds SmallAnswer (eqb (instant_of z) 0)
      (λ e. record { to = omega arith })
      (λ e. named-finish-small (eqb-false (instant_of z) 0 e) (walk (naming (answer_at ed (instant_of z)) id) nothing bs) refl
      (walk-near (naming (answer_at ed (instant_of z)) id) nothing bs))

pub bounded-small : (m : Result (ℕ × ℤ × ℤ) Fault) → Bounded m → SmallMapping m
bounded-small (Ok (n, a, b)) h = record { to = omega (arith, h.to) }
bounded-small (Err (n, p)) h = record { to = h.to }

pub map-small : (f id : List ℕ) (local : ℤ) (m : Result (ℕ × ℤ × ℤ) Fault) → MapsTo f id local m → SmallMapping m
map-small f id local m h = bounded-small m (map-bounded f id local m h)
