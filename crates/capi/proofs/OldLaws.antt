-- The numbers of the older edition's codes, and of the question over an older dictionary, fit where they go. Assumes nothing.
use Rattle.base.proofs.PairLaws.{ok_parts}
use Rattle.base.specs.declared.Refusal.{Refusal}
use Rattle.std.specs.Prelude.{Err, Ok, Result}
use Rattle.base.specs.Coded.{Coded, Fault}
use mathlib.Core.Path.{◌≡◌, refl, sym, ap, ◌∙◌}
use mathlib.Core.List.{List}
use mathlib.Core.Option.{Option, none, some}
use Prim.Native.Nat.{ℕ, ◌/◌, ◌%◌, ◌+◌, ◌-◌, ◌<◌, ◌≤◌, ◌^◌}
use native.Mathlib.Omega.{arith}
use lib.IntN.{ℤ}
use lib.ListN.{length, drop, length-append, length-drop}
use lib.Seq.{length-take-le}
use lib.Dec.{eqb, leb, ltb}
use borrow.Author.Tests.{eqb-false, ltb-false}
use Rattle.base.specs.Parsed.{Parsed, got, bad}
use Rattle.base.specs.Writing.{Form, Writes}
use Rattle.base.proofs.Tests.{clash, pick-holds}
use Rattle.base.proofs.Parts.{Bytes}
use Rattle.signed.specs.Instant.{instant_of}
use Rattle.signed.specs.OffsetSum.{sum_of}
use Rattle.signed.proofs.IntegerLaws.{instant-finite}
use Rattle.counts.proofs.FixedLaws.{length-prefixed}
use Rattle.offsets.specs.Offset.{in_day}
use Rattle.utf8.specs.Utf8.{utf8}
use Rattle.old_counts.specs.OldCount.{read_old_count, old_count_form}
use Rattle.old_counts.proofs.OldCountLaws.{count_small, count-sized, count-size}
use Rattle.old_offsets.specs.OldOffset.{read_old_offset, write_old_sum, old_offset_form}
use Rattle.old_offsets.proofs.OldOffsetLaws.{offset-form}
use Rattle.old_texts.specs.OldText.{read_old_text, old_text_form}
use Rattle.old_texts.proofs.OldTextLaws.{held}
use Rattle.aliases.specs.Dictionary.{Dictionary}
use Rattle.old_dictionaries.specs.OldDictionary.{parse_old_dictionary, found_of, read_old_dictionary}
use Rattle.old_dictionaries.proofs.DictionaryLaws.{dictionary-form}
use Rattle.alias_lookup.specs.Lookup.{Named, here, unknown, deep, lookup, Says}
use Rattle.alias_lookup.proofs.LookupLaws.{lookup-says}
use Rattle.frames.specs.Machine.{Out, found, refused, cut, ended, walk}
use Rattle.field_checks.specs.Check.{check_of}
use Rattle.answers.specs.Answers.{Pool, no_pool}
use Rattle.answers.specs.declared.Found.{Found}
use Rattle.questions.specs.Question.{question}
use Rattle.zones.specs.declared.Edition.{Edition}
use Rattle.questions.proofs.NameLaws.{name-inside}
use Rattle.old_named_questions.specs.OldNamed.{answer_in, zone_at, resolved, older_says, zone_first, check_first, ask_named_old}
use Rattle.replies.specs.Small.{SmallRead, SmallNumber, SmallText}
use Rattle.old_replies.specs.Functions.{number_of, length_left, PutsLong}
use Rattle.file_replies.specs.Small.{SmallAnswer}
use Rattle.capi.proofs.PlaceLaws.{check-near}
use Rattle.capi.proofs.FormLaws.{SmallForm}

-- what is read
pub old-count-small : (s : List ℕ) → Bytes s → (c : Coded ℕ) → c ≡ read_old_count s → SmallRead c
old-count-small s b (Ok (v, n)) e = record { to = (omega (arith, count_small s b e), omega (arith, (count-sized s e).size)) }
old-count-small s b (Err k) e = record { to = tt }

abbrev Short : List ℕ → Type 0
Short xs = length xs ≤ 9

sum-short : (sum : ℕ) → Short (write_old_sum sum)
unfolding write_old_sum
sum-short sum =
    pick-holds Short (eqb (sum % 1800000) 0) (λ e. omega (arith, length-prefixed 0 0x00 (sum / 1800000 + 0x3f - 48)))
    (λ e. pick-holds Short (eqb (sum % 1000) 0) (λ f. omega (arith, length-prefixed 2 0x00 (sum / 1000 + 0x83ffff - 86400)))
    (λ f. omega (arith, length-prefixed 4 0xfd ((sum + 0x100000000 - 86400000) % 0x100000000))))

pub old-offset-small : (s : List ℕ) → Bytes s → (c : Coded ℤ) → c ≡ read_old_offset s → SmallNumber c
old-offset-small s b (Ok (z, n)) e = record { to = omega (arith, (offset-form s b e).1.size, sum-short (sum_of z)) }
old-offset-small s b (Err k) e = record { to = tt }

pub old-text-small : (s : List ℕ) (t : Result (ℕ × ℕ) Refusal) → t ≡ read_old_text s → SmallText t
old-text-small s (Ok (a, n)) e =
    let x = held s a n (sym e) in
    let l = length-take-le n (drop a s) (rw (length-drop a s) (omega (arith, x.inside))) in
    record { to = (omega (arith, x.short), omega (arith, x.fit.small, l)) }
old-text-small s (Err k) e = record { to = tt }

pub old-dictionary-small : (s : List ℕ) → Bytes s → length s < 2 ^ 63 → (f : Coded ℕ) → f ≡ read_old_dictionary s → SmallRead f
old-dictionary-small s b l (Err k) e = record { to = tt }
old-dictionary-small s b l (Ok (n, a)) e = go (parse_old_dictionary s) refl (sym e)
  where
    go : (p : Parsed Dictionary) → parse_old_dictionary s ≡ p → found_of s p ≡ Ok (n, a) → SmallRead (Ok (n, a))
    go (bad k) q i = clash cc
    go (got es r) q i =
        let m : length es ≡ n = (ok_parts i).0 in
        let d : length s - length r ≡ a = (ok_parts i).1 in
        record { to = (omega (arith, m, (dictionary-form s es r b q).writable.few), omega (arith, d)) }

-- what is written
pub old-count-form : (v : ℕ) → SmallForm (old_count_form v)
old-count-form v = pick-holds SmallForm (leb v 2147483647) (λ e. record { to = omega (arith, (count-size v).1) }) (λ e. record { to = tt })

pub old-offset-form : (z : ℤ) → SmallForm (old_offset_form z)
old-offset-form z = pick-holds SmallForm (in_day (sum_of z)) (λ e. record { to = omega (arith, sum-short (sum_of z)) }) (λ e. record { to = tt })

pub old-text-form : (t : List ℕ) → SmallForm (old_text_form t)
old-text-form t =
    pick-holds SmallForm (ltb 1024 (length t)) (λ e. record { to = tt })
    (λ e. pick-holds SmallForm (utf8 t)
    (λ f. record { to = simp length-append (omega (arith, ltb-false 1024 (length t) e, (count-size (length t)).1)) })
    (λ f. record { to = tt }))

pub puts-long : (x : Form) (d : List ℕ) (w : Result ℕ Refusal) (e l : List ℕ) (r : ℕ) (m : List ℕ) → Writes x d w e → (r ≡ number_of w) × (m ≡ length_left w l) → PutsLong x d l r e m
puts-long x d w e l r m h g = record {
  result = g.0 ∙ ap number_of h.0;
  output = h.1;
  length = g.1 ∙ ap (λ (v : Result ℕ Refusal). length_left v l) h.0;
}

-- the question over an older dictionary
module _ (bs ds x : List ℕ) (z : ℤ) (ed : Edition) (l : length bs < 2 ^ 63) where
  module _ (h : instant_of z ≡ 0 → ⊥) where
    zone-small : (y : List ℕ) (v : Found) → zone_at ed bs (instant_of z) y ≡ some v → SmallAnswer (Ok v)
    zone-small y v e = go (walk (question ed y (instant_of z)) no_pool bs) refl e
      where
        go : (o : Out Pool Found) → walk (question ed y (instant_of z)) no_pool bs ≡ o → answer_in o ≡ some v → SmallAnswer (Ok v)
        go (found w p) q i =
            let n = name-inside bs y ed (instant_of z) (instant-finite (instant_of z) z refl h) w p q in
            let same : w ≡ v = cc in
            let small : SmallAnswer (Ok w) = record { to = (omega arith, omega arith) } in
            rw same at small
        go (refused n p) q i = clash cc
        go (cut p) q i = clash cc
        go (ended m p) q i = clash cc

    resolved-small : (es : Dictionary) (r : Named Found) → Says (zone_at ed bs (instant_of z)) es 8 x r → SmallAnswer (resolved r)
    resolved-small es (here v) s = zone-small s.last v s.zone-is
    resolved-small es unknown s = record { to = omega arith }
    resolved-small es deep s = record { to = omega arith }

    older-small : (p : Parsed Dictionary) → SmallAnswer (older_says (zone_at ed bs (instant_of z)) x p)
    older-small (got es r) = resolved-small es (lookup (zone_at ed bs (instant_of z)) es 8 x) (lookup-says (zone_at ed bs (instant_of z)) es 8 x)
    older-small (bad n) = record { to = omega arith }

    first_small : (o : Option Found) → zone_at ed bs (instant_of z) x ≡ o → SmallAnswer (zone_first o (older_says (zone_at ed bs (instant_of z)) x (parse_old_dictionary ds)))
    first_small (some v) e = zone-small x v e
    first_small none e = older-small (parse_old_dictionary ds)

    checked-small : (v : Result (Unit {0}) Fault) → v ≡ check_of bs → SmallAnswer (check_first v (zone_first (zone_at ed bs (instant_of z) x) (older_says (zone_at ed bs (instant_of z)) x (parse_old_dictionary ds))))
    checked-small (Ok tt) s = first_small (zone_at ed bs (instant_of z) x) refl
    checked-small (Err (n, p)) s = record { to = (check-near bs (Err (n, p)) s).to }

  pub named-old-small : SmallAnswer (ask_named_old bs ds x z ed)
  unfolding ask_named_old
  named-old-small =
      pick-holds SmallAnswer (eqb (instant_of z) 0)
      (λ e. record { to = omega arith })
      (λ e. checked-small (eqb-false (instant_of z) 0 e) (check_of bs) refl)
