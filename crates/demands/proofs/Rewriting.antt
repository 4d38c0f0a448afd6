-- THE QUESTIONS AND THE REWRITER: on a well-formed file every question that means "this is all" gives the same on the preferred file, places of refusals apart.
-- Assumes nothing.
use Rattle.answers.specs.declared.Found.{Found}
use Rattle.base.specs.declared.Refusal.{Refusal}
use Rattle.base.specs.Coded.{Fault}
use Rattle.std.specs.Prelude.{Err, Result}
use mathlib.Core.Path.{◌≡◌, refl, sym, ap, ◌∙◌, subst, subst⁻¹}
use mathlib.Core.Bool.{Bool, true, false}
use mathlib.Core.List.{List, [], ◌∷◌}
use mathlib.Core.Logic.{◌⊎◌, inl, inr}
use Prim.Native.Nat.{ℕ}
use lib.IntN.{ℤ}
use lib.Dec.{eqb}
use lib.ListN.{length, get_or}
use borrow.Author.Tests.{eqb-false}
use Rattle.base.specs.Parsed.{got}
use Rattle.base.proofs.Parts.{Bytes}
use Rattle.signed.specs.Instant.{instant_of, ticks_of}
use Rattle.signed.specs.OffsetSum.{milliseconds_of}
use Rattle.intervals.specs.Interval.{standard_sum}
use Rattle.zones.specs.Content.{Zone}
use Rattle.zones.specs.Parse.{parse_zone}
use Rattle.zones.specs.declared.Edition.{Edition}
use Rattle.zones.specs.declared.Found.{Found as Interval}
use Rattle.frames.specs.Frame.{Field}
use Rattle.frames.specs.Fields.{Listing, fields}
use Rattle.base.specs.All.{All}
use Rattle.base.proofs.AllLaws.{all_head, all_right}
use Rattle.frames.proofs.ChainLaws.{listing-chain}
use Rattle.answers.specs.Answers.{number_of}
use Rattle.questions.specs.Question.{ask}
use Rattle.answers.specs.declared.Mark.TheVariants.{All as Whole}
use Rattle.field_checks.specs.Check.{WellFormed, file_pool, HasId}
use Rattle.rewrite.specs.Preferred.{preferred}
use Rattle.rewrite.proofs.KeptLaws.{FieldKept}
use Rattle.rewrite.proofs.MovedLaws.{moved_to, moved}
use Rattle.field_checks.proofs.ZoneIdLaws.{zones-read}
use Rattle.rewrite.proofs.PassMovedLaws.{fields-kept}
use Rattle.rewrite.proofs.ZoneMovedLaws.{moved-pool, moved-around, moved-lacks}
use Rattle.rewrite.proofs.Rewriting.{preferred-fields, rewritten-well-formed}
use Rattle.demands.specs.Zones.{InRange, Asked, NoZone}
use Rattle.demands.proofs.Exact.{missing-whole}
use Rattle.demands.proofs.Agree.{asked-or-none}
use Rattle.demands.specs.Right.{Right}
use Rattle.demands.specs.Same.{SameFound, SameAnswer, both-answer, both-refuse}
use Rattle.demands.proofs.Right.{right}

pub same-number : (f h : List ℕ) (a b : Result Found Fault) → SameAnswer f h a b → number_of a ≡ number_of b
same-number f h a b (both-answer s) = refl
same-number f h a b both-refuse = refl

-- two refusals with one number
refusals : (f h : List ℕ) (a b : Result Found Fault) {n : Refusal} {p q : ℕ} → a ≡ Err (n, p) → b ≡ Err (n, q) → SameAnswer f h a b
refusals f h a b d e = rw (d, e) both-refuse

module _ (f : List ℕ) (w : WellFormed f) (b : Bytes f) where
  all-kept : All FieldKept (fields f)
  all-kept = fields-kept f w b

  moved-fields : fields (preferred f) ≡ moved 4 (fields f)
  moved-fields = ap (λ (l : Listing). l.fields) (preferred-fields f w b)

  same-pool : file_pool (fields (preferred f)) ≡ file_pool (fields f)
  same-pool = ap file_pool moved-fields ∙ moved-pool f 4 (fields f) (listing-chain f 255) all-kept

  -- the asked zone of f is that of the preferred file, with the same content
  asked-moved : (id : List ℕ) (g : Field) (a : Asked f id g) → (g' : Field) × (a' : Asked (preferred f) id g') × (a'.has.zone ≡ a.has.zone)
  asked-moved id g a =
      let ts = file_pool (fields f) in
      let u = moved-around 4 a.before g a.behind in
      let k = subst (All FieldKept) a.splits all-kept in
      let here : FieldKept g = all_head (all_right a.before (g ∷ a.behind) k) in
      let p = here.zone a.has.is-zone (length ts) a.has.zone a.has.rest a.has.parsed in (
        moved_to u.to g,
        record {
          before = moved 4 a.before;
          behind = moved (moved_to u.to g).past a.behind;
          splits = moved-fields ∙ ap (moved 4) a.splits ∙ u.splits;
          has = record {
            zone = a.has.zone;
            rest = [];
            is-zone = a.has.is-zone;
            parsed = subst⁻¹ (λ (ss : List (List ℕ)). parse_zone (length ss) (moved_to u.to g).body ≡ got a.has.zone []) same-pool p;
            bytes = subst⁻¹ (λ (ss : List (List ℕ)). get_or ss a.has.zone.id [] ≡ id) same-pool a.has.bytes;
          };
        },
        refl,
      )

  -- and where f has none, the preferred file has none
  lacks-moved : (id : List ℕ) → NoZone f id → NoZone (preferred f) id
  lacks-moved id n =
      subst⁻¹ (λ (ss : List (List ℕ)). All (λ h. HasId ss id h → ⊥) (fields (preferred f))) same-pool
      (subst⁻¹ (All (λ h. HasId (file_pool (fields f)) id h → ⊥)) moved-fields
      (moved-lacks (file_pool (fields f)) id 4 (fields f) all-kept (zones-read f w) n))

  -- both answers are of the one interval of that zone that holds the instant
  one-interval : (ed : Edition) (id : List ℕ) (z : ℤ) (u : Zone) → Right ed f id z u → Right ed (preferred f) id z u
      → SameAnswer f (preferred f) (ask f id z Whole ed) (ask (preferred f) id z Whole ed)
  one-interval ed id z u r s =
      let i : s.interval ≡ r.interval = r.only s.interval s.of-zone s.holds in
      let e : SameFound f (preferred f) r.given s.given = record {
        wall = r.wall-is ∙ sym (s.wall-is ∙ ap (λ (x : Interval). milliseconds_of x.wall) i);
        savings = r.savings-is ∙ sym (s.savings-is ∙ ap (λ (x : Interval). milliseconds_of x.savings) i);
        standard = r.standard-is
            ∙ sym (s.standard-is ∙ ap (λ (x : Interval). milliseconds_of (standard_sum x.wall x.savings)) i);
        start = r.start_is ∙ sym (s.start_is ∙ ap (λ (x : Interval). ticks_of x.start) i);
        end = r.end_is ∙ sym (s.end_is ∙ ap (λ (x : Interval). ticks_of x.end) i);
        name = r.named
            ∙ sym (s.named ∙ ap (λ (ss : List (List ℕ)). get_or ss s.interval.name []) same-pool
            ∙ ap (λ (x : Interval). get_or (file_pool (fields f)) x.name []) i);
      } in
      rw (r.marked Whole, s.marked Whole) (both-answer e)

  same-in-range : (ed : Edition) (id : List ℕ) (z : ℤ) → InRange z → ((g : Field) × Asked f id g) ⊎ NoZone f id
      → SameAnswer f (preferred f) (ask f id z Whole ed) (ask (preferred f) id z Whole ed)
  same-in-range ed id z h (inl a) =
      let m = asked-moved id a.0 a.1 in
      let s = right ed (preferred f) id z m.0 (rewritten-well-formed f w b) m.1 h in
      one-interval ed id z a.1.has.zone (right ed f id z a.0 w a.1 h) (subst (Right ed (preferred f) id z) m.2 s)
  same-in-range ed id z h (inr n) =
      refusals f (preferred f) _ _ (missing-whole ed f id z w n h)
      (missing-whole ed (preferred f) id z (rewritten-well-formed f w b) (lacks-moved id n) h)

  -- THE SAME ANSWERS: for every zone name and every instant, in range or not, under either edition
  pub same-answers : (ed : Edition) (id : List ℕ) (z : ℤ) → SameAnswer f (preferred f) (ask f id z Whole ed) (ask (preferred f) id z Whole ed)
  unfolding ask
  same-answers ed id z = go (eqb (instant_of z) 0) refl
    where
      go : (t : Bool) → eqb (instant_of z) 0 ≡ t → SameAnswer f (preferred f) (ask f id z Whole ed) (ask (preferred f) id z Whole ed)
      go true e = rw e both-refuse
      go false e = same-in-range ed id z (eqb-false (instant_of z) 0 e) (asked-or-none f id)
