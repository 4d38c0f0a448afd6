-- ASK 11: both editions give the same, the name of a fixed zone aside, which is its ID under edition 1. Assumes nothing.
use Rattle.base.specs.declared.Refusal.TheVariants.{OutOfRange}
use Rattle.std.specs.Prelude.{Err, Ok}
use mathlib.Core.Path.{◌≡◌, refl, sym, ap, ◌∙◌, subst}
use mathlib.Core.Bool.{Bool, true, false}
use mathlib.Core.List.{List, []}
use mathlib.Core.Logic.{◌⊎◌, inl, inr}
use Prim.Native.Nat.{ℕ}
use lib.IntN.{ℤ}
use lib.Dec.{eqb}
use lib.ListN.{get_or}
use Rattle.base.specs.Pick.{pick}
use Rattle.base.proofs.Tests.{clash}
use Rattle.signed.specs.Instant.{instant_of}
use Rattle.zones.specs.Content.{FixedName, absent, Body, fixed, listed}
use Rattle.zones.specs.Editions.{nameless, under}
use Rattle.zones.specs.Lookup.{fixed_name_of, in_body}
use Rattle.zones.specs.Intervals.{InBody, all-of-time, in-list, in-tail}
use Rattle.zones.specs.declared.Edition.TheVariants.{One, Two}
use Rattle.zones.proofs.EditionLaws.{fixed-or-same}
use Rattle.zones.specs.declared.Found.{Found as Interval}
use Rattle.frames.specs.Frame.{Field}
use Rattle.frames.specs.Machine.{Out, found, refused, cut, ended, walk}
use Rattle.frames.specs.Mapped.{map_out}
use Rattle.frames.specs.Fields.{fields}
use Rattle.field_checks.specs.Check.{WellFormed, file_pool}
use Rattle.answers.specs.Answers.{Pool, no_pool, answered, name_of}
use Rattle.answers.specs.declared.Mark.{Mark}
use Rattle.answers.specs.declared.Found.{Found}
use Rattle.locate.specs.Asked.{Held, held, holder, of_held}
use Rattle.locate.proofs.HeldLaws.{walk-held}
use Rattle.questions.specs.Question.{answer_at, question, finish, ask}
use Rattle.named_fields.specs.Named.{nothing, naming, ask_named}
use Rattle.named_questions.proofs.AskLaws.{named-walk}
use Rattle.demands.specs.Zones.{InRange, Asked}
use Rattle.demands.specs.Editions.{NameAside, SameButName, same, name-aside}
use Rattle.demands.proofs.Right.{right}

-- the intervals of a zone without its name
aside : (p : Pool) (t id : ℕ) (b : Body) → NameAside (answered p (in_body t id (nameless b))) (answered p (in_body t id b))
unfolding in_body nameless
aside p t id (fixed offset n) = record { wall = refl; savings = refl; standard = refl; start = refl; end = refl }
aside p t id (listed is end e) = record { wall = refl; savings = refl; standard = refl; start = refl; end = refl }

-- what the walk o to the asked zone comes to
module _ {M : Type 0} (mark : Mark) (t : ℕ) where
  by-walk : (o : Out M Held) → SameButName o (finish mark (map_out (of_held (answer_at One t)) o)) (finish mark (map_out (of_held (answer_at Two t)) o))
  unfolding under
  by-walk (found v p) = go (fixed-or-same v.zone.body)
    where
      go : (nameless v.zone.body ≡ v.zone.body) ⊎ ((offset : ℕ) × (n : FixedName) × (v.zone.body ≡ fixed offset n))
          → SameButName {M = M} (found v p) (Ok (answer_at One t v.pool v.zone)) (Ok (answer_at Two t v.pool v.zone))
      go (inl e) =
          subst (λ (b : Body). SameButName {M = M} (found v p) (Ok (answered v.pool (in_body t v.zone.id b))) (Ok (answer_at Two t v.pool v.zone)))
          (sym e) same
      go (inr (offset, n, e)) =
          name-aside (record { at = v; past = p; is = refl; offset = offset; name = n; body_is = e }) (aside v.pool t v.zone.id v.zone.body)
  by-walk (refused n p) = same
  by-walk (cut p) = same
  by-walk (ended m p) = same

-- THE QUESTION UNDER BOTH EDITIONS: any bytes, any zone name, any instant, any mark; the plain question is one of them
pub editions : (bs id : List ℕ) (z : ℤ) (mark : Mark) → SameButName (walk (holder id) no_pool bs) (ask bs id z mark One) (ask bs id z mark Two)
unfolding ask
editions bs id z mark = go (eqb (instant_of z) 0)
  where
    go : (b : Bool)
        → SameButName (walk (holder id) no_pool bs) (pick b (Err (OutOfRange, 0)) (finish mark (walk (question One id (instant_of z)) no_pool bs)))
        (pick b (Err (OutOfRange, 0)) (finish mark (walk (question Two id (instant_of z)) no_pool bs)))
    go true = same
    go false =
        rw (walk-held (answer_at One (instant_of z)) id bs, walk-held (answer_at Two (instant_of z)) id bs)
        (by-walk mark (instant_of z) (walk (holder id) no_pool bs))

-- THE NAMED QUESTION UNDER BOTH EDITIONS
pub named-editions : (bs name : List ℕ) (z : ℤ) (mark : Mark)
    → SameButName (walk (naming held name) nothing bs) (ask_named bs name z mark One) (ask_named bs name z mark Two)
unfolding ask_named
named-editions bs name z mark = go (eqb (instant_of z) 0)
  where
    go : (b : Bool)
        → SameButName (walk (naming held name) nothing bs) (pick b (Err (OutOfRange, 0)) (finish mark (walk (naming (answer_at One (instant_of z)) name) nothing bs)))
        (pick b (Err (OutOfRange, 0)) (finish mark (walk (naming (answer_at Two (instant_of z)) name) nothing bs)))
    go true = same
    go false =
        rw (named-walk (answer_at One (instant_of z)) name bs, named-walk (answer_at Two (instant_of z)) name bs)
        (by-walk mark (instant_of z) (walk (naming held name) nothing bs))

-- the only interval of a fixed zone has its name
name_in : (id : ℕ) (b : Body) (x : Interval) → InBody id b x → (offset : ℕ) (n : FixedName) → b ≡ fixed offset n → x.name ≡ fixed_name_of id n
name_in id _ _ (all-of-time o m) offset n e = let q : m ≡ n = cc in ap (fixed_name_of id) q
name_in id _ _ (in-list is end t x l) offset n e = clash cc
name_in id _ _ (in-tail is end m x l) offset n e = clash cc

-- "UNDER 1 A FIXED ZONE'S NAME IS ITS ID WHATEVER FOLLOWS": in a well-formed file the asked bytes themselves
pub shows-id : (f id : List ℕ) (z : ℤ) (g : Field) → WellFormed f → (a : Asked f id g) → InRange z → (offset : ℕ) (n : FixedName) → a.has.zone.body ≡ fixed offset n
    → (mark : Mark) (x : Found) → ask f id z mark One ≡ Ok x → name_of f x ≡ id
unfolding nameless under fixed_name_of
shows-id f id z g w a h offset n e mark x k =
    let r = right One f id z g w a h in
    let s : Ok r.given ≡ Ok x = sym (r.marked mark) ∙ k in
    let u : r.given ≡ x = cc in
    let i : r.interval.name ≡ a.has.zone.id = name_in a.has.zone.id (nameless a.has.zone.body) r.interval r.of-zone offset absent (ap nameless e) in
    ap (name_of f) (sym u) ∙ r.named ∙ ap (λ (j : ℕ). get_or (file_pool (fields f)) j []) i ∙ a.has.bytes
