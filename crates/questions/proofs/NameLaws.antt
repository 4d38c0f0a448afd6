-- The name of an answer is a part of the bytes that were asked, so more bytes do not change it. Assumes nothing.
use Rattle.base.specs.declared.Refusal.TheVariants.{OutOfRange}
use Rattle.base.specs.Coded.{Fault}
use Rattle.std.specs.Prelude.{Err, Ok, Result}
use mathlib.Core.Path.{◌≡◌, refl, sym, ap, ◌∙◌, subst}
use mathlib.Core.Bool.{Bool, true, false}
use mathlib.Core.List.{List, [], ◌∷◌, ◌++◌}
use Prim.Native.Nat.{ℕ, ◌+◌, ◌≤◌, ◌<◌}
use native.Mathlib.Omega.{arith}
use lib.IntN.{ℤ}
use lib.Dec.{eqb}
use lib.ListN.{length, drop, get_or, length-append, length-drop}
use lib.Seq.{take-append-le, drop-append-le}
use borrow.Author.Tests.{le-leb, eqb-false}
use Rattle.base.specs.Pick.{pick}
use Rattle.base.specs.Run.{Step, stop, next, follow}
use Rattle.base.specs.Parsed.{Parsed, got, bad}
use Rattle.base.specs.Moment.{Finite}
use Rattle.signed.specs.Instant.{instant_of}
use Rattle.pool.specs.Pool.{parse_pool, strings_of}
use Rattle.base.specs.Equal.{equal}
use Rattle.pool.proofs.StringLaws.{span-inside}
use Rattle.zones.specs.Content.{Zone}
use Rattle.zones.specs.Parse.{parse_zone}
use Rattle.zones.specs.Editions.{under}
use Rattle.zones.specs.Lookup.{in_zone}
use Rattle.zones.proofs.EditionLaws.{under-sound}
use Rattle.zones.proofs.SoundLaws.{zone-sound}
use Rattle.zones.proofs.RangeLaws.{zone-found}
use Rattle.zones.specs.declared.Edition.{Edition}
use Rattle.frames.specs.Frame.{Field}
use Rattle.frames.specs.Machine.{Out, found, refused, cut, ended, Content, bad as fault, answer, keep, verdict, onward, walk}
use Rattle.frames.specs.Fields.{Ending, refused_at, cut_at, end_at, listing, pass, outcome, FieldOf}
use Rattle.base.specs.All.{All}
use Rattle.base.proofs.AllLaws.{all_head, all_tail}
use Rattle.frames.proofs.ChainLaws.{listing-chain, chain-fields}
use Rattle.frames.proofs.WalkLaws.{walk-pass}
use Rattle.answers.specs.Answers.{Pool, no_pool, answered, name_of}
use Rattle.locate.specs.Asked.{pool_says, zone_says, says}
use Rattle.questions.specs.Question.{answer_at, question, finish, ask}
use Rattle.signed.proofs.IntegerLaws.{instant-finite}
use Rattle.answers.specs.declared.Mark.TheVariants.{More}
use Rattle.answers.specs.declared.Found.{Found}
use Rattle.base.proofs.Tests.{clash}

-- a kept field leaves the pool as it was, or is the pool
pub zone-keeps : (P : Pool → Type 0) (id : List ℕ) (ed : Edition) (t : ℕ) (y : Pool) (p : Parsed Zone) (y' : Pool) → zone_says (answer_at ed t) id y p ≡ keep y' → P y → P y'
zone-keeps P id ed t y (got z q) y' h i = go (equal (get_or (strings_of y.body) z.id []) id) h
  where
    go : (b : Bool) → pick {A = Content Pool Found} b (answer (answered y (in_zone t (under ed z)))) (keep y) ≡ keep y' → P y'
    go true k = clash cc
    go false k = let w : y ≡ y' = cc in subst P w i
zone-keeps P id ed t y (bad n) y' h i = clash cc

pool-keeps : (P : Pool → Type 0) (g : Field) (p : Parsed (List (List ℕ))) (y' : Pool) → pool_says {A = Found} g p ≡ keep y'
    → P (record { start = g.start; body = g.body }) → P y'
pool-keeps P g (got ts r) y' h i = let w : record { start = g.start; body = g.body } ≡ y' = cc in subst P w i
pool-keeps P g (bad n) y' h i = clash cc

pub by-kept : (P : Pool → Type 0) (id : List ℕ) (ed : Edition) (t : ℕ) (y : Pool) (g : Field) (y' : Pool) → says (answer_at ed t) id y g ≡ keep y'
    → P y → P (record { start = g.start; body = g.body }) → P y'
unfolding says
by-kept P id ed t y g y' h a b = go (eqb g.id 0) h
  where
    go : (c : Bool) → pick c (pool_says g (parse_pool g.body)) (zone_says (answer_at ed t) id y (parse_zone (length (strings_of y.body)) g.body)) ≡ keep y' → P y'
    go true k = pool-keeps P g (parse_pool g.body) y' k b
    go false k = zone-keeps P id ed t y (parse_zone (length (strings_of y.body)) g.body) y' k a

module _ (bs id : List ℕ) (ed : Edition) (t : ℕ) (f : Finite t) where
  -- the pool that is remembered lies within the bytes
  abbrev pub Inside : Pool → Type 0
  Inside y = y.start + length y.body ≤ length bs

  abbrev pub Named : Found → Type 0
  Named x = x.name + x.length ≤ length bs

  zone-named : (y : Pool) (d : List ℕ) (p : Parsed Zone) → parse_zone (length (strings_of y.body)) d ≡ p → Inside y → (v : Found)
      → zone_says (answer_at ed t) id y p ≡ answer v → Named v
  zone-named y d (got z q) e i v h = go (equal (get_or (strings_of y.body) z.id []) id) h
    where
      x : ℕ
      x = (in_zone t (under ed z)).name

      below : x < length (strings_of y.body)
      below = (zone-found (length (strings_of y.body)) t (under ed z) (under-sound ed _ z (zone-sound _ d z q e).0) f).name-ok

      go : (b : Bool) → pick {A = Content Pool Found} b (answer (answered y (in_zone t (under ed z)))) (keep y) ≡ answer v → Named v
      go true k =
          let w : answered y (in_zone t (under ed z)) ≡ v = cc in
          subst Named w (omega (arith, span-inside y.body x below, i))
      go false k = clash cc
  zone-named y d (bad n) e i v h = clash cc

  pool-answers : (g : Field) (p : Parsed (List (List ℕ))) (v : Found) → pool_says g p ≡ answer v → Named v
  pool-answers g (got ts r) v h = clash cc
  pool-answers g (bad n) v h = clash cc

  pub says-named : (y : Pool) (g : Field) → Inside y → (v : Found) → says (answer_at ed t) id y g ≡ answer v → Named v
  unfolding says
  says-named y g i v = go (eqb g.id 0)
    where
      go : (b : Bool) → pick b (pool_says g (parse_pool g.body)) (zone_says (answer_at ed t) id y (parse_zone (length (strings_of y.body)) g.body)) ≡ answer v → Named v
      go true h = pool-answers g (parse_pool g.body) v h
      go false h = zone-named y g.body (parse_zone (length (strings_of y.body)) g.body) refl i v h

  pub says-inside : (y : Pool) (g : Field) → Inside y → FieldOf bs g → (y' : Pool) → says (answer_at ed t) id y g ≡ keep y' → Inside y'
  says-inside y g i o y' h = by-kept Inside id ed t y g y' h i (omega (arith, o.ends, o.within))

  pass-named : (gs : List Field) (y : Pool) → All (FieldOf bs) gs → Inside y → (x : Found) (p : ℕ) → pass (says (answer_at ed t) id) y gs ≡ stop (found x p) → Named x
  unfolding pass
  pass-named [] y a i x p h = clash cc
  pass-named (g ∷ gs) y a i x p h = go (says (answer_at ed t) id y g) refl h (λ y' i'. pass-named gs y' (all_tail a) i' x p)
    where
      go : (c : Content Pool Found) → says (answer_at ed t) id y g ≡ c → onward (verdict g c) (λ m. pass (says (answer_at ed t) id) m gs) ≡ stop (found x p)
          → ((y' : Pool) → Inside y' → pass (says (answer_at ed t) id) y' gs ≡ stop (found x p) → Named x) → Named x
      go (fault n) e k rec = clash cc
      go (answer v) e k rec = let w : v ≡ x = cc in subst Named w (says-named y g i v e)
      go (keep y') e k rec = rec y' (says-inside y g i (all_head a) y' e) k

  -- an answer's name is a part of the bytes
  pub name-inside : (x : Found) (p : ℕ) → walk (question ed id t) no_pool bs ≡ found x p → Named x
  name-inside x p h = go (pass (says (answer_at ed t) id) no_pool (listing 1 bs).fields) refl (sym (walk-pass (question ed id t) no_pool bs) ∙ h)
    where
      by_end : (e : Ending) (m : Pool) → outcome {A = Found} e m ≡ found x p → Named x
      by_end (refused_at n q) m k = clash cc
      by_end (cut_at q) m k = clash cc
      by_end (end_at q) m k = clash cc

      go : (s : Step Pool (Out Pool Found)) → pass (says (answer_at ed t) id) no_pool (listing 1 bs).fields ≡ s → follow s (outcome (listing 1 bs).ending) ≡ found x p → Named x
      go (stop o) e k = pass-named (listing 1 bs).fields no_pool (chain-fields bs false 0 4 _ (listing-chain bs 1)) (omega arith) x p (e ∙ ap stop k)
      go (next m) e k = by_end (listing 1 bs).ending m k

-- "The same answer: every value that it carries is equal, the name byte for byte."
pub standing-name : (bs more id : List ℕ) (z : ℤ) (ed : Edition) (x : Found) → ask bs id z More ed ≡ Ok x → name_of (bs ++ more) x ≡ name_of bs x
unfolding ask
standing-name bs more id z ed x = go (eqb (instant_of z) 0) refl
  where
    named : (instant_of z ≡ 0 → ⊥) → (o : Out Pool Found) → walk (question ed id (instant_of z)) no_pool bs ≡ o → finish More o ≡ Ok x → x.name + x.length ≤ length bs
    named h (found v p) e k =
        let w : v ≡ x = cc in
        subst (λ (u : Found). u.name + u.length ≤ length bs) w (name-inside bs id ed (instant_of z) (instant-finite (instant_of z) z refl h) v p e)
    named h (refused n p) e k = clash cc
    named h (cut p) e k = clash cc
    named h (ended m p) e k = clash cc

    go : (t : Bool) → eqb (instant_of z) 0 ≡ t → pick {A = Result Found Fault} t (Err (OutOfRange, 0)) (finish More (walk (question ed id (instant_of z)) no_pool bs)) ≡ Ok x
        → name_of (bs ++ more) x ≡ name_of bs x
    go true e k = clash cc
    go false e k =
        let l = named (eqb-false (instant_of z) 0 e) (walk (question ed id (instant_of z)) no_pool bs) refl k in
        let l' : x.name + x.length ≤ length (bs ++ more) = rw (length-append bs more) (omega arith) in
        rw (le-leb _ _ l, le-leb _ _ l', drop-append-le x.name bs more (omega arith))
        (take-append-le x.length (drop x.name bs) more (simp length-drop (omega arith)))
