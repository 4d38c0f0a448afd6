-- The name of an answer to the named question is a part of the bytes that were asked. Assumes nothing.
use Rattle.base.specs.declared.Refusal.{Refusal}
use Rattle.base.specs.declared.Refusal.TheVariants.{BadData, OutOfRange}
use Rattle.std.specs.Prelude.{Err, Ok, Result}
use Rattle.base.specs.Coded.{Fault}
use mathlib.Core.Path.{◌≡◌, refl, sym, ap, ◌∙◌, subst}
use mathlib.Core.Bool.{Bool, true, false}
use mathlib.Core.List.{List, [], ◌∷◌, ◌++◌}
use mathlib.Core.Option.{some}
use Prim.Native.Nat.{ℕ, ◌+◌, ◌≤◌, ◌<◌}
use native.Mathlib.Omega.{arith}
use lib.IntN.{ℤ}
use lib.Dec.{eqb, ltb}
use lib.ListN.{length, drop, length-append, length-drop}
use lib.Seq.{take-append-le, drop-append-le}
use borrow.Author.Tests.{le-leb, eqb-false, lt-ltb}
use Rattle.base.specs.Pick.{pick}
use Rattle.base.specs.Equal.{equal}
use Rattle.base.specs.Run.{Step, stop, next, follow}
use Rattle.base.specs.Parsed.{Parsed, got, bad}
use Rattle.base.specs.Moment.{Finite}
use Rattle.base.specs.All.{All, all_none, all-also}
use Rattle.base.proofs.AllLaws.{all_head, all_tail, all_append}
use Rattle.base.proofs.Tests.{clash}
use Rattle.signed.specs.Instant.{instant_of}
use Rattle.signed.proofs.IntegerLaws.{instant-finite}
use Rattle.texts.specs.Text.{read_text}
use Rattle.pool.specs.Pool.{strings_of}
use Rattle.pool.proofs.StringLaws.{span-inside}
use Rattle.zones.specs.Content.{Zone}
use Rattle.zones.specs.Parse.{parse_zone}
use Rattle.zones.specs.Editions.{under}
use Rattle.zones.specs.Lookup.{in_zone}
use Rattle.zones.specs.declared.Edition.{Edition}
use Rattle.zones.specs.Sound.{Sound}
use Rattle.zones.proofs.SoundLaws.{zone-sound}
use Rattle.zones.proofs.EditionLaws.{under-sound}
use Rattle.zones.proofs.RangeLaws.{zone-found}
use Rattle.aliases.specs.Dictionary.{Dictionary}
use Rattle.aliases.specs.Field.{parse_aliases}
use Rattle.alias_lookup.specs.Lookup.{Named as Leading, here, unknown, deep, lookup, most, Says}
use Rattle.alias_lookup.proofs.LookupLaws.{lookup-says}
use Rattle.frames.specs.Frame.{Field}
use Rattle.frames.specs.Machine.{Out, found, refused, cut, ended, Content, bad as fault, answer, keep, verdict, onward, walk}
use Rattle.frames.specs.Fields.{Ending, refused_at, cut_at, end_at, listing, pass, outcome, FieldOf}
use Rattle.frames.proofs.ChainLaws.{listing-chain, chain_first, chain-fields}
use Rattle.frames.proofs.WalkLaws.{walk-pass}
use Rattle.answers.specs.Answers.{Pool, answered, name_of}
use Rattle.answers.specs.declared.Mark.TheVariants.{More}
use Rattle.answers.specs.declared.Found.{Found}
use Rattle.locate.specs.Asked.{says as asked_says}
use Rattle.questions.specs.Question.{answer_at, finish}
use Rattle.questions.proofs.NameLaws.{Inside, Named, says-named, says-inside}
use Rattle.named_fields.specs.Named.{Seen, zone_in, Known, nothing, seen_in, zones_of, remembered, text_says, resolved, alias_says, says, naming, ask_named}
use Rattle.named_questions.proofs.GrowLaws.{field-grown}

-- the names of a zone that was seen are strings of the pool
abbrev SeenOk : ℕ → Seen → Type 0
SeenOk n y = Sound n y.zone

zone-ok : (n : ℕ) (zs : List Seen) → All (SeenOk n) zs → (x : List ℕ) (b : Zone) → zone_in zs x ≡ some b → Sound n b
unfolding zone_in
zone-ok n [] a x b e = clash cc
zone-ok n (z ∷ zs) a x b e = go (equal z.id x) e (zone-ok n zs (all_tail a) x b)
  where
    go : (t : Bool) → pick t (some z.zone) (zone_in zs x) ≡ some b → (zone_in zs x ≡ some b → Sound n b) → Sound n b
    go true q rec = let w : z.zone ≡ b = cc in subst (Sound n) w (all_head a)
    go false q rec = rec q

zones-ok : (ts : List (List ℕ)) (g : Field) → All (SeenOk (length ts)) (zones_of ts g)
unfolding zones_of
zones-ok ts g = go (eqb g.id 1)
  where
    two : (p : Parsed Zone) → parse_zone (length ts) g.body ≡ p → All (SeenOk (length ts)) (seen_in ts p)
    two (got z r) e = all-also (zone-sound (length ts) g.body z r e).0 all_none
    two (bad n) e = all_none

    go : (t : Bool) → All (SeenOk (length ts)) (pick t (seen_in ts (parse_zone (length ts) g.body)) [])
    go true = two (parse_zone (length ts) g.body) refl
    go false = all_none

module _ (bs id : List ℕ) (ed : Edition) (t : ℕ) (f : Finite t) where
  record Good (k : Known) : Type 0 where
    inside : Inside bs id ed t f k.pool
    names : All (SeenOk (length (strings_of k.pool.body))) k.zones

  asked-named : (k : Known) (g : Field) → Good k → (c : Content Pool Found) → asked_says (answer_at ed t) id k.pool g ≡ c → (v : Found) → remembered k g c ≡ answer v → Named bs id ed t f v
  asked-named k g o (fault n) e v h = clash cc
  asked-named k g o (answer x) e v h = let w : x ≡ v = cc in subst (Named bs id ed t f) w (says-named bs id ed t f k.pool g o.inside x e)
  asked-named k g o (keep p) e v h = clash cc

  text-named : (k : Known) (size : ℕ) (u : Result (ℕ × ℕ) Refusal) (v : Found) → text_says k size u ≡ answer v → Named bs id ed t f v
  text-named k size (Err n) v e = clash cc
  text-named k size (Ok (b, n)) v e = go (eqb (b + n) size) e
    where
      go : (y : Bool) → pick {A = Content Known Found} y (keep k) (fault BadData) ≡ answer v → Named bs id ed t f v
      go true q = clash cc
      go false q = clash cc

  alias-named : (k : Known) → Good k → (p : Parsed Dictionary) (v : Found) → alias_says (answer_at ed t) id k p ≡ answer v → Named bs id ed t f v
  alias-named k o (bad n) v e = clash cc
  alias-named k o (got es r) v e = go (lookup (zone_in k.zones) es most id) (lookup-says (zone_in k.zones) es most id) e
    where
      go : (n : Leading Zone) → Says (zone_in k.zones) es most id n → resolved (answer_at ed t) k.pool n ≡ answer v → Named bs id ed t f v
      go (here b) s q =
          let w : answered k.pool (in_zone t (under ed b)) ≡ v = cc in
          let l : (in_zone t (under ed b)).name < length (strings_of k.pool.body) = (zone-found (length (strings_of k.pool.body)) t (under ed b) (under-sound ed _ b (zone-ok (length (strings_of k.pool.body)) k.zones o.names s.last b s.zone-is)) f).name-ok in
          subst (Named bs id ed t f) w (omega (arith, span-inside k.pool.body (in_zone t (under ed b)).name l, o.inside))
      go unknown s q = clash cc
      go deep s q = clash cc

  field-named : (k : Known) (g : Field) → Good k → (v : Found) → says (answer_at ed t) id k g ≡ answer v → Named bs id ed t f v
  unfolding says
  field-named k g o v = go (ltb g.id 2) (eqb g.id 2)
    where
      go : (a b : Bool) → pick a (remembered k g (asked_says (answer_at ed t) id k.pool g)) (pick b (text_says k (length g.body) (read_text g.body)) (alias_says (answer_at ed t) id k (parse_aliases (strings_of k.pool.body) g.body))) ≡ answer v → Named bs id ed t f v
      go true b e = asked-named k g o (asked_says (answer_at ed t) id k.pool g) refl v e
      go false true e = text-named k (length g.body) (read_text g.body) v e
      go false false e = alias-named k o (parse_aliases (strings_of k.pool.body) g.body) v e

  field-good : (k k' : Known) (g : Field) → Good k → 0 < g.id → says (answer_at ed t) id k g ≡ keep k' → Good k'
  field-good k k' g o l e =
      let w = field-grown id ed t k k' g l e in
      record {
        inside = rw w.0 o.inside;
        names = subst (λ (p : Pool). All (SeenOk (length (strings_of p.body))) k'.zones) (sym w.0) (rw w.1 (all_append o.names (zones-ok (strings_of k.pool.body) g)));
      }

  pass-named : (gs : List Field) (k : Known) → Good k → All (λ h. 0 < h.id) gs → (x : Found) (p : ℕ) → pass (says (answer_at ed t) id) k gs ≡ stop (found x p) → Named bs id ed t f x
  unfolding pass
  pass-named [] k o a x p h = clash cc
  pass-named (g ∷ gs) k o a x p h = go (says (answer_at ed t) id k g) refl h (λ k' o'. pass-named gs k' o' (all_tail a) x p)
    where
      go : (c : Content Known Found) → says (answer_at ed t) id k g ≡ c → onward (verdict g c) (λ m. pass (says (answer_at ed t) id) m gs) ≡ stop (found x p)
          → ((k' : Known) → Good k' → pass (says (answer_at ed t) id) k' gs ≡ stop (found x p) → Named bs id ed t f x) → Named bs id ed t f x
      go (fault n) e q rec = clash cc
      go (answer v) e q rec = let w : v ≡ x = cc in subst (Named bs id ed t f) w (field-named k g o v e)
      go (keep k') e q rec = rec k' (field-good k k' g o (all_head a) e) q

  -- field 0 first
  first_good : (g : Field) (k' : Known) → g.id ≡ 0 → FieldOf bs g → says (answer_at ed t) id nothing g ≡ keep k' → Good k'
  unfolding says
  first_good g k' i o e = go (asked_says (answer_at ed t) id nothing.pool g) refl (rw (lt-ltb g.id 2 (omega arith)) at e)
    where
      go : (c : Content Pool Found) → asked_says (answer_at ed t) id nothing.pool g ≡ c → remembered nothing g c ≡ keep k' → Good k'
      go (fault n) q h = clash cc
      go (answer v) q h = clash cc
      go (keep p) q h =
          let w : record { pool = p; zones = [] ++ zones_of (strings_of p.body) g } ≡ k' = cc in
          subst Good w (record { inside = says-inside bs id ed t f nothing.pool g (omega arith) o p q; names = zones-ok (strings_of p.body) g })

  begin-good : Good nothing
  begin-good = record { inside = omega arith; names = all_none }

  all_named : (gs : List Field) → All (FieldOf bs) gs → (g₀ : Field) (hs : List Field) → gs ≡ g₀ ∷ hs → g₀.id ≡ 0 → All (λ h. 0 < h.id) hs → (x : Found) (p : ℕ) → pass (says (answer_at ed t) id) nothing gs ≡ stop (found x p) → Named bs id ed t f x
  unfolding pass
  all_named gs a g₀ hs e i l x p h = go (says (answer_at ed t) id nothing g₀) refl (rw e at h)
    where
      go : (c : Content Known Found) → says (answer_at ed t) id nothing g₀ ≡ c → onward (verdict g₀ c) (λ m. pass (says (answer_at ed t) id) m hs) ≡ stop (found x p) → Named bs id ed t f x
      go (fault n) y q = clash cc
      go (answer v) y q = let w : v ≡ x = cc in subst (Named bs id ed t f) w (field-named nothing g₀ begin-good v y)
      go (keep k') y q = pass-named hs k' (first_good g₀ k' i (all_head (rw e at a)) y) l x p q

  pub name-inside : (x : Found) (p : ℕ) → walk (naming (answer_at ed t) id) nothing bs ≡ found x p → Named bs id ed t f x
  name-inside x p h = go (pass (says (answer_at ed t) id) nothing (listing 3 bs).fields) refl (sym (walk-pass (naming (answer_at ed t) id) nothing bs) ∙ h)
    where
      by_end : (e : Ending) (m : Known) → outcome {A = Found} e m ≡ found x p → Named bs id ed t f x
      by_end (refused_at n q) m k = clash cc
      by_end (cut_at q) m k = clash cc
      by_end (end_at q) m k = clash cc

      by-fields : (gs : List Field) → (listing 3 bs).fields ≡ gs → pass (says (answer_at ed t) id) nothing gs ≡ stop (found x p) → Named bs id ed t f x
      by-fields [] e k = pass-named [] nothing begin-good all_none x p k
      by-fields (g ∷ gs) e k =
          let n = chain_first bs 4 g gs (rw e at (listing-chain bs 3)) in
          all_named (g ∷ gs) (chain-fields bs false 0 4 (g ∷ gs) (rw e at (listing-chain bs 3))) g gs refl n.0 n.1 x p k

      go : (s : Step Known (Out Known Found)) → pass (says (answer_at ed t) id) nothing (listing 3 bs).fields ≡ s → follow s (outcome (listing 3 bs).ending) ≡ found x p → Named bs id ed t f x
      go (stop o) e k = by-fields (listing 3 bs).fields refl (e ∙ ap stop k)
      go (next m) e k = by_end (listing 3 bs).ending m k

-- "The same answer: every value that it carries is equal, the name byte for byte."
pub standing-name : (bs more id : List ℕ) (z : ℤ) (ed : Edition) (x : Found) → ask_named bs id z More ed ≡ Ok x → name_of (bs ++ more) x ≡ name_of bs x
unfolding ask_named
standing-name bs more id z ed x = go (eqb (instant_of z) 0) refl
  where
    within : (instant_of z ≡ 0 → ⊥) → (o : Out Known Found) → walk (naming (answer_at ed (instant_of z)) id) nothing bs ≡ o → finish More o ≡ Ok x → x.name + x.length ≤ length bs
    within h (found v p) e k =
        let w : v ≡ x = cc in
        subst (λ (u : Found). u.name + u.length ≤ length bs) w (name-inside bs id ed (instant_of z) (instant-finite (instant_of z) z refl h) v p e)
    within h (refused n p) e k = clash cc
    within h (cut p) e k = clash cc
    within h (ended m p) e k = clash cc

    go : (t : Bool) → eqb (instant_of z) 0 ≡ t → pick {A = Result Found Fault} t (Err (OutOfRange, 0)) (finish More (walk (naming (answer_at ed (instant_of z)) id) nothing bs)) ≡ Ok x
        → name_of (bs ++ more) x ≡ name_of bs x
    go true e k = clash cc
    go false e k =
        let l = within (eqb-false (instant_of z) 0 e) (walk (naming (answer_at ed (instant_of z)) id) nothing bs) refl k in
        let l' : x.name + x.length ≤ length (bs ++ more) = rw (length-append bs more) (omega arith) in
        rw (le-leb _ _ l, le-leb _ _ l', drop-append-le x.name bs more (omega arith))
        (take-append-le x.length (drop x.name bs) more (simp length-drop (omega arith)))
