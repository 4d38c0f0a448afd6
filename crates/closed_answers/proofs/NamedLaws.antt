-- THE NAMED QUESTION, on two files whose fields say the same one by one: the answers are the same, places aside. Assumes nothing.
use Rattle.base.specs.declared.Refusal.{Refusal}
use Rattle.base.specs.declared.Refusal.TheVariants.{BadData}
use Rattle.std.specs.Prelude.{Err, Ok, Result}
use mathlib.Core.Path.{◌≡◌, refl, ◌∙◌}
use mathlib.Core.Bool.{Bool, true, false}
use mathlib.Core.List.{List, [], ◌∷◌, ◌++◌}
use mathlib.Core.Option.{some}
use Prim.Native.Nat.{ℕ, ◌+◌, ◌≤◌}
use native.Mathlib.Omega.{arith}
use lib.Dec.{eqb}
use lib.IntN.{ℤ}
use lib.ListN.{length, get_or}
use borrow.Author.Tests.{eq-eqb, ne_eqb, eqb-true, eqb-false, lt-ltb, le-ltb}
use Rattle.base.specs.Pick.{pick}
use Rattle.base.specs.Equal.{equal}
use Rattle.base.specs.Moment.{Finite}
use Rattle.base.specs.Parsed.{got}
use Rattle.signed.specs.Instant.{instant_of}
use Rattle.signed.proofs.IntegerLaws.{instant-finite}
use Rattle.texts.specs.Text.{read_text}
use Rattle.pool.specs.Pool.{parse_pool, strings_of}
use Rattle.zones.specs.Content.{Zone}
use Rattle.zones.specs.Parse.{parse_zone}
use Rattle.zones.specs.declared.Edition.{Edition}
use Rattle.aliases.specs.Field.{parse_aliases}
use Rattle.alias_lookup.specs.Lookup.{Named, most}
use Rattle.frames.specs.Frame.{Field}
use Rattle.frames.specs.Machine.{Content, bad, answer, keep, walk}
use Rattle.answers.specs.Answers.{Pool, no_pool, pool_of}
use Rattle.answers.specs.declared.Mark.{Mark}
use Rattle.locate.specs.Asked.{says as asked_says}
use Rattle.questions.specs.Question.{answer_at}
use Rattle.named_fields.specs.Named.{Seen, zone_in, Known, nothing, zones_of, remembered, text_says, resolved, alias_says, says, naming, ask_named}
use Rattle.demands.specs.Same.{SameFound, SameAnswer, both-refuse}
use Rattle.closed_answers.proofs.BesideLaws.{Pairs, no-pair, and-pair, SameContent, both-bad, both-answer, both-keep, SameOut, walk-beside}
use Rattle.closed_answers.proofs.LookupLaws.{SameOption, neither, both_some, SameNamed, both-here, both-unknown, both-deep, lookup-same}
use Rattle.closed_answers.proofs.SameLaws.{SameZone, SameZoneData, SameAliasData, SamePools, SameField, SameFiles}
use Rattle.closed_answers.proofs.QuestionLaws.{pool-kept, zone-asked, first-pools, finish-same, asked-at}

pairs-append : {A B : Type 0} {R : A → B → Type 0} (xs : List A) (ys : List B) {us : List A} {vs : List B} → Pairs R xs ys → Pairs R us vs
    → Pairs R (xs ++ us) (ys ++ vs)
pairs-append xs ys no-pair q = q
pairs-append xs ys (and-pair {xs = xs'} {ys = ys'} r p) q = and-pair r (pairs-append xs' ys' p q)

module _ (ts us : List (List ℕ)) where
  -- the zones that were seen, one by one
  pub record SameSeen (a b : Seen) : Type 0 where
    pub id : b.id ≡ a.id
    pub zone : SameZone ts us a.zone b.zone

  zone-in : (zs ws : List Seen) (x : List ℕ) → Pairs SameSeen zs ws → SameOption (SameZone ts us) (zone_in zs x) (zone_in ws x)
  unfolding zone_in
  zone-in zs ws x no-pair = neither
  zone-in zs ws x (and-pair {x = a} {y = b} {xs = zs'} {ys = ws'} s p) = rw s.id (go (equal a.id x) (zone-in zs' ws' x p))
    where
      go : (t : Bool) → SameOption (SameZone ts us) (zone_in zs' x) (zone_in ws' x)
          → SameOption (SameZone ts us) (pick t (some a.zone) (zone_in zs' x)) (pick t (some b.zone) (zone_in ws' x))
      go true rec = both_some s.zone
      go false rec = rec

-- the zone that a field is
zones-of : (ts : List (List ℕ)) (g : Field) (z : Zone) → g.id ≡ 1 → parse_zone (length ts) g.body ≡ got z []
    → zones_of ts g ≡ record { id = get_or ts z.id []; zone = z } ∷ []
unfolding zones_of
zones-of ts g z i e = rw (eq-eqb g.id 1 i, e)

-- what the named question makes of a field, by its ID
module _ {A : Type 0} (make : Pool → Zone → A) (id : List ℕ) where
  by-zone : (k : Known) (g : Field) → g.id ≡ 1 → says make id k g ≡ remembered k g (asked_says make id k.pool g)
  unfolding says
  by-zone k g i = rw (lt-ltb g.id 2 (omega arith))

  by-text : (k : Known) (g : Field) → g.id ≡ 2 → says make id k g ≡ text_says k (length g.body) (read_text g.body)
  unfolding says
  by-text k g i = rw (le-ltb g.id 2 (omega arith), eq-eqb g.id 2 i)

  by-aliases : (k : Known) (g : Field) → g.id ≡ 3 → says make id k g ≡ alias_says make id k (parse_aliases (strings_of k.pool.body) g.body)
  unfolding says
  by-aliases k g i = rw (le-ltb g.id 2 (omega arith), ne_eqb g.id 2 (λ q. omega arith))

  first-known : (f : List ℕ) (ts : List (List ℕ)) (g : Field) → g.id ≡ 0 → parse_pool g.body ≡ got ts []
      → says make id nothing g ≡ keep (record { pool = pool_of g.start g.body; zones = [] })
  unfolding says zones_of
  first-known f ts g i e = rw (lt-ltb g.id 2 (omega arith), pool-kept make id ts no_pool g i e, ne_eqb g.id 1 (λ q. omega arith))

module _ (f h : List ℕ) (ts us : List (List ℕ)) (s : SameFiles f h ts us) where
  -- what the named question remembers of both
  pub record SameKnown (k l : Known) : Type 0 where
    pub pools : SamePools f h ts us k.pool l.pool
    pub zones : Pairs (SameSeen ts us) k.zones l.zones

  module _ {A B : Type 0} (Q : A → B → Type 0) (make : Pool → Zone → A) (make' : Pool → Zone → B)
      (made : (x y : Pool) (z w : Zone) → SamePools f h ts us x y → SameZone ts us z w → Q (make x z) (make' y w)) (id : List ℕ) where
    abbrev Same : Content Known A → Content Known B → Type 0
    Same x y = SameContent SameKnown Q x y

    -- a zone: the answer, or it is remembered
    zone-named : (k l : Known) (g j : Field) → SameField f h ts us g j → g.id ≡ 1 → SameKnown k l
        → Same (remembered k g (asked_says make id k.pool g)) (remembered l j (asked_says make' id l.pool j))
    zone-named k l g j a i r =
        let d = a.zone i in
        let p = r.pools in
        rw (
          zone-asked make id ts k.pool g d.zone i p.strings d.parsed,
          zone-asked make' id us l.pool j d.zone' (a.same_id ∙ i)
              p.strings' d.parsed',
          d.same.id,
        )
        (go d (equal (get_or ts d.zone.id []) id))
      where
        go : (d : SameZoneData ts us g.body j.body) (t : Bool)
            → Same (remembered k g (pick t (answer (make k.pool d.zone)) (keep k.pool)))
            (remembered l j (pick t (answer (make' l.pool d.zone')) (keep l.pool)))
        go d true = both-answer (made k.pool l.pool d.zone d.zone' r.pools d.same)
        go d false =
            let e : SameSeen ts us (record { id = get_or ts d.zone.id []; zone = d.zone })
            (record { id = get_or us d.zone'.id []; zone = d.zone' })
            = record { id = d.same.id; zone = d.same } in
            let q : Pairs (SameSeen ts us) (zones_of (strings_of k.pool.body) g) (zones_of (strings_of l.pool.body) j)
            = rw (
              r.pools.strings,
              r.pools.strings',
              zones-of ts g d.zone i d.parsed,
              zones-of us j d.zone' (a.same_id ∙ i)
                  d.parsed',
            ) (and-pair e no-pair) in
            both-keep (record { pools = r.pools; zones = pairs-append _ _ r.zones q })

    -- field 2 is the same
    text-named : (k l : Known) (d : List ℕ) → SameKnown k l → Same (text_says k (length d) (read_text d)) (text_says l (length d) (read_text d))
    text-named k l d r = go (read_text d)
      where
        two : (t : Bool) → Same (pick t (keep k) (bad BadData)) (pick t (keep l) (bad BadData))
        two true = both-keep r
        two false = both-bad

        go : (t : Result (ℕ × ℕ) Refusal) → Same (text_says k (length d) t) (text_says l (length d) t)
        go (Err n) = both-bad
        go (Ok (b, n)) = two (eqb (b + n) (length d))

    -- field 3: the same entries lead to the same zone
    resolved-same : (x y : Pool) (m n : Named Zone) → SamePools f h ts us x y → SameNamed (SameZone ts us) m n
        → Same (resolved make x m) (resolved make' y n)
    resolved-same x y m n p (both-here {z = z} {w = w} q) = both-answer (made x y z w p q)
    resolved-same x y m n p both-unknown = both-bad
    resolved-same x y m n p both-deep = both-bad

    aliases-named : (k l : Known) (d e : List ℕ) → SameAliasData ts us d e → SameKnown k l
        → Same (alias_says make id k (parse_aliases (strings_of k.pool.body) d)) (alias_says make' id l (parse_aliases (strings_of l.pool.body) e))
    aliases-named k l d e a r =
        rw (r.pools.strings, r.pools.strings', a.parsed, a.parsed')
        (resolved-same k.pool l.pool _ _ r.pools
        (lookup-same (SameZone ts us) _ _ (λ x. zone-in ts us k.zones l.zones x r.zones) a.entries most id))

    field-named : (k l : Known) (g j : Field) → SameField f h ts us g j → g.id ≤ 3 → SameKnown k l → Same (says make id k g) (says make' id l j)
    field-named k l g j a m r = go (eqb g.id 1) refl (eqb g.id 2) refl
      where
        go : (t : Bool) → eqb g.id 1 ≡ t → (u : Bool) → eqb g.id 2 ≡ u → Same (says make id k g) (says make' id l j)
        go true e u q =
            let i = eqb-true g.id 1 e in
            rw (by-zone make id k g i, by-zone make' id l j (a.same_id ∙ i)) (zone-named k l g j a i r)
        go false e true q =
            let i = eqb-true g.id 2 q in
            rw (by-text make id k g i, by-text make' id l j (a.same_id ∙ i), a.text i) (text-named k l g.body r)
        go false e false q =
            let n = eqb-false g.id 1 e in
            let o = eqb-false g.id 2 q in
            let i : g.id ≡ 3 = omega (arith, a.some) in
            rw (by-aliases make id k g i, by-aliases make' id l j (a.same_id ∙ i)) (aliases-named k l g.body j.body (a.aliases i) r)

    pub naming-same : SameOut SameKnown Q (walk (naming make id) nothing f) (walk (naming make' id) nothing h)
    naming-same =
        let b = s.beside in
        walk-beside SameKnown Q (SameField f h ts us) f h b (naming make id) (naming make' id) refl field-named nothing _ nothing _
        (first-known make id f ts b.first b.is-first s.pool) (first-known make' id h us b.first' b.is-first' s.pool')
        (record { pools = first-pools f h ts us s; zones = no-pair })

  -- THE SAME ANSWERS to a name, whatever the mark and the edition
  pub named-same : (x : List ℕ) (z : ℤ) (mark : Mark) (ed : Edition) → SameAnswer f h (ask_named f x z mark ed) (ask_named h x z mark ed)
  unfolding ask_named
  named-same x z mark ed = go (eqb (instant_of z) 0) refl
    where
      go : (t : Bool) → eqb (instant_of z) 0 ≡ t → SameAnswer f h (ask_named f x z mark ed) (ask_named h x z mark ed)
      go true e = rw e both-refuse
      go false e =
          let t = instant_of z in
          let k : Finite t = instant-finite t z refl (eqb-false t 0 e) in
          rw e (finish-same f h ts us s SameKnown mark _ _
          (naming-same (SameFound f h) (answer_at ed t) (answer_at ed t) (asked-at f h ts us s ed t k) x))
