-- Where the version text that is given lies: in the data of field 2. Assumes nothing.
use Rattle.base.specs.declared.Refusal.{Refusal}
use Rattle.base.specs.declared.Refusal.TheVariants.{BadData, FirstField, SecondZone}
use Rattle.std.specs.Prelude.{Err, Ok, Result}
use mathlib.Core.Path.{◌≡◌, refl, sym, ◌∙◌, ap}
use mathlib.Core.Bool.{Bool, true, false}
use mathlib.Core.List.{List, [], ◌∷◌, ◌++◌}
use Prim.Native.Nat.{ℕ, ◌+◌, ◌≤◌}
use native.Mathlib.Omega.{arith}
use lib.ListN.{length, take, drop}
use lib.Dec.{eqb}
use borrow.Author.Tests.{eqb-true}
use Rattle.base.specs.Pick.{pick}
use Rattle.base.specs.Parsed.{Parsed, got, bad as faulty}
use Rattle.base.specs.Run.{next}
use Rattle.base.proofs.PairLaws.{ok_parts}
use Rattle.base.proofs.Parts.{part-of-part}
use Rattle.texts.specs.Text.{read_text, part_of, text_bytes}
use Rattle.pool.specs.Pool.{Pool, parse_pool}
use Rattle.zones.specs.Content.{Zone}
use Rattle.zones.specs.Parse.{parse_zone}
use Rattle.locations.specs.Content.{Location, parse_locations}
use Rattle.locations.specs.declared.LocationField.{LocationField}
use Rattle.ids.specs.Ids.{among as among_ids}
use Rattle.aliases.specs.Dictionary.{Dictionary}
use Rattle.aliases.specs.Field.{parse_aliases}
use Rattle.frames.specs.Frame.{Field}
use Rattle.frames.specs.Machine.{Out, found, refused, cut, ended, Content, bad, answer, keep, verdict, onward, walk}
use Rattle.frames.specs.Fields.{fields, pass, FieldOf}
use Rattle.base.proofs.AllLaws.{all_head, all_right}
use Rattle.frames.proofs.ChainLaws.{listing-chain, chain-fields}
use Rattle.frames.proofs.PartLaws.{walk-ended}
use Rattle.field_checks.specs.Check.{Kind, pool_field, zone_field, text_field, alias_field, other_field, kind_of, content_by, location_field}
use Rattle.field_checks.specs.Check.{TextPlace, nowhere, placed, Memory, start, with_pool, with_id, with_text, pool_in, pool_kept, new_id, zone_in}
use Rattle.field_checks.specs.Check.{zone_kept, text_in, text_kept, aliases_in, aliases_kept, judged, job, concluded, concludes, conclusion, text_given, version_of, locations_in, locations_kept}
use Rattle.field_checks.specs.Version.{TextIn}
use Rattle.field_checks.specs.declared.Conclusion.TheVariants.{Refused as Ill, Bare, WithText}
use Rattle.field_checks.proofs.KindLaws.{KindId, kind-id}
use Rattle.base.proofs.Tests.{clash}

-- the text in the data of g starts at the place a and has n bytes
pub record InField (g : Field) (a n : ℕ) : Type 0 where
  pub is-text : g.id ≡ 2
  pub behind : ℕ
  pub read : read_text g.body ≡ Ok (behind, n)
  pub place : a ≡ g.start + behind
  pub whole : behind + n ≡ length g.body

-- it was there before, or g holds it
data Comes (m : Memory) (g : Field) (a n : ℕ) : Type 0 where
  before : m.text ≡ placed a n → Comes m g a n
  here : InField g a n → Comes m g a n

abbrev From : Memory → Field → Content Memory ⊥ → Type 0
From m g x = (m' : Memory) (a n : ℕ) → x ≡ keep m' → m'.text ≡ placed a n → Comes m g a n

-- what keeps the text, or has none to keep
same-text : (m : Memory) (g : Field) (k : Memory) → k.text ≡ m.text → From m g (keep k)
same-text m g k e m' a n q t = let z : k ≡ m' = cc in before (sym e ∙ ap (λ (y : Memory). y.text) z ∙ t)

no_text : (m : Memory) (g : Field) (k : Refusal) → From m g (bad k)
no_text m g k m' a n q t = clash cc

pool-text : (m : Memory) (g : Field) → From m g (pool_kept m g.body)
unfolding pool_kept
pool-text m g = go (parse_pool g.body)
  where
    go : (p : Pool) → From m g (pool_in m p)
    go (faulty k) = no_text m g k
    go (got ts r) = same-text m g (with_pool m ts) refl

id-text : (m : Memory) (g : Field) (x : List ℕ) → From m g (new_id m x)
unfolding new_id
id-text m g x = go (among_ids x m.ids)
  where
    go : (t : Bool) → From m g (pick t (bad SecondZone) (keep (with_id m x)))
    go true = no_text m g SecondZone
    go false = same-text m g (with_id m x) refl

zone-text : (m : Memory) (g : Field) → From m g (zone_kept m g.body)
unfolding zone_kept
zone-text m g = go (parse_zone (length m.pool) g.body)
  where
    go : (p : Parsed Zone) → From m g (zone_in m p)
    go (faulty k) = no_text m g k
    go (got z r) = id-text m g _

text-text : (m : Memory) (g : Field) → g.id ≡ 2 → From m g (text_kept m g.start g.body)
unfolding text_kept
text-text m g i = go (read_text g.body) refl
  where
    two : (b k : ℕ) → read_text g.body ≡ Ok (b, k) → (t : Bool) → eqb (b + k) (length g.body) ≡ t
        → From m g (pick t (keep (with_text m (placed (g.start + b) k))) (bad BadData))
    two b k h false e m' a n q t = no_text m g BadData m' a n q t
    two b k h true e m' a n q t =
        let z : with_text m (placed (g.start + b) k) ≡ m' = cc in
        let w : placed (g.start + b) k ≡ placed a n = ap (λ (y : Memory). y.text) z ∙ t in
        let u : k ≡ n = cc in
        here (record { is-text = i; behind = b; read = rw u at h; place = cc; whole = rw u at (eqb-true (b + k) _ e) })

    go : (t : Result (ℕ × ℕ) Refusal) → read_text g.body ≡ t → From m g (text_in m g.start (length g.body) t)
    go (Err k) h = no_text m g k
    go (Ok (b, k)) h = two b k h (eqb (b + k) (length g.body)) refl

aliases-text : (m : Memory) (g : Field) → From m g (aliases_kept m g.body)
unfolding aliases_kept
aliases-text m g = go (parse_aliases m.pool g.body)
  where
    go : (p : Parsed Dictionary) → From m g (aliases_in m p)
    go (faulty k) = no_text m g k
    go (got es r) = same-text m g m refl

locations-text : (m : Memory) (g : Field) (field : LocationField) → From m g (locations_kept m field g.body)
unfolding locations_kept
locations-text m g field = go (parse_locations field (length m.pool) g.body)
  where
    go : (p : Parsed (List Location)) → From m g (locations_in m p)
    go (faulty k) = no_text m g k
    go (got ls r) = same-text m g m refl

field-text : (m : Memory) (g : Field) → From m g (job.content m g)
unfolding judged
field-text m g = go (kind_of g.id) (kind-id g.id)
  where
    go : (k : Kind) → KindId g.id k → From m g (content_by k m g.start g.body)
    go pool_field i = pool-text m g
    go zone_field i = zone-text m g
    go text_field i = text-text m g i
    go alias_field i = aliases-text m g
    go (location_field field) i = locations-text m g field
    go other_field i = same-text m g m refl

-- one of the fields gs holds the text
pub record Among (gs : List Field) (a n : ℕ) : Type 0 where
  pub prior : List Field
  pub at : Field
  pub after : List Field
  pub split : gs ≡ prior ++ at ∷ after
  pub holds : InField at a n

pub data Came (m : Memory) (gs : List Field) (a n : ℕ) : Type 0 where
  earlier : m.text ≡ placed a n → Came m gs a n
  among : Among gs a n → Came m gs a n

pub pass-text : (gs : List Field) (m m' : Memory) (a n : ℕ) → pass job.content m gs ≡ next m' → m'.text ≡ placed a n → Came m gs a n
unfolding pass
pass-text [] m m' a n h t = let z : m ≡ m' = cc in earlier (ap (λ (y : Memory). y.text) z ∙ t)
pass-text (g ∷ gs) m m' a n h t = go (job.content m g) refl h (λ m'' k. pass-text gs m'' m' a n k t)
  where
    first : Comes m g a n → Came m (g ∷ gs) a n
    first (before e) = earlier e
    first (here i) = among (record { prior = []; at = g; after = gs; split = refl; holds = i })

    on : (m'' : Memory) → job.content m g ≡ keep m'' → Came m'' gs a n → Came m (g ∷ gs) a n
    on m'' e (earlier k) = first (field-text m g m'' a n e k)
    on m'' e (among w) =
        among (record { prior = g ∷ w.prior; at = w.at; after = w.after; split = ap (λ (hs : List Field). g ∷ hs) w.split; holds = w.holds })

    go : (x : Content Memory ⊥) → job.content m g ≡ x → onward (verdict g x) (λ y. pass job.content y gs) ≡ next m'
        → ((m'' : Memory) → pass job.content m'' gs ≡ next m' → Came m'' gs a n) → Came m (g ∷ gs) a n
    go (bad k) e h rec = clash cc
    go (answer v) e h rec = absurd v
    go (keep m'') e h rec = on m'' e (rec m'' h)

-- the text in the data of a field of f is a part of f
pub text-bytes : (f : List ℕ) (g : Field) (a n : ℕ) → FieldOf f g → InField g a n → (take n (drop a f) ≡ text_bytes g.body) × (a + n ≤ length f)
text-bytes f g a n o i =
    let b : g.body ≡ take (i.behind + n) (drop g.start f) = rw i.whole o.bytes in
    let t : text_bytes g.body ≡ take n (drop i.behind g.body) = ap (part_of g.body) i.read in (
      ap (λ (p : ℕ). take n (drop p f)) i.place
          ∙ sym (part-of-part f g.start (i.behind + n) i.behind n (omega arith))
          ∙ ap (λ (d : List ℕ). take n (drop i.behind d)) (sym b)
          ∙ sym t,
      omega (arith, i.place, i.whole, o.ends, o.within),
    )

text-in : (f : List ℕ) (a n : ℕ) → Among (fields f) a n → TextIn f a n
text-in f a n w =
    let o : FieldOf f w.at
    = all_head (all_right w.prior (w.at ∷ w.after) (rw w.split at (chain-fields f false 0 4 (fields f) (listing-chain f 255)))) in
    let t = text-bytes f w.at a n o w.holds in
    record {
      prior = w.prior;
      field = w.at;
      after = w.after;
      split = w.split;
      is-text = w.holds.is-text;
      bytes = t.0;
      within = t.1;
    }

-- a text that is given was remembered
given : (t : TextPlace) (p a n : ℕ) → text_given (concluded t p) ≡ Ok (a, n) → t ≡ placed a n
unfolding concluded
given nowhere p a n = go (eqb p 4)
  where
    go : (t : Bool) → text_given (pick t (Ill FirstField p) (Bare p)) ≡ Ok (a, n) → nowhere ≡ placed a n
    go true e = clash cc
    go false e = clash cc
given (placed b k) p a n = go (eqb p 4)
  where
    go : (t : Bool) → text_given (pick t (Ill FirstField p) (WithText b k)) ≡ Ok (a, n) → placed b k ≡ placed a n
    go true e = clash cc
    go false e = let z : b ≡ a = (ok_parts e).0 in let y : k ≡ n = (ok_parts e).1 in cc

-- THE VERSION TEXT is that of field 2, as a part of the bytes
pub text-of-field : (f : List ℕ) (a n : ℕ) → version_of f ≡ Ok (a, n) → TextIn f a n
unfolding conclusion
text-of-field f a n = go (walk job start f) refl
  where
    come : Came start (fields f) a n → TextIn f a n
    come (earlier e) = clash cc
    come (among w) = text-in f a n w

    go : (o : Out Memory ⊥) → walk job start f ≡ o → text_given (concludes o) ≡ Ok (a, n) → TextIn f a n
    go (found v p) e h = absurd v
    go (refused k p) e h = clash cc
    go (cut p) e h = clash cc
    go (ended m p) e h =
        come (pass-text (fields f) start m a n (walk-ended job start m f p e).kept (given m.text p a n h))
