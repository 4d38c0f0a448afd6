-- Each way out of the walk to the asked zone. Assumes nothing.
use Rattle.answers.specs.declared.Found.{Found}
use Rattle.base.specs.declared.Refusal.{Refusal}
use Rattle.base.specs.Coded.{Fault}
use Rattle.std.specs.Prelude.{Err, Ok, Result}
use Rattle.base.specs.declared.Refusal.TheVariants.{CutShort, NotFound}
use mathlib.Core.Path.{◌≡◌, refl, sym, ap, ◌∙◌, subst}
use mathlib.Core.Bool.{Bool, true, false}
use mathlib.Core.List.{List}
use Prim.Native.Nat.{ℕ, ◌+◌, ◌≤◌, ◌<◌}
use native.Mathlib.Omega.{arith}
use lib.IntN.{ℤ}
use lib.Dec.{eqb}
use lib.ListN.{length}
use borrow.Author.Tests.{eqb-true, eqb-false, eq-eqb, ne_eqb}
use Rattle.base.specs.Pick.{pick}
use Rattle.base.specs.Parsed.{Parsed, got, bad}
use Rattle.base.specs.Moment.{Finite}
use Rattle.base.proofs.Tests.{clash}
use Rattle.signed.specs.Instant.{instant_of}
use Rattle.signed.proofs.IntegerLaws.{instant-finite}
use Rattle.pool.specs.Pool.{strings_of}
use Rattle.pool.specs.Index.{room_of}
use Rattle.pool.specs.declared.Span.{Span}
use Rattle.string_search.specs.Search.{string_span}
use Rattle.location_lookup.specs.Location.{lent_part, text_in}
use Rattle.location_lookup.proofs.LookupLaws.{lent-in}
use Rattle.zones.specs.Content.{Zone}
use Rattle.zones.specs.Parse.{parse_zone}
use Rattle.zones.specs.Editions.{under}
use Rattle.zones.specs.Lookup.{in_zone, verdict_of}
use Rattle.zones.specs.declared.Edition.{Edition}
use Rattle.zones.specs.declared.Found.{Found as Interval}
use Rattle.zones.proofs.EditionLaws.{under-sound}
use Rattle.zones.proofs.SoundLaws.{zone-sound}
use Rattle.zones.proofs.RangeLaws.{zone-found}
use Rattle.frames.specs.Machine.{Out, refused, cut, ended, walk}
use Rattle.answers.specs.Answers.{Pool, no_pool, answer_by, answered}
use Rattle.answers.specs.declared.Mark.TheVariants.{All}
use Rattle.locate.specs.Asked.{Held, holder}
use Rattle.locate.specs.View.{part, pool_at, Lies, zone_out, Spotted}
use Rattle.locate.specs.declared.Spot.{Spot}
use Rattle.questions.specs.Question.{ask}
use Rattle.questions.proofs.HeldLaws.{ask-held}
use Rattle.found_zones.specs.FoundZone.{answer_in, zone_at, zone_answer, ask_zone, FindsZone}
use Rattle.found_zones.specs.View.{ask_out, FindsOut}
use Rattle.found_zones.specs.declared.FoundZone.{FoundZone}
use Rattle.found_zones.proofs.SpanLaws.{Has, has-string}

module _ (s : List ℕ) (o : Out Pool Held) where
  pub out-refused : (n : Refusal) (p : ℕ) → o ≡ refused n p → FindsOut s o (Err (n, p))
  out-refused n p e = rw e (record { to = λ ed t. refl })

  pub out-cut : (p : ℕ) → o ≡ cut p → FindsOut s o (Err (CutShort, p))
  out-cut p e = rw e (record { to = λ ed t. refl })

  pub out-end : (m : Pool) (p : ℕ) → o ≡ ended m p → FindsOut s o (Err (NotFound, p))
  out-end m p e = rw e (record { to = λ ed t. refl })

  pub out-on : (q : Out Pool Held) → o ≡ q → (r : Result FoundZone Fault) → FindsOut s q r → FindsOut s o r
  out-on q e r h = subst (λ (x : Out Pool Held). FindsOut s x r) (sym e) h

-- the pool's data d to e of s, which has a string, and the zone's data a to b
module _ (s : List ℕ) (v : FoundZone) (l : Lies s v.pool v.past) (order : v.start ≤ v.end) (inside : v.end ≤ length s) where
  abbrev pool : List ℕ
  pool = part v.pool v.past s

  abbrev zone : List ℕ
  zone = part v.start v.end s

  lent-pool : lent_part s v.pool v.past ≡ pool
  lent-pool = sym (lent-in s v.pool v.past l.inside l.order)

  lent-zone : lent_part s v.start v.end ≡ zone
  lent-zone = sym (lent-in s v.start v.end inside order)

  name-same : Has pool → (x : Interval) → x.name < length (strings_of pool) → answer_in s v x ≡ answered (pool_at s v.pool v.past) x
  unfolding text_in
  name-same h x k =
      ap (λ (p : List ℕ). answer_by (v.pool + (string_span p x.name).at) (string_span p x.name).len x) lent-pool
      ∙ ap (λ (u : Span). answer_by (v.pool + u.at) u.len x) (h.span x.name k)

  -- a good zone of it
  module _ (z : Zone) (r : List ℕ) (e : parse_zone (length (strings_of pool)) zone ≡ got z r) where
    has : Has pool
    has = has-string pool z.id (zone-sound (length (strings_of pool)) zone z r e).0.id-ok

    zone-is : zone_at s v ≡ got z r
    zone-is = rw (lent-pool, lent-zone, has.room) e

    pub answer-same : (ed : Edition) (t : ℕ) → Finite t
        → zone_answer s v ed t (zone_at s v) ≡ Ok (answered (pool_at s v.pool v.past) (in_zone t (under ed z)))
    answer-same ed t f =
        let n = length (strings_of pool) in
        let k = zone-found n t (under ed z) (under-sound ed n z (zone-sound n zone z r e).0) f in
        ap (zone_answer s v ed t) zone-is ∙ ap Ok (name-same has (in_zone t (under ed z)) k.name-ok)

-- the zone where the walk stops
module _ (s : List ℕ) (o : Out Pool Held) (d e : ℕ) (v : Spot) (k : Spotted s (pool_at s d e) o v) (c : Result ℕ Refusal)
    (checks : c ≡ verdict_of (parse_zone v.count (part v.start v.past s))) where
  abbrev data' : List ℕ
  data' = part v.start v.past s

  pub out-denied : (n : Refusal) → c ≡ Err n → FindsOut s o (Err (n, v.place))
  out-denied n q = go (parse_zone v.count data') k.goes (sym q ∙ checks)
    where
      go : (p : Parsed Zone) → o ≡ zone_out v (pool_at s d e) p → Err n ≡ verdict_of p → FindsOut s o (Err (n, v.place))
      go (got z r) g h = clash cc
      go (bad i) g h = let w : i ≡ n = cc in out-refused s o n v.place (g ∙ ap (λ (j : Refusal). refused j v.place) w)

  pub out-zone : Lies s d e → (i : ℕ) → c ≡ Ok i
      → FindsOut s o (Ok (record { pool = d; past = e; start = v.start; end = v.past; place = v.place }))
  out-zone l i q = go (parse_zone v.count data') refl k.goes (sym q ∙ checks)
    where
      u : FoundZone
      u = record { pool = d; past = e; start = v.start; end = v.past; place = v.place }

      go : (p : Parsed Zone) → parse_zone v.count data' ≡ p → o ≡ zone_out v (pool_at s d e) p → Ok i ≡ verdict_of p → FindsOut s o (Ok u)
      go (got z r) f g h = record {
        to = λ ed t n.
            answer-same s u l k.order k.inside z r (subst (λ (m : ℕ). parse_zone m data' ≡ got z r) k.count-is f) ed t n
            ∙ ap (λ (w : Out Pool Held). ask_out w ed t) (sym g);
      }
      go (bad j) f g h = clash cc

-- BY THE QUESTION
pub finds-zone : (f id : List ℕ) (r : Result FoundZone Fault) → FindsOut f (walk (holder id) no_pool f) r → FindsZone f id r
unfolding ask_zone ask
finds-zone f id (Ok v) h = record { to = λ z ed. go z ed (eqb (instant_of z) 0) refl }
  where
    go : (z : ℤ) (ed : Edition) (b : Bool) → eqb (instant_of z) 0 ≡ b → ask_zone f v z ed ≡ ask f id z All ed
    go z ed true q = rw q
    go z ed false q =
        let n = eqb-false (instant_of z) 0 q in
        let a : ask_zone f v z ed ≡ zone_answer f v ed (instant_of z) (zone_at f v) = rw q in
        a ∙ h.to ed (instant_of z) (instant-finite (instant_of z) z refl n) ∙ sym (ask-held f id z All ed n)
finds-zone f id (Err (n, p)) h = record { to = λ z ed i. ask-held f id z All ed i ∙ h.to ed (instant_of z) }
