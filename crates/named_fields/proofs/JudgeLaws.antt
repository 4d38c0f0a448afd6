-- What fields 1 and 2 say to the named question, a law for each way out of the code. Assumes nothing.
use Rattle.base.specs.declared.Refusal.{Refusal}
use Rattle.std.specs.Prelude.{Err, Ok, Result}
use Rattle.base.specs.Coded.{Coded}
use Rattle.base.specs.declared.Refusal.TheVariants.{BadData}
use mathlib.Core.Path.{◌≡◌, refl, sym, ap, ◌∙◌, subst}
use mathlib.Core.List.{List, [], ◌∷◌, ◌++◌, append-nil}
use Prim.Native.Nat.{ℕ, ◌+◌, ◌<◌}
use native.Mathlib.Omega.{arith}
use lib.ListN.{length, drop, get_or, set}
use borrow.Author.Tests.{eq-eqb, ne_eqb, lt-ltb, le-ltb}
use Rattle.base.specs.Parsed.{Parsed, got, bad as unread}
use Rattle.base.proofs.Tests.{clash}
use Rattle.texts.specs.Text.{read_text}
use Rattle.pool.specs.Pool.{strings_of}
use Rattle.places.specs.Placed.{Stands, of_read}
use Rattle.places.specs.Name.{parse_name}
use Rattle.places.proofs.ValueLaws.{name-ok}
use Rattle.zones.specs.Content.{Zone}
use Rattle.zones.specs.Parse.{parse_zone}
use Rattle.zones.proofs.SoundLaws.{zone-id, zone-bad}
use Rattle.frames.specs.Frame.{Field}
use Rattle.frames.specs.Machine.{bad, keep}
use Rattle.answers.specs.Answers.{pool_of}
use Rattle.locate.specs.Asked.{zone_says, says as asked_says, held}
use Rattle.locate.specs.View.{part, pool_at, JudgedTo, JudgedAs}
use Rattle.locate.specs.declared.Judged.{Judged}
use Rattle.locate.specs.declared.Judged.TheVariants.{Here, Keep, Fault}
use Rattle.named_fields.specs.Named.{Seen, seen_in, zones_of, remembered, says}
use Rattle.named_fields.specs.View.{known_at, strings_at, Flags, TextTo, JudgedText, ZoneTo, JudgedZone, FieldTo, JudgedField}
use Rattle.named_fields.proofs.SeenLaws.{flags-more}

-- field 2
module _ (d : List ℕ) (u : Result (ℕ × ℕ) Refusal) (h : u ≡ read_text d) where
  pub text-fault : (n : Refusal) → u ≡ Err n → JudgedText d (Fault n)
  text-fault n q = record { means = λ k. rw (sym h ∙ q) }

  module _ (b n : ℕ) (q : u ≡ Ok (b, n)) where
    pub text-keep : b + n ≡ length d → JudgedText d Keep
    text-keep o = record { means = λ k. rw (sym h ∙ q, eq-eqb (b + n) (length d) o) }

    pub text-over : (b + n ≡ length d → ⊥) → JudgedText d (Fault BadData)
    text-over o = record { means = λ k. rw (sym h ∙ q, ne_eqb (b + n) (length d) o) }

-- a zone, by what it says to the walk by ID
module _ (x pool : List ℕ) (count : ℕ) (d : List ℕ) (fl : List ℕ) (j : Judged) (h : JudgedAs x pool (parse_zone count d) j) where
  judged : (r : Judged) → j ≡ r → (start : ℕ) → JudgedTo x (pool_of start pool) (parse_zone count d) r
  judged r e start = (subst (JudgedAs x pool (parse_zone count d)) e h).means start

  pub zone-here : j ≡ Here → JudgedZone x pool (parse_zone count d) fl fl Here
  zone-here e = record { means = λ zs f start. judged Here e start }

  pub zone-fault : (n : Refusal) → j ≡ Fault n → JudgedZone x pool (parse_zone count d) fl fl (Fault n)
  zone-fault n e = record { means = λ zs f start. judged (Fault n) e start }

  -- one that is passed, whose ID is read once more
  module _ (e : j ≡ Keep) (c : count ≡ length (strings_of pool)) (r : Coded ℕ) (w : Stands d (parse_name count (drop 0 d)) (of_read r)) where
    pub zone-unnamed : {G : Type 0} (n : Refusal) → r ≡ Err n → G
    zone-unnamed n y =
        let z : parse_zone count d ≡ unread n = zone-bad count d n (w.means ∙ rw (ap of_read y)) in
        let v : bad n ≡ keep (pool_of 0 pool) = rw z at (judged Keep e 0) in
        clash cc

    module _ (i b : ℕ) (y : r ≡ Ok (i, b)) where
      pub zone-number : i < count
      zone-number = name-ok count d i (drop b d) (w.means ∙ rw (ap of_read y))

      pub zone-keep : JudgedZone x pool (parse_zone count d) fl (set fl i 1) Keep
      zone-keep = record { means = λ zs f. (judged Keep e, go zs f (parse_zone count d) refl (judged Keep e 0)) }
        where
          go : (zs : List Seen) → Flags (strings_of pool) fl zs → (p : Parsed Zone) → parse_zone count d ≡ p → zone_says held x (pool_of 0 pool) p ≡ keep (pool_of 0 pool)
              → Flags (strings_of pool) (set fl i 1) (zs ++ seen_in (strings_of pool) p)
          go zs f (unread n) q k = clash cc
          go zs f (got z l) q k =
              let n : z.id ≡ i = zone-id count d z l i (drop b d) (w.means ∙ rw (ap of_read y)) q in
              subst (λ (m : ℕ). Flags (strings_of pool) (set fl i 1) (zs ++ (record { id = get_or (strings_of pool) m []; zone = z } ∷ []))) (sym n)
              (flags-more (strings_of pool) fl zs i z (rw c at zone-number) f)

-- a field by its ID
pub no-zones : (ts : List (List ℕ)) (g : Field) → (g.id ≡ 1 → ⊥) → zones_of ts g ≡ []
unfolding zones_of
no-zones ts g n = rw (ne_eqb g.id 1 n)

pub one-zone : (ts : List (List ℕ)) (g : Field) → g.id ≡ 1 → zones_of ts g ≡ seen_in ts (parse_zone (length ts) g.body)
unfolding zones_of
one-zone ts g i = rw (eq-eqb g.id 1 i)

module _ (x s : List ℕ) (a e i d q : ℕ) where
  pub says-zone : (zs : List Seen) (g : Field) → g.id ≡ 1
      → says held x (known_at s a e zs) g ≡ remembered (known_at s a e zs) g (zone_says held x (pool_at s a e) (parse_zone (length (strings_at s a e)) g.body))
  unfolding says asked_says
  says-zone zs g o = rw (lt-ltb g.id 2 (omega arith), ne_eqb g.id 0 (omega arith))

  pub field-zone : (fl fl' : List ℕ) (r : Judged) (count : ℕ) → count ≡ length (strings_at s a e) → i ≡ 1
      → JudgedZone x (part a e s) (parse_zone count (part d q s)) fl fl' r → JudgedField x s a e i d q fl fl' r
  field-zone fl fl' r count c k j = record { means = λ zs g f l m o b. go r zs g (o ∙ k) (zone-is zs g f b r (j.means zs f)) }
    where
      zone-is : (zs : List Seen) (g : Field) → Flags (strings_at s a e) fl zs → g.body ≡ part d q s → (r : Judged)
          → ZoneTo x (part a e s) (parse_zone count (part d q s)) fl' zs r → ZoneTo x (part a e s) (parse_zone (length (strings_at s a e)) g.body) fl' zs r
      zone-is zs g f b r t = rw (← c, b) t

      go : (r : Judged) (zs : List Seen) (g : Field) → g.id ≡ 1 → ZoneTo x (part a e s) (parse_zone (length (strings_at s a e)) g.body) fl' zs r
          → FieldTo x s a e g fl' zs r
      go Here zs g o t = (o, says-zone zs g o ∙ ap (remembered (known_at s a e zs) g) (t a))
      go (Fault n) zs g o t = says-zone zs g o ∙ ap (remembered (known_at s a e zs) g) (t a)
      go Keep zs g o t = (says-zone zs g o ∙ ap (remembered (known_at s a e zs) g) (t.0 a), rw (one-zone (strings_at s a e) g o) t.1)

  pub field-text : (fl : List ℕ) (r : Judged) → (i ≡ 1 → ⊥) → JudgedText (part d q s) r → JudgedField x s a e i d q fl fl r
  unfolding says
  field-text fl r n j = record { means = λ zs g f l m o b. go r zs g f (two l m) o b j.means }
    where
      two : 0 < i → i < 3 → i ≡ 2
      two l m = omega (arith, n)

      go : (r : Judged) (zs : List Seen) (g : Field) → Flags (strings_at s a e) fl zs → i ≡ 2 → g.id ≡ i → g.body ≡ part d q s → TextTo (part d q s) r
          → FieldTo x s a e g fl zs r
      go Here zs g f k o b t = absurd t
      go (Fault m) zs g f k o b t = rw (le-ltb g.id 2 (omega arith), eq-eqb g.id 2 (o ∙ k), b) (t (known_at s a e zs))
      go Keep zs g f k o b t =
          let w : zs ++ zones_of (strings_at s a e) g ≡ zs = ap (λ (ys : List Seen). zs ++ ys) (no-zones (strings_at s a e) g (λ y. omega arith)) ∙ append-nil zs in
          rw w (rw (le-ltb g.id 2 (omega arith), eq-eqb g.id 2 (o ∙ k), b) (t (known_at s a e zs)), f)
