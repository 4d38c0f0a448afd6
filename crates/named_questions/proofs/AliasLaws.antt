-- What field 3 says to the named question, a law for each way out of the code. Assumes nothing.
use Rattle.base.specs.declared.Refusal.{Refusal}
use Rattle.base.specs.declared.Refusal.TheVariants.{NotFound, TooManySteps}
use Rattle.std.specs.Prelude.{Err, Ok, Result}
use mathlib.Core.Path.{◌≡◌, refl, sym, ap, ◌∙◌, subst}
use mathlib.Core.Bool.{true}
use mathlib.Core.List.{List, []}
use Prim.Native.Nat.{ℕ, ◌<◌}
use lib.ListN.{length, get_or}
use Rattle.base.specs.Parsed.{Parsed, got, bad as unread}
use Rattle.base.proofs.Tests.{clash}
use Rattle.aliases.specs.Dictionary.{Dictionary}
use Rattle.aliases.specs.Field.{parse_aliases, entries_in, entries_of}
use Rattle.aliases.specs.View.{verdict_of}
use Rattle.aliases.proofs.PairLaws.{good-pairs}
use Rattle.alias_lookup.specs.Lookup.{Named, here, unknown, deep, lookup, most, by_test}
use Rattle.alias_lookup.specs.View.{flagged, Sound, named_at, Resolves}
use Rattle.alias_lookup.specs.declared.Target.{Target}
use Rattle.alias_lookup.specs.declared.Target.TheVariants.{Zone as ToZone, Unknown, Deep}
use Rattle.alias_lookup.proofs.LookupLaws.{same_way, SameWay}
use Rattle.frames.specs.Machine.{Out, found, refused, from}
use Rattle.locate.specs.Asked.{Held, held, holder}
use Rattle.locate.specs.View.{part, pool_at}
use Rattle.locate.specs.declared.Located.{Located}
use Rattle.locate.specs.declared.Located.TheVariants.{Refused}
use Rattle.locate.proofs.WalkingLaws.{located-out}
use Rattle.asked_zones.specs.Known.{WalkedAs}
use Rattle.named_fields.specs.Named.{Seen, zone_in, Known, resolved, alias_says}
use Rattle.named_fields.specs.View.{known_at, strings_at, Flags, state_from, told, NamedAs, content_out, JudgedAliases}

-- a field 3 that was found good
pub sound-of : (ts : List (List ℕ)) (d : List ℕ) → Ok tt ≡ verdict_of (parse_aliases ts d) → Sound ts d
sound-of ts d h = go (parse_aliases ts d) refl h
  where
    go : (p : Parsed Dictionary) → parse_aliases ts d ≡ p → Ok tt ≡ verdict_of p → Sound ts d
    go (got es r) e k = record { is = rw e (ap (got es) (good-pairs ts d es r e).0) }
    go (unread n) e k = clash cc

pub zone-target : (ts : List (List ℕ)) (fl : List ℕ) (es : Dictionary) (n : ℕ) (x : List ℕ) (g : Target) → Resolves ts fl es n x g → (k : ℕ) → g ≡ ToZone k → k < length ts
zone-target ts fl es n x g r k e = rw e at r.within

module _ (x s : List ℕ) (a e place d q : ℕ) (fl : List ℕ) (v : Result (Unit {0}) Refusal) (h : v ≡ verdict_of (parse_aliases (strings_at s a e) (part d q s))) where
  abbrev ts : List (List ℕ)
  ts = strings_at s a e

  abbrev entries : Dictionary
  entries = entries_of ts (part d q s)

  abbrev out : List Seen → Out Known Held
  out zs = content_out place (alias_says held x (known_at s a e zs) (parse_aliases ts (part d q s)))

  denied : (n : Refusal) (zs : List Seen) → out zs ≡ refused n place → NamedAs s (pool_at s a e) (out zs) (Refused n place)
  denied n zs y = record { within = record { lies = tt }; goes = ap told y }

  pub alias-fault : (n : Refusal) → v ≡ Err n → JudgedAliases x s a e place d q fl (Refused n place)
  alias-fault n k = record { means = λ zs prev f m. denied n zs (go zs (parse_aliases ts (part d q s)) (sym k ∙ h)) }
    where
      go : (zs : List Seen) (p : Parsed Dictionary) → Err n ≡ verdict_of p → content_out place (alias_says held x (known_at s a e zs) p) ≡ refused n place
      go zs (got es r) y = clash cc
      go zs (unread l) y = let z : l ≡ n = cc in ap (λ (i : Refusal). refused i place) z

  module _ (k : v ≡ Ok tt) (g : Target) (r : Resolves ts fl entries most x g) where
    good : (zs : List Seen) → out zs ≡ content_out place (resolved held (pool_at s a e) (lookup (zone_in zs) entries most x))
    good zs = go (parse_aliases ts (part d q s)) (sym k ∙ h)
      where
        go : (p : Parsed Dictionary) → Ok tt ≡ verdict_of p
            → content_out place (alias_says held x (known_at s a e zs) p) ≡ content_out place (resolved held (pool_at s a e) (lookup (zone_in zs) (entries_in p) most x))
        go (got es l) y = refl
        go (unread n) y = clash cc

    way : (zs : List Seen) (f : Flags ts fl zs) (n : Named (List ℕ)) → lookup (by_test (flagged ts fl)) entries most x ≡ n
        → SameWay (zone_in zs) (flagged ts fl) entries f.yes f.no n (lookup (zone_in zs) entries most x)
    way zs f n i =
        subst (λ (m : Named (List ℕ)). SameWay (zone_in zs) (flagged ts fl) entries f.yes f.no m (lookup (zone_in zs) entries most x)) i
        (same_way (zone_in zs) (flagged ts fl) entries f.yes f.no most x)

    pub alias-unknown : g ≡ Unknown → JudgedAliases x s a e place d q fl (Refused NotFound place)
    alias-unknown y =
        record { means = λ zs prev f m. let w = way zs f unknown (sym r.means ∙ ap (named_at ts) y) in denied NotFound zs (good zs ∙ rw w) }

    pub alias-deep : g ≡ Deep → JudgedAliases x s a e place d q fl (Refused TooManySteps place)
    alias-deep y =
        record { means = λ zs prev f m. let w = way zs f deep (sym r.means ∙ ap (named_at ts) y) in denied TooManySteps zs (good zs ∙ rw w) }

    -- the walk to the zone with the target's ID comes to that zone, which is known
    pub alias-zone : (n : ℕ) → g ≡ ToZone n → (y : List ℕ) → y ≡ get_or ts n [] → (l : Located)
        → WalkedAs true s (pool_at s a e) (from (holder y) (state_from s a e e 0)) l → JudgedAliases x s a e place d q fl l
    alias-zone n i y j l w =
        record {
          means = λ zs prev f m. let u = way zs f (here (get_or ts n [])) (sym r.means ∙ ap (named_at ts) i) in
              let p = m.one y u.0 (rw j u.1) in
              let o = located-out (w.means (λ t. (held (pool_at s a e) u.0, p.0, p.1))) in
              let v : out zs ≡ found (held (pool_at s a e) u.0) place = good zs ∙ rw u.2 in
              record { within = o.0; goes = ap told v ∙ ap told (sym (sym o.1 ∙ p.1)) };
        }
