-- What the code's results and the lent flags stand for. The code's way, tied to the named question by `named-walk` and `ask-inside`
-- (named_questions' proofs/AskLaws.antt).
use Rattle.std.specs.Prelude.{ℕ, ◌≤◌, ◌<◌, ◌≡◌, true, false, List, [], ◌++◌, length, get_or, drop}
use Rattle.std.proofs.Math.Option.{none, some}
use Rattle.base.specs.Parsed.{Parsed, got, bad as unread}
use Rattle.texts.specs.Text.{read_text}
use Rattle.pool.specs.Pool.{strings_of}
use Rattle.zones.specs.Content.{Zone}
use Rattle.zones.specs.Parse.{parse_zone}
use Rattle.aliases.specs.Field.{parse_aliases}
use Rattle.alias_lookup.specs.View.{flagged}
use Rattle.frames.specs.Frame.{Field}
use Rattle.frames.specs.Machine.{Out, found, refused, cut, ended, Content, bad, answer, keep, State, state_at, from}
use Rattle.answers.specs.Answers.{Pool, pool_of}
use Rattle.locate.specs.Asked.{zone_says, Held, held, holder}
use Rattle.locate.specs.View.{part, pool_at, zone_here, located_out, Within}
use Rattle.locate.specs.declared.Located.{Located}
use Rattle.locate.specs.declared.Judged.{Judged}
use Rattle.locate.specs.declared.Judged.TheVariants.{Here, Keep, Fault}
use Rattle.named_fields.specs.Named.{Seen, zone_in, Known, seen_in, zones_of, remembered, text_says, alias_says, says, naming}

-- field 0, whose data go from a to e, and some zones
abbrev pub known_at : List ℕ → ℕ → ℕ → List Seen → Known
known_at s a e zs = record { pool = pool_at s a e; zones = zs }

-- the strings of field 0
abbrev pub strings_at : List ℕ → ℕ → ℕ → List (List ℕ)
strings_at s a e = strings_of (part a e s)

-- no flag is set
pub record Clear (fl : List ℕ) : Type 0 where
  pub none-set : (i : ℕ) → ◌≡◌ {A = ℕ} (get_or fl i 0) 0

-- the strings with a flag in fl are the IDs of the zones zs
pub record Flags (ts : List (List ℕ)) (fl : List ℕ) (zs : List Seen) : Type 0 where
  pub room : length ts ≤ length fl
  pub yes : (x : List ℕ) → flagged ts fl x ≡ true → (z : Zone) × (zone_in zs x ≡ some z)
  pub no : (x : List ℕ) → flagged ts fl x ≡ false → zone_in zs x ≡ none

-- the walk to the zone with the ID x, behind field 0
abbrev pub state_from : List ℕ → ℕ → ℕ → ℕ → ℕ → State Pool
state_from s a e place prev = state_at place (drop place s) true prev (pool_at s a e)

-- The zones zs, seen up to a place, are those that the walk by ID meets: it comes to the first of them that has its ID, and to that place
-- where none has.
pub record Meets (s : List ℕ) (a e place prev : ℕ) (zs : List Seen) : Type 0 where
  pub one : (x : List ℕ) (z : Zone) → zone_in zs x ≡ some z
      → (p : ℕ) × (from (holder x) (state_from s a e e 0) ≡ found (held (pool_at s a e) z) p)
  pub others : prev ≤ 1 → (x : List ℕ) → zone_in zs x ≡ none
      → from (holder x) (state_from s a e e 0) ≡ from (holder x) (state_from s a e place prev)

-- an outcome without what is remembered and without the place behind an answer
abbrev pub told : {M A : Type 0} → Out M A → Out (Unit {0}) A
told (found v p) = found v 0
told (refused n p) = refused n p
told (cut p) = cut p
told (ended m p) = ended tt p

-- r is what the walk o over s comes to, with the pool m
pub record NamedAs {M : Type 0} (s : List ℕ) (m : Pool) (o : Out M Held) (r : Located) : Type 0 where
  pub within : Within s m r
  pub goes : told o ≡ told (located_out s m r)

-- what a field with the ID byte at a place comes to; a field that the walk goes on behind comes to nothing yet
abbrev pub content_out : ℕ → Content Known Held → Out Known Held
content_out place (bad n) = refused n place
content_out place (answer v) = found v place
content_out place (keep k) = ended k place

-- field 2 in d
abbrev pub TextTo : List ℕ → Judged → Type 0
TextTo d Here = ⊥
TextTo d Keep = (k : Known) → text_says {A = Held} k (length d) (read_text d) ≡ keep k
TextTo d (Fault n) = (k : Known) → text_says {A = Held} k (length d) (read_text d) ≡ bad n

pub record JudgedText (d : List ℕ) (r : Judged) : Type 0 where
  pub means : TextTo d r

-- a zone that reads as p: what it says by its ID, and the flags behind it
abbrev pub ZoneTo : List ℕ → List ℕ → Parsed Zone → List ℕ → List Seen → Judged → Type 0
ZoneTo x pool p fl zs Here = (start : ℕ) → zone_says held x (pool_of start pool) p ≡ zone_here (pool_of start pool) p
ZoneTo x pool p fl zs Keep =
    ((start : ℕ) → zone_says held x (pool_of start pool) p ≡ keep (pool_of start pool)) × Flags (strings_of pool) fl (zs ++ seen_in (strings_of pool) p)
ZoneTo x pool p fl zs (Fault n) = (start : ℕ) → zone_says held x (pool_of start pool) p ≡ bad n

pub record JudgedZone (x pool : List ℕ) (p : Parsed Zone) (fl fl' : List ℕ) (r : Judged) : Type 0 where
  pub means : (zs : List Seen) → Flags (strings_of pool) fl zs → ZoneTo x pool p fl' zs r

-- the field g, which the walk meets behind the zones zs
abbrev pub FieldTo : List ℕ → List ℕ → ℕ → ℕ → Field → List ℕ → List Seen → Judged → Type 0
FieldTo x s a e g fl zs Here =
    (g.id ≡ 1) × (says held x (known_at s a e zs) g ≡ remembered (known_at s a e zs) g (zone_here (pool_at s a e) (parse_zone (length (strings_at s a e)) g.body)))
FieldTo x s a e g fl zs Keep =
    (says held x (known_at s a e zs) g ≡ keep (known_at s a e (zs ++ zones_of (strings_at s a e) g))) × Flags (strings_at s a e) fl (zs ++ zones_of (strings_at s a e) g)
FieldTo x s a e g fl zs (Fault n) = says held x (known_at s a e zs) g ≡ bad n

-- a field with the ID i, 1 or 2, whose data go from d to q
pub record JudgedField (x s : List ℕ) (a e i d q : ℕ) (fl fl' : List ℕ) (r : Judged) : Type 0 where
  pub means : (zs : List Seen) (g : Field) → Flags (strings_at s a e) fl zs → 0 < i → i < 3 → g.id ≡ i → g.body ≡ part d q s → FieldTo x s a e g fl' zs r

-- field 3, whose ID byte is at a place and whose data go from d to q
pub record JudgedAliases (x s : List ℕ) (a e place d q : ℕ) (fl : List ℕ) (r : Located) : Type 0 where
  pub means : (zs : List Seen) (prev : ℕ) → Flags (strings_at s a e) fl zs → Meets s a e place prev zs
      → NamedAs s (pool_at s a e) (content_out place (alias_says held x (known_at s a e zs) (parse_aliases (strings_at s a e) (part d q s)))) r

-- what field 0 comes to, whose data go from a to e: its own refusal, or the walk over what follows it
unfoldable pub by_pool : List ℕ → List ℕ → ℕ → ℕ → Parsed (List (List ℕ)) → Out Known Held
by_pool x s a e (unread n) = refused n 4
by_pool x s a e (got ts r) = from (naming held x) (state_at e (drop e s) true 0 (known_at s a e []))
