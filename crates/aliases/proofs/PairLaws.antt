-- What the check of field 3 finds good, without an order of faults. Assumes nothing.
use Rattle.base.specs.declared.Refusal.TheVariants.{SecondAlias}
use mathlib.Core.Path.{◌≡◌, refl, sym, ap, ◌∙◌}
use mathlib.Core.Bool.{Bool, true, false}
use mathlib.Core.List.{List, [], ◌∷◌, ◌++◌, append-nil, append_assoc}
use Prim.Native.Nat.{ℕ, zero, suc}
use lib.ListN.{length, get_or}
use Rattle.base.specs.All.{All, all_none, all-also}
use Rattle.base.specs.Pick.{pick}
use Rattle.base.specs.Equal.{equal}
use Rattle.base.specs.Parsed.{got, parse, ended}
use Rattle.base.proofs.AllLaws.{all_head, all_tail, all_right}
use Rattle.base.proofs.ParseLaws.{got-value, got-rest, bind-good, pick-bad, ended-good}
use Rattle.base.proofs.EqualLaws.{equal-true, equal-refl}
use Rattle.base.proofs.Tests.{never}
use Rattle.counts.specs.Count.{read_count}
use Rattle.places.specs.Name.{parse_name}
use Rattle.ids.specs.Ids.{among}
use Rattle.aliases.specs.Dictionary.{Entry, entry, Dictionary, keys, Apart}
use Rattle.aliases.specs.Field.{after_key, parse_entry, parse_entries, all_entries, parse_aliases}
use Rattle.aliases.specs.Pairs.{parse_pair, parse_pairs, PairsIn}

-- a key that none of some entries has
unlike : (x : List ℕ) (f : Entry) (es : Dictionary) → among x (keys (f ∷ es)) ≡ false → (f.key ≡ x → ⊥) × (among x (keys es) ≡ false)
unfolding among keys
unlike x f es h = go (equal f.key x) refl h
  where
    go : (t : Bool) → equal f.key x ≡ t → pick t true (among x (keys es)) ≡ false → (f.key ≡ x → ⊥) × (among x (keys es) ≡ false)
    go true q k = never refl k
    go false q k = (λ e. never (ap (λ (y : List ℕ). equal y x) e ∙ equal-refl x) q, k)

all_new : (f e : Entry) (pre : Dictionary) → (f.key ≡ e.key → ⊥) → All (λ b. f.key ≡ b.key → ⊥) pre → All (λ b. f.key ≡ b.key → ⊥) (pre ++ (e ∷ []))
all_new f e [] n a = all-also n all_none
all_new f e (g ∷ pre) n a = all-also (all_head a) (all_new f e pre n (all_tail a))

-- one entry more, with a new key
pub last_apart : (pre : Dictionary) (e : Entry) → among e.key (keys pre) ≡ false → Apart pre → Apart (pre ++ (e ∷ []))
last_apart [] e n h = (all_none, tt)
last_apart (f ∷ pre) e n h =
    let u = unlike e.key f pre n in
    (all_new f e pre u.0 h.0, last_apart pre e u.1 h.1)

-- where all keys are apart, an entry's is new
pub apart-new : (pre : Dictionary) (e : Entry) (es : Dictionary) → Apart (pre ++ e ∷ es) → among e.key (keys pre) ≡ false
unfolding among keys
apart-new [] e es h = refl
apart-new (f ∷ pre) e es h = go (equal f.key e.key) refl (apart-new pre e es h.1)
  where
    go : (t : Bool) → equal f.key e.key ≡ t → among e.key (keys pre) ≡ false → pick t true (among e.key (keys pre)) ≡ false
    go true q k = absurd (all_head (all_right pre (e ∷ es) h.0) (equal-true f.key e.key q))
    go false q k = k

module _ (ts : List (List ℕ)) where
  -- an entry that the check takes is a pair with a new key, and such a pair is taken
  entry-pair : (pre : Dictionary) (s : List ℕ) (e : Entry) (q : List ℕ) → parse_entry ts pre s ≡ got e q → (parse_pair ts s ≡ got e q) × (among e.key (keys pre) ≡ false)
  unfolding parse_entry after_key parse_pair
  entry-pair pre s e q h =
      let b = bind-good (parse_name (length ts) s) _ e q h in
      let k = pick-bad (among (get_or ts b.first []) (keys pre)) _ SecondAlias e q b.on in
      let c = bind-good (parse_name (length ts) b.rest) _ e q k.1 in
      let f : e ≡ entry (get_or ts b.first []) (get_or ts c.first []) = sym (got-value c.on) in
      (rw b.is k.1, rw f k.0)

  pair-entry : (pre : Dictionary) (s : List ℕ) (e : Entry) (q : List ℕ) → parse_pair ts s ≡ got e q → among e.key (keys pre) ≡ false → parse_entry ts pre s ≡ got e q
  unfolding parse_entry after_key parse_pair
  pair-entry pre s e q h n =
      let b = bind-good (parse_name (length ts) s) _ e q h in
      let c = bind-good (parse_name (length ts) b.rest) _ e q b.on in
      let f : e ≡ entry (get_or ts b.first []) (get_or ts c.first []) = sym (got-value c.on) in
      let k : among (get_or ts b.first []) (keys pre) ≡ false = rw f at n in
      rw (b.is, k) b.on

  -- what was read behind pre
  pub record Read (n : ℕ) (pre : Dictionary) (s : List ℕ) (es : Dictionary) (q : List ℕ) : Type 0 where
    pub more : Dictionary
    pub all : es ≡ pre ++ more
    pub pairs : parse_pairs ts n s ≡ got more q
    pub apart : Apart pre → Apart es

  entries-pairs : (n : ℕ) (pre : Dictionary) (s : List ℕ) (es : Dictionary) (q : List ℕ) → parse_entries ts n pre s ≡ got es q → Read n pre s es q
  unfolding parse_entries parse_pairs
  entries-pairs zero pre s es q h =
      let v : pre ≡ es = got-value h in
      let r : s ≡ q = got-rest h in
      record { more = []; all = sym v ∙ sym (append-nil pre); pairs = ap (got []) r; apart = λ a. rw (← v) a }
  entries-pairs (suc n) pre s es q h =
      let b = bind-good (parse_entry ts pre s) _ es q h in
      let p = entry-pair pre s b.first b.rest b.is in
      let m = entries-pairs n (pre ++ (b.first ∷ [])) b.rest es q b.on in
      record {
        more = b.first ∷ m.more;
        all = m.all ∙ append_assoc pre (b.first ∷ []) m.more;
        pairs = rw (p.0, m.pairs);
        apart = λ a. m.apart (last_apart pre b.first p.1 a);
      }

  pairs-entries : (n : ℕ) (pre : Dictionary) (s : List ℕ) (more : Dictionary) (q : List ℕ) → parse_pairs ts n s ≡ got more q → Apart (pre ++ more)
      → parse_entries ts n pre s ≡ got (pre ++ more) q
  unfolding parse_entries parse_pairs
  pairs-entries zero pre s more q h a =
      let v : [] ≡ more = got-value h in
      let r : s ≡ q = got-rest h in
      rw (← v, append-nil pre, r)
  pairs-entries (suc n) pre s more q h a =
      let b = bind-good (parse_pair ts s) _ more q h in
      let c = bind-good (parse_pairs ts n b.rest) _ more q b.on in
      let v : more ≡ b.first ∷ c.first = sym (got-value c.on) in
      let r : c.rest ≡ q = got-rest c.on in
      let o : pre ++ more ≡ (pre ++ (b.first ∷ [])) ++ c.first = ap (λ (y : Dictionary). pre ++ y) v ∙ sym (append_assoc pre (b.first ∷ []) c.first) in
      let k : among b.first.key (keys pre) ≡ false = apart-new pre b.first c.first (rw v at a) in
      rw (pair-entry pre s b.first b.rest b.is k)
      (pairs-entries n (pre ++ (b.first ∷ [])) b.rest c.first q (c.is ∙ ap (got c.first) r) (rw o at a) ∙ ap (λ (y : Dictionary). got y q) (sym o))

  -- GOOD: what the check takes are pairs with keys apart, to the end of the data
  pub good-pairs : (d : List ℕ) (es : Dictionary) (r : List ℕ) → parse_aliases ts d ≡ got es r → (r ≡ []) × PairsIn ts d es
  unfolding parse_aliases all_entries
  good-pairs d es r h =
      let b = bind-good (parse read_count d) (all_entries ts) es r h in
      let c = bind-good (parse_entries ts b.first [] b.rest) ended es r b.on in
      let f = ended-good c.first es c.rest r c.on in
      let m = entries-pairs b.first [] b.rest c.first c.rest c.is in
      let v : m.more ≡ es = sym m.all ∙ f.0 in
      (f.2, record { parsed = rw b.is (m.pairs ∙ rw (v, f.1)); apart = rw f.0 at (m.apart tt) })

  -- and every such data is taken
  pub pairs-good : (d : List ℕ) (es : Dictionary) → PairsIn ts d es → parse_aliases ts d ≡ got es []
  unfolding parse_aliases all_entries ended
  pairs-good d es p =
      let b = bind-good (parse read_count d) (parse_pairs ts) es [] p.parsed in
      rw (b.is, pairs-entries b.first [] b.rest es [] b.on p.apart)
