-- A dictionary that was written reads back, and one that reads is the written form of its entries. Assumes nothing.
use Rattle.base.specs.declared.Refusal.{Refusal}
use Rattle.std.specs.Prelude.{Err, Ok}
use Rattle.base.specs.Coded.{Coded}
use Rattle.base.specs.declared.Refusal.TheVariants.{BadCode}
use mathlib.Core.Path.{◌≡◌, refl, sym, ap, ◌∙◌}
use mathlib.Core.Bool.{Bool, false}
use mathlib.Core.List.{List, [], ◌∷◌, ◌++◌, append-nil, append_assoc}
use Prim.Native.Nat.{ℕ, zero, suc, ◌≤◌}
use native.Mathlib.Omega.{arith}
use lib.ListN.{length, drop}
use lib.Seq.{drop-append_seam}
use Rattle.base.specs.All.{All, all_none, all-also}
use borrow.Author.Tests.{le-leb, lt-leb}
use Rattle.base.specs.Pick.{pick}
use Rattle.base.specs.Parsed.{Parsed, got, bad, bind}
use Rattle.base.specs.Writing.{bytes, unfit}
use Rattle.base.proofs.Tests.{clash, by_order}
use Rattle.base.specs.Parsed.{behind_code}
use Rattle.base.proofs.AllLaws.{all_head, all_tail}
use Rattle.base.proofs.ByteLaws.{drop-bytes}
use Rattle.base.proofs.ParseLaws.{bad-got, got-value, got-rest, bind-good}
use Rattle.base.proofs.Parts.{Bytes}
use Rattle.texts.specs.Facts.{Fit}
use Rattle.ids.specs.Ids.{among}
use Rattle.aliases.specs.Dictionary.{Entry, entry, Dictionary, keys, Apart}
use Rattle.aliases.proofs.PairLaws.{last_apart, apart-new}
use Rattle.old_counts.specs.OldCount.{read_old_count, write_old_count}
use Rattle.old_counts.proofs.OldCountLaws.{count-written, count-form, count_small}
use Rattle.old_texts.specs.OldText.{parse_old_text, write_old_text}
use Rattle.old_texts.proofs.OldTextLaws.{parse-written, parse-form}
use Rattle.old_dictionaries.specs.OldDictionary.{parse_entry, parse_entries, parse_old_dictionary, write_pair, write_pairs, write_old_dictionary, Writable, form_of, old_dictionary_form}
use Rattle.old_dictionaries.specs.Pairs.{parse_pair, parse_pairs}
pub use Rattle.old_dictionaries.specs.Facts.{DictionaryForm}
use Rattle.old_dictionaries.proofs.PairLaws.{pair-got, entry-pair, pair-entry, pairs-split, pairs-join}

abbrev FitPair : Entry → Type 0
FitPair e = Fit e.key × Fit e.target

-- what stands behind a front of bytes are bytes
behind-bytes : (s w r : List ℕ) → Bytes s → s ≡ w ++ r → Bytes r
behind-bytes s w r b e =
    let d : drop (length w) s ≡ r = ap (drop (length w)) e ∙ drop-append_seam w r in
    rw d at (drop-bytes (length w) s b)

-- pairs that were written read back
pair-written : (e : Entry) (rest : List ℕ) → FitPair e → parse_pair (write_pair e ++ rest) ≡ got e rest
pair-written e rest f =
    let k : List ℕ = write_old_text e.key in
    let v : List ℕ = write_old_text e.target in
    ap parse_pair (append_assoc k v rest)
    ∙ pair-got (k ++ (v ++ rest)) e.key e.target (v ++ rest) (parse-written e.key (v ++ rest) f.0) rest (parse-written e.target rest f.1)

pairs-written : (es : Dictionary) (rest : List ℕ) → All FitPair es → parse_pairs (length es) (write_pairs es ++ rest) ≡ got es rest
unfolding parse_pairs write_pairs
pairs-written [] rest f = refl
pairs-written (e ∷ es) rest f =
    ap (parse_pairs (suc (length es))) (append_assoc (write_pair e) (write_pairs es) rest)
    ∙ pairs-join (length es) (write_pair e ++ (write_pairs es ++ rest)) e (write_pairs es ++ rest) es rest (pair-written e (write_pairs es ++ rest) (all_head f)) (pairs-written es rest (all_tail f))

-- pairs that read are their written form
pub record PairForm (s : List ℕ) (e : Entry) (q : List ℕ) : Type 0 where
  pub fit : FitPair e
  pub form : s ≡ write_pair e ++ q

pair-form : (s : List ℕ) (e : Entry) (q : List ℕ) → Bytes s → parse_pair s ≡ got e q → PairForm s e q
unfolding parse_pair
pair-form s e q b h =
    let c = bind-good (parse_old_text s) _ e q h in
    let d = bind-good (parse_old_text c.rest) _ e q c.on in
    let x : entry c.first d.first ≡ e = got-value d.on in
    let z : d.rest ≡ q = got-rest d.on in
    go c.first c.rest d.first c.is (d.is ∙ ap (got d.first) z) x
  where
    go : (k r v : List ℕ) → parse_old_text s ≡ got k r → parse_old_text r ≡ got v q → entry k v ≡ e → PairForm s e q
    go k r v i j x =
        let f = parse-form s k r b i in
        let g = parse-form r v q (behind-bytes s (write_old_text k) r b f.form) j in
        let w : PairForm s (entry k v) q = record {
          fit = (f.fit, g.fit);
          form = f.form ∙ ap (λ (y : List ℕ). write_old_text k ++ y) g.form ∙ sym (append_assoc (write_old_text k) (write_old_text v) q);
        } in
        rw x at w

pub record PairsForm (n : ℕ) (s : List ℕ) (es : Dictionary) (q : List ℕ) : Type 0 where
  pub many : length es ≡ n
  pub fit : All FitPair es
  pub form : s ≡ write_pairs es ++ q

pub pairs-form : (n : ℕ) (s : List ℕ) (es : Dictionary) (q : List ℕ) → Bytes s → parse_pairs n s ≡ got es q → PairsForm n s es q
unfolding parse_pairs write_pairs
pairs-form zero s es q b h =
    let v : [] ≡ es = got-value h in
    let w : PairsForm zero s [] q = record { many = refl; fit = all_none; form = got-rest h } in
    rw v at w
pairs-form (suc n) s es q b h =
    let c = pairs-split n s es q h in
    let f = pair-form s c.first c.rest b c.pair in
    let g = pairs-form n c.rest c.more q (behind-bytes s (write_pair c.first) c.rest b f.form) c.pairs in
    let w : PairsForm (suc n) s (c.first ∷ c.more) q = record {
      many = ap suc g.many;
      fit = all-also f.fit g.fit;
      form = f.form ∙ ap (λ (y : List ℕ). write_pair c.first ++ y) g.form ∙ sym (append_assoc (write_pair c.first) (write_pairs c.more) q);
    } in
    rw (sym c.all) at w

-- entries are pairs with keys apart
pub record Entered (n : ℕ) (pre : Dictionary) (s : List ℕ) (es : Dictionary) (q : List ℕ) : Type 0 where
  pub more : Dictionary
  pub all : es ≡ pre ++ more
  pub pairs : parse_pairs n s ≡ got more q
  pub apart : Apart pre → Apart es

pub entries-pairs : (n : ℕ) (pre : Dictionary) (s : List ℕ) (es : Dictionary) (q : List ℕ) → parse_entries n pre s ≡ got es q → Entered n pre s es q
unfolding parse_entries parse_pairs
entries-pairs zero pre s es q h =
    let v : pre ≡ es = got-value h in
    let r : s ≡ q = got-rest h in
    record { more = []; all = sym v ∙ sym (append-nil pre); pairs = ap (got []) r; apart = λ a. rw (← v) a }
entries-pairs (suc n) pre s es q h =
    let b = bind-good (parse_entry pre s) _ es q h in
    let p = entry-pair pre s b.first b.rest b.is in
    let m = entries-pairs n (pre ++ (b.first ∷ [])) b.rest es q b.on in
    record {
      more = b.first ∷ m.more;
      all = m.all ∙ append_assoc pre (b.first ∷ []) m.more;
      pairs = pairs-join n s b.first b.rest m.more q p.0 m.pairs;
      apart = λ a. m.apart (last_apart pre b.first p.1 a);
    }

entry_next : (n : ℕ) (pre : Dictionary) (s : List ℕ) (e : Entry) (r : List ℕ) → parse_entry pre s ≡ got e r → parse_entries (suc n) pre s ≡ parse_entries n (pre ++ (e ∷ [])) r
unfolding parse_entries
entry_next n pre s e r h = rw h

pairs-entries : (n : ℕ) (pre : Dictionary) (s : List ℕ) (more : Dictionary) (q : List ℕ) → parse_pairs n s ≡ got more q → Apart (pre ++ more)
    → parse_entries n pre s ≡ got (pre ++ more) q
unfolding parse_entries parse_pairs
pairs-entries zero pre s more q h a =
    let v : [] ≡ more = got-value h in
    let r : s ≡ q = got-rest h in
    rw (← v, append-nil pre, r)
pairs-entries (suc n) pre s more q h a =
    let b = pairs-split n s more q h in
    let o : pre ++ more ≡ (pre ++ (b.first ∷ [])) ++ b.more = ap (λ (y : Dictionary). pre ++ y) b.all ∙ sym (append_assoc pre (b.first ∷ []) b.more) in
    let k : among b.first.key (keys pre) ≡ false = apart-new pre b.first b.more (rw b.all at a) in
    entry_next n pre s b.first b.rest (pair-entry pre s b.first b.rest b.pair k)
    ∙ pairs-entries n (pre ++ (b.first ∷ [])) b.rest b.more q b.pairs (rw o at a)
    ∙ ap (λ (y : Dictionary). got y q) (sym o)

-- behind a count
counted : (s : List ℕ) (n a : ℕ) → read_old_count s ≡ Ok (n, a) → parse_old_dictionary s ≡ parse_entries n [] (drop a s)
unfolding parse_old_dictionary
counted s n a e = rw e

-- the pairs behind the count of a dictionary are its entries; one without a count is refused
pub dictionary-pairs : (s : List ℕ) (es : Dictionary) (r : List ℕ) (n a : ℕ) → read_old_count s ≡ Ok (n, a) → parse_old_dictionary s ≡ got es r → parse_pairs n (drop a s) ≡ got es r
dictionary-pairs s es r n a e h =
    let m = entries-pairs n [] (drop a s) es r (sym (counted s n a e) ∙ h) in
    m.pairs ∙ ap (λ (y : Dictionary). got y r) (sym m.all)

pub no-count : (s : List ℕ) (k : Refusal) → read_old_count s ≡ Err k → parse_old_dictionary s ≡ bad k
unfolding parse_old_dictionary
no-count s k e = rw e

-- WRITTEN: what was written reads back, whatever follows
pub dictionary-written : (es : Dictionary) (rest : List ℕ) → Writable es → parse_old_dictionary (write_old_dictionary es ++ rest) ≡ got es rest
dictionary-written es rest w =
    let c : List ℕ = write_old_count (length es) in
    let p : List ℕ = write_pairs es in
    ap parse_old_dictionary (append_assoc c p rest)
    ∙ counted (c ++ (p ++ rest)) (length es) (length c) (count-written (length es) (p ++ rest) w.few)
    ∙ ap (parse_entries (length es) []) (drop-append_seam c (p ++ rest))
    ∙ pairs-entries (length es) [] (p ++ rest) es rest (pairs-written es rest w.fit) w.apart

-- FORM: what reads is the written form of its entries
pub dictionary-form : (s : List ℕ) (es : Dictionary) (r : List ℕ) → Bytes s → parse_old_dictionary s ≡ got es r → DictionaryForm s es r
unfolding parse_old_dictionary
dictionary-form s es r b h = go (read_old_count s) refl h
  where
    go : (g : Coded ℕ) → read_old_count s ≡ g → bind (behind_code s g) (λ n q. parse_entries n [] q) ≡ got es r → DictionaryForm s es r
    go (Err k) e p = bad-got p
    go (Ok (n, a)) e p =
        let c = count-form s b (sym e) in
        let m = entries-pairs n [] (drop a s) es r p in
        let f = pairs-form n (drop a s) m.more r (drop-bytes a s b) m.pairs in
        let all : m.more ≡ es = sym m.all in
        let l : length es ≡ n = ap length m.all ∙ f.many in
        let t : drop a s ≡ write_pairs es ++ r = f.form ∙ ap (λ (y : Dictionary). write_pairs y ++ r) all in
        let o : s ≡ write_old_count (length es) ++ (write_pairs es ++ r) = c.form ∙ ap (λ (y : List ℕ). write_old_count n ++ y) t ∙ ap (λ (y : ℕ). write_old_count y ++ (write_pairs es ++ r)) (sym l) in
        record {
          writable = record { few = omega (arith, count_small s b (sym e), l); fit = rw all at f.fit; apart = m.apart tt };
          form = o ∙ sym (append_assoc (write_old_count (length es)) (write_pairs es) r);
        }

-- WHAT IS WRITTEN: the pairs of entries that are Writable, and nothing else, have a form
pub pairs-writable : (n : ℕ) (s : List ℕ) (es : Dictionary) (r : List ℕ) → Bytes s → n ≤ 2147483647 → parse_entries n [] s ≡ got es r → Writable es
pairs-writable n s es r b h e =
    let m = entries-pairs n [] s es r e in
    let f = pairs-form n s m.more r b m.pairs in
    let all : m.more ≡ es = sym m.all in
    let l : length es ≡ n = ap length m.all ∙ f.many in
    record { few = omega (arith, l); fit = rw all at f.fit; apart = m.apart tt }

pub writable-form : (es : Dictionary) (rest : List ℕ) → Writable es → old_dictionary_form (length es) (write_pairs es ++ rest) ≡ bytes (write_old_dictionary es)
writable-form es rest w =
    rw (le-leb (length es) 2147483647 w.few, pairs-entries (length es) [] (write_pairs es ++ rest) es rest (pairs-written es rest w.fit) w.apart) refl

pub form-writable : (n : ℕ) (s w : List ℕ) → Bytes s → old_dictionary_form n s ≡ bytes w → (es : Dictionary) × Writable es × (w ≡ write_old_dictionary es)
form-writable n s w b h =
    by_order 2147483647 n
    (λ l. let z : unfit BadCode ≡ bytes w = sym (rw (lt-leb n 2147483647 l) refl) ∙ h in clash cc)
    (λ l. go (parse_entries n [] s) refl (sym (ap (λ (t : Bool). pick t (form_of (parse_entries n [] s)) (unfit BadCode)) (le-leb n 2147483647 l)) ∙ h) l)
  where
    go : (p : Parsed Dictionary) → parse_entries n [] s ≡ p → form_of p ≡ bytes w → n ≤ 2147483647 → (es : Dictionary) × Writable es × (w ≡ write_old_dictionary es)
    go (bad k) e q l = clash cc
    go (got es r) e q l = let z : w ≡ write_old_dictionary es = cc in (es, pairs-writable n s es r b l e, z)
