-- The mentions of renumbered data are the old ones, renumbered; so renumbering twice is renumbering once. Assumes nothing.
use Rattle.std.specs.Prelude.{Err, Ok}
use Rattle.base.specs.Coded.{Coded}
use Rattle.base.specs.declared.Refusal.TheVariants.{BadData}
use mathlib.Core.Path.{◌≡◌, refl, sym, ap, ◌∙◌, subst}
use mathlib.Core.Bool.{Bool, true, false}
use mathlib.Core.List.{List, [], ◌∷◌, ◌++◌, append_assoc, map}
use Prim.Native.Nat.{ℕ, zero, suc, ◌*◌, ◌-◌, ◌<◌}
use native.Mathlib.Omega.{arith}
use native.Mathlib.Nat.{not-suc-le-zero}
use lib.ListN.{length, drop}
use lib.Seq.{drop-append_seam}
use lib.Dec.{eqb}
use Rattle.base.specs.Pick.{pick}
use Rattle.base.specs.All.{All}
use Rattle.base.specs.Bytes.{Bytes}
use Rattle.base.specs.Parsed.{Parsed, got, bad, bind, behind_code, parse, parse_byte}
use Rattle.base.specs.Moment.{end_of_time}
use Rattle.base.proofs.AllLaws.{all_head, all_tail}
use Rattle.base.proofs.ByteLaws.{drop-bytes}
use Rattle.base.proofs.ParseLaws.{bad-got, got-value, got-rest, bind-good}
use Rattle.counts.specs.Groups.{read_groups}
use Rattle.counts.specs.Count.{read_count, write_count}
use Rattle.counts.proofs.CountLaws.{count-written, count-form}
use Rattle.offsets.specs.Offset.{read_sum}
use Rattle.transitions.specs.Transition.{read_moment}
use Rattle.places.specs.Name.{read_zigzag}
use Rattle.pieces.specs.Content.{bytes_up_to}
use Rattle.pieces.proofs.PieceLaws.{up-to-front}
use Rattle.mentions.specs.declared.Stage.{Stage}
use Rattle.mentions.specs.declared.Stage.TheVariants.{Zone, Flag, Interval, Rule, Aliases, Locations, Names, Rest}
use Rattle.mentions.specs.Walk.{no_more, behind_rule, behind_end, behind_start, behind_details, behind_offset, behind_interval_count, behind_id, numbered_names, location_names, before_names, before_pairs, before_locations, ahead_of, first_stage}
use Rattle.mentions.specs.Content.{Mention, Content, parse_mention, before, content_at, content_of, numbers_in, numbers_of, print_mentions, print, renumbered}
use Rattle.mentions.proofs.ContentLaws.{mention-left, content-next, content-end}
use Rattle.mentions.proofs.PrintLaws.{print-here, print-none, numbers-here, numbers-none}
use Rattle.mentions.proofs.FrontLaws.{Front, count-front, zigzag-front, sum-front, moment-front, byte-front, both-front}

-- ---- the codes before a mention read the same in front of any bytes
-- p does so where N holds of what is left
abbrev Fronts : {A : Type 0} → (List ℕ → Type 0) → (List ℕ → Parsed A) → Type 0
Fronts {A} N p = (s : List ℕ) (a : A) (r : List ℕ) → p s ≡ got a r → N r → Front p s a r

abbrev Any : List ℕ → Type 0
Any r = Unit {0}

abbrev Some : List ℕ → Type 0
Some r = r ≡ [] → ⊥

module _ (N : List ℕ → Type 0) where
  here-fronts : {A : Type 0} (a : A) → Fronts N (λ s. got a s)
  here-fronts {A} a s b r e h = record { used = []; splits = got-rest e; again = λ x. ap (λ (y : A). got y x) (got-value e) }

  bind-fronts : {A B : Type 0} (p : List ℕ → Parsed A) (k : A → List ℕ → Parsed B) → Fronts Any p → ((a : A) → Fronts N (k a))
      → Fronts N (λ s. bind (p s) k)
  bind-fronts p k f g s b r e h =
      let c = bind-good (p s) k b r e in
      both-front p k s c.first c.rest b r (f s c.first c.rest c.is tt) (g c.first c.rest b r c.on h)

  pick-fronts : {A : Type 0} (t : Bool) (p q : List ℕ → Parsed A) → Fronts N p → Fronts N q → Fronts N (λ s. pick t (p s) (q s))
  pick-fronts true p q f g = f
  pick-fronts false p q f g = g

  byte-bind : {B : Type 0} (k : ℕ → List ℕ → Parsed B) → ((a : ℕ) → Fronts N (k a)) → Fronts N (λ s. bind (parse_byte s) k)
  byte-bind k = bind-fronts parse_byte k (λ s v r e h. byte-front s v r e)

  count-bind : {B : Type 0} (k : ℕ → List ℕ → Parsed B) → ((a : ℕ) → Fronts N (k a)) → Fronts N (λ s. bind (parse read_count s) k)
  count-bind k = bind-fronts (parse read_count) k (λ s v r e h. count-front s v r e)

  zigzag-bind : {B : Type 0} (k : ℕ → List ℕ → Parsed B) → ((a : ℕ) → Fronts N (k a)) → Fronts N (λ s. bind (parse read_zigzag s) k)
  zigzag-bind k = bind-fronts (parse read_zigzag) k (λ s v r e h. zigzag-front s v r e)

  sum-bind : {B : Type 0} (k : ℕ → List ℕ → Parsed B) → ((a : ℕ) → Fronts N (k a)) → Fronts N (λ s. bind (parse read_sum s) k)
  sum-bind k = bind-fronts (parse read_sum) k (λ s v r e h. sum-front s v r e)

none-fronts : Fronts Some (λ s. no_more)
none-fronts s a r e h = absurd (h (sym (got-rest e)))

end-fronts : Fronts Some behind_end
unfolding behind_end
end-fronts = byte-bind Some _ (λ b. pick-fronts Some (eqb b 1) _ _ (sum-bind Some _ (λ o. here-fronts Some Rule)) none-fronts)

start-fronts : (prev left : ℕ) → Fronts Some (behind_start prev left)
unfolding behind_start
start-fronts prev left =
    bind-fronts Some (parse (read_moment prev)) _ (λ s v r e h. moment-front s v r prev e)
    (λ start. pick-fronts Some (eqb left 0) behind_end _ end-fronts (here-fronts Some (Interval start (left - 1))))

id-fronts : Fronts Some behind_id
unfolding behind_id behind_offset behind_interval_count
id-fronts =
    byte-bind Some _ (λ b. pick-fronts Some (eqb b 1) _ _ (sum-bind Some _ (λ o. here-fronts Some Rest))
    (pick-fronts Some (eqb b 2) _ _ (count-bind Some _ (λ n. start-fronts end_of_time n)) none-fronts))

location-fronts : (numbered : Bool) → Fronts Any (location_names numbered)
unfolding location_names numbered_names
location-fronts numbered =
    zigzag-bind Any _ (λ a. zigzag-bind Any _ (λ b. pick-fronts Any numbered _ _ (zigzag-bind Any _ (λ v. here-fronts Any _)) (here-fronts Any 3)))

names-fronts : (n l : ℕ) (numbered : Bool) → Fronts Some (before_names n l numbered)
unfolding before_names
names-fronts n l numbered =
    pick-fronts Some (eqb n 0) _ _
    (pick-fronts Some (eqb l 0) _ _ none-fronts
    (bind-fronts Some (location_names numbered) _ (location-fronts numbered) (λ k. here-fronts Some (Names k (l - 1) numbered))))
    (here-fronts Some (Names (n - 1) l numbered))

ahead-fronts : (σ : Stage) → Fronts Some (ahead_of σ)
unfolding ahead_of behind_details behind_rule before_pairs before_locations
ahead-fronts Zone = here-fronts Some Flag
ahead-fronts Flag = id-fronts
ahead-fronts (Interval start left) = sum-bind Some _ (λ w. sum-bind Some _ (λ v. start-fronts start left))
ahead-fronts Rule = byte-bind Some _ (λ b. count-bind Some _ (λ m. zigzag-bind Some _ (λ d. sum-bind Some _ (λ t. here-fronts Some Rest))))
ahead-fronts Aliases = count-bind Some _ (λ n. names-fronts (2 * n) 0 false)
ahead-fronts (Locations numbered) = count-bind Some _ (λ n. names-fronts 0 n numbered)
ahead-fronts (Names n l numbered) = names-fronts n l numbered
ahead-fronts Rest = none-fronts

-- ---- a mention by its parts
-- no count is read from no bytes
count-some : (s : List ℕ) (v : ℕ) (r : List ℕ) → parse read_count s ≡ got v r → s ≡ [] → ⊥
unfolding read_groups
count-some s v r e z = let f : bad BadData ≡ got v r = sym (ap (parse read_count) z) ∙ e in bad-got f

-- the codes before a mention, and its number
record Parts (σ : Stage) (s : List ℕ) (m : Mention) (r : List ℕ) : Type 0 where
  rest : List ℕ
  splits : s ≡ m.prior ++ rest
  again : (x : List ℕ) → ahead_of σ (m.prior ++ x) ≡ got m.behind x
  number : parse read_count rest ≡ got m.number r

parts : (σ : Stage) (s : List ℕ) (m : Mention) (r : List ℕ) → parse_mention σ s ≡ got m r → Parts σ s m r
unfolding parse_mention
parts σ s m r e =
    let a = bind-good (ahead_of σ s) _ m r e in
    let b = bind-good (parse read_count a.rest) _ m r a.on in
    let f = ahead-fronts σ s a.first a.rest a.is (count-some a.rest b.first b.rest b.is) in
    let p : bytes_up_to s a.rest ≡ f.used = ap (λ (x : List ℕ). bytes_up_to x a.rest) f.splits ∙ up-to-front f.used a.rest in
    subst (λ (y : Mention). Parts σ s y r) (got-value b.on) (record {
      rest = a.rest;
      splits = rw p f.splits;
      again = λ x. rw p (f.again x);
      number = b.is ∙ ap (got b.first) (got-rest b.on);
    })

count-back : (k : ℕ) (q : List ℕ) → k < 2147483648 → parse read_count (write_count k ++ q) ≡ got k q
count-back k q h = rw (count-written k q (omega arith), drop-append_seam (write_count k) q)

-- A MENTION WITH ANOTHER NUMBER is that mention, before any bytes
pub mention-again : (σ : Stage) (s : List ℕ) (m : Mention) (r : List ℕ) → parse_mention σ s ≡ got m r → (k : ℕ) → k < 2147483648 → (q : List ℕ)
    → parse_mention σ ((m.prior ++ write_count k) ++ q) ≡ got (record { prior = m.prior; number = k; behind = m.behind }) q
unfolding parse_mention
mention-again σ s m r e k h q =
    let p = parts σ s m r e in
    rw (append_assoc m.prior (write_count k) q, p.again (write_count k ++ q), count-back k q h, up-to-front m.prior (write_count k ++ q))

-- a count has one form
count-shape : (s : List ℕ) (v : ℕ) (r : List ℕ) → Bytes s → parse read_count s ≡ got v r → s ≡ write_count v ++ r
count-shape s v r b e = go (read_count s) refl e
  where
    go : (x : Coded ℕ) → x ≡ read_count s → behind_code s x ≡ got v r → s ≡ write_count v ++ r
    go (Ok (w, n)) h f =
        (count-form s b h).form ∙ ap (λ (y : ℕ). write_count y ++ drop n s) (got-value f) ∙ ap (λ (y : List ℕ). write_count v ++ y) (got-rest f)
    go (Err n) h f = bad-got f

-- so has a mention
mention-form : (σ : Stage) (s : List ℕ) (m : Mention) (r : List ℕ) → Bytes s → parse_mention σ s ≡ got m r
    → s ≡ (m.prior ++ write_count m.number) ++ r
mention-form σ s m r b e =
    let p = parts σ s m r e in
    let n : ℕ = length m.prior in
    let c : Bytes p.rest = subst Bytes (ap (drop n) p.splits ∙ drop-append_seam m.prior p.rest) (drop-bytes n s b) in
    p.splits ∙ ap (λ (x : List ℕ). m.prior ++ x) (count-shape p.rest m.number r c p.number)
    ∙ sym (append_assoc m.prior (write_count m.number) r)

-- ---- a content with other numbers
abbrev other_number : (ℕ → ℕ) → Mention → Mention
other_number ρ m = record { prior = m.prior; number = ρ m.number; behind = m.behind }

abbrev other_numbers : (ℕ → ℕ) → Content → Content
other_numbers ρ c = record { mentions = map (other_number ρ) c.mentions; rest = c.rest }

numbers-map : (ρ : ℕ → ℕ) (ms : List Mention) → numbers_in (map (other_number ρ) ms) ≡ map ρ (numbers_in ms)
unfolding numbers_in
numbers-map ρ [] = refl
numbers-map ρ (m ∷ ms) = ap (λ (l : List ℕ). ρ m.number ∷ l) (numbers-map ρ ms)

print-map : (ρ ρ' : ℕ → ℕ) (ms : List Mention) → print_mentions ρ' (map (other_number ρ) ms) ≡ print_mentions (λ k. ρ' (ρ k)) ms
unfolding print_mentions
print-map ρ ρ' [] = refl
print-map ρ ρ' (m ∷ ms) = ap (λ (l : List ℕ). (m.prior ++ write_count (ρ' (ρ m.number))) ++ l) (print-map ρ ρ' ms)

print-alike : (ρ ρ' : ℕ → ℕ) (ms : List Mention) → All (λ k. ρ k ≡ ρ' k) (numbers_in ms) → print_mentions ρ ms ≡ print_mentions ρ' ms
unfolding print_mentions numbers_in
print-alike ρ ρ' [] h = refl
print-alike ρ ρ' (m ∷ ms) h = rw (all_head h) (ap (λ (l : List ℕ). (m.prior ++ write_count (ρ' m.number)) ++ l) (print-alike ρ ρ' ms (all_tail h)))

module _ (ρ : ℕ → ℕ) where
  abbrev Fit : ℕ → Type 0
  Fit k = ρ k < 2147483648

  content-again : (n : ℕ) (σ : Stage) (s : List ℕ) → length s < n → All Fit (numbers_in (content_at σ s).mentions)
      → content_at σ (print ρ (content_at σ s)) ≡ other_numbers ρ (content_at σ s)
  content-again zero σ s l h = absurd (not-suc-le-zero l)
  content-again (suc n) σ s l h = go (parse_mention σ s) refl (λ τ r. content-again n τ r)
    where
      go : (p : Parsed Mention) → parse_mention σ s ≡ p → ((τ : Stage) (r : List ℕ) → length r < n → All Fit (numbers_in (content_at τ r).mentions)
          → content_at τ (print ρ (content_at τ r)) ≡ other_numbers ρ (content_at τ r))
          → content_at σ (print ρ (content_at σ s)) ≡ other_numbers ρ (content_at σ s)
      go (got m r) e rec =
          let c : Content = content_at m.behind r in
          let fits : All Fit (m.number ∷ numbers_in c.mentions) = subst (All Fit) (numbers-here σ s m r e) h in
          let shorter = mention-left σ s m r e in
          ap (content_at σ) (print-here ρ σ s m r e)
          ∙ content-next σ _ (other_number ρ m) (print ρ c) (mention-again σ s m r e (ρ m.number) (all_head fits) (print ρ c))
          ∙ ap (before (other_number ρ m)) (rec m.behind r (omega arith) (all_tail fits))
          ∙ sym (ap (other_numbers ρ) (content-next σ s m r e))
      go (bad k) e rec = ap (content_at σ) (print-none ρ σ s k e) ∙ content-end σ s k e ∙ sym (ap (other_numbers ρ) (content-end σ s k e))

  module _ (i : ℕ) (d : List ℕ) (h : All Fit (numbers_of i d)) where
    renumbered-content : content_of i (renumbered ρ i d) ≡ other_numbers ρ (content_of i d)
    renumbered-content = content-again (suc (length d)) (first_stage i) d (omega arith) h

    -- THE MENTIONS OF RENUMBERED DATA are the old ones, renumbered
    pub numbers-renumbered : numbers_of i (renumbered ρ i d) ≡ map ρ (numbers_of i d)
    numbers-renumbered = ap (λ (c : Content). numbers_in c.mentions) renumbered-content ∙ numbers-map ρ (content_of i d).mentions

    pub renumbered-twice : (ρ' : ℕ → ℕ) → renumbered ρ' i (renumbered ρ i d) ≡ renumbered (λ k. ρ' (ρ k)) i d
    unfolding print
    renumbered-twice ρ' = ap (print ρ') renumbered-content ∙ ap (λ (l : List ℕ). l ++ (content_of i d).rest) (print-map ρ ρ' (content_of i d).mentions)

  pub renumbered-alike : (ρ' : ℕ → ℕ) (i : ℕ) (d : List ℕ) → All (λ k. ρ k ≡ ρ' k) (numbers_of i d) → renumbered ρ i d ≡ renumbered ρ' i d
  unfolding print
  renumbered-alike ρ' i d h = ap (λ (l : List ℕ). l ++ (content_of i d).rest) (print-alike ρ ρ' (content_of i d).mentions h)

-- ---- no number changed
print-same : (n : ℕ) (σ : Stage) (s : List ℕ) → length s < n → Bytes s → print (λ k. k) (content_at σ s) ≡ s
print-same zero σ s l b = absurd (not-suc-le-zero l)
print-same (suc n) σ s l b = go (parse_mention σ s) refl (λ τ r. print-same n τ r)
  where
    go : (p : Parsed Mention) → parse_mention σ s ≡ p → ((τ : Stage) (r : List ℕ) → length r < n → Bytes r → print (λ k. k) (content_at τ r) ≡ r)
        → print (λ k. k) (content_at σ s) ≡ s
    go (got m r) e rec =
        let f = mention-form σ s m r b e in
        let u : List ℕ = m.prior ++ write_count m.number in
        let shorter = mention-left σ s m r e in
        let c : Bytes r = subst Bytes (ap (drop (length u)) f ∙ drop-append_seam u r) (drop-bytes (length u) s b) in
        print-here (λ k. k) σ s m r e ∙ ap (λ (x : List ℕ). u ++ x) (rec m.behind r (omega arith) c) ∙ sym f
    go (bad k) e rec = print-none (λ k. k) σ s k e

pub renumbered-same : (ρ : ℕ → ℕ) (i : ℕ) (d : List ℕ) → Bytes d → All (λ k. ρ k ≡ k) (numbers_of i d) → renumbered ρ i d ≡ d
renumbered-same ρ i d b h = renumbered-alike ρ (λ k. k) i d h ∙ print-same (suc (length d)) (first_stage i) d (omega arith) b

-- ---- a field with no mention
pub numbers-none-in : (i : ℕ) (d : List ℕ) → first_stage i ≡ Rest → numbers_of i d ≡ []
unfolding parse_mention ahead_of read_groups
numbers-none-in i d e = ap (λ (σ : Stage). numbers_in (content_at σ d).mentions) e ∙ numbers-none Rest d BadData refl
