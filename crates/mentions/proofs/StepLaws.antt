-- A reader of a field reads its data with other numbers as it reads the data: code by code between two mentions, and at a mention. Assumes nothing.
use Rattle.base.specs.declared.Refusal.{Refusal}
use Rattle.base.specs.declared.Refusal.TheVariants.{BadData, BadText}
use mathlib.Core.Path.{◌≡◌, refl, sym, ap, ◌∙◌}
use mathlib.Core.Bool.{Bool, true}
use mathlib.Core.List.{List, [], ◌∷◌, ◌++◌, append-nil, append_assoc}
use Prim.Native.Nat.{ℕ, ◌+◌, ◌-◌, ◌≤◌, ◌<◌}
use native.Mathlib.Omega.{arith}
use lib.Dec.{ltb}
use lib.ListN.{length, length-append}
use lib.Seq.{take-append-add, drop-append_seam}
use borrow.Author.Tests.{lt-ltb}
use Rattle.base.specs.Pick.{pick}
use Rattle.base.specs.Parsed.{Parsed, got, bad, bind, parse}
use Rattle.base.proofs.ParseLaws.{bind-good, pick_good}
use Rattle.counts.specs.Groups.{read_groups}
use Rattle.counts.specs.Count.{read_count, write_count}
use Rattle.counts.proofs.CountLaws.{count-written}
use Rattle.places.specs.Name.{judge_name, parse_name}
use Rattle.pieces.specs.Content.{bytes_up_to}
use Rattle.mentions.specs.declared.Stage.{Stage}
use Rattle.mentions.specs.declared.Stage.TheVariants.{Rest}
use Rattle.mentions.specs.Walk.{ahead_of}
use Rattle.mentions.specs.Content.{Mention, Content, parse_mention, before, onward, content_at, numbers_in, print_mentions, print}
use Rattle.mentions.proofs.WalkLaws.{Left}
use Rattle.mentions.proofs.ContentLaws.{content-next, content-end}
use Rattle.mentions.proofs.PrintLaws.{print-before}
use Rattle.mentions.proofs.FrontLaws.{Front}

-- what is left of the way to the next mention, at a place between two
abbrev pub Ahead : Type 0
Ahead = List ℕ → Parsed Stage

-- the mentions of s, where a place between two is in front of it
mention_by : Ahead → List ℕ → Parsed Mention
mention_by κ s = bind (κ s) (λ τ r. bind (parse read_count r) (λ k q. got (record { prior = bytes_up_to s r; number = k; behind = τ }) q))

content_by : Ahead → List ℕ → Content
content_by κ s = onward s (mention_by κ s) (λ τ r. content_at τ r)

pub numbers_by : Ahead → List ℕ → List ℕ
numbers_by κ s = numbers_in (content_by κ s).mentions

pub print_by : (ℕ → ℕ) → Ahead → List ℕ → List ℕ
print_by ρ κ s = print ρ (content_by κ s)

content-by : (σ : Stage) (s : List ℕ) → content_at σ s ≡ content_by (ahead_of σ) s
unfolding content_by mention_by parse_mention
content-by σ s = go (parse_mention σ s) refl
  where
    go : (p : Parsed Mention) → parse_mention σ s ≡ p → content_at σ s ≡ onward s p (λ τ r. content_at τ r)
    go (got m r) e = content-next σ s m r e
    go (bad k) e = content-end σ s k e

pub print-by : (ρ : ℕ → ℕ) (σ : Stage) (s : List ℕ) → print ρ (content_at σ s) ≡ print_by ρ (ahead_of σ) s
unfolding print_by
print-by ρ σ s = ap (print ρ) (content-by σ s)

numbers-by : (σ : Stage) (s : List ℕ) → numbers_in (content_at σ s).mentions ≡ numbers_by (ahead_of σ) s
unfolding numbers_by
numbers-by σ s = ap (λ (c : Content). numbers_in c.mentions) (content-by σ s)

-- where a mention follows, and where none does
module _ (κ : Ahead) (s : List ℕ) where
  module _ (τ : Stage) (q : List ℕ) (k : ℕ) (r : List ℕ) (e : κ s ≡ got τ q) (f : parse read_count q ≡ got k r) where
    some-by : content_by κ s ≡ before (record { prior = bytes_up_to s q; number = k; behind = τ }) (content_at τ r)
    unfolding content_by mention_by
    some-by = rw (e, f)

    print-some : (ρ : ℕ → ℕ) → print_by ρ κ s ≡ (bytes_up_to s q ++ write_count (ρ k)) ++ print ρ (content_at τ r)
    unfolding print_by
    print-some ρ = ap (print ρ) some-by ∙ print-before ρ (record { prior = bytes_up_to s q; number = k; behind = τ }) (content_at τ r)

    numbers-some : numbers_by κ s ≡ k ∷ numbers_in (content_at τ r).mentions
    unfolding numbers_by numbers_in
    numbers-some = ap (λ (c : Content). numbers_in c.mentions) some-by

  module _ (k : Refusal) (e : mention_by κ s ≡ bad k) where
    none-by : content_by κ s ≡ record { mentions = []; rest = s }
    unfolding content_by
    none-by = rw e

    print-none : (ρ : ℕ → ℕ) → print_by ρ κ s ≡ s
    unfolding print_by print print_mentions
    print-none ρ = ap (print ρ) none-by

    numbers-none : numbers_by κ s ≡ []
    unfolding numbers_by numbers_in
    numbers-none = ap (λ (c : Content). numbers_in c.mentions) none-by

up-to-behind : (xs r q : List ℕ) → length q ≤ length r → bytes_up_to (xs ++ r) q ≡ xs ++ bytes_up_to r q
up-to-behind xs r q h =
    let n : length (xs ++ r) - length q ≡ length xs + (length r - length q) = rw length-append (omega arith) in
    rw n (take-append-add xs r (length r - length q))

up-to-all : (s : List ℕ) → bytes_up_to s s ≡ []
up-to-all s = let n : length s - length s ≡ 0 = omega arith in rw n

module _ (ρ : ℕ → ℕ) where
  -- A READING OF s WITH OTHER NUMBERS: p reads a, and goes on where what is ahead is κ' and r; on the way stand the mentions ns
  pub record Reads {A : Type 0} (κ : Ahead) (s : List ℕ) (p : List ℕ → Parsed A) (a : A) (ns : List ℕ) (κ' : Ahead) (r : List ℕ) : Type 0 where
    pub again : p (print_by ρ κ s) ≡ got a (print_by ρ κ' r)
    pub numbers : numbers_by κ s ≡ ns ++ numbers_by κ' r

  -- in a row
  pub then-reads : {A B : Type 0} {κ κ' κ'' : Ahead} {s r q : List ℕ} {p : List ℕ → Parsed A} {a : A} {b : B} {ns ms : List ℕ}
      (k : A → List ℕ → Parsed B) → Reads κ s p a ns κ' r → Reads κ' r (k a) b ms κ'' q → Reads κ s (λ x. bind (p x) k) b (ns ++ ms) κ'' q
  then-reads {κ'' = κ''} {q = q} {ns = ns} {ms = ms} k f g =
      record {
        again = rw f.again g.again;
        numbers = f.numbers ∙ ap (λ (y : List ℕ). ns ++ y) g.numbers ∙ sym (append_assoc ns ms (numbers_by κ'' q));
      }

  -- a code between two mentions, or a row of codes: it is copied
  module _ {A : Type 0} (κ : Ahead) (p : List ℕ → Parsed A) (κ' : A → Ahead) (s : List ℕ) (a : A) (r : List ℕ) (e : κ s ≡ bind (p s) κ')
      (f : Front p s a r) (l : Left (length r) (κ' a r)) where
    abbrev Copied : Type 0
    Copied = (print_by ρ κ s ≡ f.used ++ print_by ρ (κ' a) r) × (numbers_by κ s ≡ numbers_by (κ' a) r)

    copied : Copied
    unfolding mention_by
    copied =
        let i : p s ≡ got a r = ap p f.splits ∙ f.again r in
        let j : κ s ≡ κ' a r = e ∙ rw i in
        go (κ' a r) j refl l
      where
        none : (k : Refusal) → mention_by κ s ≡ bad k → mention_by (κ' a) r ≡ bad k → Copied
        none k g h = (
          print-none κ s k g ρ ∙ f.splits ∙ ap (λ (y : List ℕ). f.used ++ y) (sym (print-none (κ' a) r k h ρ)),
          numbers-none κ s k g ∙ sym (numbers-none (κ' a) r k h),
        )

        at-mention : (τ : Stage) (q : List ℕ) (x : Parsed ℕ) → κ s ≡ got τ q → κ' a r ≡ got τ q → length q ≤ length r → parse read_count q ≡ x → Copied
        at-mention τ q (bad k) g h m c = none k (rw (g, c)) (rw (h, c))
        at-mention τ q (got k t) g h m c =
            let u : bytes_up_to s q ≡ f.used ++ bytes_up_to r q = ap (λ (y : List ℕ). bytes_up_to y q) f.splits ∙ up-to-behind f.used r q m in
            let x : List ℕ = print ρ (content_at τ t) in
            let v : (bytes_up_to s q ++ write_count (ρ k)) ++ x ≡ f.used ++ ((bytes_up_to r q ++ write_count (ρ k)) ++ x) = rw u (simp append_assoc) in (
              print-some κ s τ q k t g c ρ ∙ v ∙ ap (λ (y : List ℕ). f.used ++ y) (sym (print-some (κ' a) r τ q k t h c ρ)),
              numbers-some κ s τ q k t g c ∙ sym (numbers-some (κ' a) r τ q k t h c),
            )

        go : (x : Parsed Stage) → κ s ≡ x → κ' a r ≡ x → Left (length r) x → Copied
        go (bad k) g h m = none k (rw g) (rw h)
        go (got τ q) g h m = at-mention τ q (parse read_count q) g h m refl

    pub code_reads : Reads κ s p a [] (κ' a) r
    code_reads = record { again = ap p copied.0 ∙ f.again (print_by ρ (κ' a) r); numbers = copied.1 }

  -- a mention
  module _ (κ : Ahead) (s : List ℕ) (τ : Stage) (n : ℕ) (q : List ℕ) (e : κ s ≡ got τ s) where
    pub mention-reads : parse read_count s ≡ got n q → ρ n ≤ 2147483647 → Reads κ s (parse read_count) (ρ n) (n ∷ []) (ahead_of τ) q
    mention-reads c h =
        let x : List ℕ = print ρ (content_at τ q) in
        let w : print_by ρ κ s ≡ write_count (ρ n) ++ x = print-some κ s τ s n q e c ρ ∙ rw (up-to-all s) in
        record {
          again = rw (w, count-written (ρ n) x h, drop-append_seam (write_count (ρ n)) x) (ap (got (ρ n)) (print-by ρ τ q));
          numbers = numbers-some κ s τ s n q e c ∙ ap (λ (y : List ℕ). n ∷ y) (numbers-by τ q);
        }

    -- "in a zone it is a pool number", below the pool's count before and after
    pub name-reads : (pool pool' : ℕ) → pool' ≤ 8192 → parse_name pool s ≡ got n q → ρ n < pool'
        → Reads κ s (parse_name pool') (ρ n) (n ∷ []) (ahead_of τ) q
    unfolding parse_name judge_name
    name-reads pool pool' h f l =
        let a = bind-good (parse read_count s) (judge_name pool) n q f in
        let t = pick_good (ltb a.first pool) (got a.first a.rest) BadText n q a.on in
        let c : parse read_count s ≡ got n q = a.is ∙ t.1 in
        let m = mention-reads c (omega arith) in
        record { again = rw (m.again, lt-ltb (ρ n) pool' l); numbers = m.numbers }

  -- where the data end before a mention, and where no mention follows
  module _ (κ : Ahead) (s : List ℕ) (τ : Stage) (e : κ s ≡ got τ []) where
    none : mention_by κ s ≡ bad BadData
    unfolding mention_by read_groups
    none = rw e

    print-rest : print_by ρ κ s ≡ s
    print-rest = print-none κ s BadData none ρ

    numbers-rest : numbers_by κ s ≡ []
    numbers-rest = numbers-none κ s BadData none

  -- a whole that ends without a mention more; its end is one place, by whatever way it is reached
  pub last-reads : {A : Type 0} (κ : Ahead) (s : List ℕ) (τ : Stage) (p : List ℕ → Parsed A) (a : A) → κ s ≡ got τ [] → p s ≡ got a []
      → Reads κ s p a [] (ahead_of Rest) []
  unfolding ahead_of
  last-reads κ s τ p a e f =
      record {
        again = ap p (print-rest κ s τ e) ∙ f ∙ ap (got a) (sym (print-rest (ahead_of Rest) [] Rest refl));
        numbers = numbers-rest κ s τ e ∙ sym (numbers-rest (ahead_of Rest) [] Rest refl);
      }

  -- a last step that reads nothing
  pub end_reads : {A B : Type 0} {κ κ' : Ahead} {s r : List ℕ} {p : List ℕ → Parsed A} {a : A} {ns : List ℕ} (k : A → List ℕ → Parsed B) (b : B)
      → ((x : List ℕ) → k a x ≡ got b x) → Reads κ s p a ns κ' r → Reads κ s (λ x. bind (p x) k) b ns κ' r
  end_reads {κ' = κ'} {r = r} k b h f = record { again = rw f.again (h (print_by ρ κ' r)); numbers = f.numbers }

  -- a test of what was read
  pub test-reads : {A : Type 0} {κ κ' : Ahead} {s r : List ℕ} {p : List ℕ → Parsed A} {a : A} {ns : List ℕ} (t : Bool) (n : Refusal) → t ≡ true
      → Reads κ s p a ns κ' r → Reads κ s (λ x. pick t (p x) (bad n)) a ns κ' r
  test-reads t n h f = record { again = rw h f.again; numbers = f.numbers }

  -- nothing read yet
  pub got-reads : {A : Type 0} (κ : Ahead) (s : List ℕ) (a : A) → Reads κ s (λ x. got a x) a [] κ s
  got-reads κ s a = record { again = refl; numbers = refl }

  -- the same reader, said otherwise
  pub same_reads : {A : Type 0} {κ κ' : Ahead} {s r : List ℕ} {p : List ℕ → Parsed A} {a : A} {ns : List ℕ} (o : List ℕ → Parsed A)
      → ((x : List ℕ) → o x ≡ p x) → Reads κ s p a ns κ' r → Reads κ s o a ns κ' r
  same_reads {κ = κ} {s = s} o h f = record { again = h (print_by ρ κ s) ∙ f.again; numbers = f.numbers }

  -- a field's data that are read to their end
  module _ {A : Type 0} (σ : Stage) (d : List ℕ) {p : List ℕ → Parsed A} {a : A} {ns : List ℕ} (κ : Ahead) (τ : Stage) (e : κ [] ≡ got τ [])
      (f : Reads (ahead_of σ) d p a ns κ []) where
    pub whole_again : p (print ρ (content_at σ d)) ≡ got a []
    whole_again = ap p (print-by ρ σ d) ∙ f.again ∙ ap (got a) (print-rest κ [] τ e)

    pub whole_numbers : numbers_in (content_at σ d).mentions ≡ ns
    whole_numbers = numbers-by σ d ∙ f.numbers ∙ ap (λ (y : List ℕ). ns ++ y) (numbers-rest κ [] τ e) ∙ append-nil ns
