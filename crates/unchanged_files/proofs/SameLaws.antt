-- THE CLOSED FILE OF A FILE whose uses descend, whose strings are all used and whose sizes are in the shortest form is the file itself. Assumes nothing.
use Rattle.base.specs.declared.Refusal.{Refusal}
use Rattle.std.specs.Prelude.{Err, Ok, Result}
use mathlib.Core.Path.{◌≡◌, refl, sym, ap, ap₂, ◌∙◌, subst}
use mathlib.Core.Bool.{Bool, true, false}
use mathlib.Core.List.{List, [], ◌∷◌, ◌++◌, append_assoc, append-nil}
use Prim.Native.Nat.{ℕ, zero, suc, ◌+◌, ◌<◌}
use native.Mathlib.Omega.{arith}
use lib.ListN.{length, get_or, take, drop, take-append-drop}
use lib.Seq.{ext_get_or}
use lib.Dec.{eqb}
use borrow.Author.Tests.{eqb-true, eqb-false}
use Rattle.base.specs.All.{All}
use Rattle.base.specs.Bytes.{Bytes}
use Rattle.base.specs.Coded.{Coded}
use Rattle.base.specs.Parsed.{got, bind, prepend, many}
use Rattle.base.proofs.AllLaws.{all_head, all_tail, all_map, all_left, all_right}
use Rattle.base.proofs.ByteLaws.{drop-bytes}
use Rattle.base.proofs.PairLaws.{ok_parts}
use Rattle.base.proofs.ParseLaws.{bad-got, got-value, got-rest, bind-good}
use Rattle.base.proofs.Tests.{clash}
use Rattle.counts.specs.Count.{read_count, write_count}
use Rattle.counts.proofs.CountLaws.{count-form}
use Rattle.texts.specs.Text.{read_text, part_of, text_bytes, behind_text, parse_text, write_text}
use Rattle.texts.proofs.TextLaws.{text-form}
use Rattle.pool.specs.Pool.{read_strings, strings_of}
use Rattle.pool.proofs.StringLaws.{Opened, opened}
use Rattle.frames.specs.Frame.{Field}
use Rattle.frames.specs.Fields.{FieldOf, fields}
use Rattle.frames.specs.Covers.{Covers}
use Rattle.use_order.specs.Order.{new_number}
use Rattle.mentions.specs.Content.{numbers_of}
use Rattle.closed_files.specs.Again.{up_from}
use Rattle.closed_files.specs.File.{mentions_in, uses_of, new_order, new_table, chosen, write_texts, write_pool, write_field, closed_data, closed_fields, closed_file}
use Rattle.closed_files.proofs.MentionLaws.{chosen_at}
use Rattle.closed_files.proofs.PoolLaws.{length-chosen}
use Rattle.closed_files.proofs.PlaceLaws.{Placed, length-uses-of, mentioned-placed}
use Rattle.closed_files.proofs.OrderLaws.{Falls, length_up, up_at, order-up}
use Rattle.closed_pools.specs.View.{GoodPool}
use Rattle.closed_fields.specs.View.{PoolChecked}
use Rattle.closed_fields.proofs.SizeLaws.{data-kept}
use Rattle.closed_walks.specs.View.{Walkable}
use Rattle.unchanged_files.specs.View.{DescendsWhere, UsedUpTo, ClosedWhere, PoolHas, plain_fields, PlainWhere}
use Rattle.unchanged_files.proofs.UseLaws.{falls}

-- ---- a pool that reads is what is written for its strings
strings-form : (k : ℕ) (s : List ℕ) (ts : List (List ℕ)) (q : List ℕ) → Bytes s → read_strings k s ≡ got ts q → (length ts ≡ k) × (s ≡ write_texts ts ++ q)
unfolding many write_texts
strings-form zero s ts q b e =
    let i : [] ≡ ts = got-value e in
    let j : s ≡ q = got-rest e in
    rw (← i) (refl, j)
strings-form (suc k) s ts q b e =
    let a = bind-good (parse_text s) (λ t r. bind (read_strings k r) (prepend t)) ts q e in
    go (λ r xs y. strings-form k r xs y) (read_text s) refl a.first a.rest a.is a.on
  where
    go : ((r : List ℕ) (xs : List (List ℕ)) (y : List ℕ) → Bytes r → read_strings k r ≡ got xs y → (length xs ≡ k) × (r ≡ write_texts xs ++ y))
        → (x : Result (ℕ × ℕ) Refusal) → read_text s ≡ x → (t r : List ℕ) → behind_text s x ≡ got t r → bind (read_strings k r) (prepend t) ≡ got ts q
        → (length ts ≡ suc k) × (s ≡ write_texts ts ++ q)
    go rec (Err n) h t r i o = bad-got i
    go rec (Ok (a, n)) h t r i o =
        let w = text-form s a n b h in
        let c = bind-good (read_strings k r) (prepend t) ts q o in
        let m : drop (a + n) s ≡ r = got-rest i in
        let v : text_bytes s ≡ t = ap (part_of s) h ∙ got-value i in
        let d = rec r c.first c.rest (subst Bytes m (drop-bytes (a + n) s b)) c.is in
        let u : got (t ∷ c.first) c.rest ≡ got ts q = c.on in
        let us : t ∷ c.first ≡ ts = got-value u in
        let x : s ≡ write_text t ++ (write_texts c.first ++ q) =
        w.form ∙ ap (λ (y : List ℕ). write_text y ++ drop (a + n) s) v ∙ ap (λ (y : List ℕ). write_text t ++ y) (m ∙ d.1 ∙ ap (λ (y : List ℕ). write_texts c.first ++ y) (got-rest u)) in
        rw (← us) (omega (arith, d.0), x ∙ sym (append_assoc (write_text t) (write_texts c.first) q))

module _ (d : List ℕ) (b : Bytes d) (w : GoodPool d) where
  held : Opened d (strings_of d) []
  held = opened d (strings_of d) [] w

  forms : (length (strings_of d) ≡ held.k) × (drop held.a d ≡ write_texts (strings_of d) ++ [])
  forms = strings-form held.k (drop held.a d) (strings_of d) [] (drop-bytes held.a d b) held.all

  pool-written : write_pool (strings_of d) ≡ d
  unfolding write_pool
  pool-written =
      ap (λ (n : ℕ). write_count n ++ write_texts (strings_of d)) forms.0
      ∙ ap (λ (x : List ℕ). write_count held.k ++ x) (sym (append-nil (write_texts (strings_of d))) ∙ sym forms.1)
      ∙ sym (count-form d b (sym held.count)).form

  pub strings-counted : (v a : ℕ) → read_count d ≡ Ok (v, a) → v ≡ length (strings_of d)
  strings-counted v a e =
      let z : ◌≡◌ {A = Coded ℕ} (Ok (v, a)) (Ok (held.k, held.a)) = sym e ∙ held.count in
      let y : v ≡ held.k = (ok_parts z).0 in
      y ∙ sym forms.0

  pub strings-unread : (k : Refusal) → read_count d ≡ Err k → 0 ≡ length (strings_of d)
  strings-unread k e = let z : ◌≡◌ {A = Coded ℕ} (Err k) (Ok (held.k, held.a)) = sym e ∙ held.count in clash cc

-- ---- how far uses go, whatever they are
record Reach (l : List ℕ) : Type 0 where
  n : ℕ
  used : UsedUpTo true l n

reach : (l : List ℕ) → Reach l
reach [] = record { n = 0; used = record { within = λ t. omega arith; last = λ t j k. absurd (omega arith); next = λ t k. absurd (omega arith) } }
reach (zero ∷ l) = record { n = 0; used = record { within = λ t. omega arith; last = λ t j k. absurd (omega arith); next = λ t k. refl } }
reach (suc u ∷ l) =
    let r = reach l in
    record {
      n = suc r.n;
      used = record {
        within = λ t. let z = r.used.within refl in omega arith;
        last = λ t j k. before j r.used (let z : j ≡ r.n = omega arith in z);
        next = λ t k. r.used.next refl (omega arith);
      };
    }
  where
    before : (j : ℕ) {m : ℕ} → UsedUpTo true l m → j ≡ m → 0 < get_or (suc u ∷ l) j 0
    before zero x k = omega arith
    before (suc j) x k = x.last refl j k

-- ---- the order that leaves every number where it is
chosen-all : (ts : List (List ℕ)) (order : List ℕ) → order ≡ up_from 0 (length ts) → chosen ts order ≡ ts
chosen-all ts order e =
    let o : length order ≡ length ts = ap length e ∙ length_up 0 (length ts) in
    let l : length (chosen ts order) ≡ length ts = length-chosen ts order ∙ o in
    ext_get_or [] (chosen ts order) ts l (λ j h.
    chosen_at ts order j (omega arith)
    ∙ ap (λ (n : ℕ). get_or ts n []) (ap (λ (x : List ℕ). get_or x j 0) e ∙ up_at 0 (length ts) j (omega arith) ∙ (let z : 0 + j ≡ j = omega arith in z)))

take-bytes : (n : ℕ) (s : List ℕ) → Bytes s → Bytes (take n s)
take-bytes zero s h i = omega arith
take-bytes (suc n) [] h i = omega arith
take-bytes (suc n) (b ∷ s) h zero = h 0
take-bytes (suc n) (b ∷ s) h (suc i) = take-bytes n s (λ j. h (suc j)) i

module _ (f uses : List ℕ) (b : Bytes f) (w : Walkable f) (u : uses ≡ uses_of (fields f)) (small : All (λ k. k < 8192) (mentions_in (fields f)))
    (d : DescendsWhere true uses) (count : ℕ) (up : UsedUpTo true uses count) where
  order-to : (n : ℕ) → UsedUpTo true uses n → new_order (fields f) ≡ up_from 0 n
  order-to n x = order-up n (uses_of (fields f)) (omega (arith, length-uses-of (fields f))) (subst (Falls n) u (falls uses d n x))

  at-place : (j : ℕ) → j < length (new_order (fields f)) → get_or (new_order (fields f)) j 0 ≡ j
  at-place j h =
      let r = reach uses in
      let e = order-to r.n r.used in
      let l : length (new_order (fields f)) ≡ r.n = ap length e ∙ length_up 0 r.n in
      ap (λ (x : List ℕ). get_or x j 0) e ∙ up_at 0 r.n j (omega arith) ∙ (let z : 0 + j ≡ j = omega arith in z)

  abbrev Stays : ℕ → Type 0
  Stays k = new_number (new_table (fields f)) k ≡ k

  stays : All Stays (mentions_in (fields f))
  stays = all_map (λ k (p : Placed (new_order (fields f)) (new_table (fields f)) k). sym (at-place (new_number (new_table (fields f)) k) p.inside) ∙ p.is) (mentioned-placed (fields f) small)

  data-same : (i : ℕ) (x : List ℕ) → Bytes x → PoolChecked i x → PoolHas count i x → All Stays (numbers_of i x)
      → closed_data (new_order (fields f)) (new_table (fields f)) i x ≡ x
  unfolding closed_data
  data-same i x bx c p a = go (eqb i 0) refl
    where
      go : (t : Bool) → eqb i 0 ≡ t → closed_data (new_order (fields f)) (new_table (fields f)) i x ≡ x
      go true e =
          let z : i ≡ 0 = eqb-true i 0 e in
          rw e (ap write_pool (chosen-all (strings_of x) (new_order (fields f)) (order-to (length (strings_of x)) (subst (UsedUpTo true uses) (p.strings z) up))) ∙ pool-written x bx (c.good z))
      go false e = data-kept (new_order (fields f)) (new_table (fields f)) i x true (eqb-false i 0 e) bx (record { stay = λ t. a }) refl

  fields-same : (at : ℕ) (hs : List Field) → Covers f at hs → All (λ g. PoolChecked g.id g.body) hs → All (λ g. PoolHas count g.id g.body) hs
      → All Stays (mentions_in hs) → closed_fields (new_order (fields f)) (new_table (fields f)) hs ≡ plain_fields hs
  unfolding closed_fields plain_fields mentions_in
  fields-same at [] c k p a = refl
  fields-same at (g ∷ hs) c k p a =
      let o : FieldOf f g = c.1 in
      let bg : Bytes g.body = subst Bytes (sym o.bytes) (take-bytes (length g.body) (drop g.start f) (drop-bytes g.start f b)) in
      ap₂ ◌++◌
      (ap (write_field g.id) (data-same g.id g.body bg (all_head k) (all_head p) (all_left (numbers_of g.id g.body) (mentions_in hs) a)))
      (fields-same g.past hs c.2 (all_tail k) (all_tail p) (all_right (numbers_of g.id g.body) (mentions_in hs) a))

  -- the file itself
  same-file : PlainWhere true f count → closed_file (fields f) ≡ f
  unfolding closed_file
  same-file p =
      ap (λ (x : List ℕ). 0 ∷ 0 ∷ 0 ∷ 0 ∷ x) (fields-same 4 (fields f) w.covers w.pools (p.pools refl) stays ∙ p.plain refl)
      ∙ ap (λ (x : List ℕ). x ++ drop 4 f) (sym w.version) ∙ take-append-drop 4 f

pub same-so : (f uses : List ℕ) → Bytes f → Walkable f → uses ≡ uses_of (fields f) → All (λ k. k < 8192) (mentions_in (fields f)) → (n : ℕ) (plain r : Bool)
    → PlainWhere plain f n → ClosedWhere r plain uses n → r ≡ true → closed_file (fields f) ≡ f
same-so f uses b w u small n plain r p c t =
    same-file f uses b w u small (c.descends t) n (c.used t) (subst (λ (x : Bool). PlainWhere x f n) (c.plain t) p)
