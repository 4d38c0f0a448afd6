-- How long closed data are at most. Assumes nothing.
use mathlib.Core.Path.{◌≡◌, refl, sym, ap, ◌∙◌}
use mathlib.Core.Bool.{Bool, true, false}
use mathlib.Core.List.{List, [], ◌∷◌, ◌++◌}
use Prim.Native.Nat.{ℕ, zero, suc, ◌+◌, ◌*◌, ◌-◌, ◌≤◌, ◌<◌}
use native.Mathlib.Omega.{arith}
use lib.ListN.{length, take, length-append, length-take}
use lib.Dec.{eqb}
use borrow.Author.Tests.{eq-eqb, ne_eqb}
use Rattle.base.specs.Bytes.{Bytes}
use Rattle.base.specs.Pick.{pick}
use Rattle.base.specs.Parsed.{Parsed, got, bad, parse}
use Rattle.base.proofs.ParseLaws.{bind-good, got-value, got-rest}
use Rattle.counts.specs.Count.{read_count, write_count}
use Rattle.counts.proofs.CountLaws.{count-size}
use Rattle.pool.specs.Pool.{strings_of}
use Rattle.pieces.specs.Content.{bytes_up_to}
use Rattle.pieces.proofs.PutLaws.{InTwo}
use Rattle.use_order.specs.Order.{new_number}
use Rattle.mentions.specs.declared.Stage.{Stage}
use Rattle.mentions.specs.Walk.{ahead_of, first_stage}
use Rattle.mentions.specs.Content.{Mention, parse_mention, onward, content_from, numbers_of, print_mentions, print, renumbered}
use Rattle.mentions.proofs.WalkLaws.{ahead-left, count_left}
use Rattle.mentions.proofs.AgainLaws.{renumbered-same}
use Rattle.closed_files.specs.File.{chosen, write_pool, write_field, closed_data}
use Rattle.closed_pools.proofs.TextsLaws.{pool-length, texts-most}
use Rattle.closed_fields.specs.View.{NumbersKept}

-- the bytes before a mention and the mention are those that it takes
prior-most : (σ : Stage) (s : List ℕ) (m : Mention) (r : List ℕ) → parse_mention σ s ≡ got m r → length m.prior + 1 + length r ≤ length s
unfolding parse_mention
prior-most σ s m r e =
    let a = bind-good (ahead_of σ s) _ m r e in
    let b = bind-good (parse read_count a.rest) _ m r a.on in
    let h = ahead-left σ s a.first a.rest a.is in
    let k = count_left a.rest b.first b.rest b.is in
    let q : b.rest ≡ r = got-rest b.on in
    let p : bytes_up_to s a.rest ≡ m.prior = ap (λ (x : Mention). x.prior) (got-value b.on) in
    let l : length (take (length s - length a.rest) s) ≤ length s - length a.rest = rw length-take (omega arith) in
    let p' : length (bytes_up_to s a.rest) ≡ length m.prior = ap length p in
    let q' : length b.rest ≡ length r = ap length q in
    omega arith

print-most : (ρ : ℕ → ℕ) (n : ℕ) (σ : Stage) (s : List ℕ) → length (print ρ (content_from n σ s)) ≤ 5 * length s
unfolding content_from print print_mentions
print-most ρ zero σ s = omega arith
print-most ρ (suc n) σ s = go (parse_mention σ s) refl (λ τ r. print-most ρ n τ r)
  where
    go : (p : Parsed Mention) → parse_mention σ s ≡ p → ((τ : Stage) (r : List ℕ) → length (print ρ (content_from n τ r)) ≤ 5 * length r)
        → length (print ρ (onward s p (content_from n))) ≤ 5 * length s
    go (got m r) e rec =
        let l = prior-most σ s m r e in
        let c = (count-size (ρ m.number)).most in
        let h = rec m.behind r in
        let i : length (print_mentions ρ (content_from n m.behind r).mentions) + length (content_from n m.behind r).rest ≤ 5 * length r = rw length-append at h in
        simp length-append (omega arith)
    go (bad k) e rec = omega arith

five : (x n : ℕ) → x ≤ 5 * n → n ≤ 4194304 → x ≤ 20971520
five x n a b = omega arith

pub data-most : (order table : List ℕ) (i : ℕ) (d : List ℕ) → length order ≤ 8192 → length d ≤ 4194304 → length (closed_data order table i d) ≤ 20971520
unfolding closed_data
data-most order table i d h k = go (eqb i 0)
  where
    go : (t : Bool) → length (pick t (write_pool (chosen (strings_of d) order)) (renumbered (new_number table) i d)) ≤ 20971520
    go true = let c = (count-size (length order)).most in let m = texts-most d order in rw (pool-length (strings_of d) order) (omega arith)
    go false = five _ (length d) (print-most (new_number table) (suc (length d)) (first_stage i) d) k

pub field-length : (i : ℕ) (d : List ℕ) → length (write_field i d) ≡ 1 + length (write_count (length d)) + length d
unfolding write_field
field-length i d = simp length-append (omega arith)

pub data-pool : (order table : List ℕ) (i : ℕ) (d : List ℕ) → i ≡ 0 → write_pool (chosen (strings_of d) order) ≡ closed_data order table i d
unfolding closed_data
data-pool order table i d h = rw (eq-eqb i 0 h)

pub data-other : (order table : List ℕ) (i : ℕ) (d : List ℕ) → (i ≡ 0 → ⊥) → renumbered (new_number table) i d ≡ closed_data order table i d
unfolding closed_data
data-other order table i d h = rw (ne_eqb i 0 h)

-- data whose mentions keep their numbers stay
pub data-kept : (order table : List ℕ) (i : ℕ) (d : List ℕ) (kept : Bool) → (i ≡ 0 → ⊥) → Bytes d → NumbersKept kept table (numbers_of i d) → kept ≡ true
    → closed_data order table i d ≡ d
data-kept order table i d kept h b k e = sym (data-other order table i d h) ∙ renumbered-same (new_number table) i d b (k.stay e)

-- a field in two: its head, then its data
pub head-two : (i n : ℕ) (o : List ℕ) → length (i ∷ write_count n) ≤ length o → InTwo (i ∷ write_count n) (i ∷ []) (write_count n) o
head-two i n o h = record { all = refl; room = h }

pub field-two : (i : ℕ) (d o : List ℕ) (n : ℕ) → n ≡ length d → length (write_field i d) ≤ length o → InTwo (write_field i d) (i ∷ write_count n) d o
unfolding write_field
field-two i d o n e h = record { all = ap (λ (k : ℕ). i ∷ (write_count k ++ d)) (sym e); room = h }

pub size_is : (i : ℕ) (d : List ℕ) (n c : ℕ) → n ≡ length d → c ≡ length (write_count n) → 1 + c + n ≡ length (write_field i d)
size_is i d n c a b = rw (field-length i d, b, a)

pub size-most : (d : List ℕ) (n c : ℕ) → n ≡ length d → c ≡ length (write_count n) → length d ≤ 20971520 → 1 + c + n ≤ 20971526
size-most d n c a b h = let z = (count-size n).most in omega arith

pub data-less : (i : ℕ) (d : List ℕ) → length (write_field i d) ≤ 4194304 → length d ≤ 4194304
data-less i d h = omega (arith, field-length i d)
