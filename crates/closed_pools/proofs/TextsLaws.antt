-- Strings written one behind the other. Assumes nothing.
use mathlib.Core.Path.{◌≡◌, refl, sym, ap, ◌∙◌}
use mathlib.Core.List.{List, [], ◌∷◌, ◌++◌, append-nil, append_assoc}
use Prim.Native.Nat.{ℕ, suc, ◌+◌, ◌*◌, ◌≤◌, ◌<◌}
use native.Mathlib.Omega.{arith}
use native.Mathlib.Numerals.{add-one}
use mathlib.Core.Bool.{Bool, true, false}
use lib.ListN.{length, get_or, drop, length-append, drop_of_length-le, get_or-eq_default}
use lib.Seq.{drop-cons}
use lib.Dec.{ltb}
use borrow.Author.Tests.{ltb-true, ltb-false}
use Rattle.counts.specs.Groups.{write_groups}
use Rattle.counts.specs.Count.{write_count}
use Rattle.counts.proofs.CountLaws.{count-size}
use Rattle.texts.specs.Text.{write_text}
use Rattle.pool.specs.Pool.{strings_of}
use Rattle.pool.proofs.PoolLaws.{string-fit}
use Rattle.pieces.proofs.PutLaws.{InTwo}
use Rattle.closed_files.specs.File.{chosen, write_texts, write_pool}

-- as many strings are chosen as there are numbers
pub length-chosen : (ts : List (List ℕ)) (ks : List ℕ) → length (chosen ts ks) ≡ length ks
unfolding chosen
length-chosen ts [] = refl
length-chosen ts (k ∷ ks) = ap suc (length-chosen ts ks)

-- a string is short, one that is not there empty
pub text-short : (d : List ℕ) (k : ℕ) → length (get_or (strings_of d) k []) ≤ 1024
text-short d k = go (ltb k (length (strings_of d))) refl
  where
    go : (t : Bool) → ltb k (length (strings_of d)) ≡ t → length (get_or (strings_of d) k []) ≤ 1024
    go true e = (string-fit d k (ltb-true k (length (strings_of d)) e)).small
    go false e = rw (get_or-eq_default (strings_of d) [] {n = k} (ltb-false k (length (strings_of d)) e)) (omega arith)

no-string : (d : List ℕ) (k : ℕ) → length (strings_of d) ≤ k → get_or (strings_of d) k [] ≡ []
no-string d k h = get_or-eq_default (strings_of d) [] {n = k} h

pub no_text : (d : List ℕ) (k : ℕ) → length (strings_of d) ≤ k → write_text (get_or (strings_of d) k []) ≡ write_count 0
unfolding write_groups
no_text d k h = rw (no-string d k h)

pub no-put : (d : List ℕ) (k : ℕ) → length (strings_of d) ≤ k → (o : List ℕ) → length (write_text (get_or (strings_of d) k [])) ≤ length o → length (write_count 0) ≤ length o
no-put d k h o l = rw (no_text d k h) at l

pub no_size : (d : List ℕ) (k : ℕ) → length (strings_of d) ≤ k → 1 ≡ length (write_text (get_or (strings_of d) k []))
unfolding write_groups
no_size d k h = ap length (sym (no_text d k h))

pub text-length : (t : List ℕ) → length (write_text t) ≡ length (write_count (length t)) + length t
text-length t = length-append (write_count (length t)) t

-- the length of a string t with its length code, as the code has it
module _ (d : List ℕ) (k : ℕ) (t : List ℕ) (n : ℕ) (e : t ≡ get_or (strings_of d) k []) (h : n ≡ length (write_count (length t))) where
  pub text-size-is : n + length t ≡ length (write_text (get_or (strings_of d) k []))
  text-size-is = rw h (sym (text-length t) ∙ ap (λ (x : List ℕ). length (write_text x)) e)

  pub text-size-most : n + length t ≤ 1029
  text-size-most = let c = (count-size (length t)).most in let m : length t ≤ 1024 = rw e (text-short d k) in omega arith

module _ (d order : List ℕ) where
  -- the strings' numbers before the place i are done
  pub record Going (i : ℕ) (done : List ℕ) : Type 0 where
    pub within : i ≤ length order
    pub all : write_texts (chosen (strings_of d) order) ≡ done ++ write_texts (chosen (strings_of d) (drop i order))
    pub few : length done ≤ 1029 * i

  pub going_start : Going 0 []
  going_start = record { within = omega arith; all = refl; few = omega arith }

  abbrev pub string_at : ℕ → List ℕ
  string_at i = get_or (strings_of d) (get_or order i 0) []

  module _ (i : ℕ) (done : List ℕ) (g : Going i done) where
    pub going-sum : length done ≤ length (write_texts (chosen (strings_of d) order))
    going-sum = rw (g.all, length-append) (omega arith)

    pub going_next : i < length order → Going (i + 1) (done ++ write_text (string_at i))
    unfolding chosen write_texts
    going_next h =
        let e : drop i order ≡ get_or order i 0 ∷ drop (suc i) order = drop-cons order i 0 h in
        record {
          within = omega arith;
          all = g.all ∙ ap (λ (q : List ℕ). done ++ write_texts (chosen (strings_of d) q)) e ∙ rw (add-one i) (sym (append_assoc done (write_text (string_at i)) _));
          few = let t = text-short d (get_or order i 0) in let c = (count-size (length (string_at i))).most in rw (length-append, text-length (string_at i)) (omega (arith, g.few));
        }

    pub going_end : length order ≤ i → write_texts (chosen (strings_of d) order) ≡ done
    unfolding chosen write_texts
    going_end h = g.all ∙ ap (λ (q : List ℕ). done ++ write_texts (chosen (strings_of d) q)) (drop_of_length-le order {i = i} h) ∙ append-nil done

    -- the same of a sum of numbers, as the code has it
    module _ (h : i < length order) (sum n : ℕ) (a : sum ≡ length done) (b : n ≡ length (write_text (string_at i))) where
      pub sum-next : sum + n ≡ length (done ++ write_text (string_at i))
      sum-next = rw (a, b) (sym (length-append done (write_text (string_at i))))

      pub sum-most : sum + n ≤ 1029 * length order
      sum-most = rw sum-next (omega (arith, (going_next h).few))

  pub going-two : (i : ℕ) (done : List ℕ) → Going i done → i < length order → (o : List ℕ) → length (write_texts (chosen (strings_of d) order)) ≤ length o
      → InTwo (done ++ write_text (string_at i)) done (write_text (string_at i)) o
  going-two i done g h o l =
      let s = going-sum (i + 1) (done ++ write_text (string_at i)) (going_next i done g h) in
      record { all = refl; room = omega arith }

pub pool-two : (ts : List (List ℕ)) (ks o : List ℕ) → length (write_pool (chosen ts ks)) ≤ length o
    → InTwo (write_pool (chosen ts ks)) (write_count (length ks)) (write_texts (chosen ts ks)) o
unfolding write_pool
pool-two ts ks o h = record { all = ap (λ (n : ℕ). write_count n ++ write_texts (chosen ts ks)) (length-chosen ts ks); room = h }

pub pool-length : (ts : List (List ℕ)) (ks : List ℕ) → length (write_pool (chosen ts ks)) ≡ length (write_count (length ks)) + length (write_texts (chosen ts ks))
unfolding write_pool
pool-length ts ks = rw (length-chosen ts ks, length-append)

pub text-two : (t o : List ℕ) → length (write_text t) ≤ length o → InTwo (write_text t) (write_count (length t)) t o
text-two t o h = record { all = refl; room = h }

pub texts-most : (d order : List ℕ) → length (write_texts (chosen (strings_of d) order)) ≤ 1029 * length order
unfolding chosen write_texts
texts-most d [] = omega arith
texts-most d (k ∷ ks) =
    let r = texts-most d ks in
    let t = text-short d k in
    let c = (count-size (length (get_or (strings_of d) k []))).most in
    rw (length-append, text-length (get_or (strings_of d) k [])) (omega arith)
