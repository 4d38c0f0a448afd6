-- The entries of field 3, one by one. Assumes nothing.
use Rattle.base.specs.declared.Refusal.{Refusal}
use Rattle.std.specs.Prelude.{Err, Ok, Result}
use Rattle.base.specs.Coded.{Coded}
use Rattle.base.specs.declared.Refusal.TheVariants.{BadData, SecondAlias}
use mathlib.Core.Path.{◌≡◌, refl, sym, ap, ◌∙◌}
use mathlib.Core.Bool.{Bool, true, false}
use mathlib.Core.List.{List, [], ◌∷◌, ◌++◌}
use Prim.Native.Nat.{ℕ, zero, suc, ◌+◌, ◌-◌, ◌≤◌, ◌<◌}
use native.Mathlib.Omega.{arith}
use lib.ListN.{length, drop, get_or, replicate}
use Rattle.base.specs.Parsed.{Parsed, bad, bind, parse, ended}
use Rattle.counts.specs.Count.{read_count}
use Rattle.places.specs.Placed.{at, Stands, of_read}
use Rattle.places.specs.Name.{parse_name}
use Rattle.places.proofs.PlaceLaws.{then-in, then-got, then-bad, ended_here, ended-over}
use Rattle.places.proofs.ValueLaws.{name-ok}
use Rattle.ids.specs.Memory.{Keeps, Taken}
use Rattle.ids.proofs.MemoryLaws.{keeps-start}
use Rattle.aliases.specs.Dictionary.{entry, Dictionary, keys}
use Rattle.aliases.specs.Field.{after_key, parse_entry, parse_entries, all_entries, parse_aliases}
use Rattle.aliases.specs.View.{verdict_of, TurnTo, Turned}
use Rattle.aliases.proofs.KeyLaws.{keys-more, keeps_same}

-- a pool number that was read at a place is that of a string
pub name_below : (d : List ℕ) (c place : ℕ) (r : Coded ℕ) → Stands d (parse_name c (drop place d)) (of_read r) → (k b : ℕ) → r ≡ Ok (k, b) → k < c
name_below d c place r h k b e = name-ok c (drop place d) k (drop b d) (h.means ∙ rw (ap of_read e))

-- an entry at a place; c is the count of the pool's strings
module _ (ts : List (List ℕ)) (c : ℕ) (all : c ≡ length ts) (d : List ℕ) (place : ℕ) (od : List ℕ) (many : ℕ) (r : Coded ℕ)
    (first : Stands d (parse_name c (drop place d)) (of_read r)) where
  pub key-bad : (n : Refusal) → r ≡ Err n → Turned ts d place od many od (Err n)
  unfolding parse_entry
  key-bad n e = record { means = λ pre k. rw (← all) (then-bad first _ n (ap of_read e)) }

  -- the number k of its key ends at b
  module _ (k b : ℕ) (e : r ≡ Ok (k, b)) (od' : List ℕ) (u : Bool) (t : Taken ts (get_or ts k []) od many od' u) where
    keyed : (pre : Dictionary) → parse_entry ts pre (drop place d) ≡ after_key ts pre (get_or ts k []) (drop b d)
    unfolding parse_entry
    keyed pre = rw (← all) (then-got first _ k b (ap of_read e))

    pub key-second : u ≡ true → Turned ts d place od many od' (Err SecondAlias)
    unfolding after_key
    key-second y = record { means = λ pre q. keyed pre ∙ rw (← (t.said (keys pre) q), y) }

    module _ (y : u ≡ false) (s : Coded ℕ) (second : Stands d (parse_name c (drop b d)) (of_read s)) where
      pub target-bad : (n : Refusal) → s ≡ Err n → Turned ts d place od many od' (Err n)
      unfolding after_key
      target-bad n f = record { means = λ pre q. keyed pre ∙ rw (← (t.said (keys pre) q), y, ← all) (then-bad second _ n (ap of_read f)) }

      pub target-read : (j z : ℕ) → s ≡ Ok (j, z) → Turned ts d place od many od' (Ok z)
      unfolding after_key
      target-read j z f =
          record {
            means = λ pre q. (
              then-in second j z (ap of_read f),
              entry (get_or ts k []) (get_or ts j []),
              keyed pre ∙ rw (← (t.said (keys pre) q), y, ← all) (then-got second _ j z (ap of_read f)),
              keeps_same ts od' (many + 1) _ _ (keys-more pre (entry (get_or ts k []) (get_or ts j []))) (rw y at (t.kept (keys pre) q)),
            );
          }

-- the loop over the entries: left are still to be read, from the place at on, and `whole` is what all n from `start` on give
pub record Going (ts : List (List ℕ)) (d : List ℕ) (whole : Parsed Dictionary) (left place : ℕ) (od : List ℕ) (many : ℕ) : Type 0 where
  pub inside : place ≤ length d
  pub pre : Dictionary
  pub keeps : Keeps ts od many (keys pre)
  pub rest : whole ≡ bind (parse_entries ts left pre (drop place d)) ended

module _ (ts : List (List ℕ)) (d : List ℕ) where
  pub going_start : (n place : ℕ) → length ts ≤ 8192 → place ≤ length d
      → Going ts d (all_entries ts n (drop place d)) n place (replicate 8449 0) 0
  unfolding all_entries keys
  going_start n place few h = record { inside = h; pre = []; keeps = keeps-start ts 8449 (omega arith); rest = refl }

  module _ (whole : Parsed Dictionary) (left place : ℕ) (od : List ℕ) (many : ℕ) (g : Going ts d whole left place od many) where
    module _ (od' : List ℕ) (some : 0 < left) (r : Result ℕ Refusal) (t : Turned ts d place od many od' r) where
      pub going-bad : (n : Refusal) → r ≡ Err n → Err n ≡ verdict_of whole
      unfolding parse_entries
      going-bad n e = go left some g.rest
        where
          p : parse_entry ts g.pre (drop place d) ≡ bad n
          p = rw e at (t.means g.pre g.keeps)

          go : (l : ℕ) → 0 < l → whole ≡ bind (parse_entries ts l g.pre (drop place d)) ended → Err n ≡ verdict_of whole
          go zero s h = absurd (omega arith)
          go (suc l) s h = rw (h, p)

      pub going_next : (e : ℕ) → r ≡ Ok e → Going ts d whole (left - 1) e od' (many + 1)
      unfolding parse_entries
      going_next e f = go left some g.rest
        where
          p : TurnTo ts d (parse_entry ts g.pre (drop place d)) g.pre od' (many + 1) (Ok e)
          p = rw f at (t.means g.pre g.keeps)

          go : (l : ℕ) → 0 < l → whole ≡ bind (parse_entries ts l g.pre (drop place d)) ended → Going ts d whole (l - 1) e od' (many + 1)
          go zero s h = absurd (omega arith)
          go (suc l) s h =
              let o : suc l - 1 ≡ l = omega arith in
              record { inside = p.0; pre = g.pre ++ (p.1 ∷ []); keeps = p.3; rest = rw o (h ∙ rw p.2) }

    pub going_done : left ≡ 0 → whole ≡ ended g.pre (drop place d)
    unfolding parse_entries
    going_done z = rw z at g.rest

    pub going-good : left ≡ 0 → place ≡ length d → Ok tt ≡ verdict_of whole
    going-good z h = rw (going_done z ∙ ended_here g.pre d place (omega arith))

    pub going-over : left ≡ 0 → (place ≡ length d → ⊥) → Err BadData ≡ verdict_of whole
    going-over z h = rw (going_done z ∙ ended-over g.pre d place (omega (arith, g.inside)))

-- the count of a field 3, and what follows it
module _ (ts : List (List ℕ)) (d : List ℕ) (r : Coded ℕ) (s : Stands d (parse read_count d) (of_read r)) where
  pub count-bad : (n : Refusal) → r ≡ Err n → Err n ≡ verdict_of (parse_aliases ts d)
  unfolding parse_aliases
  count-bad n e = ap verdict_of (sym (then-bad s (all_entries ts) n (ap of_read e)))

  pub count-read : (n a : ℕ) → r ≡ Ok (n, a) → (v : Result (Unit {0}) Refusal) → v ≡ verdict_of (all_entries ts n (drop a d)) → v ≡ verdict_of (parse_aliases ts d)
  unfolding parse_aliases
  count-read n a e v h = h ∙ ap verdict_of (sym (then-got s (all_entries ts) n a (ap of_read e)))
