-- A text by which slice holds it. Assumes nothing.
use mathlib.Core.Path.{◌≡◌}
use mathlib.Core.List.{List, []}
use Prim.Native.Nat.{ℕ, ◌+◌, ◌-◌, ◌≤◌, ◌<◌}
use native.Mathlib.Omega.{arith}
use lib.ListN.{length, take, drop, get_or}
use borrow.Author.Tests.{le-leb, lt-leb}
use Rattle.pool.specs.Pool.{strings_of}
use Rattle.pool.specs.Index.{span_of}
use Rattle.pool.proofs.StringLaws.{span-inside, span-string}
use Rattle.strings.specs.Holder.{part_at, text_of}
use Rattle.strings.specs.declared.Holder.{Holder}
use Rattle.strings.specs.declared.Holder.TheVariants.{InPool, InField}

-- ways out of the part
module _ (s : List ℕ) (a n : ℕ) where
  pub part_out : length s < a + n → [] ≡ part_at s a n
  part_out h = rw (lt-leb (a + n) (length s) h)

  pub part_in : a + n ≤ length s → take (a + n - a) (drop a s) ≡ part_at s a n
  part_in h = let z : a + n - a ≡ n = omega arith in rw (le-leb (a + n) (length s) h, z)

module _ (d f : List ℕ) (h : Holder) (a n : ℕ) (t : List ℕ) where
  pub text-pool : h ≡ InPool a n → t ≡ part_at d a n → t ≡ text_of d f h
  text-pool e q = rw e q

  pub text-field : h ≡ InField a n → t ≡ part_at f a n → t ≡ text_of d f h
  text-field e q = rw e q

-- the text of a pool number is that string of the pool
pub text-number : (d f : List ℕ) (k : ℕ) → k < length (strings_of d) → text_of d f (InPool (span_of d k).at (span_of d k).len) ≡ get_or (strings_of d) k []
text-number d f k l = rw (le-leb _ _ (span-inside d k l)) (span-string d k l)
