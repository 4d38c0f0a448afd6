-- The name of an answer by the index of the pool. Assumes nothing.
use Rattle.std.specs.Prelude.{Ok}
use mathlib.Core.Path.{◌≡◌, refl, sym, ap, ◌∙◌}
use mathlib.Core.Bool.{Bool, true, false}
use mathlib.Core.List.{List, []}
use Prim.Native.Nat.{ℕ, ◌+◌, ◌≤◌, ◌<◌}
use native.Mathlib.Omega.{arith}
use lib.ListN.{length}
use lib.Seq.{sets}
use Rattle.base.proofs.Tests.{never}
use Rattle.pool.specs.Pool.{parse_pool, strings_of, checked}
use Rattle.pool.specs.Index.{starts_of, room_of, span_of}
use Rattle.pool.specs.declared.Span.{Span}
use Rattle.pool.proofs.PoolLaws.{taken, ready}
use Rattle.location_lookup.specs.Location.{lent_part, text_in}
use Rattle.found_zones.proofs.SpanLaws.{room-is, has-string}
use Rattle.found_zones.proofs.InsideLaws.{text-inside}
use Rattle.later_answers.specs.View.{Indexed, IndexedAs}

-- a pool that the check takes has an index
pub index-taken : (d ix e : List ℕ) (n : ℕ) → room_of d ≤ length ix → Ok n ≡ checked (parse_pool d) → e ≡ sets ix 0 (starts_of d) → IndexedAs d ix true e
index-taken d ix e n h c p = record {
  put = p;
  is = record { ready = λ q. ready d ix e h p; strings = λ q. room-is d (strings_of d) [] (taken d n c).all };
}

pub index-none : (d ix e : List ℕ) → e ≡ sets ix 0 (starts_of d) → IndexedAs d ix false e
index-none d ix e p = record { put = p; is = record { ready = λ q. never q refl; strings = λ q. never q refl } }

-- a name by its number
module _ (f : List ℕ) (b c : ℕ) (ix : List ℕ) (k : ℕ) (t : Bool) (i : Indexed (lent_part f b c) ix t) (q : t ≡ true) (h : k < room_of (lent_part f b c)) where
  pub name-there : k < length (strings_of (lent_part f b c))
  name-there = omega (arith, i.strings q)

  module _ (p : Span) (e : p ≡ span_of (lent_part f b c) k) where
    pub name-by : record { at = b + p.at; len = p.len } ≡ text_in f b c k
    unfolding text_in
    name-by =
        ap (λ (s : Span). record { at = b + s.at; len = s.len }) (e ∙ sym ((has-string (lent_part f b c) k name-there).span k name-there))

    -- it lies in the file
    pub name-inside : b + p.at ≤ length f
    name-inside = omega (arith, ap (λ (s : Span). s.at) name-by, text-inside f b c k (omega arith))
