-- What the usual codes before a zone's intervals say. Assumes nothing.
use Rattle.std.specs.Prelude.{Ok}
use Prim.Native.Nat.{ℕ, suc, ◌+◌, ◌*◌, ◌-◌, ◌%◌, ◌≤◌, ◌<◌}
use mathlib.Core.Path.{◌≡◌, refl, sym, ◌∙◌}
use mathlib.Core.List.{List}
use native.Mathlib.Omega.{arith}
use lib.ListN.{length, drop, get_or}
use lib.Seq.{drop-cons}
use borrow.Author.Tests.{lt-ltb, le-ltb, ne_eqb}
use Rattle.base.specs.Parsed.{got, parse, parse_byte}
use Rattle.counts.specs.Groups.{read_groups}
use Rattle.counts.specs.Count.{read_count}
use Rattle.counts.proofs.CountLaws.{byte-count}
use Rattle.places.specs.Name.{judge_name, parse_name}
use Rattle.places.proofs.PlaceLaws.{byte-some, placed-got}
use Rattle.places.proofs.ShortLaws.{reads}
use Rattle.pieces.specs.Content.{parse_head, after_count as head_count}
use Rattle.zones.specs.Parse.{parse_listed, after_id, parse_zone}
use Rattle.zones.specs.View.{FrontOf}
use Rattle.zones.specs.declared.ZoneFront.TheVariants.{Listed}
use Rattle.zones.proofs.ReadLaws.{front-listed, front-on, flag-listed, head-listed, count-some}
use Rattle.zone_fronts.specs.Short.{short_id, IdSize, ShortPlace}

-- the ID
module _ (s : List ℕ) (h : 2 ≤ length s) where
  pub one-id : get_or s 0 0 < 128 → get_or s 0 0 ≡ short_id s
  unfolding short_id
  one-id l = rw (lt-ltb (get_or s 0 0) 128 l)

  pub two-id : 128 ≤ get_or s 0 0 → get_or s 0 0 % 128 + 128 * get_or s 1 0 ≡ short_id s
  unfolding short_id
  two-id g = rw (le-ltb (get_or s 0 0) 128 g)

  pub size-one : get_or s 0 0 < 128 → IdSize s 1
  size-one l = record { most = omega arith; means = λ _. rw (← (one-id l)) (byte-count s 0 (omega arith) l) }

  pub size-two : 128 ≤ get_or s 0 0 → (get_or s 1 0 ≡ 0 → ⊥) → get_or s 1 0 < 128 → IdSize s 2
  unfolding read_groups
  size-two g z l = record {
    most = omega arith;
    means = λ _.
        rw (← (two-id g))
        (rw (drop-cons s 0 0 (omega arith), le-ltb (get_or s 0 0) 128 g, drop-cons s 1 0 (omega arith), lt-ltb (get_or s 1 0) 128 l, ne_eqb (get_or s 1 0) 0 z));
  }

  pub no_size : IdSize s 0
  no_size = record { most = omega arith; means = λ z. absurd (z refl) }

-- the flag 2 and the count behind it
module _ (pool : ℕ) (s : List ℕ) (k : ℕ) (i : IdSize s k) (z : k ≡ 0 → ⊥) (o : short_id s < pool) (w : 4 ≤ length s) (f : get_or s k 0 ≡ 2)
    (n : get_or s (k + 1) 0 ≡ 0 → ⊥) (l : get_or s (k + 1) 0 < 128) where
  name : parse_name pool s ≡ got (short_id s) (drop k s)
  unfolding parse_name judge_name
  name = rw (i.means z, lt-ltb (short_id s) pool o)

  flag : parse_byte (drop k s) ≡ got 2 (drop (k + 1) s)
  flag = rw f at (placed-got (byte-some s k (omega (arith, i.most))) _ _ refl)

  count : parse read_count (drop (k + 1) s) ≡ got (get_or s (k + 1) 0) (drop (k + 1 + 1) s)
  count = placed-got (reads read_count s (k + 1) (get_or s (k + 1) 0) 1 (byte-count s (k + 1) (omega (arith, i.most)) l) (omega (arith, i.most))) _ _ refl

  listed : FrontOf pool s (parse_listed pool (short_id s) (drop (k + 1) s)) (parse_head s) (Listed (short_id s) (get_or s (k + 1) 0) (k + 1 + 1))
  unfolding parse_listed head_count
  listed =
      front-listed pool s _ _ (short_id s) (get_or s (k + 1) 0) (k + 1 + 1)
      (head-listed pool s (short_id s) k 2 (k + 1) name flag refl ∙ rw count)
      (rw count (count-some pool (short_id s) (get_or s (k + 1) 0) (drop (k + 1 + 1) s) n (omega arith)))
      (omega (arith, i.most)) n (omega arith)

  pub place_is : ShortPlace pool s (k + 2)
  unfolding parse_zone after_id
  place_is =
      let p : k + 1 + 1 ≡ k + 2 = omega arith in
      let q : k + 2 - 1 ≡ k + 1 = omega arith in
      record {
        far = λ _. omega arith;
        inside = λ _. omega (arith, i.most);
        front = λ _. rw q
            (front-on pool s (parse_zone pool s) (parse_head s) (parse_listed pool (short_id s) (drop (k + 1) s)) (parse_head s) _
            (rw (name, flag) (flag-listed pool (short_id s) 2 (drop (k + 1) s) (λ e. omega arith) refl)) refl (rw p at listed));
      }

pub no_place : (pool : ℕ) (s : List ℕ) → ShortPlace pool s 0
no_place pool s = record { far = λ z. absurd (z refl); inside = λ z. absurd (z refl); front = λ z. absurd (z refl) }
