-- The texts that a location's answer and the steps of its view give, by the pool's strings. Assumes nothing.
use Rattle.std.specs.declared.option.Option.{Option as Maybe}
use Rattle.std.specs.declared.option.Option.TheVariants.{None, Some}
use mathlib.Core.Path.{◌≡◌, refl, sym, ap, ◌∙◌}
use mathlib.Core.Bool.{Bool, true, false}
use mathlib.Core.List.{List, []}
use mathlib.Core.Option.{Option, none, some}
use Prim.Native.Nat.{ℕ, zero, suc, ◌+◌, ◌-◌, ◌≤◌, ◌<◌}
use native.Mathlib.Omega.{arith}
use lib.ListN.{length, take, drop, get_or, length-take}
use lib.Dec.{leb}
use Rattle.base.specs.Pick.{pick, both}
use Rattle.base.specs.Parsed.{Parsed, got, bad}
use Rattle.base.proofs.Parts.{part-of-part}
use Rattle.base.proofs.Tests.{clash}
use Rattle.pool.specs.Pool.{parse_pool}
use Rattle.string_search.proofs.PoolStringLaws.{IsString, string-is}
use Rattle.locations.specs.declared.Country.{Country}
use Rattle.countries.specs.Step.{read_country, behind, step_at, given}
use Rattle.countries.specs.declared.Stepped.{Stepped}
use Rattle.field_search.specs.Search.{field_place}
use Rattle.location_lookup.specs.Location.{lent_part, text_in}
use Rattle.location_lookup.specs.Country.{pair_by, pair_of, next_by, next_of}
use Rattle.renumbered_lists.specs.Answers.{bytes_at, CountryTexts, texts_in, behind_step, shown}

-- a part of a part of the bytes
lent-bytes : (f : List ℕ) (b c : ℕ) (t : List ℕ) (at len : ℕ) → IsString (lent_part f b c) t at len → take len (drop (b + at) f) ≡ t
unfolding lent_part
lent-bytes f b c t at len = go (both (leb c (length f)) (leb b c))
  where
    go : (u : Bool) → IsString (pick u (take (c - b) (drop b f)) []) t at len → take len (drop (b + at) f) ≡ t
    go true s =
        let l : length (take (c - b) (drop b f)) ≤ c - b = rw length-take (omega arith) in
        let w : at + len ≤ c - b = omega (arith, s.inside) in
        sym (part-of-part f b (c - b) at len w) ∙ s.bytes
    go false s =
        let i : len ≡ 0 = omega (arith, s.inside) in
        let e : take {A = ℕ} len (drop at []) ≡ [] = rw i in
        rw i (sym e ∙ s.bytes)

-- a text of f, where its pool is taken
pub text-bytes : (f : List ℕ) (b c : ℕ) (ts : List (List ℕ)) (k : ℕ) → parse_pool (lent_part f b c) ≡ got ts [] → k < length ts
    → bytes_at f (text_in f b c k) ≡ get_or ts k []
unfolding text_in
text-bytes f b c ts k e h = lent-bytes f b c (get_or ts k []) _ _ (string-is (lent_part f b c) ts [] k e h)

-- where no country is left, the cursor stays
none_stays : (s : List ℕ) (at left : ℕ) → (step_at s at left).item ≡ None → step_at s at left ≡ record { item = None; at = at; left = left }
unfolding step_at
none_stays s at zero e = refl
none_stays s at (suc n) e = go (read_country (drop at s)) e
  where
    go : (p : Parsed Country) → (behind s at n p).item ≡ None → behind s at n p ≡ record { item = None; at = at; left = suc n }
    go (got c r) e = clash cc
    go (bad k) e = refl

none_more : (s : List ℕ) (at left : ℕ) → (step_at s at left).item ≡ None → (k : ℕ) → given s at left k ≡ None
unfolding given
none_more s at left e zero = e
none_more s at left e (suc k) = ap (λ (x : Stepped). given s x.at x.left k) (none_stays s at left e) ∙ none_more s at left e k

module _ (f : List ℕ) (z b c : ℕ) (pool : field_place 0 f ≡ Some (z, b, c)) where
  -- the texts of what a step gives
  abbrev pub item_texts : Maybe (ℕ × ℕ) → Option CountryTexts
  item_texts (Some (name, code)) = some (record { name = bytes_at f (text_in f b c name); code = bytes_at f (text_in f b c code) })
  item_texts None = none

  next-texts : (at left : ℕ) (i : Maybe (ℕ × ℕ)) → texts_in f (next_by f at left i) ≡ item_texts i
  unfolding pair_of
  next-texts at left (Some (name, code)) = ap (λ (y : Maybe (ℕ × ℕ × ℕ)). texts_in f (Some (pair_by f name code at left y))) pool
  next-texts at left None = refl

  next-on : (at left : ℕ) (i : Maybe (ℕ × ℕ)) (go : ℕ → ℕ → Option CountryTexts) (t : Option CountryTexts) → go at left ≡ t → (i ≡ None → none ≡ t)
      → behind_step (next_by f at left i) go ≡ t
  unfolding pair_of
  next-on at left (Some (name, code)) go t h n = ap (λ (y : Maybe (ℕ × ℕ × ℕ)). behind_step (Some (pair_by f name code at left y)) go) pool ∙ h
  next-on at left None go t h n = n refl

  -- THE STEPS OF A VIEW are those over the field's data
  pub shown-given : (start end at left k : ℕ) → shown f start end at left k ≡ item_texts (given (lent_part f start end) at left k)
  unfolding shown given next_of
  shown-given start end at left zero =
      let x = step_at (lent_part f start end) at left in
      next-texts x.at x.left x.item
  shown-given start end at left (suc k) =
      let d = lent_part f start end in
      let x = step_at d at left in
      next-on x.at x.left x.item (λ at left. shown f start end at left k) (item_texts (given d x.at x.left k))
      (shown-given start end x.at x.left k) (λ e. ap item_texts (sym (none_more d at left e (suc k))))
