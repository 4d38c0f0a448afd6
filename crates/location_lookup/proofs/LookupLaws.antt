-- Each way out of the lookup. Assumes nothing.
use Rattle.base.specs.declared.Refusal.{Refusal}
use Rattle.std.specs.declared.option.Option.{Option}
use Rattle.base.specs.declared.Refusal.TheVariants.{NotFound}
use Rattle.std.specs.declared.option.Option.TheVariants.{None, Some}
use Rattle.base.specs.Coded.{Fault}
use Rattle.std.specs.Prelude.{Err, Ok, Result}
use mathlib.Core.Path.{◌≡◌, refl, sym, ap, ◌∙◌}
use mathlib.Core.Bool.{Bool, true, false}
use mathlib.Core.Logic.{◌⊎◌, inl, inr}
use mathlib.Core.List.{List, []}
use Prim.Native.Nat.{ℕ, ◌+◌, ◌-◌, ◌≤◌, ◌<◌}
use native.Mathlib.Omega.{arith}
use lib.ListN.{length, take, drop, length-drop}
use lib.Seq.{length-take-le}
use lib.Dec.{leb}
use borrow.Author.Tests.{le-leb, lt-leb, leb-true}
use Rattle.base.specs.Pick.{pick, both}
use Rattle.base.specs.Parsed.{Parsed, got, bad, bind, parse}
use Rattle.base.proofs.Tests.{both_left, both_right}
use Rattle.counts.specs.Count.{read_count}
use Rattle.signed.specs.Zigzag.{unzigzag_of}
use Rattle.pins.specs.Degrees.{pin_of}
use Rattle.pins.specs.declared.Pin.{Pin}
use Rattle.pool.specs.Index.{room_of}
use Rattle.pool.specs.declared.Span.{Span}
use Rattle.string_search.specs.Search.{string_numbered, span_in, string_span}
use Rattle.locations.specs.Content.{id_of, parse_locations}
use Rattle.locations.specs.Find.{sought_of}
use Rattle.locations.proofs.SoundLaws.{sought-sound}
use Rattle.locations.specs.declared.LocationField.{LocationField}
use Rattle.locations.specs.declared.Spot.{Spot}
use Rattle.countries.specs.Step.{step_at}
use Rattle.countries.specs.declared.Stepped.{Stepped}
use Rattle.field_search.specs.Search.{field_place}
use Rattle.field_checks.specs.Check.{check_of}
use Rattle.location_lookup.specs.Location.{lent_part, text_in, located_at, answer_in, in_field, by_fields, in_file, by_check, location_of}
use Rattle.location_lookup.specs.Country.{no_bytes, pair_by, pair_of, next_by, next_of}
use Rattle.location_lookup.specs.declared.Located.{Located}
use Rattle.location_lookup.specs.declared.Pair.{Pair}

-- a part of the bytes
module _ (f : List ℕ) (a e : ℕ) where
  pub lent-long : length f < e → [] ≡ lent_part f a e
  unfolding lent_part
  lent-long h = rw (lt-leb e (length f) h)

  pub lent_back : e ≤ length f → e < a → [] ≡ lent_part f a e
  unfolding lent_part
  lent_back w h = rw (le-leb e (length f) w, lt-leb a e h)

  pub lent-in : e ≤ length f → a ≤ e → take (e - a) (drop a f) ≡ lent_part f a e
  unfolding lent_part
  lent-in w h = rw (le-leb e (length f) w, le-leb a e h)

  -- it ends in the bytes, or is empty
  lent-room : (n : ℕ) → n ≤ length (lent_part f a e) → (a + n ≤ length f) ⊎ (n ≡ 0)
  unfolding lent_part
  lent-room n = go (both (leb e (length f)) (leb a e)) refl
    where
      go : (t : Bool) → both (leb e (length f)) (leb a e) ≡ t → n ≤ length (pick t (take (e - a) (drop a f)) []) → (a + n ≤ length f) ⊎ (n ≡ 0)
      go true q l =
          let w : e ≤ length f = leb-true e (length f) (both_left (leb e (length f)) (leb a e) q) in
          let h : a ≤ e = leb-true a e (both_right (leb e (length f)) (leb a e) q) in
          let i : e - a ≤ length (drop a f) = rw length-drop (omega arith) in
          let j : n ≤ e - a = rw (length-take-le (e - a) (drop a f) i) at l in
          inl (omega arith)
      go false q l = inr (omega arith)

-- a text of the pool
span-at : (d : List ℕ) (k : ℕ) → (string_span d k).at ≤ length d
unfolding string_span
span-at d k = go (bind (parse read_count d) (string_numbered k))
  where
    go : (p : Parsed ℕ) → (span_in d p).at ≤ length d
    go (got n r) = omega arith
    go (bad m) = omega arith

module _ (f : List ℕ) (b c k : ℕ) (d : List ℕ) (x : Span) (lent : d ≡ lent_part f b c) (found : x ≡ string_span d k) where
  pub text-room : (m : ℕ) → b ≤ m → length f ≤ m → b + x.at ≤ m
  text-room m h l =
      let n : x.at ≤ length (lent_part f b c) = rw (found, lent) (span-at (lent_part f b c) k) in
      go (lent-room f b c x.at n)
    where
      go : (b + x.at ≤ length f) ⊎ (x.at ≡ 0) → b + x.at ≤ m
      go (inl i) = omega arith
      go (inr i) = omega arith

  pub text-is : record { at = b + x.at; len = x.len } ≡ text_in f b c k
  unfolding text_in
  text-is = rw (found, lent)

pub located-is : (f : List ℕ) (b c a e : ℕ) (x : Spot) (pin : Pin) (zone comment : Span) → pin ≡ pin_of (unzigzag_of x.latitude) (unzigzag_of x.longitude)
    → zone ≡ text_in f b c x.zone → comment ≡ text_in f b c x.comment
    → record { pin = pin; zone = zone; comment = comment; start = a; end = e; at = x.at; left = x.left } ≡ located_at f b c a e x
unfolding located_at
located-is f b c a e x pin zone comment h i j = rw (h, i, j)

-- the field
module _ (f : List ℕ) (b c p a e : ℕ) (field : LocationField) (number : ℕ) (found : Result (Option Spot) Refusal) (pool d : List ℕ) (count : ℕ) (lent : d ≡ lent_part f a e)
    (lent-pool : pool ≡ lent_part f b c) (counts : count ≡ room_of pool) (finds : found ≡ sought_of d number (parse_locations field count d)) where
  sought-is : found ≡ sought_of (lent_part f a e) number (parse_locations field (room_of (lent_part f b c)) (lent_part f a e))
  sought-is = finds ∙ rw (counts, lent-pool, lent)

  pub field-sound : (x : Spot) → found ≡ Ok (Some x) → (x.latitude ≤ 648000) × (x.longitude ≤ 1296000)
  field-sound x q = sought-sound field count d number x (sym q ∙ finds)

  pub field-here : (x : Spot) (y : Located) → found ≡ Ok (Some x) → y ≡ located_at f b c a e x → Ok y ≡ in_field f b c p a e field number
  unfolding in_field
  field-here x y q h = ap Ok h ∙ ap (answer_in f b c p a e) (sym q ∙ sought-is)

  pub field-beyond : found ≡ Ok None → Err (NotFound, p) ≡ in_field f b c p a e field number
  unfolding in_field
  field-beyond q = ap (answer_in f b c p a e) (sym q ∙ sought-is)

  pub field-bad : (k : Refusal) → found ≡ Err k → Err (k, p) ≡ in_field f b c p a e field number
  unfolding in_field
  field-bad k q = ap (answer_in f b c p a e) (sym q ∙ sought-is)

-- the file
module _ (f : List ℕ) (field : LocationField) (number : ℕ) where
  pub file-no-pool : None ≡ field_place 0 f → Err (NotFound, length f) ≡ in_file f field number
  unfolding in_file
  file-no-pool q = ap (λ (x : Option (ℕ × ℕ × ℕ)). by_fields f field number x (field_place (id_of field) f)) q

  module _ (z b c : ℕ) (pool : Some (z, b, c) ≡ field_place 0 f) (i : ℕ) (is : i ≡ id_of field) where
    pub file-no-field : None ≡ field_place i f → Err (NotFound, length f) ≡ in_file f field number
    unfolding in_file
    file-no-field q =
        ap (by_fields f field number (Some (z, b, c))) (q ∙ ap (λ (j : ℕ). field_place j f) is)
        ∙ ap (λ (x : Option (ℕ × ℕ × ℕ)). by_fields f field number x (field_place (id_of field) f)) pool

    pub file-field : (p a e : ℕ) (r : Result Located Fault) → Some (p, a, e) ≡ field_place i f → r ≡ in_field f b c p a e field number → r ≡ in_file f field number
    unfolding in_file
    file-field p a e r q h =
        h ∙ ap (by_fields f field number (Some (z, b, c))) (q ∙ ap (λ (j : ℕ). field_place j f) is)
        ∙ ap (λ (x : Option (ℕ × ℕ × ℕ)). by_fields f field number x (field_place (id_of field) f)) pool

  pub checked-ill : (n : Refusal) (p : ℕ) → Err (n, p) ≡ check_of f → Err (n, p) ≡ location_of f field number
  unfolding location_of
  checked-ill n p q = ap (by_check f field number) q

  pub checked-good : (r : Result Located Fault) → Ok tt ≡ check_of f → r ≡ in_file f field number → r ≡ location_of f field number
  unfolding location_of
  checked-good r q h = h ∙ ap (by_check f field number) q

-- the view
module _ (f : List ℕ) (name code at left : ℕ) where
  pub pair-nowhere : None ≡ field_place 0 f → record { name = no_bytes; code = no_bytes; at = at; left = left } ≡ pair_of f name code at left
  unfolding pair_of
  pair-nowhere q = ap (pair_by f name code at left) q

  pub pair-here : (z b c : ℕ) (x y : Span) → Some (z, b, c) ≡ field_place 0 f → x ≡ text_in f b c name → y ≡ text_in f b c code
      → record { name = x; code = y; at = at; left = left } ≡ pair_of f name code at left
  unfolding pair_of
  pair-here z b c x y q h i = rw (h, i) (ap (pair_by f name code at left) q)

module _ (f : List ℕ) (start end at left : ℕ) (d : List ℕ) (x : Stepped) (lent : d ≡ lent_part f start end) (steps : x ≡ step_at d at left) where
  step_is : x ≡ step_at (lent_part f start end) at left
  step_is = steps ∙ rw lent

  pub next-none : x.item ≡ None → None ≡ next_of f start end at left
  unfolding next_of
  next-none q = ap (next_by f x.at x.left) (sym q) ∙ ap (λ (y : Stepped). next_by f y.at y.left y.item) step_is

  pub next-given : (name code : ℕ) (y : Pair) → x.item ≡ Some (name, code) → y ≡ pair_of f name code x.at x.left → Some y ≡ next_of f start end at left
  unfolding next_of
  next-given name code y q h =
      ap Some h ∙ ap (next_by f x.at x.left) (sym q) ∙ ap (λ (y : Stepped). next_by f y.at y.left y.item) step_is
