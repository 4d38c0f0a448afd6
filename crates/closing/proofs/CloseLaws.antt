-- What the check of a file has shown, and the ways out of closing up a pool. Assumes nothing.
use Rattle.base.specs.declared.Refusal.TheVariants.{TooLarge, TooShort, UnreadField}
use Rattle.base.specs.declared.Refusal.{Refusal}
use Rattle.base.specs.Coded.{Fault}
use Rattle.std.specs.Prelude.{Err, Ok, Result}
use mathlib.Core.Path.{◌≡◌, refl, sym, ap, ◌∙◌, subst, subst⁻¹}
use mathlib.Core.Bool.{Bool, true, false}
use mathlib.Core.List.{List, [], ◌∷◌}
use mathlib.Core.Option.{none, some}
use Prim.Native.Nat.{ℕ, ◌+◌, ◌≤◌, ◌<◌}
use native.Mathlib.Omega.{arith}
use lib.ListN.{length, take, drop, get_or, replicate, length-replicate, get_or-replicate, get_or-eq_default, length-take, length-append}
use lib.Seq.{take_at}
use lib.Dec.{ltb}
use borrow.Author.Tests.{lt-ltb, le-ltb, le-leb, lt-leb, ltb-true, ltb-false}
use Rattle.base.specs.All.{All, all-also}
use Rattle.base.specs.Parsed.{got}
use Rattle.base.specs.Bytes.{Bytes}
use Rattle.base.proofs.AllLaws.{all_map}
use Rattle.frames.specs.Frame.{Field}
use Rattle.pool.specs.Pool.{strings_in}
use Rattle.pool.proofs.PoolLaws.{few as few-strings}
use Rattle.frames.specs.Fields.{Listing, fields}
use Rattle.frames.specs.Covers.{Covers}
use Rattle.frames.proofs.PartLaws.{walk-ended}
use Rattle.frames.proofs.CoverLaws.{ordered-some, framed-listing, listing-covers}
use Rattle.field_checks.specs.Check.{start, job, check_of, WellFormed}
use Rattle.field_checks.specs.File.{AsZone}
use Rattle.field_checks.proofs.WellFormedLaws.{good-well-formed}
use Rattle.field_checks.proofs.FileLaws.{well-formed-file}
use Rattle.pieces.specs.View.{Put}
use Rattle.use_order.specs.Order.{mention_all, order_of, numbered_from, new_number}
use Rattle.use_order.specs.Fill.{Ordered}
use Rattle.use_order.proofs.NumberLaws.{numbered-most}
use Rattle.mentions.specs.Content.{numbers_of}
use Rattle.renumbering.specs.Run.{Small}
use Rattle.counted_zones.specs.Steps.{zone_names}
use Rattle.stepped_zones.proofs.ZoneLaws.{zone-stepped}
use Rattle.renumbering.specs.Table.{Fits}
use Rattle.closed_files.specs.File.{mentions_in, uses_of, new_order, new_table, closed_fields, closed_file, closed, first_unread, given_sized, left_sized, given_read, left_read, close_of, output_of}
use Rattle.closed_files.proofs.PlaceLaws.{Placed, length-uses-of, mentioned-placed}
use Rattle.mentioned_numbers.proofs.MentionedLaws.{file-below}
use Rattle.closed_fields.specs.View.{NumbersKept, PoolChecked}
use Rattle.closed_walks.specs.View.{ZoneStepped, Walkable, InPlace}
use Rattle.unchanged_files.specs.View.{PlainWhere, WalksTo, Walks}
use Rattle.unchanged_files.specs.declared.Walked.{Walked}
use Rattle.unchanged_files.specs.declared.Walked.TheVariants.{Unread, Counted}

covers-limit : (f : List ℕ) (at : ℕ) (gs : List Field) → at ≤ 4194304 → Covers f at gs → length f ≤ 4194304
covers-limit f at [] h c = let e : at ≡ length f = c in omega arith
covers-limit f at (g ∷ gs) h c = covers-limit f g.past gs c.1.limit c.2

-- its first field is its pool, which the check takes, and no other has that ID
pools-good : (f : List ℕ) → WellFormed f → Bytes f → All (λ g. PoolChecked g.id g.body) (fields f)
pools-good f w b =
    let file = well-formed-file f w in
    let all : fields f ≡ file.first ∷ file.others = ap (λ (x : Listing). x.fields) (framed-listing f b file.first file.others file.framed) in
    rw all (all-also (record { good = λ _. file.pool ∙ ap (λ (ts : List (List ℕ)). got ts []) (sym (ap strings_in file.pool)) })
    (all_map (λ g h. record { good = λ e. absurd (omega arith) }) (ordered-some 0 file.others file.framed.ordered)))

-- and its zones were read
zones-good : (f : List ℕ) → WellFormed f → Bytes f → All (λ g. ZoneStepped g.id g.body) (fields f)
zones-good f w b =
    let file = well-formed-file f w in
    let all : fields f ≡ file.first ∷ file.others = ap (λ (x : Listing). x.fields) (framed-listing f b file.first file.others file.framed) in
    let few : length file.strings ≤ 8192 =
    subst (λ (ts : List (List ℕ)). length ts ≤ 8192) (ap strings_in file.pool) (few-strings file.first.body) in
    rw all (all-also (no-zone file.first file.framed.is-first)
    (all_map (λ g h. stepped file.strings few g h) file.zones))
  where
    no-zone : (g : Field) → g.id ≡ 0 → ZoneStepped g.id g.body
    no-zone g h = record { names = λ e. absurd (omega (arith, h, e)); within = λ e. absurd (omega (arith, h, e)) }

    stepped : (ts : List (List ℕ)) → length ts ≤ 8192 → (g : Field) → AsZone ts g → ZoneStepped g.id g.body
    stepped ts few g h =
        record {
          names = λ e. subst⁻¹ (λ (i : ℕ). zone_names g.body ≡ numbers_of i g.body) e (zone-stepped (length ts) few g.body (h e).zone (h e).parsed).0;
          within = λ e. (zone-stepped (length ts) few g.body (h e).zone (h e).parsed).1;
        }

-- A GOOD FILE can be walked
pub walkable : (f : List ℕ) → check_of f ≡ Ok tt → Bytes f → Walkable f
walkable f e b =
    let w = good-well-formed f e in
    let c = listing-covers f (walk-ended job start w.memory f (length f) w.ends).whole w.some-field in
    record { covers = c; version = (well-formed-file f w).framed.version; limit = covers-limit f 4 (fields f) (omega arith) c; pools = pools-good f w b; zones = zones-good f w b }

-- and mentions no number past the largest count of a pool
pub below : (f : List ℕ) → check_of f ≡ Ok tt → Bytes f → All (λ k. k < 8192) (mentions_in (fields f))
below f e b = file-below f (good-well-formed f e) b

-- the ways out: the check's refusal, 22, and what follows
module _ (f d : List ℕ) (v : Result (Unit {0}) Fault) (e : v ≡ check_of f) where
  pub close-refused : (n : Refusal) (p : ℕ) → v ≡ Err (n, p) → (Err (n, p) ≡ close_of f d) × (d ≡ output_of f d)
  unfolding close_of output_of
  close-refused n p h = (rw (sym e ∙ h), rw (sym e ∙ h))

  pub close-good : (g : v ≡ Ok tt) (r : Result ℕ Fault) (o : List ℕ) → (r ≡ given_read (first_unread (fields f)) (closed f) d) × (o ≡ left_read (first_unread (fields f)) (closed f) d)
      → (r ≡ close_of f d) × (o ≡ output_of f d)
  unfolding close_of output_of
  close-good g r o k = (rw (sym e ∙ g) k.0, rw (sym e ∙ g) k.1)

-- what the walk over the fields told
module _ (f : List ℕ) (n : ℕ) (u w : List ℕ) (r : Walked) (k : Walks f n u w r) where
  pub walked-unread : (p : ℕ) → r ≡ Unread p → first_unread (fields f) ≡ some p
  walked-unread p e = subst (WalksTo f n u w) e k.means

  pub walked-counted : (plain : Bool) → r ≡ Counted plain → (first_unread (fields f) ≡ none) × (w ≡ mention_all (mentions_in (fields f)) u) × PlainWhere plain f n
  walked-counted plain e = subst (WalksTo f n u w) e k.means

module _ (f d : List ℕ) where
  pub close-unread : (p : ℕ) → first_unread (fields f) ≡ some p
      → (Err (UnreadField, p) ≡ given_read (first_unread (fields f)) (closed f) d) × (d ≡ left_read (first_unread (fields f)) (closed f) d)
  close-unread p h = (rw h refl, rw h refl)

  pub close-read : (r : Result ℕ Fault) (o : List ℕ) → first_unread (fields f) ≡ none → (r ≡ given_sized (closed f) d) × (o ≡ left_sized (closed f) d)
      → (r ≡ given_read (first_unread (fields f)) (closed f) d) × (o ≡ left_read (first_unread (fields f)) (closed f) d)
  close-read r o h k = (rw h k.0, rw h k.1)

-- 4, 15, or the file
module _ (xs d : List ℕ) where
  pub too_large : 4194304 < length xs → (Err (TooLarge, 0) ≡ given_sized xs d) × (d ≡ left_sized xs d)
  unfolding given_sized left_sized
  too_large h = let t = lt-ltb 4194304 (length xs) h in (rw t, rw t)

  module _ (h : length xs ≤ 4194304) where
    pub no_room : length d < length xs → (Err (TooShort, 0) ≡ given_sized xs d) × (d ≡ left_sized xs d)
    unfolding given_sized left_sized
    no_room k = let t = le-ltb 4194304 (length xs) h in let u = lt-leb (length xs) (length d) k in (rw (t, u), rw (t, u))

    pub written : (n : ℕ) (o : List ℕ) → length xs ≤ length d → Put xs d n o → (Ok n ≡ given_sized xs d) × (o ≡ left_sized xs d)
    unfolding given_sized left_sized
    written n o k p = let t = le-ltb 4194304 (length xs) h in let u = le-leb (length xs) (length d) k in (rw (t, u) (ap Ok p.size), rw (t, u) p.left)

-- ---- the order and the table, as the code fills them
abbrev no-uses : List ℕ
no-uses = replicate 8192 0

zero-uses : (k : ℕ) → get_or no-uses k 0 ≡ 0
zero-uses k = go (ltb k 8192) refl
  where
    go : (t : Bool) → ltb k 8192 ≡ t → get_or no-uses k 0 ≡ 0
    go true e = get_or-replicate {A = ℕ} 8192 k 0 0 (ltb-true k 8192 e)
    go false e = get_or-eq_default no-uses 0 {n = k} (let l = ltb-false k 8192 e in omega (arith, length-replicate {A = ℕ} 8192 0))

pub no-uses-fit : (n : ℕ) → n ≤ 4194304 → Fits no-uses n
no-uses-fit n h = record { room = λ k. let z = zero-uses k in omega arith }

pub table-small : (ks : List ℕ) → length ks ≤ 8192 → Small (numbered_from 0 ks no-uses)
table-small ks h = record { carried = λ k. let m = numbered-most 0 8192 ks no-uses (omega arith) (λ j. let z = zero-uses j in omega arith) k in omega arith }

-- the order stands at the front of its array
module _ (uses order₀ order : List ℕ) (n : ℕ) (o : Ordered uses order₀ n order) where
  pub order-within : n ≤ length order
  order-within = let e : length order ≡ length (order_of uses) + length (drop n order₀) = ap length o.order ∙ length-append (order_of uses) (drop n order₀) in omega (arith, o.count)

  pub order-few : length order ≤ 8192 → length (take n order) ≤ 8192
  order-few h = rw length-take (omega arith)

module _ (f uses order₀ order table : List ℕ) (n : ℕ) (u : uses ≡ mention_all (mentions_in (fields f)) (replicate 8192 0)) (o : Ordered uses order₀ n order)
    (t : table ≡ numbered_from 0 (take n order) (replicate 8192 0)) where
  pub order_is : take n order ≡ new_order (fields f)
  order_is = ap (take n) o.order ∙ take_at (order_of uses) (drop n order₀) n (sym o.count) ∙ ap order_of u

  table_is : table ≡ new_table (fields f)
  table_is = t ∙ ap (λ (q : List ℕ). numbered_from 0 q (replicate 8192 0)) order_is

  pub file-is : 0 ∷ 0 ∷ 0 ∷ 0 ∷ closed_fields (take n order) table (fields f) ≡ closed_file (fields f)
  unfolding closed_file
  file-is = ap (λ (q : List ℕ). 0 ∷ 0 ∷ 0 ∷ 0 ∷ closed_fields q table (fields f)) order_is ∙ ap (λ (q : List ℕ). 0 ∷ 0 ∷ 0 ∷ 0 ∷ closed_fields (new_order (fields f)) q (fields f)) table_is

  pub length-is : (m : ℕ) → m ≡ 4 + length (closed_fields (take n order) table (fields f)) → m ≡ length (closed_file (fields f))
  length-is m e = let l : length (0 ∷ 0 ∷ 0 ∷ 0 ∷ closed_fields (take n order) table (fields f)) ≡ length (closed_file (fields f)) = ap length file-is in omega arith

  pub small_is : length (take n order) ≤ 8192 → Small table
  small_is h = rw t (table-small (take n order) h)

  -- where the order is the numbers as they are, each mentioned number is its own new number
  pub keeps : (kept : Bool) → All (λ k. k < 8192) (mentions_in (fields f)) → InPlace kept (take n order) → NumbersKept kept table (mentions_in (fields f))
  keeps kept b p = record { stay = λ e. subst⁻¹ (λ (l : List ℕ). All (λ k. new_number l k ≡ k) (mentions_in (fields f))) table_is (all_map (stays e) (mentioned-placed (fields f) b)) }
    where
      places : InPlace kept (new_order (fields f))
      places = subst (InPlace kept) order_is p

      stays : kept ≡ true → (k : ℕ) → Placed (new_order (fields f)) (new_table (fields f)) k → new_number (new_table (fields f)) k ≡ k
      stays e k q = sym (places.at_place e (new_number (new_table (fields f)) k) q.inside) ∙ q.is

pub uses-few : (gs : List Field) (uses : List ℕ) → uses ≡ uses_of gs → length uses ≤ 8192
uses-few gs uses e = omega (arith, (ap length e ∙ length-uses-of gs))

-- a file that is its own closed file
module _ (f d : List ℕ) (w : Walkable f) (s : closed_file (fields f) ≡ f) where
  pub same-no-room : length d < length f → (Err (TooShort, 0) ≡ given_sized (closed_file (fields f)) d) × (d ≡ left_sized (closed_file (fields f)) d)
  same-no-room h = rw s (no_room f d w.limit h)

  pub same-written : (n : ℕ) (o : List ℕ) → length f ≤ length d → Put f d n o
      → (Ok n ≡ given_sized (closed_file (fields f)) d) × (o ≡ left_sized (closed_file (fields f)) d)
  same-written n o h p = rw s (written f d w.limit n o h p)
