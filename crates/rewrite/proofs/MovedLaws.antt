-- The fields of the preferred file. Assumes nothing.
use Rattle.std.specs.declared.option.Option.TheVariants.{None}
use mathlib.Core.Path.{◌≡◌, refl, ap, sym, ◌∙◌}
use mathlib.Core.Bool.{Bool, true, false}
use mathlib.Core.List.{List, [], ◌∷◌, ◌++◌, append_assoc}
use Prim.Native.Nat.{ℕ, zero, suc, ◌+◌, ◌≤◌, ◌<◌}
use native.Mathlib.Omega.{arith}
use native.Mathlib.Nat.{not-suc-le-zero}
use lib.ListN.{length, take, drop, length-append}
use lib.Seq.{take-append_seam, drop_at}
use borrow.Author.Tests.{le-leb, ne_eqb}
use Rattle.base.proofs.Parts.{Bytes}
use Rattle.counts.specs.Count.{write_count}
use Rattle.counts.proofs.CountLaws.{count-mono}
use Rattle.frames.specs.Frame.{largest, order, zeros, version, field, frame, Field}
use Rattle.frames.specs.Fields.{FieldOf, end_at, no_field, scan, listing, fields}
use Rattle.frames.specs.declared.Frame.TheVariants.{End, Whole}
use Rattle.base.specs.All.{All}
use Rattle.base.proofs.AllLaws.{all_head, all_tail}
use Rattle.frames.proofs.SizeLaws.{size-read, size-written}
use Rattle.frames.proofs.HeadLaws.{headed-whole}
use Rattle.frames.proofs.ChainLaws.{Chain, listing-chain}
use Rattle.rewrite.specs.Preferred.{contents, content, print_fields, print_file, preferred}
use Rattle.preferred_fields.specs.Field.{print_field}
use Rattle.rewrite.proofs.KeptLaws.{preferred_data, FieldKept}

-- the length of a field's head, "ID byte, size as a count", for n bytes of data
abbrev pub head_for : ℕ → ℕ
head_for n = 1 + length (write_count n)

-- the field g in the preferred file, at a place
abbrev pub moved_to : ℕ → Field → Field
moved_to at g =
    record {
      place = at;
      id = g.id;
      start = at + head_for (length (preferred_data g.id g.body));
      past = at + (head_for (length (preferred_data g.id g.body)) + length (preferred_data g.id g.body));
      body = preferred_data g.id g.body;
    }

-- the fields gs in the preferred file, one behind the other from a place on
unfoldable pub moved : ℕ → List Field → List Field
moved at [] = []
moved at (g ∷ gs) = moved_to at g ∷ moved (moved_to at g).past gs

-- a field as it is printed, with the ID i and the data d, before more bytes
module _ (i : ℕ) (d more : List ℕ) where
  abbrev bytes_of : List ℕ
  bytes_of = i ∷ ((write_count (length d) ++ d) ++ more)

  pub printed-size : length bytes_of ≡ head_for (length d) + length d + length more
  printed-size = simp (length-append) (omega arith)

  pub printed-rest : drop (head_for (length d) + length d) bytes_of ≡ more
  printed-rest = drop_at (i ∷ (write_count (length d) ++ d)) more (head_for (length d) + length d) (simp (length-append) (omega arith))

  pub printed-data : take (length d) (drop (head_for (length d)) bytes_of) ≡ d
  printed-data =
      rw (append_assoc (write_count (length d)) d more, drop_at (i ∷ write_count (length d)) (d ++ more) (head_for (length d)) (omega arith))
      (take-append_seam d more)

  pub printed-whole : (at : ℕ) (seen : Bool) (prev : ℕ) → 0 < at → order seen prev i ≡ None → i ≤ 255
      → at + (head_for (length d) + length d) ≤ largest → frame 255 at seen prev bytes_of ≡ Whole i (head_for (length d)) (length d)
  printed-whole at seen prev a o l m =
      headed-whole 255 at seen prev bytes_of i (head_for (length d)) (length d)
      (record {
        place = λ z. omega arith;
        tail = (write_count (length d) ++ d) ++ more;
        starts = refl;
        ordered = o;
        reached = l;
        used = length (write_count (length d));
        head = refl;
        size = rw (append_assoc (write_count (length d)) d more) (size-written (length d) (d ++ more) (omega arith));
        limit = m;
        whole = rw printed-size (omega arith);
      })

-- the field g of f, moved forward from its place or left there, ends no later
moved-past : (f : List ℕ) (g : Field) (at : ℕ) → FieldOf f g → FieldKept g → at ≤ g.place → (moved_to at g).past ≤ g.past
moved-past f g at o k l =
    let w = size-read (drop (g.place + 1) f) (sym o.size) in
    omega (arith, count-mono (length (preferred_data g.id g.body)) (length g.body) k.shorter, w.least, o.starts, o.ends, k.shorter)

-- at the bytes' end
pub no-more : (at : ℕ) (seen : Bool) (prev : ℕ) → 0 < at → frame 255 at seen prev [] ≡ End
unfolding frame field
no-more at seen prev l = rw (ne_eqb at 0 (λ z. omega arith))

module _ (f : List ℕ) (b : Bytes f) where
  -- n bytes from a place on end no later than f, and at a place that a file may have
  pub record Within (at n : ℕ) : Type 0 where
    pub in-file : at + n ≤ length f
    pub in-limit : at + n ≤ largest

  -- THE FIELDS OF PRINTED FIELDS, printed at most where they stood in f: the same ones with their preferred data, up to the bytes' end
  pub scan-printed : (k : ℕ) (seen : Bool) (prev at at' : ℕ) (gs : List Field) → Chain f seen prev at gs → All FieldKept gs → 0 < at' → at' ≤ at
      → length (print_fields (contents gs)) < k
      → scan k 255 at' seen prev (print_fields (contents gs))
      ≡ record { fields = moved at' gs; ending = end_at (at' + length (print_fields (contents gs))) }
  unfolding scan contents print_fields print_field moved
  scan-printed zero seen prev at at' gs c a p l fuel = absurd (not-suc-le-zero fuel)
  scan-printed (suc k) seen prev at at' [] c a p l fuel = rw (no-more at' seen prev p) (ap (λ (q : ℕ). no_field (end_at q)) (omega arith))
  scan-printed (suc k) seen prev at at' (g ∷ gs) c a p l fuel =
      let d = preferred_data g.id g.body in
      let more = print_fields (contents gs) in
      let o : FieldOf f g = c.1 in
      let q : (moved_to at' g).past ≤ g.past = moved-past f g at' o (all_head a) (omega (arith, c.0)) in
      let i : g.id ≤ 255 = omega (arith, b g.place, o.id-byte) in
      let s : length (g.id ∷ ((write_count (length d) ++ d) ++ more)) ≡ head_for (length d) + length d + length more = printed-size g.id d more in
      let rec = scan-printed k true g.id g.past (moved_to at' g).past gs c.3 (all_tail a) (omega arith) q (omega arith) in
      rw (printed-whole g.id d more at' seen prev p c.2 i (omega (arith, o.limit)), printed-rest g.id d more, printed-data g.id d more, rec)
      (ap (λ (e : ℕ). record { fields = moved_to at' g ∷ moved (moved_to at' g).past gs; ending = end_at e }) (omega arith))

  -- printed fields end where those of f do at the latest
  pub printed-within : (seen : Bool) (prev at at' : ℕ) (gs : List Field) → Chain f seen prev at gs → All FieldKept gs → at' ≤ at
      → at ≤ length f → at ≤ largest → Within at' (length (print_fields (contents gs)))
  unfolding contents print_fields print_field
  printed-within seen prev at at' [] c a l m n = record { in-file = omega arith; in-limit = omega arith }
  printed-within seen prev at at' (g ∷ gs) c a l m n =
      let d = preferred_data g.id g.body in
      let more = print_fields (contents gs) in
      let o : FieldOf f g = c.1 in
      let q : (moved_to at' g).past ≤ g.past = moved-past f g at' o (all_head a) (omega (arith, c.0)) in
      let s : length (g.id ∷ ((write_count (length d) ++ d) ++ more)) ≡ head_for (length d) + length d + length more = printed-size g.id d more in
      let rec = printed-within true g.id g.past (moved_to at' g).past gs c.3 (all_tail a) q o.within o.limit in
      record { in-file = omega (arith, rec.in-file); in-limit = omega (arith, rec.in-limit) }

-- "Version: four zero bytes"
pub version-first : (xs : List ℕ) → listing 255 (0 ∷ 0 ∷ 0 ∷ 0 ∷ xs) ≡ scan (length (0 ∷ 0 ∷ 0 ∷ 0 ∷ xs)) 255 4 false 0 xs
unfolding listing scan frame version zeros
version-first xs = rw (le-leb 4 (length (0 ∷ 0 ∷ 0 ∷ 0 ∷ xs)) (omega arith))

-- THE FIELDS OF THE PREFERRED FILE: those of f in their order with their preferred data, and nothing else
pub preferred-listing : (f : List ℕ) → Bytes f → All FieldKept (fields f)
    → listing 255 (preferred f) ≡ record { fields = moved 4 (fields f); ending = end_at (length (preferred f)) }
unfolding print_file
preferred-listing f b a =
    let xs = print_fields (content f) in
    version-first xs
    ∙ scan-printed f b (length (0 ∷ 0 ∷ 0 ∷ 0 ∷ xs)) false 0 4 4 (fields f) (listing-chain f 255) a (omega arith) (omega arith) (omega arith)
    ∙ ap (λ (e : ℕ). record { fields = moved 4 (fields f); ending = end_at e }) (omega arith)

-- they say the same
pub moved-contents : (at : ℕ) (gs : List Field) → All FieldKept gs → contents (moved at gs) ≡ contents gs
unfolding contents moved
moved-contents at [] a = refl
moved-contents at (g ∷ gs) a = rw ((all_head a).same, moved-contents (moved_to at g).past gs (all_tail a))

-- the preferred file ends where f does at the latest
pub preferred-within : (f : List ℕ) → Bytes f → All FieldKept (fields f) → 4 ≤ length f
    → (length (preferred f) ≤ length f) × (length (preferred f) ≤ largest)
unfolding print_file
preferred-within f b a l =
    let w = printed-within f b false 0 4 4 (fields f) (listing-chain f 255) a (omega arith) l (omega arith) in
    (omega (arith, w.in-file), omega (arith, w.in-limit))
