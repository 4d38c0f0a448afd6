-- THE FIELDS OF THE CLOSED FILE: those of the file in their order, each with its closed data, to the bytes' end. Assumes nothing.
use mathlib.Core.Path.{◌≡◌, ap, ◌∙◌}
use mathlib.Core.Bool.{Bool, false, true}
use mathlib.Core.List.{List, [], ◌∷◌, ◌++◌}
use Prim.Native.Nat.{ℕ, zero, suc, ◌+◌, ◌≤◌, ◌<◌}
use native.Mathlib.Omega.{arith}
use native.Mathlib.Nat.{not-suc-le-zero}
use lib.ListN.{length}
use Rattle.base.specs.Bytes.{Bytes}
use Rattle.counts.specs.Count.{write_count}
use Rattle.frames.specs.Frame.{largest, Field}
use Rattle.frames.specs.Fields.{FieldOf, Listing, end_at, no_field, scan, listing, fields}
use Rattle.frames.proofs.ChainLaws.{Chain, listing-chain}
use Rattle.rewrite.proofs.MovedLaws.{head_for, printed-size, printed-rest, printed-data, printed-whole, no-more, version-first}
use Rattle.closed_files.specs.File.{new_order, new_table, write_field, closed_data, closed_fields, closed_file, closed}

module _ (order table : List ℕ) where
  -- the data of the field g in the closed file
  abbrev data_of : Field → List ℕ
  data_of g = closed_data order table g.id g.body

  -- the field g in the closed file, at a place
  abbrev pub closed_at : ℕ → Field → Field
  closed_at at g =
      record {
        place = at;
        id = g.id;
        start = at + head_for (length (closed_data order table g.id g.body));
        past = at + (head_for (length (closed_data order table g.id g.body)) + length (closed_data order table g.id g.body));
        body = closed_data order table g.id g.body;
      }

  -- the fields gs in the closed file, one behind the other from a place on
  unfoldable pub closed_from : ℕ → List Field → List Field
  closed_from at [] = []
  closed_from at (g ∷ gs) = closed_at at g ∷ closed_from (closed_at at g).past gs

  module _ (f : List ℕ) (b : Bytes f) where
    scan-closed : (k : ℕ) (seen : Bool) (prev at at' : ℕ) (gs : List Field) → Chain f seen prev at gs → 0 < at'
        → at' + length (closed_fields order table gs) ≤ largest → length (closed_fields order table gs) < k
        → scan k 255 at' seen prev (closed_fields order table gs)
        ≡ record { fields = closed_from at' gs; ending = end_at (at' + length (closed_fields order table gs)) }
    unfolding scan closed_fields write_field closed_from
    scan-closed zero seen prev at at' gs c p l fuel = absurd (not-suc-le-zero fuel)
    scan-closed (suc k) seen prev at at' [] c p l fuel = rw (no-more at' seen prev p) (ap (λ (q : ℕ). no_field (end_at q)) (omega arith))
    scan-closed (suc k) seen prev at at' (g ∷ gs) c p l fuel =
        let d = closed_data order table g.id g.body in
        let more = closed_fields order table gs in
        let o : FieldOf f g = c.1 in
        let i : g.id ≤ 255 = omega (arith, b g.place, o.id-byte) in
        let s : length (g.id ∷ ((write_count (length d) ++ d) ++ more)) ≡ head_for (length d) + length d + length more = printed-size g.id d more in
        let rec = scan-closed k true g.id g.past (closed_at at' g).past gs c.3 (omega arith) (omega arith) (omega arith) in
        rw (printed-whole g.id d more at' seen prev p c.2 i (omega arith), printed-rest g.id d more, printed-data g.id d more, rec)
        (ap (λ (e : ℕ). record { fields = closed_at at' g ∷ closed_from (closed_at at' g).past gs; ending = end_at e }) (omega arith))

-- the fields of the closed file of f
abbrev pub closed_in : List ℕ → List Field
closed_in f = closed_from (new_order (fields f)) (new_table (fields f)) 4 (fields f)

module _ (f : List ℕ) (b : Bytes f) (l : length (closed f) ≤ largest) where
  -- THE CLOSED FILE IS FRAMED: version and fields to its end
  pub closed-listing : listing 255 (closed f) ≡ record { fields = closed_in f; ending = end_at (length (closed f)) }
  unfolding closed_file
  closed-listing =
      let gs = fields f in
      let xs = closed_fields (new_order gs) (new_table gs) gs in
      version-first xs
      ∙ scan-closed (new_order gs) (new_table gs) f b (length (0 ∷ 0 ∷ 0 ∷ 0 ∷ xs)) false 0 4 4 gs (listing-chain f 255) (omega arith) (omega arith)
      (omega arith)
      ∙ ap (λ (e : ℕ). record { fields = closed_in f; ending = end_at e }) (omega arith)

  pub closed-fields : fields (closed f) ≡ closed_in f
  closed-fields = ap (λ (x : Listing). x.fields) closed-listing
