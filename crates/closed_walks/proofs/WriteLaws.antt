-- The fields of the closed file written one behind the other. Assumes nothing.
use mathlib.Core.Path.{◌≡◌, refl, sym, ap, ◌∙◌, subst}
use mathlib.Core.Bool.{Bool}
use mathlib.Core.List.{List, [], ◌∷◌, ◌++◌, append-nil, append_assoc}
use Prim.Native.Nat.{ℕ, ◌+◌, ◌*◌, ◌-◌, ◌≤◌, ◌<◌}
use native.Mathlib.Omega.{arith}
use lib.ListN.{length, take, drop, get_or, set, length-append, length-take, length-drop, length-set}
use lib.Seq.{drop-drop, get_or-drop, get_or-set_same, get_or-set_other}
use Rattle.base.specs.All.{All}
use Rattle.base.proofs.AllLaws.{all_head, all_tail, all_left, all_right}
use Rattle.base.proofs.Tests.{by_order}
use Rattle.counts.specs.Count.{write_count}
use Rattle.counts.proofs.CountLaws.{count-size}
use Rattle.frames.specs.Frame.{Field}
use Rattle.frames.specs.Fields.{fields}
use Rattle.frames.specs.Covers.{Covers}
use Rattle.pieces.specs.View.{Put}
use Rattle.pieces.proofs.PutLaws.{InTwo, put-none}
use Rattle.sizes.specs.View.{IsField, part_of}
use Rattle.sizes.specs.declared.Extent.{Extent}
use Rattle.sizes.proofs.FieldLaws.{Turned, turned, none_left}
use Rattle.use_order.specs.Order.{new_number}
use Rattle.mentions.specs.Content.{numbers_of}
use Rattle.closed_files.specs.File.{mentions_in, write_field, closed_data, closed_fields}
use Rattle.closed_fields.specs.View.{NumbersKept, PoolChecked}
use Rattle.closed_walks.specs.View.{Walkable, sizes_of, HasSizes, SizeAt}
use Rattle.closed_fields.proofs.SizeLaws.{data-most, field-length, size_is}

module _ (f order table : List ℕ) where
  -- every number that some fields mention is its own new number
  abbrev Stay : List Field → Type 0
  Stay gs = All (λ k. new_number table k ≡ k) (mentions_in gs)

  -- the fields before the place make `done` of the closed ones
  pub record Going (at : ℕ) (done : List ℕ) : Type 0 where
    pub rest : List Field
    pub covers : Covers f at rest
    pub all : closed_fields order table (fields f) ≡ done ++ closed_fields order table rest
    pub most : length done ≤ 21000000 * at
    pub within : at ≤ 4194304
    pub stays : Stay (fields f) → Stay rest
    pub pools : All (λ g. PoolChecked g.id g.body) rest
    pub passed : ℕ
    pub early : passed ≤ at
    pub index : drop passed (sizes_of order table (fields f)) ≡ sizes_of order table rest

  pub going_start : Walkable f → Going 4 []
  going_start w = record { rest = fields f; covers = w.covers; all = refl; most = omega arith; within = omega arith; stays = λ a. a; pools = w.pools; passed = 0; early = omega arith; index = refl }

  module _ (at : ℕ) (done : List ℕ) (g : Going at done) where
    pub going-sum : length done ≤ length (closed_fields order table (fields f))
    going-sum = rw (g.all, length-append) (omega arith)

    pub going_end : length f ≤ at → closed_fields order table (fields f) ≡ done
    unfolding closed_fields
    going_end l = g.all ∙ ap (λ (q : List Field). done ++ closed_fields order table q) (none_left f at g.rest g.covers l) ∙ append-nil done

    module _ (r : Extent) (l : at < length f) (i : IsField f at r) where
      pub turn : Turned f at g.rest r
      turn = turned f at g.rest r g.covers l i

      -- the mentions of the field and of those behind it
      stay-turned : Stay (fields f) → Stay (turn.field ∷ turn.others)
      stay-turned a = subst Stay turn.split (g.stays a)

      pub keeps_here : (kept : Bool) → NumbersKept kept table (mentions_in (fields f)) → NumbersKept kept table (numbers_of r.id (part_of f r))
      unfolding mentions_in
      keeps_here kept k =
          let u = turn in
          record { stay = λ e. rw (u.id, u.body) (all_left (numbers_of u.field.id u.field.body) (mentions_in u.others) (stay-turned (k.stay e))) }

      pools-turned : All (λ g. PoolChecked g.id g.body) (turn.field ∷ turn.others)
      pools-turned = subst (All (λ g. PoolChecked g.id g.body)) turn.split g.pools

      pub pool-here : PoolChecked r.id (part_of f r)
      pool-here = let u = turn in rw (u.id, u.body) (all_head pools-turned)

      -- the lengths of the data of the field and of those behind it
      index-turned : drop g.passed (sizes_of order table (fields f)) ≡ length (closed_data order table turn.field.id turn.field.body) ∷ sizes_of order table turn.others
      unfolding sizes_of
      index-turned = g.index ∙ ap (sizes_of order table) turn.split

      pub size-inside : g.passed < length (sizes_of order table (fields f))
      size-inside = let e : length (sizes_of order table (fields f)) - g.passed ≡ _ = sym (length-drop g.passed (sizes_of order table (fields f))) ∙ ap length index-turned in omega arith

      pub size-here : get_or (sizes_of order table (fields f)) g.passed 0 ≡ length (closed_data order table r.id (part_of f r))
      size-here =
          let u = turn in
          let k : g.passed + 0 ≡ g.passed = omega arith in
          ap (λ (j : ℕ). get_or (sizes_of order table (fields f)) j 0) (sym k)
          ∙ sym (get_or-drop g.passed (sizes_of order table (fields f)) 0 0)
          ∙ ap (λ (q : List ℕ). get_or q 0 0) index-turned
          ∙ ap (λ (j : ℕ). length (closed_data order table j u.field.body)) (sym u.id)
          ∙ ap (λ (q : List ℕ). length (closed_data order table r.id q)) (sym u.body)

      pub size-known : (sizes : List ℕ) (i : ℕ) → i ≡ g.passed → HasSizes sizes (sizes_of order table (fields f))
          → SizeAt sizes i (length (closed_data order table r.id (part_of f r)))
      size-known sizes i e h = rw e (record { same = λ k. h.same g.passed k size-inside ∙ size-here })

      -- the closed field
      abbrev pub closed_at : List ℕ
      closed_at = write_field r.id (closed_data order table r.id (part_of f r))

      module _ (w : Walkable f) (few : length order ≤ 8192) where
        pub part-short : length (part_of f r) ≤ 4194304
        part-short = let u = turn in let p : length (part_of f r) ≤ r.end - r.start = rw length-take (omega arith) in omega (arith, u.within, w.limit)

        field-most : length closed_at ≤ 20971526
        field-most =
            let m = data-most order table r.id (part_of f r) few part-short in
            let c = (count-size (length (closed_data order table r.id (part_of f r)))).most in
            rw (field-length r.id (closed_data order table r.id (part_of f r))) (omega arith)

        pub going_next : Going r.end (done ++ closed_at)
        unfolding closed_fields mentions_in
        going_next =
            let u = turn in
            let m = field-most in
            let e : write_field u.field.id (closed_data order table u.field.id u.field.body) ≡ closed_at =
            ap (λ (j : ℕ). write_field j (closed_data order table j u.field.body)) (sym u.id) ∙ ap (λ (q : List ℕ). write_field r.id (closed_data order table r.id q)) (sym u.body) in
            record {
              rest = u.others;
              covers = u.covers;
              all =
                  g.all
                  ∙ ap (λ (q : List Field). done ++ closed_fields order table q) u.split
                  ∙ ap (λ (q : List ℕ). done ++ (q ++ closed_fields order table u.others)) e
                  ∙ sym (append_assoc done closed_at (closed_fields order table u.others));
              most = rw length-append (omega (arith, g.most, u.farther, u.ordered));
              within = omega (arith, u.within, w.limit);
              stays = λ a. all_right (numbers_of u.field.id u.field.body) (mentions_in u.others) (stay-turned a);
              pools = all_tail pools-turned;
              passed = g.passed + 1;
              early = omega (arith, g.early, u.farther, u.ordered);
              index = sym (drop-drop 1 g.passed (sizes_of order table (fields f))) ∙ ap (drop 1) index-turned;
            }

        pub next-sum : length done + length closed_at ≤ length (closed_fields order table (fields f))
        next-sum =
            let n = going_next in
            let e : length (closed_fields order table (fields f)) ≡ length (done ++ closed_at) + length (closed_fields order table n.rest) = ap length n.all ∙ length-append (done ++ closed_at) (closed_fields order table n.rest) in
            let l : length (done ++ closed_at) ≡ length done + length closed_at = length-append done closed_at in
            omega arith

        pub going-two : (o : List ℕ) → length (closed_fields order table (fields f)) ≤ length o → InTwo (done ++ closed_at) done closed_at o
        going-two o h = let n = next-sum in record { all = refl; room = rw length-append (omega arith) }

        -- the same of a sum of numbers, as the code has it
        module _ (n k : ℕ) (a : n ≡ length done) (b : k ≡ length closed_at) where
          pub sum-next : n + k ≡ length (done ++ closed_at)
          sum-next = rw (a, b) (sym (length-append done closed_at))

          pub sum-most : n + k ≤ 88080384000000
          sum-most = rw sum-next (omega (arith, going_next.most, going_next.within))

  -- the walk that measures: n bytes are counted, and the lengths of the data of i fields stand in sizes, which has z places
  pub record Measuring (z at n i : ℕ) (sizes : List ℕ) : Type 0 where
    pub done : List ℕ
    pub going : Going at done
    pub sum : n ≡ length done
    pub count : i ≡ going.passed
    pub long : length sizes ≡ z
    pub filled : (j : ℕ) → j < i → j < length sizes → get_or sizes j 0 ≡ get_or (sizes_of order table (fields f)) j 0

  pub measuring-start : Walkable f → (sizes : List ℕ) → Measuring (length sizes) 4 0 0 sizes
  unfolding going_start
  measuring-start w sizes = record { done = []; going = going_start w; sum = refl; count = refl; long = refl; filled = λ j h. absurd (omega arith) }

  module _ (z at n i : ℕ) (sizes : List ℕ) (m : Measuring z at n i sizes) where
    module _ (r : Extent) (l : at < length f) (e : IsField f at r) (w : Walkable f) (few : length order ≤ 8192) (k : ℕ)
        (a : k ≡ length (closed_data order table r.id (part_of f r))) where
      pub data-bound : k ≤ 20971520
      data-bound = rw a (data-most order table r.id (part_of f r) few (part-short at m.done m.going r l e w few))

      module _ (c : ℕ) (b : c ≡ 1 + length (write_count k) + k) where
        size-of : c ≡ length (closed_at at m.done m.going r l e)
        size-of = b ∙ size_is r.id (closed_data order table r.id (part_of f r)) k (length (write_count k)) a refl

        pub measured-most : n + c ≤ 88080384000000
        measured-most = sum-most at m.done m.going r l e w few n c m.sum size-of

        pub measuring-next : (after : List ℕ) → after ≡ set sizes i k → Measuring z r.end (n + c) (i + 1) after
        unfolding going_next
        measuring-next after h =
            rw h (record {
              done = m.done ++ closed_at at m.done m.going r l e;
              going = going_next at m.done m.going r l e w few;
              sum = sum-next at m.done m.going r l e w few n c m.sum size-of;
              count = ap (λ (j : ℕ). j + 1) m.count;
              long = length-set sizes i k ∙ m.long;
              filled = filled;
            })
          where
            filled : (j : ℕ) → j < i + 1 → j < length (set sizes i k) → get_or (set sizes i k) j 0 ≡ get_or (sizes_of order table (fields f)) j 0
            filled j p q =
                let q' : j < length sizes = rw (length-set sizes i k) at q in
                by_order j i (λ o. get_or-set_other sizes i j k 0 (λ z. omega arith) ∙ m.filled j o q')
                (λ o. let x : j ≡ i = omega arith in
                let y : k ≡ get_or (sizes_of order table (fields f)) i 0 = a ∙ sym (size-here at m.done m.going r l e) ∙ ap (λ (x : ℕ). get_or (sizes_of order table (fields f)) x 0) (sym m.count) in
                rw x (get_or-set_same sizes i k 0 (rw x at q') ∙ y))

    pub measuring-end : length f ≤ at → HasSizes sizes (sizes_of order table (fields f))
    unfolding sizes_of
    measuring-end l =
        let e : length (sizes_of order table (fields f)) - m.going.passed ≡ 0 =
        sym (length-drop m.going.passed (sizes_of order table (fields f))) ∙ ap length (m.going.index ∙ ap (sizes_of order table) (none_left f at m.going.rest m.going.covers l)) in
        record { same = λ j h k. m.filled j (omega (arith, m.count)) h }

  -- the walk that writes to the output o, which is `out` behind w bytes and i fields
  pub record Writing (o : List ℕ) (at w i : ℕ) (out : List ℕ) : Type 0 where
    pub done : List ℕ
    pub going : Going at done
    pub put : Put done o w out
    pub count : i ≡ going.passed

  pub writing_start : Walkable f → (o : List ℕ) → Writing o 4 0 0 o
  unfolding going_start
  writing_start w o = record { done = []; going = going_start w; put = put-none o; count = refl }

  pub writing-next : (o : List ℕ) (at w i : ℕ) (out : List ℕ) (m : Writing o at w i out) (r : Extent) (l : at < length f) (e : IsField f at r) → Walkable f
      → length order ≤ 8192 → (x : ℕ) (after : List ℕ) → Put (m.done ++ closed_at at m.done m.going r l e) o x after → Writing o r.end x (i + 1) after
  unfolding going_next
  writing-next o at w i out m r l e b few x after p =
      record {
        done = m.done ++ closed_at at m.done m.going r l e;
        going = going_next at m.done m.going r l e b few;
        put = p;
        count = ap (λ (j : ℕ). j + 1) m.count;
      }

-- the version, then the fields
pub file-two : (f xs d : List ℕ) → Walkable f → 4 + length xs ≤ length d → InTwo (0 ∷ 0 ∷ 0 ∷ 0 ∷ xs) (take 4 f) xs d
file-two f xs d w h = record { all = ap (λ (v : List ℕ). v ++ xs) (sym w.version); room = omega arith }

pub version-length : (f : List ℕ) → Walkable f → 4 ≡ length (take 4 f)
version-length f w = ap length (sym w.version)

pub version-within : (f : List ℕ) → Walkable f → 4 ≤ length f
version-within f w = let e : length (take 4 f) ≡ 4 = sym (version-length f w) in let h : length (take 4 f) ≤ length f = rw length-take (omega arith) in omega arith
