-- Laws of lines out of blocks: what the memory holds, and that blocks of any size give the lines of the whole. Assumes nothing.
use mathlib.Core.Path.{◌≡◌, refl, ap, sym, ◌∙◌}
use mathlib.Core.Bool.{Bool, true, false}
use mathlib.Core.List.{List, [], ◌∷◌, ◌++◌, map, flatten, append-nil, append_assoc}
use Prim.Native.Nat.{ℕ, zero, suc, ◌+◌, ◌-◌, ◌≤◌, ◌<◌}
use native.Mathlib.Omega.{arith}
use lib.Dec.{ltb, eqb}
use lib.ListN.{length, take, drop, length-append, length-take, length-drop}
use lib.Seq.{take_all, take-nil, take-length, drop-length, length-take-le, take-append_seam, take-append-le, take-append-add, take-take, drop-drop}
use borrow.Author.Tests.{lt-ltb, le-ltb, ltb-true}
use borrow.Rule.Slice.PartMut.{put_mid}
use Rattle.byte_search.specs.Bytes.{index_of, index_after}
use Rattle.base.specs.Pick.{pick}
use Rattle.base.proofs.Tests.{by_order, clash}
use Rattle.base.proofs.Parts.{part-from, put-from}
use Rattle.lines.specs.Question.{parse_line}
use Rattle.lines.specs.Splitting.{last_line, lines_from, lines_of, kept, first_of, Keeps, Gathers, block_lines, lines_in_blocks}
use Rattle.lines.specs.declared.Gathered.TheVariants.{Whole, Begun}
use Rattle.lines.proofs.QuestionLaws.{too_long}

-- ---- what the memory d holds, where the first n bytes are held

pub keep-full : (d s : List ℕ) (n : ℕ) → length d ≤ n → Keeps d n s (length d) d
keep-full d s n h = rw (take_all n d h, take-append_seam d s, drop-length d, append-nil d) (refl, refl)

-- the bytes x that there is room for were copied behind those that are held
pub keep-copied : (d s x last : List ℕ) (n r : ℕ) → n ≤ length d → take (length d - n) s ≡ x → n + length x ≤ length d → r ≡ length x
    → last ≡ take (length x) x ++ drop (length x) (take (length d - n) (drop n d)) → Keeps d n s (n + r) (put_mid n (length d - n) d last)
keep-copied d s x last n r h e l f g =
    let m : length (take n d) ≡ n = length-take-le n d h in
    let a : length d ≡ length (take n d) + (length d - n) = omega arith in
    let k : take (length d) (take n d ++ s) ≡ take n d ++ x =
    ap (λ (i : ℕ). take i (take n d ++ s)) a ∙ take-append-add (take n d) s (length d - n) ∙ ap (λ (y : List ℕ). take n d ++ y) e in
    rw (k, length-append (take n d) x, m) (
      ap (λ (i : ℕ). n + i) f,
      put-from n d last h
          ∙ rw (g, take-length x, part-from n d, drop-drop (length x) n d) (sym (append_assoc (take n d) x (drop (n + length x) d))),
    )

module _ (d s e : List ℕ) (n k m : ℕ) (f : k ≡ index_of 10 s) (p : Keeps d n (take k s) m e) where
  pub whole-line : k < length s → Gathers d n s (Whole m (k + 1)) e
  whole-line h = rw (← f, lt-ltb k (length s) h) (ap (λ (l : ℕ). Whole l (k + 1)) p.0, p.1)

  pub begun-line : length s ≤ k → Gathers d n s (Begun m) e
  begun-line h = rw (← f, le-ltb k (length s) h) (ap Begun p.0, p.1)

-- what a reader of blocks needs of a result: the line is within the memory, and what it took within the part, and more than nothing
kept-le : (d s : List ℕ) (n : ℕ) → length (kept (length d) (take n d) s) ≤ length d
kept-le d s n = omega (arith, length-take (length d) (take n d ++ s))

module _ (d s e : List ℕ) (n m : ℕ) where
  pub whole-within : (u : ℕ) → Gathers d n s (Whole m u) e → (m ≤ length d) × (u ≤ length s) × (0 < u)
  whole-within u g = go (ltb (index_of 10 s) (length s)) refl g.0
    where
      go : (t : Bool) → ltb (index_of 10 s) (length s) ≡ t → let k : ℕ = length (kept (length d) (take n d) (first_of s)) in
          Whole m u ≡ pick t (Whole k (index_of 10 s + 1)) (Begun k) → (m ≤ length d) × (u ≤ length s) × (0 < u)
      go true h q =
          let a : m ≡ length (kept (length d) (take n d) (first_of s)) = cc in
          let b : u ≡ index_of 10 s + 1 = cc in
          omega (arith, ltb-true (index_of 10 s) (length s) h, kept-le d (first_of s) n)
      go false h q = clash cc

  pub begun-within : Gathers d n s (Begun m) e → m ≤ length d
  begun-within g = go (ltb (index_of 10 s) (length s)) g.0
    where
      go : (t : Bool) → let k : ℕ = length (kept (length d) (take n d) (first_of s)) in
          Begun m ≡ pick t (Whole k (index_of 10 s + 1)) (Begun k) → m ≤ length d
      go true q = clash cc
      go false q = let a : m ≡ length (kept (length d) (take n d) (first_of s)) = cc in omega (arith, kept-le d (first_of s) n)

-- ---- the first line of some bytes

pub first-line : (begun s t : List ℕ) → index_of 10 s < length s
    → lines_from begun (s ++ t) ≡ (begun ++ first_of s) ∷ lines_from [] (drop (index_of 10 s + 1) s ++ t)
unfolding lines_from index_of index_after
first-line begun [] t h = absurd (omega arith)
first-line begun (b ∷ r) t h = go (eqb b 10) (first-line (begun ++ b ∷ []) r t) h
  where
    go : (x : Bool)
        → (index_of 10 r < length r → lines_from (begun ++ b ∷ []) (r ++ t) ≡ ((begun ++ b ∷ []) ++ first_of r) ∷ lines_from [] (drop (index_of 10 r + 1) r ++ t))
        → index_after x (index_of 10 r) < suc (length r)
        → pick x (begun ∷ lines_from [] (r ++ t)) (lines_from (begun ++ b ∷ []) (r ++ t))
        ≡ (begun ++ take (index_after x (index_of 10 r)) (b ∷ r)) ∷ lines_from [] (drop (index_after x (index_of 10 r) + 1) (b ∷ r) ++ t)
    go true i h = rw (append-nil begun)
    go false i h =
        let e : suc (index_of 10 r) + 1 ≡ suc (index_of 10 r + 1) = omega arith in
        i (omega arith) ∙ rw (append_assoc begun (b ∷ []) (first_of r), e)

pub no_line : (begun s t : List ℕ) → length s ≤ index_of 10 s → lines_from begun (s ++ t) ≡ lines_from (begun ++ first_of s) t
unfolding lines_from index_of index_after
no_line begun [] t h = rw (append-nil begun)
no_line begun (b ∷ r) t h = go (eqb b 10) (no_line (begun ++ b ∷ []) r t) h
  where
    go : (x : Bool) → (length r ≤ index_of 10 r → lines_from (begun ++ b ∷ []) (r ++ t) ≡ lines_from ((begun ++ b ∷ []) ++ first_of r) t)
        → suc (length r) ≤ index_after x (index_of 10 r)
        → pick x (begun ∷ lines_from [] (r ++ t)) (lines_from (begun ++ b ∷ []) (r ++ t)) ≡ lines_from (begun ++ take (index_after x (index_of 10 r)) (b ∷ r)) t
    go true i h = absurd (omega arith)
    go false i h = i (omega arith) ∙ rw (append_assoc begun (b ∷ []) (first_of r))

-- ---- a memory of c bytes suffices for what looks no further

kept-kept : (c : ℕ) (g x : List ℕ) → take c (take c g ++ x) ≡ take c (g ++ x)
kept-kept c g x =
    by_order (length g) c
    (λ s. rw (take_all c g (omega arith)))
    (λ l. let e : length (take c g) ≡ c = length-take-le c g l in
    rw (take-append-le c (take c g) x (omega arith), take-take c c g (omega arith), take-append-le c g x l))

module _ {B : Type 0} (f : List ℕ → B) (c : ℕ) (some : 0 < c) (near : (l : List ℕ) → f (take c l) ≡ f l) where
  block-lines : (n : ℕ) (later : List ℕ → List (List ℕ)) (t : List ℕ) → ((g : List ℕ) → map f (later (take c g)) ≡ map f (lines_from g t))
      → (g s : List ℕ) → length s < n → map f (block_lines n c later (take c g) s) ≡ map f (lines_from g (s ++ t))
  unfolding block_lines
  block-lines zero later t rest g s h = absurd (omega arith)
  block-lines (suc n) later t rest g s h =
      by_order (index_of 10 s) (length s)
      (λ l. let e : length (drop (index_of 10 s + 1) s) < n = rw (length-drop (index_of 10 s + 1) s) (omega arith) in
      rw (lt-ltb (index_of 10 s) (length s) l, kept-kept c g (first_of s), near (g ++ first_of s), first-line g s t l)
      (ap (λ (ls : List B). f (g ++ first_of s) ∷ ls) (rw (take-nil {A = ℕ} c) at (block-lines n later t rest [] (drop (index_of 10 s + 1) s) e))))
      (λ l. rw (le-ltb (index_of 10 s) (length s) l, kept-kept c g (first_of s), no_line g s t l) (rest (g ++ first_of s)))

  last-line : (g : List ℕ) → map f (last_line (take c g)) ≡ map f (last_line g)
  unfolding last_line
  last-line g = go c some near g
    where
      go : (c : ℕ) → 0 < c → ((l : List ℕ) → f (take c l) ≡ f l) → (g : List ℕ) → map f (last_line (take c g)) ≡ map f (last_line g)
      go zero h k g = absurd (omega arith)
      go (suc c) h k [] = refl
      go (suc c) h k (b ∷ r) = rw (k (b ∷ r))

  blocks_from : (blocks : List (List ℕ)) (g : List ℕ) → map f (lines_in_blocks c blocks (take c g)) ≡ map f (lines_from g (flatten blocks))
  unfolding lines_in_blocks lines_from flatten
  blocks_from [] g = last-line g
  blocks_from (s ∷ blocks) g =
      block-lines (suc (length s)) (lines_in_blocks c blocks) (flatten blocks) (blocks_from blocks) g s (omega arith)

  -- reading in blocks of any size gives the lines of the whole, to all that looks no further than c bytes
  pub lines-in-blocks : (blocks : List (List ℕ)) → map f (lines_in_blocks c blocks []) ≡ map f (lines_of (flatten blocks))
  lines-in-blocks blocks = rw (take-nil {A = ℕ} c) at (blocks_from blocks [])

-- of a line above 2,048 bytes the first 2,049 tell as much as all
pub parse-kept : (c : ℕ) → 2048 < c → (l : List ℕ) → parse_line (take c l) ≡ parse_line l
parse-kept c h l =
    by_order (length l) c
    (λ s. rw (take_all c l (omega arith)))
    (λ b. let e : length (take c l) ≡ c = length-take-le c l b in sym (too_long (take c l) (omega arith)) ∙ too_long l (omega arith))

-- so a memory of 2,049 bytes suffices for question lines
pub questions-in-blocks : (blocks : List (List ℕ)) → map parse_line (lines_in_blocks 2049 blocks []) ≡ map parse_line (lines_of (flatten blocks))
questions-in-blocks = lines-in-blocks parse_line 2049 (omega arith) (parse-kept 2049 (omega arith))
