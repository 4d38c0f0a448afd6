-- A fixed zone without a name and one with a name, be it the ID's number, are never of the same content, and the preferred file has no
-- name where its source has none. Assumes nothing.
use Rattle.std.specs.Prelude.{Err, Ok}
use Rattle.base.specs.Coded.{Coded}
use Rattle.base.specs.declared.Refusal.TheVariants.{BadData, BadInterval, BadText, TooLarge}
use mathlib.Core.Path.{◌≡◌, refl, sym, ap, ◌∙◌, subst}
use mathlib.Core.Bool.{Bool, true, false}
use mathlib.Core.List.{List, [], ◌∷◌, ◌++◌, append-nil, append_assoc}
use Prim.Native.Nat.{ℕ, ◌≤◌}
use native.Mathlib.Omega.{arith}
use lib.ListN.{length}
use lib.Seq.{drop-append_seam}
use lib.Dec.{eqb, ltb}
use borrow.Author.Tests.{eqb-true}
use Rattle.base.specs.Pick.{pick, both}
use Rattle.base.specs.Parsed.{got, bad, behind_code, parse, parse_byte, ended, many, behind}
use Rattle.base.specs.Moment.{end_of_time}
use Rattle.base.proofs.Parts.{Bytes}
use Rattle.base.proofs.ByteLaws.{cons-bytes, tail-bytes}
use Rattle.base.proofs.ParseLaws.{got-value, bad-got, bind-good, pick_good, pick-bad, ended-good}
use Rattle.counts.specs.Groups.{read_groups}
use Rattle.counts.specs.Count.{read_count, write_count}
use Rattle.counts.proofs.CountLaws.{counted, count-written, count-bytes}
use Rattle.offsets.specs.Offset.{read_sum}
use Rattle.transitions.specs.Transition.{read_moment}
use Rattle.places.specs.Name.{judge_name, parse_name}
use Rattle.intervals.specs.Interval.{parse_interval, start_of}
use Rattle.intervals.specs.declared.Interval.{Interval}
use Rattle.tails.specs.Tail.{parse_tail}
use Rattle.zones.specs.Content.{untailed, tailed, absent, present, Body, fixed, listed, Zone}
use Rattle.zones.specs.Parse.{zone_of, after_tail, parse_tailed, after_tail_byte, after_end, after_intervals, after_count, parse_listed}
use Rattle.zones.specs.Parse.{fixed_of, after_fixed_offset, parse_fixed, after_flag, after_id, parse_zone}
use Rattle.zones.specs.Lookup.{fixed_name_of, in_body}
use Rattle.frames.specs.Frame.{Field}
use Rattle.frames.specs.Fields.{fields}
use Rattle.pieces.specs.Content.{Content, content_of, print}
use Rattle.rewrite.specs.Kept.{fixed_zone, AbsenceKept}
use Rattle.rewrite.specs.Preferred.{content_in, contents, content}
use Rattle.preferred_fields.specs.Field.{FieldContent}
use Rattle.rewrite.proofs.CodeLaws.{Front, byte-front, sum-front}
use Rattle.rewrite.proofs.IntervalsLaws.{NameFront, name-front}
use Rattle.rewrite.proofs.ZoneLaws.{zone-kept}

-- ZONES OF THE SAME CONTENT SAY THE SAME, with any pool
pub same-zone : (pool : ℕ) (d e : List ℕ) (z w : Zone) (q r : List ℕ) → Bytes d → Bytes e → parse_zone pool d ≡ got z q → parse_zone pool e ≡ got w r
    → content_of 1 d ≡ content_of 1 e → z ≡ w
same-zone pool d e z w q r b c h k s =
    got-value
    (sym (zone-kept pool d z q b h).parses ∙ ap (λ (x : Content). parse_zone pool (print x)) s ∙ (zone-kept pool e w r c k).parses)

two-names : (i o id offset n : ℕ) → fixed_zone i o absent ≡ fixed_zone id offset (present n) → ⊥
two-names i o id offset n e =
    let b : fixed o absent ≡ fixed offset (present n) = ap (λ (z : Zone). z.body) e in
    let z : ◌≡◌ {A = ℕ} 0 1 = cc in
    omega arith

-- a list of intervals is no fixed zone
abbrev IsListed : Body → Type 0
IsListed (fixed offset n) = ⊥
IsListed (listed is end e) = Unit {0}

zone-listed : (id : ℕ) (b : Body) (s : List ℕ) (z : Zone) (q : List ℕ) → IsListed b → zone_of id b s ≡ got z q → IsListed z.body
unfolding zone_of
zone-listed id b s z q h e = subst (λ (x : Zone). IsListed x.body) (ended-good (record { id = id; body = b }) z s q e).0 h

tail-listed : (pool id : ℕ) (is : List Interval) (end : ℕ) (s : List ℕ) (z : Zone) (q : List ℕ) → parse_tailed pool id is end s ≡ got z q
    → IsListed z.body
unfolding parse_tailed after_tail
tail-listed pool id is end s z q e =
    let c = bind-good (parse_tail pool end s) (after_tail id is end) z q e in
    zone-listed id (listed is end (tailed c.first)) c.rest z q tt c.on

ending-listed : (pool id : ℕ) (is : List Interval) (end b : ℕ) (s : List ℕ) (z : Zone) (q : List ℕ) → after_tail_byte pool id is end b s ≡ got z q
    → IsListed z.body
unfolding after_tail_byte
ending-listed pool id is end b s z q e = go (eqb b 0) (eqb end end_of_time) (eqb b 1) (both (ltb (behind start_of end_of_time is) end) (ltb end end_of_time)) e
  where
    go : (t u v w : Bool)
        → pick t (pick u (zone_of id (listed is end untailed) s) (bad BadInterval)) (pick v (pick w (parse_tailed pool id is end s) (bad BadInterval)) (bad BadData)) ≡ got z q
        → IsListed z.body
    go true true v w k = zone-listed id (listed is end untailed) s z q tt k
    go true false v w k = bad-got k
    go false u true true k = tail-listed pool id is end s z q k
    go false u true false k = bad-got k
    go false u false w k = bad-got k

list-listed : (pool id : ℕ) (s : List ℕ) (z : Zone) (q : List ℕ) → parse_listed pool id s ≡ got z q → IsListed z.body
unfolding parse_listed after_count after_intervals after_end
list-listed pool id s z q e =
    let a = bind-good (parse read_count s) (after_count pool id) z q e in
    let f = pick-bad (eqb a.first 0) _ BadInterval z q a.on in
    let g = pick-bad (ltb 4096 a.first) _ TooLarge z q f.1 in
    let h = bind-good (many (parse_interval pool) start_of a.first end_of_time a.rest) (after_intervals pool id) z q g.1 in
    let i = bind-good (parse (read_moment (behind start_of end_of_time h.first)) h.rest) (after_end pool id h.first) z q h.on in
    let j = bind-good (parse_byte i.rest) (after_tail_byte pool id h.first i.first) z q i.on in
    ending-listed pool id h.first i.first j.first j.rest z q j.on

-- a pool number that was read is read from its written form too
name-written : (pool : ℕ) (s : List ℕ) (n : ℕ) (r : List ℕ) → parse_name pool s ≡ got n r → parse_name pool (write_count n) ≡ got n []
unfolding parse_name judge_name
name-written pool s n r e =
    let a = bind-good (parse read_count s) (judge_name pool) n r e in
    let t = pick_good (ltb a.first pool) (got a.first a.rest) BadText n r a.on in
    let i : a.first ≡ n = got-value t.1 in
    let l : ltb n pool ≡ true = subst (λ (y : ℕ). ltb y pool ≡ true) i t.0 in
    let h : n ≤ 2147483647 = subst (λ (y : ℕ). y ≤ 2147483647) i (small (read_count s) refl a.first a.rest a.is) in
    let w : parse read_count (write_count n ++ []) ≡ got n [] = rw (count-written n [] h, drop-append_seam (write_count n) []) in
    rw (ap (parse read_count) (sym (append-nil (write_count n))) ∙ w, l)
  where
    small : (x : Coded ℕ) → x ≡ read_count s → (v : ℕ) (q : List ℕ) → behind_code s x ≡ got v q → v ≤ 2147483647
    small (Ok (v, m)) h w q k =
        let j : v ≡ w = cc in
        subst (λ (y : ℕ). y ≤ 2147483647) j (counted s h).small
    small (Err m) h w q k = bad-got k

no_name : (pool n : ℕ) → parse_name pool [] ≡ got n [] → ⊥
unfolding parse_name read_groups
no_name pool n k = bad-got k

-- a name behind the offset
behind-offset : (pool id offset n : ℕ) (w : List ℕ) → parse_name pool w ≡ got n []
    → after_fixed_offset pool id offset w ≡ got (fixed_zone id offset (present n)) []
unfolding after_fixed_offset zone_of ended
behind-offset pool id offset n [] e = absurd (no_name pool n e)
behind-offset pool id offset n (b ∷ w) e = rw e

-- ID, flag 1 and offset, before any name
module _ (pool : ℕ) (d : List ℕ) (id : ℕ) (r s : List ℕ) (offset : ℕ) (a : NameFront pool d id r) (b : Front parse_byte r 1 s)
    (c : Front (parse read_sum) s offset []) where
  in_parts : (w : List ℕ) → d ++ w ≡ a.code.used ++ (b.used ++ (c.used ++ w))
  in_parts w =
      ap (λ (y : List ℕ). y ++ w)
      (a.code.splits ∙ ap (λ (y : List ℕ). a.code.used ++ y) (b.splits ∙ ap (λ (y : List ℕ). b.used ++ y) (c.splits ∙ append-nil c.used)))
      ∙ append_assoc a.code.used (b.used ++ c.used) w
      ∙ ap (λ (y : List ℕ). a.code.used ++ y) (append_assoc b.used c.used w)

  named-zone : (w : List ℕ) (n : ℕ) → parse_name pool w ≡ got n [] → parse_zone pool (d ++ w) ≡ got (fixed_zone id offset (present n)) []
  unfolding parse_zone after_id after_flag parse_fixed
  named-zone w n e =
      ap (parse_zone pool) (in_parts w)
      ∙ rw (a.again (b.used ++ (c.used ++ w)), b.again (c.used ++ w), c.again w) (behind-offset pool id offset n w e)

-- the ID's number, written behind the data of a fixed zone without a name, is its name
name-behind : (pool : ℕ) (d : List ℕ) (id offset : ℕ) → Bytes d → parse_zone pool d ≡ got (fixed_zone id offset absent) []
    → parse_zone pool (d ++ write_count id) ≡ got (fixed_zone id offset (present id)) []
unfolding parse_zone after_id after_flag parse_fixed after_fixed_offset zone_of
name-behind pool d id offset b e =
    let z : Zone = fixed_zone id offset absent in
    let a = bind-good (parse_name pool d) (after_id pool) z [] e in
    let f = bind-good (parse_byte a.rest) (after_flag pool a.first) z [] a.on in
    go a.first a.rest (name-front pool d a.first a.rest b a.is)
    (name-written pool d a.first a.rest a.is) f.first f.rest f.is (eqb f.first 1) (eqb f.first 2) refl f.on
  where
    fixed-at : (i : ℕ) (r : List ℕ) → NameFront pool d i r → parse_name pool (write_count i) ≡ got i [] → (s : List ℕ) → parse_byte r ≡ got 1 s → (o : ℕ) (q : List ℕ) → parse read_sum s ≡ got o q
        → after_fixed_offset pool i o q ≡ got (fixed_zone id offset absent) [] → parse_zone pool (d ++ write_count id) ≡ got (fixed_zone id offset (present id)) []
    fixed-at i r n p s h o [] l k =
        let u = byte-front r 1 s n.code.bytes h in
        let v = sum-front s o [] u.bytes l in
        let x : fixed_zone i o absent ≡ fixed_zone id offset absent = (ended-good (fixed_zone i o absent) (fixed_zone id offset absent) [] [] k).0 in
        let y : i ≡ id = ap (λ (w : Zone). w.id) x in
        let g : fixed o absent ≡ fixed offset absent = ap (λ (w : Zone). w.body) x in
        let m : o ≡ offset = cc in
        subst (λ (j : ℕ). parse_zone pool (d ++ write_count j) ≡ got (fixed_zone j offset (present j)) []) y
        (subst (λ (j : ℕ). parse_zone pool (d ++ write_count i) ≡ got (fixed_zone i j (present i)) []) m
        (named-zone pool d i r s o n u v (write_count i) i p))
    fixed-at i r n p s h o (c ∷ q) l k =
        let m = bind-good (parse_name pool (c ∷ q)) (fixed_of i o) (fixed_zone id offset absent) [] k in
        absurd (two-names id offset i o m.first (sym (ended-good (fixed_zone i o (present m.first)) (fixed_zone id offset absent) m.rest [] m.on).0))

    go : (i : ℕ) (r : List ℕ) → NameFront pool d i r → parse_name pool (write_count i) ≡ got i [] → (flag : ℕ) (s : List ℕ) → parse_byte r ≡ got flag s → (t u : Bool) → eqb flag 1 ≡ t
        → pick t (parse_fixed pool i s) (pick u (parse_listed pool i s) (bad BadData)) ≡ got (fixed_zone id offset absent) []
        → parse_zone pool (d ++ write_count id) ≡ got (fixed_zone id offset (present id)) []
    go i r n p flag s h true u j k =
        let c = bind-good (parse read_sum s) (after_fixed_offset pool i) (fixed_zone id offset absent) [] k in
        fixed-at i r n p s (h ∙ ap (λ (y : ℕ). got y s) (eqb-true flag 1 j)) c.first c.rest c.is c.on
    go i r n p flag s h false true j k = absurd (list-listed pool i s (fixed_zone id offset absent) [] k)
    go i r n p flag s h false false j k = bad-got k

append-bytes : (xs ys : List ℕ) → Bytes xs → Bytes ys → Bytes (xs ++ ys)
append-bytes [] ys h k = k
append-bytes (x ∷ xs) ys h k = cons-bytes x (xs ++ ys) (h 0) (append-bytes xs ys (tail-bytes x xs h) k)

-- ABSENT AND PRESENT-BUT-EQUAL ARE TWO CONTENTS, and the absence is kept
pub absence-kept : (pool : ℕ) (d : List ℕ) (id offset : ℕ) → Bytes d → parse_zone pool d ≡ got (fixed_zone id offset absent) [] → AbsenceKept pool d id offset
unfolding in_body fixed_name_of
absence-kept pool d id offset b h = record {
  kept = (zone-kept pool d (fixed_zone id offset absent) [] b h).parses;
  apart = λ e n c k s. apart e n c k s;
  equal-name = name-behind pool d id offset b h;
  alike = λ t. refl;
  equal-apart = λ s. apart (d ++ write_count id) id (append-bytes d (write_count id) b (count-bytes id)) (name-behind pool d id offset b h) s;
}
  where
    apart : (e : List ℕ) (n : ℕ) → Bytes e → parse_zone pool e ≡ got (fixed_zone id offset (present n)) [] → content_of 1 e ≡ content_of 1 d → ⊥
    apart e n c k s = two-names id offset id offset n (same-zone pool d e _ _ [] [] b c h k (sym s))

-- fields at one place of files of the same content have the same content
field-content : (gs hs is js : List Field) (g h : Field) → length gs ≡ length is → contents (gs ++ g ∷ hs) ≡ contents (is ++ h ∷ js) → content_in g ≡ content_in h
unfolding contents
field-content [] hs [] js g h l e = cc
field-content [] hs (i ∷ is) js g h l e = absurd (omega arith)
field-content (f ∷ gs) hs [] js g h l e = absurd (omega arith)
field-content (f ∷ gs) hs (i ∷ is) js g h l e =
    let t : contents (gs ++ g ∷ hs) ≡ contents (is ++ h ∷ js) = cc in
    field-content gs hs is js g h (omega arith) t

-- so two files with such zones at one place are not of the same content
pub files-apart : (f k : List ℕ) (gs hs is js : List Field) (g h : Field) (pool id offset n : ℕ) → fields f ≡ gs ++ g ∷ hs → fields k ≡ is ++ h ∷ js
    → length gs ≡ length is → g.id ≡ 1 → Bytes g.body → Bytes h.body → parse_zone pool g.body ≡ got (fixed_zone id offset absent) []
    → parse_zone pool h.body ≡ got (fixed_zone id offset (present n)) [] → content f ≡ content k → ⊥
files-apart f k gs hs is js g h pool id offset n e u l i b c p q s =
    let t : content_in g ≡ content_in h = field-content gs hs is js g h l (ap contents (sym e) ∙ s ∙ ap contents u) in
    let a : content_of g.id g.body ≡ content_of h.id h.body = ap (λ (x : FieldContent). x.content) t in
    let j : h.id ≡ 1 = sym (ap (λ (x : FieldContent). x.id) t) ∙ i in
    (absence-kept pool g.body id offset b p).apart h.body n c q
    (subst (λ (y : ℕ). content_of y h.body ≡ content_of 1 g.body) j (subst (λ (y : ℕ). content_of h.id h.body ≡ content_of y g.body) i (sym a)))
