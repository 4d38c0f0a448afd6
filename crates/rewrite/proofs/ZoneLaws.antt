-- THE ZONE'S LAW: the preferred data of a zone are no longer, and have its content and its parse. Assumes nothing.
use Rattle.base.specs.declared.Refusal.TheVariants.{BadData, BadInterval, TooLarge}
use mathlib.Core.Path.{◌≡◌, refl, sym, ap, ◌∙◌}
use mathlib.Core.Bool.{Bool, true, false}
use mathlib.Core.List.{List, [], ◌++◌, append-nil, append_assoc}
use Prim.Native.Nat.{ℕ, suc, ◌+◌, ◌≤◌}
use native.Mathlib.Omega.{arith}
use lib.ListN.{length, length-append}
use lib.Dec.{eqb, ltb}
use borrow.Author.Tests.{eqb-true}
use Rattle.base.specs.Pick.{pick}
use Rattle.base.specs.Parsed.{got, bad, parse, parse_byte, many, behind}
use Rattle.base.specs.Moment.{end_of_time}
use Rattle.base.proofs.Parts.{Bytes}
use Rattle.base.proofs.ParseLaws.{bad-got, bind-good, pick-bad}
use Rattle.counts.specs.Count.{read_count}
use Rattle.transitions.specs.Transition.{read_moment}
use Rattle.places.specs.Name.{parse_name}
use Rattle.intervals.specs.Interval.{parse_interval, start_of}
use Rattle.intervals.specs.declared.Interval.{Interval}
use Rattle.zones.specs.Content.{Zone}
use Rattle.zones.specs.Parse.{parse_zone, after_id, after_flag, after_count, parse_fixed, parse_listed, after_intervals, after_end}
use Rattle.zones.proofs.SoundLaws.{zone-sound}
use Rattle.pieces.specs.Content.{Piece, Content, plain, bytes_up_to, parse_head, after_head, parse_content, content_of, parse_pieces, print_pieces, print}
use Rattle.pieces.specs.Content.{after_id as after_name, after_flag as behind_flag, after_count as behind_count}
use Rattle.rewrite.specs.Kept.{ZoneKept}
use Rattle.pieces.proofs.PieceLaws.{up-to-front}
use Rattle.rewrite.proofs.CodeLaws.{Front, count-front, byte-front}
use Rattle.rewrite.proofs.IntervalsLaws.{NameFront, name-front, list-kept}

content-is : (d : List ℕ) (c : Content) → parse_content d ≡ got c [] → content_of 1 d ≡ c
unfolding content_of
content-is d c e = rw e

-- from the content c of d
of-content : (pool : ℕ) (d : List ℕ) (z : Zone) (c : Content) → parse_content d ≡ got c [] → parse_content (print c) ≡ got c []
    → length (print c) ≤ length d → (length (print c) ≡ length d → print c ≡ d) → parse_zone pool (print c) ≡ got z [] → ZoneKept pool d z
of-content pool d z c e f l x p =
    let i : content_of 1 d ≡ c = content-is d c e in
    record {
      read = e ∙ ap (λ (x : Content). got x []) (sym i);
      same = ap (λ (x : Content). content_of 1 (print x)) i ∙ content-is (print c) c f ∙ sym i;
      shorter = rw i l;
      exact = rw i x;
      parses = ap (λ (x : Content). parse_zone pool (print x)) i ∙ p;
    }

-- a fixed zone has no transition, and is copied
fixed_kept : (pool : ℕ) (d : List ℕ) (z : Zone) (id : ℕ) (r s : List ℕ) → parse read_count d ≡ got id r → parse_byte r ≡ got 1 s
    → parse_zone pool d ≡ got z [] → ZoneKept pool d z
unfolding parse_content parse_head after_name behind_flag after_head parse_pieces print print_pieces
fixed_kept pool d z id r s e f p =
    let u : bytes_up_to d [] ≡ d = ap (λ (y : List ℕ). bytes_up_to y []) (sym (append-nil d)) ∙ up-to-front d [] in
    let c : parse_content d ≡ got (plain d) [] = rw (e, f) (ap (λ (y : List ℕ). got (plain y) []) u) in
    let k : print (plain d) ≡ d = append-nil d in
    of-content pool d z (plain d) c (ap parse_content k ∙ c) (rw k (omega arith)) (λ l. k) (ap (parse_zone pool) k ∙ p)

-- a zone whose count, intervals and end transition were read
after-end : (pool id n : ℕ) (x : List ℕ) (is : List Interval) (q : List ℕ) (end : ℕ) (r : List ℕ) → eqb n 0 ≡ false → ltb 4096 n ≡ false
    → many (parse_interval pool) start_of n end_of_time x ≡ got is q → parse (read_moment (behind start_of end_of_time is)) q ≡ got end r
    → after_count pool id n x ≡ after_end pool id is end r
unfolding after_count after_intervals
after-end pool id n x is q end r e f g h = rw (e, f, g, h)

-- ID, flag 2 and interval count, before any x
module _ (pool : ℕ) (d : List ℕ) (id : ℕ) (r s : List ℕ) (n : ℕ) (t : List ℕ) (a : NameFront pool d id r) (b : Front parse_byte r 2 s)
    (c : Front (parse read_count) s n t) where
  head : List ℕ
  head = a.code.used ++ (b.used ++ c.used)

  in_parts : (x : List ℕ) → head ++ x ≡ a.code.used ++ (b.used ++ (c.used ++ x))
  unfolding head
  in_parts x =
      append_assoc a.code.used (b.used ++ c.used) x
      ∙ ap (λ (y : List ℕ). a.code.used ++ y) (append_assoc b.used c.used x)

  head-splits : d ≡ head ++ t
  head-splits =
      a.code.splits
      ∙ ap (λ (y : List ℕ). a.code.used ++ y) (b.splits ∙ ap (λ (y : List ℕ). b.used ++ y) c.splits)
      ∙ sym (in_parts t)

  head-parses : (x : List ℕ) → parse_head (head ++ x) ≡ got (suc n) x
  unfolding parse_head after_name behind_flag behind_count
  head-parses x = ap parse_head (in_parts x) ∙ rw (a.code.again (b.used ++ (c.used ++ x)), b.again (c.used ++ x), c.again x)

  head-content : (x : List ℕ) (ps : List Piece) → parse_pieces (suc n) end_of_time x ≡ got ps []
      → parse_content (head ++ x) ≡ got (record { head = head; pieces = ps }) []
  unfolding parse_content after_head
  head-content x ps e = rw (head-parses x, e) (ap (λ (y : List ℕ). got (record { head = y; pieces = ps }) []) (up-to-front head x))

  head-zone : (x : List ℕ) → parse_zone pool (head ++ x) ≡ after_count pool id n x
  unfolding parse_zone after_id after_flag parse_listed
  head-zone x = ap (parse_zone pool) (in_parts x) ∙ rw (a.again (b.used ++ (c.used ++ x)), b.again (c.used ++ x), c.again x)

  same : (xs ys : List ℕ) → (length xs ≡ length ys → xs ≡ ys) → length head + length xs ≡ length head + length ys → head ++ xs ≡ head ++ ys
  same xs ys f e = ap (λ (x : List ℕ). head ++ x) (f (omega arith))

  -- a list of intervals is kept, so the zone is
  listed_kept : (z : Zone) → after_count pool id n t ≡ got z [] → ZoneKept pool d z
  unfolding after_count after_intervals print
  listed_kept z e =
      let f = pick-bad (eqb n 0) _ BadInterval z [] e in
      let g = pick-bad (ltb 4096 n) _ TooLarge z [] f.1 in
      let h = bind-good (many (parse_interval pool) start_of n end_of_time t) (after_intervals pool id) z [] g.1 in
      let i = bind-good (parse (read_moment (behind start_of end_of_time h.first)) h.rest) (after_end pool id h.first) z [] h.on in
      let k = list-kept pool n end_of_time t h.first h.rest i.first i.rest c.bytes h.is i.is in
      let xs : List ℕ = print_pieces end_of_time k.pieces in
      let j : length d ≡ length head + length t = ap length head-splits ∙ length-append head t in
      let l : length xs ≤ length t = k.shorter in
      of-content pool d z (record { head = head; pieces = k.pieces })
      (ap parse_content head-splits ∙ head-content t k.pieces k.read)
      (head-content xs k.pieces k.again)
      (rw (length-append, j) (omega arith))
      (λ e. same xs t k.exact (rw (length-append, j) at e) ∙ sym head-splits)
      (head-zone xs ∙ after-end pool id n xs h.first k.rest i.first i.rest f.0 g.0 k.listed k.ended ∙ i.on)

-- THE PREFERRED DATA OF EVERY ZONE keep its content and its parse, and are no longer
pub zone-kept : (pool : ℕ) (d : List ℕ) (z : Zone) (q : List ℕ) → Bytes d → parse_zone pool d ≡ got z q → ZoneKept pool d z
unfolding parse_zone after_id after_flag parse_listed
zone-kept pool d z q b e =
    let o : q ≡ [] = (zone-sound pool d z q e).1 in
    let e' : parse_zone pool d ≡ got z [] = e ∙ ap (got z) o in
    let a = bind-good (parse_name pool d) (after_id pool) z [] e' in
    let n = name-front pool d a.first a.rest b a.is in
    let f = bind-good (parse_byte a.rest) (after_flag pool a.first) z [] a.on in
    go a.first a.rest n f.first f.rest f.is e' (eqb f.first 1) (eqb f.first 2) refl refl f.on
  where
    go : (id : ℕ) (r : List ℕ) → NameFront pool d id r → (flag : ℕ) (s : List ℕ) → parse_byte r ≡ got flag s → parse_zone pool d ≡ got z []
        → (t u : Bool) → eqb flag 1 ≡ t → eqb flag 2 ≡ u
        → pick t (parse_fixed pool id s) (pick u (parse_listed pool id s) (bad BadData)) ≡ got z [] → ZoneKept pool d z
    go id r n flag s i p true u j l k =
        fixed_kept pool d z id r s (ap (parse read_count) n.code.splits ∙ n.code.again r) (i ∙ ap (λ (y : ℕ). got y s) (eqb-true flag 1 j)) p
    go id r n flag s i p false true j l k =
        let c = bind-good (parse read_count s) (after_count pool id) z [] k in
        let b2 = byte-front r 2 s n.code.bytes (i ∙ ap (λ (y : ℕ). got y s) (eqb-true flag 2 l)) in
        listed_kept pool d id r s c.first c.rest n b2 (count-front s c.first c.rest b2.bytes c.is) z c.on
    go id r n flag s i p false false j l k = bad-got k
