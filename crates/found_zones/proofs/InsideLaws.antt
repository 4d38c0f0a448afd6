-- The name of an answer lies in the bytes, and a refusal's place in a file, whatever the numbers of a found zone are. Assumes nothing.
use Rattle.base.specs.declared.Refusal.{Refusal}
use Rattle.base.specs.declared.Refusal.TheVariants.{BadData, BadText}
use Rattle.std.specs.Prelude.{Err, Ok, Result}
use Rattle.base.specs.Coded.{Coded, Fault}
use mathlib.Core.Path.{◌≡◌, refl, sym, ap, ◌∙◌, subst}
use mathlib.Core.Bool.{Bool, true, false}
use mathlib.Core.List.{List, []}
use Prim.Native.Nat.{ℕ, zero, suc, ◌+◌, ◌-◌, ◌≤◌, ◌<◌}
use native.Mathlib.Omega.{arith}
use lib.IntN.{ℤ}
use lib.Dec.{ltb, leb, eqb}
use lib.ListN.{length, take, drop, length-take, length-drop}
use borrow.Author.Tests.{leb-true, eqb-false}
use Rattle.base.specs.Pick.{pick, both}
use Rattle.base.specs.Parsed.{Parsed, got, bad, bind, behind_code, parse}
use Rattle.base.proofs.ParseLaws.{bad-got, got-value, got-rest, bind-good, pick_good}
use Rattle.base.proofs.Tests.{both_left, both_right, pick-holds, clash}
use Rattle.counts.specs.Count.{read_count}
use Rattle.counts.proofs.CountLaws.{counted}
use Rattle.signed.specs.Instant.{instant_of}
use Rattle.pool.specs.Index.{room_in, room_of}
use Rattle.string_search.specs.Search.{judge_length, parse_string, nth_string, string_numbered, span_in, string_span}
use Rattle.location_lookup.specs.Location.{lent_part, text_in}
use Rattle.location_lookup.proofs.LookupLaws.{lent-in}
use Rattle.zones.specs.Content.{Zone}
use Rattle.zones.specs.Editions.{under}
use Rattle.zones.specs.Lookup.{in_zone}
use Rattle.zones.specs.declared.Edition.{Edition}
use Rattle.zones.proofs.SoundLaws.{zone-sound}
use Rattle.answers.specs.declared.Found.{Found}
use Rattle.found_zones.specs.FoundZone.{zone_at, answer_in, place_in, zone_answer, ask_zone}
use Rattle.found_zones.specs.declared.FoundZone.{FoundZone}

-- what is read of a string, whether the pool is taken or not
record Reads (s r : List ℕ) (n : ℕ) : Type 0 where
  size : n ≤ length r
  rest : length r ≤ length s

code-rest : (s : List ℕ) (v : ℕ) (r : List ℕ) → parse read_count s ≡ got v r → length r ≤ length s
code-rest s v r e = go (read_count s) e
  where
    go : (x : Coded ℕ) → behind_code s x ≡ got v r → length r ≤ length s
    go (Ok (w, n)) e = let z : drop n s ≡ r = got-rest e in rw (← z) (rw (length-drop n s) (omega arith))
    go (Err k) e = bad-got e

string-reads : (s : List ℕ) (n : ℕ) (r : List ℕ) → parse_string s ≡ got n r → Reads s r n
unfolding parse_string judge_length
string-reads s n r e =
    let x = bind-good (parse read_count s) judge_length n r e in
    let y = pick_good (leb x.first (length x.rest)) (got x.first x.rest) BadData n r x.on in
    let i : x.first ≡ n = got-value y.1 in
    let j : x.rest ≡ r = got-rest y.1 in
    let l : x.first ≤ length x.rest = leb-true x.first (length x.rest) y.0 in
    record { size = omega (arith, ap length j); rest = omega (arith, ap length j, code-rest s x.first x.rest x.is) }

nth-reads : (k : ℕ) (s : List ℕ) (n : ℕ) (r : List ℕ) → nth_string k s ≡ got n r → Reads s r n
unfolding nth_string
nth-reads zero s n r e = string-reads s n r e
nth-reads (suc k) s n r e =
    let x = bind-good (parse_string s) (λ m q. nth_string k (drop m q)) n r e in
    let a = string-reads s x.first x.rest x.is in
    let b = nth-reads k (drop x.first x.rest) n r x.on in
    record { size = b.size; rest = omega (arith, a.rest, b.rest, length-drop x.first x.rest) }

span-in : (d : List ℕ) (k : ℕ) → (string_span d k).at + (string_span d k).len ≤ length d
unfolding string_span string_numbered
span-in d k = go (bind (parse read_count d) (string_numbered k)) refl
  where
    go : (p : Parsed ℕ) → bind (parse read_count d) (string_numbered k) ≡ p → (span_in d p).at + (span_in d p).len ≤ length d
    go (got n r) e =
        let x = bind-good (parse read_count d) (string_numbered k) n r e in
        let y = pick_good (ltb k x.first) (nth_string k x.rest) BadText n r x.on in
        let w = nth-reads k x.rest n r y.1 in
        omega (arith, w.size, w.rest, code-rest d x.first x.rest x.is)
    go (bad m) e = omega arith

-- a pool with a string is a part of the bytes
no_room : room_of [] ≡ 0
unfolding room_in
no_room = go (read_count []) refl
  where
    go : (x : Coded ℕ) → read_count [] ≡ x → room_in x ≡ 0
    go (Ok (v, n)) e = let c = counted [] (sym e) in absurd (omega (arith, c.some, c.within))
    go (Err m) e = refl

room-lent : (f : List ℕ) (b c : ℕ) → 0 < room_of (lent_part f b c) → (b ≤ c) × (c ≤ length f)
unfolding lent_part
room-lent f b c = go (both (leb c (length f)) (leb b c)) refl
  where
    go : (t : Bool) → both (leb c (length f)) (leb b c) ≡ t → 0 < room_of (pick t (take (c - b) (drop b f)) []) → (b ≤ c) × (c ≤ length f)
    go true q l = (leb-true b c (both_right (leb c (length f)) (leb b c) q), leb-true c (length f) (both_left (leb c (length f)) (leb b c) q))
    go false q l = absurd (omega (arith, no_room))

pub text-inside : (f : List ℕ) (b c k : ℕ) → 0 < room_of (lent_part f b c) → (text_in f b c k).at + (text_in f b c k).len ≤ length f
unfolding text_in
text-inside f b c k h =
    let w = room-lent f b c h in
    let n : length (lent_part f b c) ≤ c - b = rw (← lent-in f b c w.1 w.0) (rw (length-take (c - b) (drop b f)) (omega arith)) in
    omega (arith, w.0, w.1, span-in (lent_part f b c) k)

-- a name that lies in f, or a place in a file
abbrev InsideTo : List ℕ → Result Found Fault → Type 0
InsideTo f (Ok x) = x.name + x.length ≤ length f
InsideTo f (Err (n, p)) = p ≤ 4194304

record Inside (f : List ℕ) (a : Result Found Fault) : Type 0 where
  to : InsideTo f a

module _ (f : List ℕ) (v : FoundZone) (z : ℤ) (ed : Edition) where
  answer-inside : (t : ℕ) (p : Parsed Zone) → zone_at f v ≡ p → Inside f (zone_answer f v ed t p)
  answer-inside t (got y r) e =
      let i = (zone-sound (room_of (lent_part f v.pool v.past)) (lent_part f v.start v.end) y r e).0.id-ok in
      record { to = text-inside f v.pool v.past (in_zone t (under ed y)).name (omega arith) }
  answer-inside t (bad n) e =
      record { to = pick-holds (λ (p : ℕ). p ≤ 4194304) (leb v.place 4194304) (λ h. leb-true v.place 4194304 h) (λ h. omega arith) }

  zone-inside : Inside f (ask_zone f v z ed)
  unfolding ask_zone
  zone-inside =
      pick-holds (Inside f) (eqb (instant_of z) 0) (λ e. record { to = omega arith }) (λ e. answer-inside (instant_of z) (zone_at f v) refl)

  pub zone-name : (x : Found) → ask_zone f v z ed ≡ Ok x → x.name + x.length ≤ length f
  zone-name x e = (subst (Inside f) e zone-inside).to

  pub zone-place : (n : Refusal) (p : ℕ) → ask_zone f v z ed ≡ Err (n, p) → p ≤ 4194304
  zone-place n p e = (subst (Inside f) e zone-inside).to
