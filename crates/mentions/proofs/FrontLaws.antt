-- Codes that were read from the front of some bytes: they read the same in front of any others, whatever their form. Assumes nothing.
use Rattle.base.specs.declared.Refusal.{Refusal}
use Rattle.std.specs.Prelude.{Err, Ok}
use Rattle.base.specs.Coded.{Coded}
use Rattle.base.specs.declared.Refusal.TheVariants.{BadCode, BadData}
use mathlib.Core.Path.{◌≡◌, refl, sym, ap, ◌∙◌}
use mathlib.Core.Bool.{Bool, true, false}
use mathlib.Core.List.{List, [], ◌∷◌, ◌++◌, append_assoc}
use Prim.Native.Nat.{ℕ, zero, suc, ◌+◌, ◌*◌, ◌-◌, ◌%◌, ◌≤◌}
use native.Mathlib.Omega.{arith}
use lib.Dec.{ltb, leb, eqb}
use lib.ListN.{length, take, drop, length-append, length-drop, take-append-drop}
use lib.Seq.{length-take-le, drop_at, take-add}
use borrow.Author.Tests.{le-leb, leb-true, eqb-true}
use Rattle.base.specs.Pick.{pick}
use Rattle.base.specs.Moment.{finite}
use Rattle.base.specs.Parsed.{Parsed, got, bad, bind, behind_code, parse, parse_byte}
use Rattle.base.proofs.PairLaws.{ok_parts}
use Rattle.base.proofs.Tests.{clash, pick-holds}
use Rattle.base.proofs.ParseLaws.{bad-got, got-value, got-rest}
use Rattle.counts.specs.Groups.{read_groups}
use Rattle.counts.specs.Fixed.{fixed_from, read_fixed}
use Rattle.counts.specs.Count.{read_count}
use Rattle.counts.proofs.GroupLaws.{group}
use Rattle.counts.proofs.ShortestLaws.{same-added, past-added}
use Rattle.offsets.specs.Offset.{in_day, offset_of, in_units, read_sum}
use Rattle.signed.specs.Instant.{from_raw}
use Rattle.transitions.specs.Transition.{hour, minute, year1800, in_range, from_count, from_ticks, after_count, read_moment}
use Rattle.places.specs.Name.{read_zigzag}

-- what p read from the front of s before r, as a, and that it reads the same in front of any bytes
pub record Front {A : Type 0} (p : List ℕ → Parsed A) (s : List ℕ) (a : A) (r : List ℕ) : Type 0 where
  pub used : List ℕ
  pub splits : s ≡ used ++ r
  pub again : (x : List ℕ) → p (used ++ x) ≡ got a x

-- the n bytes of a value alone say it
record Alone (read : List ℕ → Coded ℕ) (s : List ℕ) (v n : ℕ) : Type 0 where
  within : n ≤ length s
  same : (x : List ℕ) → read (take n s ++ x) ≡ Ok (v, n)

code-front : (read : List ℕ → Coded ℕ) → ((s : List ℕ) (v n : ℕ) → Ok (v, n) ≡ read s → Alone read s v n) → (s : List ℕ) (v : ℕ) (r : List ℕ)
    → parse read s ≡ got v r → Front (parse read) s v r
code-front read f s v r e = go (read s) refl e
  where
    go : (x : Coded ℕ) → x ≡ read s → behind_code s x ≡ got v r → Front (parse read) s v r
    go (Ok (w, n)) h k =
        let p = f s w n h in
        let i : w ≡ v = got-value k in
        let j : drop n s ≡ r = got-rest k in
        record {
          used = take n s;
          splits = sym (take-append-drop n s) ∙ ap (λ (y : List ℕ). take n s ++ y) j;
          again = λ x. rw (p.same x, drop_at (take n s) x n (length-take-le n s p.within)) (ap (λ (y : ℕ). got y x) i);
        }
    go (Err n) h k = bad-got k

-- ---- groups: what is not cut is the same with more bytes
group-alone : (k top : ℕ) (s : List ℕ) (v n : ℕ) → Ok (v, n) ≡ read_groups k top s → Alone (read_groups k top) s v n
group-alone k top s v n e =
    let w : n ≤ length s = (group k top s e).within in
    let l : length (take n s) ≡ n = length-take-le n s w in
    let f : Ok (v, n) ≡ read_groups k top (take n s ++ drop n s) = e ∙ ap (read_groups k top) (sym (take-append-drop n s)) in
    let p : Err BadData ≡ read_groups k top (take n s) → ⊥ = λ z. let h = past-added (drop n s) k top (take n s) z f in omega arith in
    record {
      within = w;
      same = λ x. same-added x k top (take n s) p ∙ sym (same-added (drop n s) k top (take n s) p) ∙ sym f;
    }

-- ---- offsets
fixed-alone : (n high : ℕ) (s x : List ℕ) → n ≤ length s → fixed_from n high (take n s ++ x) ≡ fixed_from n high s
unfolding fixed_from
fixed-alone zero high s x h = refl
fixed-alone (suc n) high [] x h = absurd (omega arith)
fixed-alone (suc n) high (b ∷ s) x h = fixed-alone n (high * 256 + b) s x (omega arith)

read-fixed-alone : (n high : ℕ) (s x : List ℕ) → n ≤ length s → read_fixed n high (take n s ++ x) ≡ Ok (fixed_from n high s, n)
read-fixed-alone n high s x h =
    let l : n ≤ length (take n s ++ x) = rw (length-append, length-take-le n s h) (omega arith) in
    rw (le-leb n (length (take n s ++ x)) l, fixed-alone n high s x h)

-- a value that was read takes n bytes
abbrev Sized : ℕ → Coded ℕ → Type 0
Sized n (Ok (v, k)) = k ≡ n
Sized n (Err k) = Unit {0}

sized : (n : ℕ) (r : Coded ℕ) → Sized n r → (v k : ℕ) → Ok (v, k) ≡ r → k ≡ n
sized n (Ok (w, m)) h v k e = (ok_parts e).1 ∙ h
sized n (Err j) h v k e = clash cc

offset-sized : (n coarser sum : ℕ) → Sized n (offset_of n coarser sum)
offset-sized n coarser sum =
    pick-holds (Sized n) (in_day sum) (λ _. pick-holds (Sized n) (eqb (sum % coarser) 0) (λ _. tt) (λ _. refl)) (λ _. tt)

-- a sum of n bytes behind the first
record Behind (unit coarser n high : ℕ) (s : List ℕ) (v k : ℕ) : Type 0 where
  within : n ≤ length s
  size : k ≡ suc n
  same : (x : List ℕ) → in_units unit coarser (read_fixed n high (take n s ++ x)) ≡ Ok (v, k)

behind-alone : (unit coarser n high : ℕ) (s : List ℕ) (v k : ℕ) → Ok (v, k) ≡ in_units unit coarser (read_fixed n high s)
    → Behind unit coarser n high s v k
behind-alone unit coarser n high s v k e = go (leb n (length s)) refl e
  where
    go : (t : Bool) → leb n (length s) ≡ t → Ok (v, k) ≡ in_units unit coarser (pick t (Ok (fixed_from n high s, n)) (Err BadData))
        → Behind unit coarser n high s v k
    go true h f =
        let l = leb-true n (length s) h in
        let i : k ≡ n + 1 = sized (n + 1) _ (offset-sized (n + 1) coarser (fixed_from n high s * unit)) v k f in
        record { within = l; size = omega arith; same = λ x. ap (in_units unit coarser) (read-fixed-alone n high s x l) ∙ sym f }
    go false h f = clash cc

sum-alone : (s : List ℕ) (v n : ℕ) → Ok (v, n) ≡ read_sum s → Alone read_sum s v n
unfolding read_sum
sum-alone [] v n e = clash cc
sum-alone (b ∷ s) v n e = go (ltb b 128) (ltb b 160) (ltb b 192) (ltb b 224) refl refl refl refl e
  where
    go : (t₁ t₂ t₃ t₄ : Bool) → ltb b 128 ≡ t₁ → ltb b 160 ≡ t₂ → ltb b 192 ≡ t₃ → ltb b 224 ≡ t₄
        → Ok (v, n)
        ≡ pick t₁ (offset_of 1 172800000 (b * 1800000))
        (pick t₂ (in_units 60000 1800000 (read_fixed 1 (b % 32) s))
        (pick t₃ (in_units 1000 60000 (read_fixed 2 (b % 32) s)) (pick t₄ (in_units 1 1000 (read_fixed 3 (b % 32) s)) (Err BadCode))))
        → Alone read_sum (b ∷ s) v n
    go true t₂ t₃ t₄ h₁ h₂ h₃ h₄ f =
        let i : n ≡ 1 = sized 1 _ (offset-sized 1 172800000 (b * 1800000)) v n f in
        rw i (record { within = omega arith; same = λ x. rw h₁ (sym f ∙ ap (λ (m : ℕ). Ok (v, m)) i) })
    go false true t₃ t₄ h₁ h₂ h₃ h₄ f =
        let a = behind-alone 60000 1800000 1 (b % 32) s v n f in
        rw a.size (record { within = omega (arith, a.within); same = λ x. rw (h₁, h₂) (a.same x ∙ ap (λ (m : ℕ). Ok (v, m)) a.size) })
    go false false true t₄ h₁ h₂ h₃ h₄ f =
        let a = behind-alone 1000 60000 2 (b % 32) s v n f in
        rw a.size (record { within = omega (arith, a.within); same = λ x. rw (h₁, h₂, h₃) (a.same x ∙ ap (λ (m : ℕ). Ok (v, m)) a.size) })
    go false false false true h₁ h₂ h₃ h₄ f =
        let a = behind-alone 1 1000 3 (b % 32) s v n f in
        rw a.size (record { within = omega (arith, a.within); same = λ x. rw (h₁, h₂, h₃, h₄) (a.same x ∙ ap (λ (m : ℕ). Ok (v, m)) a.size) })
    go false false false false h₁ h₂ h₃ h₄ f = clash cc

-- ---- transitions
range-sized : (n t : ℕ) → Sized n (in_range n t)
range-sized n t = pick-holds (Sized n) (finite t) (λ _. refl) (λ _. tt)

count-sized : (prev c n : ℕ) → Sized n (from_count prev c n)
unfolding from_count
count-sized prev c n =
    pick-holds (Sized n) (eqb c 0) (λ _. refl) (λ _. pick-holds (Sized n) (eqb c 1) (λ _. refl) (λ _. pick-holds (Sized n) (ltb c 128) (λ _. tt)
    (λ _. pick-holds (Sized n) (ltb c 2097152)
    (λ _. pick-holds (Sized n) (finite prev) (λ _. range-sized n (prev + c * hour)) (λ _. tt)) (λ _. range-sized n (year1800 + c * minute)))))

moment-alone : (prev : ℕ) (s : List ℕ) (v n : ℕ) → Ok (v, n) ≡ read_moment prev s → Alone (read_moment prev) s v n
unfolding read_moment
moment-alone prev s v n e = go (read_count s) refl e
  where
    ticks : (m : ℕ) → Ok (2, m) ≡ read_count s → (t : Bool) → leb 8 (length (drop m s)) ≡ t
        → Ok (v, n) ≡ from_ticks m (pick t (Ok (fixed_from 8 0 (drop m s), 8)) (Err BadData)) → Alone (read_moment prev) s v n
    ticks m h true l f =
        let c = group-alone 4 7 s 2 m h in
        let w = leb-true 8 (length (drop m s)) l in
        let d : length (drop m s) ≡ length s - m = length-drop m s in
        let i : n ≡ m + 8 = sized (m + 8) _ (range-sized (m + 8) (from_raw (fixed_from 8 0 (drop m s)))) v n f in
        rw i (record {
          within = omega (arith, c.within);
          same = λ x.
              let y : List ℕ = take 8 (drop m s) ++ x in
              let q : take (m + 8) s ++ x ≡ take m s ++ y =
              ap (λ (z : List ℕ). z ++ x) (take-add m 8 s) ∙ append_assoc (take m s) (take 8 (drop m s)) x in
              rw (q, c.same y, drop_at (take m s) y m (length-take-le m s c.within), read-fixed-alone 8 0 (drop m s) x w)
              (sym f ∙ ap (λ (m : ℕ). Ok (v, m)) i);
        })
    ticks m h false l f = clash cc

    other : (c m : ℕ) → Ok (c, m) ≡ read_count s → (t : Bool) → eqb c 2 ≡ t
        → Ok (v, n) ≡ pick t (from_ticks m (read_fixed 8 0 (drop m s))) (from_count prev c m) → Alone (read_moment prev) s v n
    other c m h true t f = ticks m (rw (eqb-true c 2 t) at h) (leb 8 (length (drop m s))) refl f
    other c m h false t f =
        let a = group-alone 4 7 s c m h in
        let i : n ≡ m = sized m _ (count-sized prev c m) v n f in
        rw i (record { within = a.within; same = λ x. rw (a.same x, t) (sym f ∙ ap (λ (m : ℕ). Ok (v, m)) i) })

    go : (r : Coded ℕ) → r ≡ read_count s → Ok (v, n) ≡ after_count prev s r → Alone (read_moment prev) s v n
    go (Ok (c, m)) h f = other c m h (eqb c 2) refl f
    go (Err k) h f = clash cc

-- ---- the codes
module _ (s : List ℕ) (v : ℕ) (r : List ℕ) where
  pub count-front : parse read_count s ≡ got v r → Front (parse read_count) s v r
  count-front = code-front read_count (group-alone 4 7) s v r

  pub zigzag-front : parse read_zigzag s ≡ got v r → Front (parse read_zigzag) s v r
  zigzag-front = code-front read_zigzag (group-alone 4 15) s v r

  pub sum-front : parse read_sum s ≡ got v r → Front (parse read_sum) s v r
  sum-front = code-front read_sum sum-alone s v r

  pub moment-front : (prev : ℕ) → parse (read_moment prev) s ≡ got v r → Front (parse (read_moment prev)) s v r
  moment-front prev = code-front (read_moment prev) (moment-alone prev) s v r

pub byte-front : (s : List ℕ) (v : ℕ) (r : List ℕ) → parse_byte s ≡ got v r → Front parse_byte s v r
unfolding parse_byte
byte-front [] v r e = bad-got e
byte-front (b ∷ s) v r e =
    let i : b ≡ v = got-value e in
    let j : s ≡ r = got-rest e in
    record { used = b ∷ []; splits = ap (λ (y : List ℕ). b ∷ y) j; again = λ x. ap (λ (y : ℕ). got y x) i }

-- two readers in a row
pub both-front : {A B : Type 0} (p : List ℕ → Parsed A) (k : A → List ℕ → Parsed B) (s : List ℕ) (a : A) (r : List ℕ) (b : B) (q : List ℕ)
    → Front p s a r → Front (k a) r b q → Front (λ x. bind (p x) k) s b q
both-front p k s a r b q f g =
    record {
      used = f.used ++ g.used;
      splits = f.splits ∙ ap (λ (y : List ℕ). f.used ++ y) g.splits ∙ sym (append_assoc f.used g.used q);
      again = λ x. rw (append_assoc f.used g.used x, f.again (g.used ++ x)) (g.again x);
    }

pub got-front : {A : Type 0} (a : A) (s : List ℕ) → Front (λ x. got a x) s a s
got-front a s = record { used = []; splits = refl; again = λ x. refl }

-- a test of what was read
pub test-front : {A : Type 0} (t : Bool) (n : Refusal) (p : List ℕ → Parsed A) (s : List ℕ) (a : A) (r : List ℕ) → t ≡ true → Front p s a r
    → Front (λ x. pick t (p x) (bad n)) s a r
test-front t n p s a r h f = record { used = f.used; splits = f.splits; again = λ x. rw h (f.again x) }
