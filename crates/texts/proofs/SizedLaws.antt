-- A text behind the code of its length, whatever code that is: what the reader's tests say, where a text that reads lies, that reading and
-- writing undo one another, and what the writer leaves. Assumes nothing.
use Rattle.std.specs.Prelude.{Err, Ok, Result}
use Rattle.base.specs.Coded.{Coded}
use Rattle.base.specs.declared.Refusal.{Refusal}
use Rattle.base.specs.declared.Refusal.TheVariants.{BadData, BadText, TooLarge, TooShort}
use mathlib.Core.Path.{◌≡◌, refl, sym, ◌∙◌, ap}
use mathlib.Core.List.{List, ◌++◌, append_assoc}
use mathlib.Core.Bool.{Bool, true, false}
use Prim.Native.Nat.{ℕ, ◌+◌, ◌-◌, ◌≤◌, ◌<◌}
use native.Mathlib.Omega.{arith}
use lib.ListN.{length, take, drop, length-drop, length-append, take-append-drop}
use lib.Seq.{take-length, take-append_seam, drop-append_seam, drop-drop, length-take-le}
use lib.Dec.{ltb}
use borrow.Author.Tests.{lt-ltb, le-ltb, le-leb, ltb-false}
use borrow.Rule.Slice.PartMut.{put_mid}
use Rattle.base.specs.Pick.{pick}
use Rattle.base.specs.Writing.{bytes, wrote, placed, Writes}
use Rattle.base.proofs.PairLaws.{ok_parts}
use Rattle.base.proofs.Tests.{clash}
use Rattle.base.proofs.Parts.{part-from, put-from}
use Rattle.base.proofs.WriteLaws.{no_room}
use Rattle.utf8.specs.Utf8.{utf8}
use Rattle.texts.specs.Text.{text_sized}
pub use Rattle.texts.specs.Facts.{Sized, Fit}

-- what the tests of the reader say
module _ (s : List ℕ) (n a : ℕ) where
  pub sized-long : 1024 < n → Err TooLarge ≡ text_sized s (Ok (n, a))
  unfolding text_sized
  sized-long l = rw (lt-ltb 1024 n l)

  module _ (l : n ≤ 1024) where
    pub sized-cut : length s - a < n → Err BadData ≡ text_sized s (Ok (n, a))
    unfolding text_sized
    sized-cut k = rw (le-ltb 1024 n l, lt-ltb (length s - a) n k)

    pub sized-tested : (b : Bool) → n ≤ length s - a → b ≡ utf8 (take (a + n - a) (drop a s)) → pick b (Ok (a, n)) (Err BadText) ≡ text_sized s (Ok (n, a))
    unfolding text_sized
    sized-tested b k q =
        let z : a + n - a ≡ n = omega arith in
        rw (rw z at q) (rw (le-ltb 1024 n l, le-ltb (length s - a) n k))

pub sized-held : (s : List ℕ) (g : Coded ℕ) (a n : ℕ) → text_sized s g ≡ Ok (a, n) → Sized s g a n
unfolding text_sized
sized-held s (Err k) a n e = clash cc
sized-held s (Ok (m, b)) a n e = one (ltb 1024 m) refl e
  where
    three : (t : Bool) → utf8 (take m (drop b s)) ≡ t → m ≤ 1024 → m ≤ length s - b → pick {A = Result (ℕ × ℕ) Refusal} t (Ok (b, m)) (Err BadText) ≡ Ok (a, n)
        → Sized s (Ok (m, b)) a n
    three true q l k p =
        let i : m ≡ n = (ok_parts p).1 in
        let j : b ≡ a = (ok_parts p).0 in
        record { code = cc (i, j); small = omega arith; room = omega arith; valid = rw (i, j) at q }
    three false q l k p = clash cc

    two : (t : Bool) → ltb (length s - b) m ≡ t → m ≤ 1024
        → pick {A = Result (ℕ × ℕ) Refusal} t (Err BadData) (pick (utf8 (take m (drop b s))) (Ok (b, m)) (Err BadText)) ≡ Ok (a, n) → Sized s (Ok (m, b)) a n
    two true q l p = clash cc
    two false q l p = three (utf8 (take m (drop b s))) refl l (ltb-false _ _ q) p

    one : (t : Bool) → ltb 1024 m ≡ t
        → pick {A = Result (ℕ × ℕ) Refusal} t (Err TooLarge) (pick (ltb (length s - b) m) (Err BadData) (pick (utf8 (take m (drop b s))) (Ok (b, m)) (Err BadText))) ≡ Ok (a, n)
        → Sized s (Ok (m, b)) a n
    one true q p = clash cc
    one false q p = two (ltb (length s - b) m) refl (ltb-false _ _ q) p

-- the bytes t behind the code w of their length
pub sized-back : (w t rest : List ℕ) → take (length t) (drop (length w) ((w ++ t) ++ rest)) ≡ t
sized-back w t rest =
    ap (λ (x : List ℕ). take (length t) (drop (length w) x)) (append_assoc w t rest)
    ∙ ap (take (length t)) (drop-append_seam w (t ++ rest))
    ∙ take-append_seam t rest

pub sized-written : (w t rest : List ℕ) → Fit t → text_sized ((w ++ t) ++ rest) (Ok (length t, length w)) ≡ Ok (length w, length t)
unfolding text_sized
sized-written w t rest f =
    let s : List ℕ = (w ++ t) ++ rest in
    let k : length t ≤ length s - length w = simp length-append (omega arith) in
    rw (le-ltb 1024 (length t) f.small, le-ltb (length s - length w) (length t) k, sized-back w t rest, f.valid)

-- bytes that start with the code w, of a bytes, of a length n that they have
pub sized-length : (s : List ℕ) (a n : ℕ) → a + n ≤ length s → length (take n (drop a s)) ≡ n
sized-length s a n h = length-take-le n (drop a s) (rw length-drop (omega arith))

pub sized-form : (s w : List ℕ) (a n : ℕ) → s ≡ w ++ drop a s → s ≡ (w ++ take n (drop a s)) ++ drop (a + n) s
sized-form s w a n e =
    let t : List ℕ = take n (drop a s) in
    let v : drop a s ≡ t ++ drop (a + n) s = sym (ap (λ (x : List ℕ). t ++ x) (sym (drop-drop n a s)) ∙ take-append-drop n (drop a s)) in
    e ∙ ap (λ (x : List ℕ). w ++ x) v ∙ sym (append_assoc w t (drop (a + n) s))

-- what the writer leaves: the code w of the length, the bytes t, and what stood behind them
module _ (w t d : List ℕ) (a : ℕ) (e : a ≡ length w) where
  pub sized-full : length d < a + length t → Writes (bytes (w ++ t)) d (Err TooShort) d
  sized-full h = no_room (w ++ t) d (simp length-append (omega arith))

  -- out is what the length's code left
  module _ (h : a + length t ≤ length d) (out : List ℕ) (q : out ≡ placed (bytes w) d) where
    length-left : out ≡ w ++ drop (length w) d
    unfolding placed
    length-left = q ∙ rw (le-leb (length w) (length d) (omega arith))

    pub same_size : length out ≡ length d
    same_size = rw length-left (simp (length-append, length-drop) (omega arith))

    rest-left : drop a out ≡ drop a d
    rest-left = rw (length-left, e) (drop-append_seam w (drop (length w) d))

    front-left : take a out ≡ w
    front-left = rw (length-left, e) (take-append_seam w (drop (length w) d))

    -- last is what the copy left of the output behind the length's code
    pub sized-left : (last : List ℕ) → last ≡ take (length t) t ++ drop (length t) (take (length out - a) (drop a out))
        → Writes (bytes (w ++ t)) d (Ok (a + length t)) (put_mid a (length out - a) out last)
    unfolding wrote placed
    sized-left last p =
        let k : length (w ++ t) ≡ a + length t = simp length-append (omega arith) in
        let m : last ≡ t ++ drop (a + length t) d = p ∙ rw (take-length t, part-from a out, rest-left, drop-drop (length t) a d) refl in
        let o : put_mid a (length out - a) out last ≡ (w ++ t) ++ drop (a + length t) d =
        put-from a out last (omega (arith, same_size)) ∙ rw (front-left, m) (sym (append_assoc w t (drop (a + length t) d))) in
        rw (k, le-leb (a + length t) (length d) h) (refl, o)
