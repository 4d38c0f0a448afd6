-- A list of numbers that stands for strings of ts stands for the same strings of a longer list. Assumes nothing.
use mathlib.Core.Path.{◌≡◌, refl, sym, ◌∙◌, ap}
use mathlib.Core.List.{List, [], ◌∷◌, ◌++◌}
use Prim.Native.Nat.{ℕ, zero, suc, ◌+◌, ◌≤◌, ◌<◌}
use native.Mathlib.Omega.{arith}
use lib.ListN.{length, length-append, get_or-append}
use Rattle.ids.specs.Ids.{among}
use Rattle.ids.specs.Layout.{number_at}
use Rattle.ids.specs.Memory.{text_at, texts_of, how_many, Sorted, Keeps, Between}

how_many-wider : (ts us xs : List (List ℕ)) → how_many ts xs ≤ how_many (ts ++ us) xs
unfolding how_many
how_many-wider [] us xs = omega arith
how_many-wider (t ∷ ts) us xs = omega (arith, how_many-wider ts us xs)

module _ (ts us : List (List ℕ)) (od : List ℕ) (n : ℕ) (s : Sorted ts od n) where
  text-wider : (i : ℕ) → i < n → text_at (ts ++ us) od i ≡ text_at ts od i
  text-wider i h = get_or-append ts us [] (number_at od i) (s.known i h)

  texts-wider : (m : ℕ) → m ≤ n → texts_of (ts ++ us) od m ≡ texts_of ts od m
  unfolding texts_of
  texts-wider zero l = refl
  texts-wider (suc m) l = rw (text-wider m l, texts-wider m (omega arith)) refl

  pub sorted-wider : length (ts ++ us) + 257 ≤ length od → Sorted (ts ++ us) od n
  sorted-wider room =
      record {
        room = room;
        roomy = s.roomy;
        known = λ i h. simp length-append (omega (arith, s.known i h));
        rising = λ i j h l. rw (text-wider i (omega arith), text-wider j l) (s.rising i j h l);
        few = rw (texts-wider n (omega arith)) (omega (arith, s.few, how_many-wider ts us (texts_of ts od n)));
      }

  pub between-wider : (x : List ℕ) (p : ℕ) → Between ts od n x p → Between (ts ++ us) od n x p
  between-wider x p b =
      record {
        inside = b.inside;
        below = λ i h. rw (text-wider i (omega (arith, b.inside))) (b.below i h);
        above = λ i g h. rw (text-wider i h) (b.above i g h);
      }

pub keeps-wider : (ts us : List (List ℕ)) (od : List ℕ) (n : ℕ) (mem : List (List ℕ)) → length (ts ++ us) + 257 ≤ length od → Keeps ts od n mem → Keeps (ts ++ us) od n mem
keeps-wider ts us od n mem room k =
    record {
      sorted = sorted-wider ts us od n k.sorted room;
      same = λ x. k.same x ∙ ap (among x) (sym (texts-wider ts us od n k.sorted n (omega arith)));
    }
