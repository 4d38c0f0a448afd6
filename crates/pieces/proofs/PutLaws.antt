-- Lists written one behind the other, each by a callee that is lent the output from the present place on. Assumes nothing.
use mathlib.Core.Path.{◌≡◌, refl, ◌∙◌}
use mathlib.Core.List.{List, [], ◌∷◌, ◌++◌, append_assoc}
use Prim.Native.Nat.{ℕ, ◌+◌, ◌-◌, ◌≤◌, ◌<◌}
use native.Mathlib.Omega.{arith}
use lib.ListN.{length, set, take, drop, length-append, length-drop}
use lib.Seq.{take-length, take-append_seam, drop-append_seam, drop-drop, drop_at, length-take-le}
use borrow.Rule.Slice.PartMut.{put_mid}
use Rattle.base.proofs.Parts.{part-from, put-from}
use Rattle.pieces.specs.View.{Put}

pub put-none : (d : List ℕ) → Put [] d 0 d
put-none d = record { size = refl; left = refl }

pub put_is : (xs ys d e : List ℕ) (n : ℕ) → Put xs d n e → ys ≡ xs → Put ys d n e
put_is xs ys d e n p h = rw h p

pub put-length : {xs d e : List ℕ} {n : ℕ} → Put xs d n e → length xs ≤ length d → length e ≡ length d
put-length p h = rw p.left (simp (length-append, length-drop) (omega arith))

-- what copying xs leaves
pub copied : (xs d e : List ℕ) (n : ℕ) → n ≡ length xs → e ≡ take (length xs) xs ++ drop (length xs) d → Put xs d n e
copied xs d e n h k = record { size = h; left = k ∙ rw (take-length xs) }

pub first-room : (xs ys d : List ℕ) → length (xs ++ ys) ≤ length d → length xs ≤ length d
first-room xs ys d h = let k : length xs + length ys ≤ length d = rw length-append at h in omega arith

-- zs is xs and then ys, and d has room for it
pub record InTwo (zs xs ys d : List ℕ) : Type 0 where
  pub all : zs ≡ xs ++ ys
  pub room : length zs ≤ length d

module _ {zs xs ys d : List ℕ} (k : InTwo zs xs ys d) where
  pub sum_room : length xs + length ys ≤ length d
  sum_room = rw length-append at (rw k.all at k.room)

  pub front-room : length xs ≤ length d
  front-room = let h = sum_room in omega arith

  -- xs stands in the output e
  module _ {e : List ℕ} {n : ℕ} (p : Put xs d n e) where
    pub same-room : length e ≡ length d
    same-room = put-length p front-room

    pub front-within : n ≤ length e
    front-within = rw (p.size, same-room) front-room

    lent_length : length (take (length e - n) (drop n e)) ≡ length d - length xs
    lent_length = rw (part-from n e, length-drop, same-room, p.size)

    pub rest-room : length ys ≤ length (take (length e - n) (drop n e))
    rest-room = let h = sum_room in rw lent_length (omega arith)

    -- and behind it ys, where the callee was lent the rest
    module _ {f : List ℕ} {m : ℕ} (q : Put ys (take (length e - n) (drop n e)) m f) where
      pub both-sum : n + m ≤ length d
      both-sum = rw (p.size, q.size) sum_room

      lent : drop n e ≡ drop (length xs) d
      lent = rw (p.size, p.left) (drop-append_seam xs (drop (length xs) d))

      front : take n e ≡ xs
      front = rw (p.size, p.left) (take-append_seam xs (drop (length xs) d))

      behind : f ≡ ys ++ drop (length xs + length ys) d
      behind = q.left ∙ rw (part-from n e, lent, drop-drop)

      whole : put_mid n (length e - n) e f ≡ zs ++ drop (length zs) d
      whole = put-from n e f front-within ∙ rw (front, behind, k.all, append_assoc, length-append)

      pub both-put : Put zs d (n + m) (put_mid n (length e - n) e f)
      both-put = record { size = rw (k.all, length-append, p.size, q.size); left = whole }

      pub both-length : length (put_mid n (length e - n) e f) ≡ length d
      both-length = put-length both-put k.room

  -- the other way round: ys behind the room of xs, then xs
  module _ {n : ℕ} (i : n ≡ length xs) where
    pub back-within : n ≤ length d
    back-within = rw i front-room

    pub back-room : length ys ≤ length (take (length d - n) (drop n d))
    back-room = let h = sum_room in rw (part-from n d, length-drop) (omega arith)

    module _ {f : List ℕ} {m : ℕ} (q : Put ys (take (length d - n) (drop n d)) m f) where
      back : put_mid n (length d - n) d f ≡ take n d ++ f
      back = put-from n d f back-within

      rest : f ≡ ys ++ drop (length xs + length ys) d
      rest = q.left ∙ rw (part-from n d, drop-drop, i)

      pub back-length : length (put_mid n (length d - n) d f) ≡ length d
      back-length =
          let h = sum_room in
          rw (back, length-append, length-take-le n d back-within, rest, length-append, length-drop) (omega arith)

      pub back-front : length xs ≤ length (put_mid n (length d - n) d f)
      back-front = rw back-length front-room

      -- what stands behind the room of xs is ys and what stood there
      behind-room : drop (length xs) (put_mid n (length d - n) d f) ≡ f
      behind-room = rw back (drop_at (take n d) f (length xs) (length-take-le n d back-within ∙ i))

      module _ {e : List ℕ} {w : ℕ} (p : Put xs (put_mid n (length d - n) d f) w e) where
        pub back_sum : w + m ≤ length d
        back_sum = rw (p.size, q.size) sum_room

        pub back-put : Put zs d (w + m) e
        back-put =
            record {
              size = rw (k.all, length-append, p.size, q.size);
              left = p.left ∙ rw (behind-room, rest, k.all, append_assoc, length-append);
            }

-- one byte
pub put_one : (b : ℕ) (d : List ℕ) → 0 < length d → Put (b ∷ []) d 1 (set d 0 b)
put_one b [] h = absurd (omega arith)
put_one b (x ∷ d) h = record { size = refl; left = refl }
