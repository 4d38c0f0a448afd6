-- Where a string belongs in the list, by its places in the buffer and in the main list. Assumes nothing.
use mathlib.Core.Path.{◌≡◌, refl, ◌∙◌, ap, subst}
use mathlib.Core.List.{List, []}
use Prim.Native.Nat.{ℕ, zero, suc, ◌+◌, ◌-◌, ◌≤◌, ◌<◌}
use native.Mathlib.Omega.{arith}
use lib.ListN.{length, get_or}
use Rattle.base.proofs.Tests.{by_order}
use Rattle.string_order.specs.Order.{ordering}
use Rattle.std.specs.declared.cmp.Ordering.TheVariants.{Less}
use Rattle.string_order.proofs.OrderLaws.{less-trans}
use Rattle.ids.specs.Layout.{buffered, ahead, buffer_size, number_at, Placed, Fits, low_of, high_of}
use Rattle.ids.specs.Parts.{text_in, Run, Splits, Located}
use Rattle.ids.specs.Memory.{text_at, Sorted, Between, Finds}
use Rattle.ids.specs.declared.Place.{Place}
use Rattle.ids.specs.declared.Place.TheVariants.{Seen, Free}
use Rattle.ids.specs.declared.Gap.TheVariants.{Known, New}
use Rattle.ids.proofs.MemoryLaws.{sorted-most}
use Rattle.ids.proofs.LayoutLaws.{buffer-at, main-between, low-above, low-high, high-inner, high-outer, high-below, high-most}

-- the numbers of a part of the array stand in the list at the places that `to` gives, one after the other
record Part (od : List ℕ) (n a e : ℕ) (to : ℕ → ℕ) : Type 0 where
  order : a ≤ e
  most : e ≤ 8449
  room : e ≤ length od
  is : (i : ℕ) → a ≤ i → i < e → number_at od (to i) ≡ get_or od i 0
  inside : (i : ℕ) → a ≤ i → i < e → to i < n
  up : (i j : ℕ) → a ≤ i → i < j → j < e → to i < to j

module _ (od : List ℕ) (n : ℕ) (p : Placed od n (buffer_size od)) (few : n ≤ 8192) (room : n + 257 ≤ length od) where
  buffer-part : Part od n 0 (buffer_size od) (λ i. ahead od i + i)
  unfolding buffered
  buffer-part =
      record {
        order = omega arith;
        most = omega (arith, p.few);
        room = omega (arith, p.few);
        is = λ i g h. buffer-at od n (buffer_size od) p i h;
        inside = λ i g h. omega (arith, p.fits i h);
        up = λ i j g h l. omega (arith, p.rising i j (omega arith) l);
      }

  main-part : (j : ℕ) → j ≤ buffer_size od → Part od n (257 + low_of od j) (257 + high_of od (n - buffer_size od) (buffer_size od) j) (λ i. i - 257 + j)
  main-part j l =
      record {
        order = omega (arith, low-high od n (buffer_size od) p j l);
        most = omega (arith, high-most od n (buffer_size od) p j l);
        room = omega (arith, high-most od n (buffer_size od) p j l);
        is = λ i g h.
            let z : 257 + (i - 257) ≡ i = omega arith in
            main-between od n (buffer_size od) p (i - 257) j l (omega arith) (omega arith) ∙ ap (λ (k : ℕ). get_or od k 0) z;
        inside = λ i g h. omega (arith, high-most od n (buffer_size od) p j l, p.inside);
        up = λ i k g h m. omega arith;
      }

module _ (ts : List (List ℕ)) (od : List ℕ) (n : ℕ) (s : Sorted ts od n) where
  module _ (a e : ℕ) (to : ℕ → ℕ) (p : Part od n a e to) where
    text-is : (i : ℕ) → a ≤ i → i < e → text_at ts od (to i) ≡ text_in ts od i
    text-is i g h = ap (λ (k : ℕ). get_or ts k []) (p.is i g h)

    part-run : Run ts od a e
    part-run =
        record {
          room = p.room;
          order = p.order;
          inside = p.most;
          known = λ i g h. rw (← (p.is i g h)) (s.known (to i) (p.inside i g h));
          rising = λ i j g h l.
              rw (← (text-is i g (omega arith)), ← (text-is j (omega arith) l))
              (s.rising (to i) (to j) (p.up i j g h l) (p.inside j (omega arith) l));
        }

    part-seen : (x : List ℕ) (r : Place) → Located ts od a e x r → (k : ℕ) → r ≡ Seen k → Finds ts od n x (Known k)
    part-seen x r f k q =
        let h = (rw q at f).is in
        record {
          is =
              record {
                place = to h.place;
                inside = p.inside _ h.from h.inside;
                number = p.is _ h.from h.inside ∙ h.number;
                is = h.is;
              };
        }

  module _ (few : n ≤ 8192) where
    fits_in : n + 257 ≤ length od
    fits_in = omega (arith, sorted-most ts od n s, s.room)

    pub buffer-run : Run ts od 0 (buffer_size od)
    buffer-run = part-run _ _ _ (buffer-part od n s.roomy.placed few fits_in)

    pub main-run : (j : ℕ) → j ≤ buffer_size od → Run ts od (257 + low_of od j) (257 + high_of od (n - buffer_size od) (buffer_size od) j)
    main-run j l = part-run _ _ _ (main-part od n s.roomy.placed few fits_in j l)

    pub low-few : (j : ℕ) → j ≤ buffer_size od → low_of od j ≤ 8192
    low-few j l = omega (arith, low-high od n _ s.roomy.placed j l, high-most od n _ s.roomy.placed j l)

    pub high-few : (j : ℕ) → j ≤ buffer_size od → high_of od (n - buffer_size od) (buffer_size od) j ≤ 8192
    high-few j l = omega (arith, high-most od n _ s.roomy.placed j l)

    -- x comes behind j of the buffer and i of the main list
    module _ (x : List ℕ) (j i : ℕ) (l : j ≤ buffer_size od) (u : Splits ts od 0 (buffer_size od) x j)
        (v : Splits ts od (257 + low_of od j) (257 + high_of od (n - buffer_size od) (buffer_size od) j) x (257 + i)) where
      p : Placed od n (buffer_size od)
      p = s.roomy.placed

      fits : Fits od n i j
      fits =
          record {
            few = l;
            inside = omega (arith, v.inside, high-most od n (buffer_size od) p j l, p.inside);
            below = λ t h. omega (arith, v.from, low-above od n (buffer_size od) p j t l h);
            above = λ t g h. omega (arith, v.inside, high-below od n (buffer_size od) p j t g h);
          }

      main-text : (q : ℕ) → low_of od j ≤ q → q < high_of od (n - buffer_size od) (buffer_size od) j → text_at ts od (q + j) ≡ text_in ts od (257 + q)
      main-text q g h = ap (λ (k : ℕ). get_or ts k []) (main-between od n (buffer_size od) p q j l g h)

      buffer-text : (t : ℕ) → t < buffer_size od → text_at ts od (ahead od t + t) ≡ text_in ts od t
      unfolding buffered
      buffer-text t h = ap (λ (k : ℕ). get_or ts k []) (buffer-at od n (buffer_size od) p t h)

      -- the string before it
      before-low : (t q : ℕ) → t ≡ j → q + 1 ≡ i + j → i ≤ low_of od t → ordering (text_at ts od q) x ≡ Less
      unfolding low_of
      before-low zero q z y h = absurd (omega arith)
      before-low (suc t) q z y h =
          let w : q ≡ ahead od t + t = omega (arith, fits.below t (omega arith)) in
          rw (w, buffer-text t (omega arith)) (u.below t (omega arith) (omega arith))

      just-before : (q : ℕ) → q + 1 ≡ i + j → ordering (text_at ts od q) x ≡ Less
      just-before q y =
          by_order (low_of od j) i
          (λ h. let w : q ≡ i - 1 + j = omega arith in
          rw (w, main-text (i - 1) (omega arith) (omega (arith, v.inside))) (v.below (257 + (i - 1)) (omega arith) (omega arith)))
          (λ h. before-low j q refl y h)

      -- the string behind it
      just_behind : i + j < n → ordering x (text_at ts od (i + j)) ≡ Less
      just_behind m =
          by_order i (high_of od (n - buffer_size od) (buffer_size od) j)
          (λ h. rw (main-text i (omega (arith, v.from)) h) (v.above (257 + i) (omega arith) (omega arith)))
          (λ h. by_order j (buffer_size od)
          (λ g. let w : i ≡ ahead od j = omega (arith, v.inside, high-inner od n (buffer_size od) p j g) in
          rw (w, buffer-text j g) (u.above j (omega arith) g))
          (λ g. absurd (omega (arith, high-outer od n (buffer_size od) p j (omega arith), p.inside))))

      between : Between ts od n x (i + j)
      between =
          record {
            inside = omega (arith, fits.inside);
            below = λ q h.
                by_order (q + 1) (i + j)
                (λ g. less-trans _ _ x (s.rising q (i + j - 1) (omega arith) (omega (arith, fits.inside))) (just-before (i + j - 1) (omega arith)))
                (λ g. just-before q (omega arith));
            above = λ q g h.
                by_order (i + j) q
                (λ f. less-trans x _ _ (just_behind (omega arith)) (s.rising (i + j) q f h))
                (λ f. let w : q ≡ i + j = omega arith in rw w (just_behind (omega arith)));
          }

    module _ (x : List ℕ) (r : Place) (f : Located ts od 0 (buffer_size od) x r) where
      pub buffer-seen : (k : ℕ) → r ≡ Seen k → Finds ts od n x (Known k)
      buffer-seen = part-seen _ _ _ (buffer-part od n s.roomy.placed few fits_in) x r f

      module _ (q : ℕ) (e : r ≡ Free q) where
        in_buffer : Splits ts od 0 (buffer_size od) x q
        in_buffer = (rw e at f).is

        pub to-buffer : q ≤ buffer_size od
        to-buffer = in_buffer.inside

        module _ (r' : Place) (f' : Located ts od (257 + low_of od q) (257 + high_of od (n - buffer_size od) (buffer_size od) q) x r') where
          pub main-seen : (k : ℕ) → r' ≡ Seen k → Finds ts od n x (Known k)
          main-seen = part-seen _ _ _ (main-part od n s.roomy.placed few fits_in q to-buffer) x r' f'

          module _ (i : ℕ) (e' : r' ≡ Free i) where
            in-main : Splits ts od (257 + low_of od q) (257 + high_of od (n - buffer_size od) (buffer_size od) q) x i
            in-main = (rw e' at f').is

            pub from-main : 257 ≤ i
            from-main = omega (arith, in-main.from)

            pub main-free : Finds ts od n x (New (i - 257) q)
            main-free =
                let z : i ≡ 257 + (i - 257) = omega (arith, from-main) in
                let v = subst (Splits ts od (257 + low_of od q) (257 + high_of od (n - buffer_size od) (buffer_size od) q) x) z in-main in
                record { is = (fits x q (i - 257) to-buffer in_buffer v, between x q (i - 257) to-buffer in_buffer v) }
