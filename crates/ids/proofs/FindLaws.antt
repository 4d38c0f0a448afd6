-- Halving in a part of the array. Assumes nothing.
use mathlib.Core.Path.{◌≡◌, refl, sym, ◌∙◌, ap}
use mathlib.Core.List.{List}
use Prim.Native.Nat.{ℕ, ◌+◌, ◌-◌, ◌/◌, ◌≤◌, ◌<◌}
use native.Mathlib.Omega.{arith}
use lib.ListN.{get_or}
use Rattle.base.proofs.Tests.{by_order}
use Rattle.string_order.specs.Order.{ordering}
use Rattle.std.specs.declared.cmp.Ordering.{Ordering}
use Rattle.std.specs.declared.cmp.Ordering.TheVariants.{Less, Equal, Greater}
use Rattle.string_order.proofs.OrderLaws.{equal-is-equality, greater-less, less-trans}
use Rattle.ids.specs.Parts.{text_in, Run, Located}
use Rattle.ids.specs.declared.Place.TheVariants.{Seen, Free}

-- the place of x is one from lo up to hi, and the one to look at next is hi - back
pub record Halving (ts : List (List ℕ)) (od : List ℕ) (a e : ℕ) (x : List ℕ) (lo hi back : ℕ) : Type 0 where
  pub from : a ≤ lo
  pub order : lo ≤ hi
  pub inside : hi ≤ e
  pub next : lo < hi → (0 < back) × (back ≤ hi - lo)
  pub below : (i : ℕ) → a ≤ i → i < lo → ordering (text_in ts od i) x ≡ Less
  pub above : (i : ℕ) → hi ≤ i → i < e → ordering x (text_in ts od i) ≡ Less

-- the place hi - back is one of those from lo up to hi
pub record Middle (a e lo hi back : ℕ) : Type 0 where
  pub back-room : back ≤ hi
  pub from_low : lo ≤ hi - back
  pub to_high : hi - back < hi
  pub from : a ≤ hi - back
  pub inside : hi - back < e

module _ (ts : List (List ℕ)) (od : List ℕ) (a e : ℕ) (x : List ℕ) where
  pub halving-start : a ≤ e → Halving ts od a e x a e 1
  halving-start h =
      record {
        from = omega arith;
        order = h;
        inside = omega arith;
        next = λ l. (omega arith, omega arith);
        below = λ i g l. absurd (omega arith);
        above = λ i l m. absurd (omega arith);
      }

  module _ (lo hi back : ℕ) (h : Halving ts od a e x lo hi back) where
    pub halving-done : hi ≤ lo → Located ts od a e x (Free lo)
    halving-done l =
        record {
          is =
              record {
                from = h.from;
                inside = omega (arith, h.order, h.inside);
                below = h.below;
                above = λ i m. h.above i (omega (arith, h.order));
              };
        }

    module _ (l : lo < hi) where
      pub middle : Middle a e lo hi back
      middle =
          let m = h.next l in
          record {
            back-room = omega arith;
            from_low = omega arith;
            to_high = omega arith;
            from = omega (arith, h.from);
            inside = omega (arith, h.inside);
          }

      -- o is how the string at hi - back stands to x
      module _ (o : Ordering) (q : o ≡ ordering (text_in ts od (hi - back)) x) where
        pub halving-seen : o ≡ Equal → Located ts od a e x (Seen (get_or od (hi - back) 0))
        halving-seen r =
            record {
              is =
                  record {
                    place = hi - back;
                    from = middle.from;
                    inside = middle.inside;
                    number = refl;
                    is = equal-is-equality _ x (sym q ∙ r);
                  };
            }

        module _ (s : Run ts od a e) where
          pub halving-up : o ≡ Less → Halving ts od a e x (hi - back + 1) hi ((hi - (hi - back + 1) + 1) / 2)
          halving-up r =
              record {
                from = omega (arith, middle.from);
                order = omega (arith, middle.to_high);
                inside = h.inside;
                next = λ m. (omega arith, omega arith);
                below = λ i g m.
                    by_order i (hi - back)
                    (λ b. less-trans _ _ x (s.rising i (hi - back) g b middle.inside) (sym q ∙ r))
                    (λ b. let z : hi - back ≡ i = omega arith in ap (λ (j : ℕ). ordering (text_in ts od j) x) (sym z) ∙ sym q ∙ r);
                above = h.above;
              }

          pub halving-down : o ≡ Greater → Halving ts od a e x lo (hi - back) ((hi - back - lo + 1) / 2)
          halving-down r =
              let g : ordering x (text_in ts od (hi - back)) ≡ Less = greater-less _ x (sym q ∙ r) in
              record {
                from = h.from;
                order = middle.from_low;
                inside = omega (arith, middle.inside);
                next = λ m. (omega arith, omega arith);
                below = h.below;
                above = λ i m b.
                    by_order (hi - back) i
                    (λ u. less-trans x _ _ g (s.rising (hi - back) i middle.from u b))
                    (λ u. let z : hi - back ≡ i = omega arith in ap (λ (j : ℕ). ordering x (text_in ts od j)) (sym z) ∙ g);
              }
