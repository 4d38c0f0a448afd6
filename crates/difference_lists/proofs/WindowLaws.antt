-- A window that ends where two zones cannot differ any more has the same stretches. Assumes nothing.
use mathlib.Core.Path.{◌≡◌, subst}
use mathlib.Core.List.{List}
use Prim.Native.Nat.{ℕ}
use native.Mathlib.Omega.{arith}
use lib.IntN.{ℤ}
use lib.ListN.{length}
use lib.Seq.{sets}
use Rattle.base.specs.Moment.{Finite}
use Rattle.stretches.specs.Stretches.{Stretch, numbers_of}
use Rattle.stretches.proofs.StepLaws.{short-window}
use Rattle.zone_differences.specs.Differ.{differ_at as zones_differ}
use Rattle.same_tails.specs.SameTails.{EndNamed}
use Rattle.same_tails.proofs.SameLaws.{same-on, same_low, names-in}
use Rattle.differences.specs.View.{pool_of, zone_of, SideIn, side_stretches}
use Rattle.differences.specs.declared.Side.{Side}
use Rattle.difference_lists.specs.Window.{end_of}

pub side-names : (s ix : List ℕ) (t : ℕ) (x : Side) → SideIn s ix t x → EndNamed (pool_of s x) x.ending
side-names s ix t x a = names-in x.count (zone_of s x) (pool_of s x) x.ending x.cursor a.count-is a.at.points

module _ (f sf : List ℕ) (x : Side) (g sg : List ℕ) (y : Side) (first last e : ℕ) (a : SideIn f sf first x) (b : SideIn g sg first y) (l : Finite last)
    (h : e ≡ end_of f x g y last) where
  pub end-finite : Finite e
  end-finite = record {
    low = omega (arith, l.low, same_low (zone_of f x) (pool_of f x) (zone_of g y) (pool_of g y) x.ending y.ending x.cursor y.cursor x.count y.count a.count-is b.count-is a.at.points b.at.points);
    high = omega (arith, l.high);
  }

  short-stretches : side_stretches f x g y first e ≡ side_stretches f x g y first last
  short-stretches = short-window (zones_differ (zone_of f x) (pool_of f x) (zone_of g y) (pool_of g y)) first e last (omega arith)
      (λ u i j. same-on (zone_of f x) (pool_of f x) (zone_of g y) (pool_of g y) x.ending y.ending x.cursor y.cursor x.count y.count a.count-is b.count-is a.at.points b.at.points u
      (record { low = omega (arith, end-finite.low); high = omega (arith, l.high) }) (omega arith))

  -- so the walk to its end gives them all
  pub gives_all : (n : ℕ) (d o : List ℤ) → (n ≡ length (side_stretches f x g y first e)) × (o ≡ sets d 0 (numbers_of (side_stretches f x g y first e)))
      → (n ≡ length (side_stretches f x g y first last)) × (o ≡ sets d 0 (numbers_of (side_stretches f x g y first last)))
  gives_all n d o = subst (λ (xs : List Stretch). (n ≡ length xs) × (o ≡ sets d 0 (numbers_of xs))) short-stretches
