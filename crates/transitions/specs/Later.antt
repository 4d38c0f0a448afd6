-- An instant after another, where one stands at the front of some bytes. The code's way, tied to `read_moment` by `later_of` (proofs/LaterLaws.antt).
use Rattle.base.specs.Coded.{Coded}
use Rattle.std.specs.Prelude.{ℕ, ◌<◌, ◌≡◌, List, eqb, ltb, Err, Ok}
use Rattle.base.specs.Pick.{pick, both}
use Rattle.base.specs.Moment.{Finite, finite}
use Rattle.transitions.specs.Transition.{read_moment}

-- t, where it is not 0, is an instant after the instant prev, and stands at the front of s in n bytes
pub record Later (prev : ℕ) (s : List ℕ) (n t : ℕ) : Type 0 where
  pub previous : 0 < t → Finite prev
  pub rises : 0 < t → prev < t
  pub instant : 0 < t → Finite t
  pub moment : 0 < t → read_moment prev s ≡ Ok (t, n)

-- the instant that a code names, where it takes n bytes and is after the instant prev; else 0
unfoldable pub later_in : ℕ → ℕ → Coded ℕ → ℕ
later_in prev n (Ok (t, m)) = pick (both (eqb m n) (both (finite prev) (both (ltb prev t) (finite t)))) t 0
later_in prev n (Err k) = 0
