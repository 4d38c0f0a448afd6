-- What one step of a walk over a window does, for all the instants at which the test is the same. The code's way, tied to the stretches by `stays`
-- (proofs/StepLaws.antt).
use Rattle.std.specs.Prelude.{ℕ, ◌+◌, ◌*◌, ◌≡◌, Bool, true, false, List, [], ℤ, length}
use Rattle.std.proofs.lemmas.List.Edits.{sets}
use Rattle.stretches.specs.Stretches.{Stretch, opened, closed, numbers_of}
use Rattle.stretches.specs.declared.Marks.{Marks}

-- the stretch that ends before t
unfoldable pub ending : Bool → ℕ → ℕ → List Stretch
ending true since t = []
ending false since t = closed since t

-- the instant since which one is open then
unfoldable pub opening : Bool → ℕ → ℕ → ℕ
opening true since t = opened since t
opening false since t = 0

-- r and e are the marks and the list after such a step, which were m and d
pub record Marked (d : List ℤ) (m : Marks) (t : ℕ) (holds : Bool) (r : Marks) (e : List ℤ) : Type 0 where
  pub count : r.count ≡ m.count + length (ending holds m.since t)
  pub since : r.since ≡ opening holds m.since t
  pub put : e ≡ sets d (2 * m.count) (numbers_of (ending holds m.since t))
