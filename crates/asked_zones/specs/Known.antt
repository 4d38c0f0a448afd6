-- What the code's results stand for, where the walk by ID may be known to come to its zone. The code's way, tied to the walk by `LocatedAs`.
use Rattle.std.specs.Prelude.{ℕ, ◌≡◌, Bool, true, List}
use Rattle.base.specs.Parsed.{Parsed, got}
use Rattle.zones.specs.Content.{Zone}
use Rattle.frames.specs.Machine.{Out, found}
use Rattle.answers.specs.Answers.{Pool}
use Rattle.locate.specs.Asked.{Held}
use Rattle.locate.specs.View.{JudgedAs, LocatedAs}
use Rattle.locate.specs.declared.Judged.{Judged}
use Rattle.locate.specs.declared.Located.{Located}

-- j tells what a zone says by its ID, if it is a good one where it is known to be one
pub record JudgedBy (known : Bool) (id pool : List ℕ) (p : Parsed Zone) (j : Judged) : Type 0 where
  pub means : (known ≡ true → (z : Zone) × (r : List ℕ) × (p ≡ got z r)) → JudgedAs id pool p j

-- r tells what the walk o over s comes to, with the pool m, if that is a zone where it is known to be one
pub record WalkedAs (known : Bool) (s : List ℕ) (m : Pool) (o : Out Pool Held) (r : Located) : Type 0 where
  pub means : (known ≡ true → (v : Held) × (p : ℕ) × (o ≡ found v p)) → LocatedAs s m o r
