-- Where two zones differ. The code's way, tied to the questions on their files by differences' `differ-is` (proofs/AnswerLaws.antt).
use Rattle.std.specs.Prelude.{ℕ, Bool, not, List, [], eqb, length, get_or}
use Rattle.base.specs.Pick.{both}
use Rattle.base.specs.Equal.{equal}
use Rattle.pool.specs.Pool.{strings_of}
use Rattle.zones.specs.declared.Found.{Found}
use Rattle.cursors.specs.Cursors.{found_at}

-- "offset, savings or name differ": the name is a string of a pool, px or py
unfoldable pub unlike : List ℕ → Found → List ℕ → Found → Bool
unlike px x py y =
    not (both (eqb x.wall y.wall) (both (eqb x.savings y.savings) (equal (get_or (strings_of px) x.name []) (get_or (strings_of py) y.name []))))

-- the interval of a zone with the data z and the pool p that holds the instant t
abbrev pub found_by : List ℕ → List ℕ → ℕ → Found
found_by z p t = found_at (length (strings_of p)) z t

-- at the instant t
abbrev pub differ_at : List ℕ → List ℕ → List ℕ → List ℕ → ℕ → Bool
differ_at zx px zy py t = unlike px (found_by zx px t) py (found_by zy py t)
