-- The fields of a closed file beside those of the file, and the numbers from one on: what `closed-again` (proofs/AgainLaws.antt) speaks of. To be
-- believed.
use Rattle.std.specs.Prelude.{ℕ, zero, suc, ◌≡◌, List, [], ◌∷◌}
use Rattle.frames.specs.Frame.{Field}
use Rattle.closed_files.specs.File.{closed_data}

-- the fields hs have the IDs of gs, in their order, and the closed data of gs; they may stand anywhere
pub data ClosedAs (order table : List ℕ) : List Field → List Field → Type 0 where
  closed_none : ClosedAs order table [] []
  closed-also : {g h : Field} {gs hs : List Field} → h.id ≡ g.id → h.body ≡ closed_data order table g.id g.body
      → ClosedAs order table gs hs → ClosedAs order table (g ∷ gs) (h ∷ hs)

-- n numbers from k on
unfoldable pub up_from : ℕ → ℕ → List ℕ
up_from k zero = []
up_from k (suc n) = k ∷ up_from (suc k) n
