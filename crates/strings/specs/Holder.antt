-- "A text handed back is a part either of the pool or of the field itself, whichever holds it."
-- To be believed.
use Rattle.std.specs.Prelude.{ℕ, ◌+◌, List, [], leb, length, take, drop}
use Rattle.base.specs.Pick.{pick}
use Rattle.strings.specs.declared.Holder.{Holder}
use Rattle.strings.specs.declared.Holder.TheVariants.{InPool, InField}

-- n bytes of s from the place a on; none where they are not all there
abbrev pub part_at : List ℕ → ℕ → ℕ → List ℕ
part_at s a n = pick (leb (a + n) (length s)) (take n (drop a s)) []

-- the text that the pool's bytes d or the field's bytes f hold
abbrev pub text_of : List ℕ → List ℕ → Holder → List ℕ
text_of d f (InPool a n) = part_at d a n
text_of d f (InField a n) = part_at f a n
