-- A job whose answer is another's, mapped. The code's way, tied to the walk by `walk-mapped` (proofs/MapLaws.antt).
use Rattle.base.specs.Run.{Step, stop, next}
use Rattle.frames.specs.Machine.{Out, found, refused, cut, ended, Content, bad, answer, keep}

abbrev pub map_content : {M A B : Type 0} → (A → B) → Content M A → Content M B
map_content h (bad n) = bad n
map_content h (answer v) = answer (h v)
map_content h (keep m) = keep m

abbrev pub map_out : {M A B : Type 0} → (A → B) → Out M A → Out M B
map_out h (found v p) = found (h v) p
map_out h (refused n p) = refused n p
map_out h (cut p) = cut p
map_out h (ended m p) = ended m p

abbrev pub map_step : {M A B : Type 0} → (A → B) → Step M (Out M A) → Step M (Out M B)
map_step h (stop o) = stop (map_out h o)
map_step h (next m) = next m
