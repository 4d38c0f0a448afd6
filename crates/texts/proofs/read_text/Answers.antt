use mathlib.Core.Path.{refl}
use Rattle.utf8.specs.Ascii.{ascii}
use Rattle.texts.proofs.read_text.Goals as goal

pub read_text_in-requires : goal.read_text_in-requires
unfolding ascii
read_text_in-requires c = refl
