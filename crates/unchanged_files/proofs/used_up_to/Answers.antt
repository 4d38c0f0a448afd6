use Rattle.unchanged_files.proofs.UseLaws.{used-not}
use Rattle.unchanged_files.proofs.used_up_to.Goals as goal

pub returns-then-uses-n : goal.returns-then-uses-n
returns-then-uses-n c = used-not _ _

pub returns-then-uses-n-ne0 : goal.returns-then-uses-n-ne0
returns-then-uses-n-ne0 c = used-not _ _
