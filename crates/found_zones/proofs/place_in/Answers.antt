use Rattle.found_zones.proofs.AskLaws.{place-far, place-near}
use native.Mathlib.Omega.{arith}
use Rattle.found_zones.proofs.place_in.Goals as goal

pub returns-then-v-gt4194304 : goal.returns-then-v-gt4194304
returns-then-v-gt4194304 c = place-far c.args.v (omega arith)

pub returns : goal.returns
returns c = place-near c.args.v (omega arith)
