use native.Mathlib.Omega.{arith}
use Rattle.signed.proofs.IntegerLaws.{raw-late, raw-early, raw-out}
use Rattle.signed.proofs.from_raw.Goals as goal

pub returns-then-raw-le2534023007999999999 : goal.returns-then-raw-le2534023007999999999
returns-then-raw-le2534023007999999999 c = raw-late _ (omega arith)

pub returns-then-raw-ge17825388105709551616 : goal.returns-then-raw-ge17825388105709551616
returns-then-raw-ge17825388105709551616 c = raw-early _ (omega arith) (omega arith)

pub returns : goal.returns
returns c = raw-out c.args.raw (omega arith) (omega arith)
