use Prim.Native.Nat.{◌-◌}
use native.Mathlib.Omega.{arith}
use Rattle.pieces.proofs.PutLaws.{put_is}
use Rattle.closed_pools.proofs.TextsLaws.{text-short, no-put, no_text}
use Rattle.closed_pools.proofs.write_string.Goals as goal

pub write_number-requires : goal.write_number-requires
write_number-requires c = (omega arith, no-put c.args.d.now c.args.k (omega (arith, c.requires.0.count, c.if-n-k.true)) c.args.out.now c.requires.1)

pub returns-then-n-k : goal.returns-then-n-k
returns-then-n-k c = put_is _ _ _ _ _ c.write_number.ensures (no_text _ _ (omega (arith, c.requires.0.count, c.if-n-k.true)))

pub text_by-t-requires : goal.text_by-t-requires
text_by-t-requires c = (c.requires.0.ready, omega (arith, c.requires.0.count, c.if-n-k.false))

pub write_text-requires : goal.write_text-requires
write_text-requires c = (rw c.text_by-t.ensures (text-short _ _), rw c.text_by-t.ensures c.requires.1)

pub returns : goal.returns
returns c = rw c.text_by-t.ensures at c.write_text.ensures
