use Rattle.std.proofs.lemmas.Result.{err_from_is_err_and}
use mathlib.Core.List.{[]}
use native.Mathlib.Omega.{arith}
use lib.Dec.{ltb}
use lib.ListN.{length}
use Rattle.field_readers.proofs.TakeLaws.{zone-refused, zone-id, zones-most, zone-second, zone-first}
use Rattle.field_readers.proofs.FlagLaws.{flags-kept, flags-set}
use Rattle.check_steps.proofs.take_zone.Goals as goal

pub take_string-requires : goal.take_string-requires
take_string-requires c = (c.requires.2.ready, c.requires.3, zone-id _ _ c.args.a c.args.e _ [] c.requires.2 _ _ c.check_form-v.ensures _ _ c.in_ok-id.was)

pub returns-then-take_string : goal.returns-then-take_string
returns-then-take_string c = (
  zone-second _ _ _ _ _ _ c.requires.2 _ _ c.check_form-v.ensures _ _ c.in_ok-id.was _ _ c.take_string.ensures c.if-take_string.true,
  flags-kept _ _ _ _ _,
)

pub overflow_add-result : goal.overflow_add-result
overflow_add-result c = omega (arith, zones-most c.args.s.now c.args.k _ c.requires.3)

pub returns-in_err-id : goal.returns-in_err-id
returns-in_err-id c = let p = err_from_is_err_and c.from_residual.result c.from_residual.ensures.1 in
    rw (p.1, p.2) ((zone-refused _ _ _ _ _ _ c.requires.2 _ _ c.check_form-v.ensures _ c.in_err-id.was, flags-kept _ _ _ _ _))

pub returns : goal.returns
returns c = (
  zone-first _ _ _ _ _ _ c.requires.2 _ _ c.check_form-v.ensures _ _ c.in_ok-id.was _ _ c.take_string.ensures c.if-take_string.false,
  flags-set _ _ _ _ _ (ltb 0 (length c.args.flags.now)) _ c.check_form-v.ensures _ _ _ _ c.in_ok-id.was c.set_flag.ensures,
)
