use mathlib.Core.List.{[]}
use native.Mathlib.Omega.{arith}
use Rattle.check_steps.proofs.StepLaws.{step_end, step_cut, step-refused, step-version, field_fits, first-room, ends-past, step-bad, step-keep}
use Rattle.check_steps.proofs.FlagLaws.{flags-done, flags-refused, flags-version, flags-field}
use Rattle.check_steps.proofs.PassLaws.{stepped-passed, flags-passed}
use Rattle.check_steps.proofs.step.Goals as goal

pub overflow_add-e : goal.overflow_add-e
overflow_add-e c = omega (arith, field_fits c.args.s.now c.args.c [] [] _ c.next_frame-f.ensures _ _ _ c.in-Whole.is c.requires.0)

pub overflow_add-e-in-Whole : goal.overflow_add-e-in-Whole
overflow_add-e-in-Whole c = omega (arith, field_fits c.args.s.now c.args.c [] [] _ c.next_frame-f.ensures _ _ _ c.in-Whole.is c.requires.0)

pub overflow_add-at : goal.overflow_add-at
overflow_add-at c = omega (arith, field_fits c.args.s.now c.args.c [] [] _ c.next_frame-f.ensures _ _ _ c.in-Whole.is c.requires.0)

pub take_field-t-requires : goal.take_field-t-requires
take_field-t-requires c = (omega arith, (field_fits c.args.s.now c.args.c [] [] _ c.next_frame-f.ensures _ _ _ c.in-Whole.is c.requires.0).0, c.requires.1, c.requires.2, λ z. omega (arith, first-room c.args.s.now c.args.c [] [] _ c.next_frame-f.ensures _ _ _ c.in-Whole.is c.requires.3 z, c.requires.4))

pub pass-requires : goal.pass-requires
pass-requires c = (field_fits c.args.s.now c.args.c [] [] _ c.next_frame-f.ensures _ _ _ c.in-Whole.is c.requires.0).0

pub returns-in-End : goal.returns-in-End
returns-in-End c = (step_end _ c.args.c _ _ _ c.next_frame-f.ensures _ c.in-End.is c.conclude.ensures, flags-done _ c.args.c _ _ c.next_frame-f.ensures _ c.in-End.is)

pub returns-in-Cut : goal.returns-in-Cut
returns-in-Cut c = (step_cut _ c.args.c _ _ _ c.next_frame-f.ensures c.in-Cut.is, flags-refused _ _ _ _ _ _)

pub returns-in-Refused : goal.returns-in-Refused
returns-in-Refused c = (step-refused _ c.args.c _ _ _ c.next_frame-f.ensures _ c.in-Refused.is, flags-refused _ _ _ _ _ _)

pub returns-in-Version : goal.returns-in-Version
returns-in-Version c = (step-version _ c.args.c _ _ _ c.next_frame-f.ensures c.in-Version.is, flags-version _ c.args.c _ _ c.next_frame-f.ensures _ c.in-Version.is)

pub returns-in-Err : goal.returns-in-Err
returns-in-Err c = (step-bad _ c.args.c _ _ _ c.next_frame-f.ensures _ _ _ c.in-Whole.is _ _ _ c.take_field-t.ensures.0 (λ z. c.requires.5) _ c.in-Err.is, flags-refused _ _ _ _ _ _)

pub returns-in-Ok : goal.returns-in-Ok
returns-in-Ok c = rw c.pass.ensures (stepped-passed _ _ (field_fits c.args.s.now c.args.c [] [] _ c.next_frame-f.ensures _ _ _ c.in-Whole.is c.requires.0).0 c.args.c (ends-past c.args.s.now c.args.c [] [] _ c.next_frame-f.ensures _ _ _ c.in-Whole.is) _ _ _ _ (step-keep _ c.args.c _ _ _ c.next_frame-f.ensures _ _ _ c.in-Whole.is _ _ _ c.take_field-t.ensures.0 (λ z. c.requires.5) _ c.in-Ok.is), flags-passed _ _ (field_fits c.args.s.now c.args.c [] [] _ c.next_frame-f.ensures _ _ _ c.in-Whole.is c.requires.0).0 c.args.c (ends-past c.args.s.now c.args.c [] [] _ c.next_frame-f.ensures _ _ _ c.in-Whole.is) _ _ (flags-field _ c.args.c _ _ c.next_frame-f.ensures _ _ _ _ _ _ c.in-Whole.is c.take_field-t.ensures.1 c.in-Ok.is))
