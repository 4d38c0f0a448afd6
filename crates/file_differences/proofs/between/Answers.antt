use Rattle.std.proofs.lemmas.Result.{err_from_is_err_and}
use Rattle.differences.proofs.FindLaws.{asked-zone, asked-refused}
use Rattle.differences.proofs.GiveLaws.{left-refused, right-refused, both-listed}
use Rattle.file_differences.proofs.between.Goals as goal

pub list-requires : goal.list-requires
list-requires c = ((asked-zone c.find.ensures _ c.in_ok-x.was).0, (asked-zone c.find-2.ensures _ c.in_ok-y.was).0, c.requires.0, c.requires.1)

pub returns-in_err-x : goal.returns-in_err-x
returns-in_err-x c = let p = err_from_is_err_and c.from_residual.result c.from_residual.ensures.1 in
    rw (p.1, p.2) (left-refused _ _ _ _ _ _ c.requires.0 _ _ (asked-refused c.find.ensures _ _ c.in_err-x.was))

pub returns-in_err-y : goal.returns-in_err-y
returns-in_err-y c = let p = err_from_is_err_and c.from_residual-in_err-y.result c.from_residual-in_err-y.ensures.1 in
    rw (p.1, p.2) (right-refused _ _ _ _ _ _ c.requires.0 _ _ (asked-zone c.find.ensures _ c.in_ok-x.was) _ _ (asked-refused c.find-2.ensures _ _ c.in_err-y.was))

pub returns : goal.returns
returns c = both-listed _ _ _ _ _ _ c.requires.0 _ _ (asked-zone c.find.ensures _ c.in_ok-x.was) _ _ (asked-zone c.find-2.ensures _ c.in_ok-y.was) c.requires.1 _ _ c.list.ensures
