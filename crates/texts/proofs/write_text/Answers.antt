use Rattle.texts.proofs.TextWriteLaws.{form-long, form-invalid, form-valid}
use Rattle.texts.proofs.write_text.Goals as goal

pub returns-then-t-gt1024 : goal.returns-then-t-gt1024
returns-then-t-gt1024 c = form-long c.args.t.now _ c.if-t-gt1024.true

pub returns-then-is_utf8 : goal.returns-then-is_utf8
returns-then-is_utf8 c = form-valid c.args.t.now _ c.if-t-gt1024.false _ c.is_utf8.ensures c.if-is_utf8.true _ _ c.write_sized.ensures

pub returns : goal.returns
returns c = form-invalid c.args.t.now _ c.if-t-gt1024.false _ c.is_utf8.ensures c.if-is_utf8.false
