use Rattle.strings.proofs.HolderLaws.{text-pool, text-field}
use Rattle.strings.proofs.text_of.Goals as goal

pub returns-in-InPool : goal.returns-in-InPool
returns-in-InPool c = text-pool c.args.pool.now c.args.field.now _ _ _ _ c.in-InPool.is c.part_at.ensures

pub returns-in-InField : goal.returns-in-InField
returns-in-InField c = text-field c.args.pool.now c.args.field.now _ _ _ _ c.in-InField.is c.part_at-in-InField.ensures
