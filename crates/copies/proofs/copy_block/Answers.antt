use Rattle.copies.proofs.CopyLaws.{held, held-length, by_way}
use Rattle.copies.proofs.copy_block.Goals as goal

pub slice_bounds-copy-end-2 : goal.slice_bounds-copy-end-2
slice_bounds-copy-end-2 c = held-length c.args.src.now _ _ _ c.copy-n.ensures.value c.copy-n.ensures.dst_after

pub copy-requires : goal.copy-requires
copy-requires c = rw (held c.args.src.now _ _ _ c.copy-n.ensures.value c.copy-n.ensures.dst_after) c.requires.1

pub returns : goal.returns
returns c = by_way c.args.src.now _ _ _ c.copy-n.ensures.value c.copy-n.ensures.dst_after _ _ c.copy.ensures.dst_after
