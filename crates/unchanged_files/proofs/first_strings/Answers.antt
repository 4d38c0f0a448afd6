use Rattle.unchanged_files.proofs.PlainLaws.{first-other, first-pool, first-turned, first-checked}
use Rattle.unchanged_files.proofs.first_strings.Goals as goal

pub returns-then-f-ne0 : goal.returns-then-f-ne0
returns-then-f-ne0 c = first-other _ c.requires _ c.read_field-f.ensures _ c.if-f-ne0.true

pub slice_bounds-string_count-count : goal.slice_bounds-string_count-count
slice_bounds-string_count-count c = (first-turned _ c.requires _ c.read_field-f.ensures c.if-s-le4.false).ordered

pub slice_bounds-string_count-start : goal.slice_bounds-string_count-start
slice_bounds-string_count-start c = (first-turned _ c.requires _ c.read_field-f.ensures c.if-s-le4.false).ordered

pub slice_bounds-string_count-end : goal.slice_bounds-string_count-end
slice_bounds-string_count-end c = (first-turned _ c.requires _ c.read_field-f.ensures c.if-s-le4.false).within

pub string_count-requires : goal.string_count-requires
string_count-requires c = (first-checked _ c.requires _ c.read_field-f.ensures c.if-s-le4.false).good c.if-f-ne0.false

pub returns : goal.returns
returns c = first-pool _ c.requires _ c.read_field-f.ensures _ c.string_count.ensures
