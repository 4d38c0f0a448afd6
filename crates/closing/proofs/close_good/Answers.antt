use Rattle.closing.proofs.CloseLaws.{walked-unread, walked-counted, close-unread, close-read, no-uses-fit, same-no-room, same-written}
use Rattle.unchanged_files.proofs.SameLaws.{same-so}
use Rattle.pieces.proofs.PutLaws.{copied}
use native.Mathlib.Omega.{arith}
use Rattle.closing.proofs.close_good.Goals as goal

pub count_mentions-requires : goal.count_mentions-requires
count_mentions-requires c = (c.requires.0, no-uses-fit _ c.requires.0.limit)

pub returns-then-out-s : goal.returns-then-out-s
returns-then-out-s c = close-read _ _ _ _ (walked-counted _ _ _ _ _ c.count_mentions.ensures _ c.in-Counted.is).0 (same-no-room _ _ c.requires.0 (same-so _ _ (λ j. omega (arith, c.shared_slice_known-1.given j)) c.requires.0 (walked-counted _ _ _ _ _ c.count_mentions.ensures _ c.in-Counted.is).1 c.requires.1 _ _ _ (walked-counted _ _ _ _ _ c.count_mentions.ensures _ c.in-Counted.is).2 c.is_closed.ensures c.if-is_closed.true) c.if-out-s.true)

pub returns-then-is_closed : goal.returns-then-is_closed
returns-then-is_closed c = close-read _ _ _ _ (walked-counted _ _ _ _ _ c.count_mentions.ensures _ c.in-Counted.is).0 (same-written _ _ c.requires.0 (same-so _ _ (λ j. omega (arith, c.shared_slice_known-1.given j)) c.requires.0 (walked-counted _ _ _ _ _ c.count_mentions.ensures _ c.in-Counted.is).1 c.requires.1 _ _ _ (walked-counted _ _ _ _ _ c.count_mentions.ensures _ c.in-Counted.is).2 c.is_closed.ensures c.if-is_closed.true) _ _ c.if-out-s.false (copied _ _ _ _ c.copy.ensures.value c.copy.ensures.dst_after))

pub close_counted-requires : goal.close_counted-requires
close_counted-requires c = (c.requires.0, c.requires.1, (walked-counted _ _ _ _ _ c.count_mentions.ensures _ c.in-Counted.is).1)

pub returns-in-Unread : goal.returns-in-Unread
returns-in-Unread c = close-unread _ _ _ (walked-unread _ _ _ _ _ c.count_mentions.ensures _ c.in-Unread.is)

pub returns-else-is_closed : goal.returns-else-is_closed
returns-else-is_closed c = close-read _ _ _ _ (walked-counted _ _ _ _ _ c.count_mentions.ensures _ c.in-Counted.is).0 c.close_counted.ensures
