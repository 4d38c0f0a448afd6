-- The ranges of what a tail says. To be believed; `tail-sound` (proofs/TailLaws.antt) shows it of what is read.
use Rattle.std.specs.Prelude.{ℕ, ◌≤◌, ◌<◌, ◌≡◌}
use Rattle.rules.specs.Rules.{RuleOk}
use Rattle.recurrence.specs.Tails.{TailOk}
use Rattle.tails.specs.declared.Standard.{Standard}
use Rattle.tails.specs.declared.NamedTail.{NamedTail}

pub record StandardOk (pool start : ℕ) (x : Standard) : Type 0 where
  pub starts : x.start ≡ start
  pub offset-low : 1 ≤ x.offset
  pub offset-high : x.offset ≤ 172799999
  pub name-ok : x.name < pool
  pub rule-ok : RuleOk x.rule

-- its names are numbers of the pool, and its rules and sums are in their ranges
pub record NamedTailOk (pool start : ℕ) (n : NamedTail) : Type 0 where
  pub starts : n.tail.start ≡ start
  pub tail-ok : TailOk n.tail
  pub offset-low : 1 ≤ n.tail.offset
  pub savings-high : n.tail.savings ≤ 172799999
  pub standard-ok : n.standard < pool
  pub daylight-ok : n.daylight < pool
