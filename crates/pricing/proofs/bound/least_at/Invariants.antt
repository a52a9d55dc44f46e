use Rattle.std.proofs.Common.{◌≤◌}
use Rattle.pricing.proofs.Bounding.{LeftOver}
use Rattle.pricing.proofs.bound.least_at.Given as goal

abbrev pub invariant-loop-k : goal.invariant-loop-k
invariant-loop-k l = (l.least ≤ l.initial.least) × LeftOver l.table l.word l.k-iterator.left l.least
