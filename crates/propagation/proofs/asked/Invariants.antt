use Rattle.std.proofs.Common.{take}
use Rattle.propagation.specs.Easing.{Asked}
use Rattle.propagation.proofs.asked.Given as goal

abbrev pub invariant-loop-rule : goal.invariant-loop-rule
invariant-loop-rule l = Asked (take l.rule-index l.rules) l.at l.sides.ups l.sides.downs
