use Rattle.std.proofs.Common.{◌-◌, length}
use Rattle.sweeping.specs.Trail.{clauses_at, Meets, Reached}
use Rattle.sweeping.proofs.assignment.Assignment.propagate.Given as goal

abbrev pub invariant-loop-open : goal.invariant-loop-open
invariant-loop-open l = Reached (Meets (clauses_at l.initial.self)) l.initial.self l.self

abbrev pub decreases-loop-open : goal.decreases-loop-open
decreases-loop-open l = length l.initial.self.trail.now - l.self.top
