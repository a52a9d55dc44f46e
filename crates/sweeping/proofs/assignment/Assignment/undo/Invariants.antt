use Rattle.std.proofs.Common.{◌≡◌, ◌-◌}
use Rattle.store.specs.Parts.{part}
use Rattle.sweeping.specs.Trail.{reopened, marks_from}
use Rattle.sweeping.proofs.assignment.Assignment.undo.Given as goal

abbrev pub invariant-loop-at : goal.invariant-loop-at
invariant-loop-at l = reopened l.values (part l.trail l.at (l.at-end - l.at)) ≡ reopened l.initial.values (marks_from l.base l.fn.self)
