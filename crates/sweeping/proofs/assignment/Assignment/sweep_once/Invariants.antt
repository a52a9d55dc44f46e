use Rattle.store.specs.Coding.{clauses_in}
use Rattle.sweeping.proofs.Going.{Going}
use Rattle.sweeping.proofs.assignment.Assignment.sweep_once.Given as goal

abbrev pub invariant-loop-marks : goal.invariant-loop-marks
invariant-loop-marks l =
    (goal.iterator-loop-marks).can_next l.marks-iterator
    × (goal.iterator-loop-marks).is_finite l.marks-iterator
    × Going l.initial.self l.self (clauses_in l.marks-iterator.cells.now) l.open
