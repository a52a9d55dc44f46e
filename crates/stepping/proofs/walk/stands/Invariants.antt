use Rattle.store.specs.Coding.{clauses_in}
use Rattle.stepping.proofs.Going.{Going}
use Rattle.stepping.proofs.walk.stands.Given as goal

abbrev pub invariant-loop-marks : goal.invariant-loop-marks
invariant-loop-marks l =
    (goal.iterator-loop-marks).can_next l.marks-iterator
    × (goal.iterator-loop-marks).is_finite l.marks-iterator
    × Going l.assignment l.choice (clauses_in l.marks-iterator.cells.now)
