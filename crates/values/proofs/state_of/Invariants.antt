use Rattle.std.proofs.Common.{◌≡◌, true, length}
use Rattle.design.specs.Mark.{all_are_named}
use Rattle.values.specs.Partial.{state_from}
use Rattle.values.specs.declared.State.TheVariants.{Broken}
use Rattle.values.proofs.state_of.Given as goal

abbrev pub invariant-loop-left : goal.invariant-loop-left
invariant-loop-left l = (all_are_named (length l.values) l.left ≡ true) × (state_from l.values l.state l.left ≡ state_from l.values Broken l.marks)

abbrev pub decreases-loop-left : goal.decreases-loop-left
decreases-loop-left l = length l.left
