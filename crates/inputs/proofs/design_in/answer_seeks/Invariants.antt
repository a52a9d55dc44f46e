use Rattle.std.proofs.Common.{◌≡◌}
use Rattle.inputs.proofs.design_in.answer_seeks.Given as goal

abbrev pub invariant-loop-a : goal.invariant-loop-a
invariant-loop-a g l =
    (goal.iterator-loop-a g).can_next l.input × (goal.iterator-loop-a g).is_finite l.input
    × (g.J.Judge.meaning l.judge ≡ g.J.Judge.meaning l.initial.judge)
