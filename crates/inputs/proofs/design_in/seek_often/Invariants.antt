use Rattle.std.proofs.Common.{◌≡◌}
use Rattle.inputs.proofs.design_in.seek_often.Given as goal

abbrev pub invariant-loop : goal.invariant-loop
invariant-loop g l = g.J.Judge.meaning l.judge ≡ g.J.Judge.meaning l.initial.judge
