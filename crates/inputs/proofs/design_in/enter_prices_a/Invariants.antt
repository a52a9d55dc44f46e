use Rattle.inputs.specs.Reading.{GrownInA}
use Rattle.inputs.proofs.design_in.enter_prices_a.Given as goal

abbrev pub invariant-loop : goal.invariant-loop
invariant-loop g l = GrownInA (g.J.Judge.meaning l.initial.judge) (g.J.Judge.meaning l.judge)
