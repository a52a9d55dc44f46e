use Rattle.inputs.specs.Reading.{GrownInB}
use Rattle.inputs.proofs.design_in.enter_prices_b.Given as goal

abbrev pub invariant-loop : goal.invariant-loop
invariant-loop g l = GrownInB (g.J.Judge.meaning l.initial.judge) (g.J.Judge.meaning l.judge)
