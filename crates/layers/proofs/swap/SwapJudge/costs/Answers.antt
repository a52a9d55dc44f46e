use Rattle.design.specs.Plan.{cost_a, cost_b}
use Rattle.layers.proofs.swap.SwapJudge.costs.Goals as goal

pub returns : goal.returns
unfolding cost_a cost_b
returns g c = record { first = c.costs-a.ensures.second; second = c.costs-a.ensures.first }
