use Rattle.design.specs.Plan.{cost_a, cost_b}
use Rattle.layers.proofs.limit.LimitJudge.costs.Goals as goal

pub returns : goal.returns
unfolding cost_a cost_b
returns g c = record { first = c.costs.ensures.first; second = c.costs.ensures.second }
