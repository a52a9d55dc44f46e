use Rattle.planner.proofs.Halving.{held_by}
use Rattle.planner.proofs.halve.entry_of.Goals as goal

pub returns-clause-held : goal.returns-clause-held
returns-clause-held g c = held_by _ _ _ _ _ c.requires c.costs-a.ensures.first c.costs-a.ensures.second
