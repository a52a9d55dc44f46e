use Rattle.std.proofs.Common.{◌-◌, length}
use Rattle.stepping.proofs.walk.+step.Given as goal

abbrev pub decreases-step : goal.decreases-step
decreases-step l = length l.assignment.now.values.now - l.count
