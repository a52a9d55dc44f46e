use Rattle.std.proofs.Common.{◌+◌, ◌*◌}
use Rattle.values.specs.Partial.{opens}
use Rattle.settling.proofs.search.+settle_try_choice.Given as goal

abbrev pub decreases-settle : goal.decreases-settle
decreases-settle l = 2 * opens l.assignment.now.values.now + 1

abbrev pub decreases-try_choice : goal.decreases-try_choice
decreases-try_choice l = 2 * opens l.assignment.now.values.now
