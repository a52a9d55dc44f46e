use Rattle.std.proofs.Common.{◌+◌}
use Rattle.plain.proofs.state.Plain.+search.Given as goal

abbrev pub decreases-search : goal.decreases-search
decreases-search g l = l.at.up + l.at.down
