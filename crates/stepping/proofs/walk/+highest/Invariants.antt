use Rattle.std.proofs.Common.{length}
use Rattle.stepping.proofs.walk.+highest.Given as goal

abbrev pub decreases-highest : goal.decreases-highest
decreases-highest l = length l.marks.now
