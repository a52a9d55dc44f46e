use Rattle.std.proofs.Common.{◌-◌, length}
use Rattle.job.proofs.drive.play.Given as goal

abbrev pub decreases-loop-found : goal.decreases-loop-found
decreases-loop-found g l = length l.job - l.offset
