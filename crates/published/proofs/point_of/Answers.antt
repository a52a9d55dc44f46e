use Rattle.std.proofs.Common.{rules}
use Rattle.published.proofs.Agreed.{image_read}
use Rattle.published.proofs.point_of.Goals as goal

pub returns : goal.returns
returns g c = let r = image_read g.J.Judge.scales _ (g.J.Judge.table c.args.judge.now) in search rules
