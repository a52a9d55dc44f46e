use Rattle.std.proofs.Common.{rules}
use Rattle.scales.proofs.join_places.Goals as goal

pub returns : goal.returns
returns g c = let l = g.S.Scale.laws.join_is c.args.p c.args.q in search rules
