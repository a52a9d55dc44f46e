use Rattle.std.proofs.Common.{◌≡◌, take}
use Rattle.scales.specs.Many.{joined_all}
use Rattle.scales.proofs.join_all.Given as goal

abbrev pub invariant-loop-v : goal.invariant-loop-v
invariant-loop-v g l = l.sum ≡ joined_all g.S.Scale.joined (g.S.Scale.at 0) (take l.v-index l.values)
