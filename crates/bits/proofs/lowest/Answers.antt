use Rattle.std.proofs.Common.{rules}
use Rattle.bits.proofs.OfBits.{ones_shifted}
use Rattle.bits.proofs.lowest.Goals as goal

pub returns : goal.returns
returns c = search (rules, ones_shifted)
