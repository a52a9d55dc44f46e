use Rattle.std.proofs.Common.{rules}
use Rattle.bits.proofs.OfBits.{low_bit}
use Rattle.bits.proofs.has_bit.Goals as goal

pub returns : goal.returns
returns c = search (rules, low_bit)
