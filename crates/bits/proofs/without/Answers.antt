use Rattle.std.proofs.Common.{rules}
use Rattle.bits.proofs.OfBits.{bit_drop, drop_le}
use Rattle.bits.proofs.without.Goals as goal

pub returns : goal.returns
returns c = record { bits = λ k. search (rules, bit_drop); less = search (rules, drop_le) }
