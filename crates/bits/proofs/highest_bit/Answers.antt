use Rattle.std.proofs.Common.{rules}
use Rattle.std.proofs.lemmas.Nat.{one_shl}
use Rattle.bits.proofs.highest_bit.Goals as goal

pub returns : goal.returns
returns c =
    let i = c.highest_index.ensures in
    record { index = c.highest_index.result; low = i.low; power = search (rules, one_shl); inside = i.inside }
