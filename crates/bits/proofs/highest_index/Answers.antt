use Rattle.std.proofs.Common.{arith, rules}
use Rattle.std.proofs.lemmas.Nat.{leading_top}
use Rattle.bits.proofs.OfBits.{top_inside}
use Rattle.bits.proofs.highest_index.Goals as goal

pub returns : goal.returns
returns c =
    let l = leading_top 64 c.args.word c.requires (omega arith) in
    record { low = omega arith; inside = search (rules, top_inside c.args.word _ l.0 l.1 l.2 l.3) }
