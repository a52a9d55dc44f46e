use Rattle.std.proofs.Common.{rules}
use Rattle.std.proofs.lemmas.Nat.{one_shl}
use Rattle.bits.proofs.OfBits.{dropped, lost}
use Rattle.bits.proofs.without_bit.Goals as goal

pub returns : goal.returns
returns c =
    let d = dropped c.args.word _ c.args.k c.without.result (search (rules, one_shl)) c.without.ensures.bits in
    record { bits = d; less = lost c.args.word c.args.k c.without.result d c.requires.inside c.without.ensures.less }
