use Rattle.std.proofs.Common.{arith}
use lib.Bits.{bit_or}
use Rattle.propagation.proofs.Eases.{eased, or_off}
use Rattle.propagation.proofs.ease.Goals as goal

pub returns : goal.returns
returns c =
    let n = c.asked-asked.result in
    let leave = c.without-leave.result in
    let add = c.without-take.result in
    eased c.args.rules.now c.args.priced.ups c.args.priced.downs c.args.at (record { up = c.without.result; down = c.without-2.result })
    n.ups n.downs leave add (bit_or n.ups c.args.priced.downs) (bit_or (bit_or n.downs c.args.priced.ups) leave)
    c.asked-asked.ensures (omega arith) c.without-leave.ensures.bits c.without-take.ensures.bits
    (λ k f. or_off n.ups c.args.priced.downs k f)
    (λ k f. let x = or_off (bit_or n.downs c.args.priced.ups) leave k f in let y = or_off n.downs c.args.priced.ups k x.0 in (y.0, y.1, x.1))
    c.without.ensures.bits c.without-2.ensures.bits c.without.ensures.less c.without-2.ensures.less
