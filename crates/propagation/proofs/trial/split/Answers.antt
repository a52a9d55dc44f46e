use Rattle.std.proofs.Common.{sym, ◌∙◌}
use Rattle.bits.proofs.OfBits.{bit_of_and}
use Rattle.design.proofs.Truth.{left_of, right_of}
use Rattle.propagation.proofs.Halving.{halves, turned}
use Rattle.propagation.proofs.trial.split.Goals as goal

pub without_bit-requires : goal.without_bit-requires
without_bit-requires c = record { low = c.heaviest-k.ensures.low; inside = left_of _ _ (sym (bit_of_and _ _ _) ∙ c.heaviest-k.ensures.inside) }

pub without_bit-requires-2 : goal.without_bit-requires-2
without_bit-requires-2 c = record { low = c.heaviest-k.ensures.low; inside = right_of _ _ (sym (bit_of_and _ _ _) ∙ c.heaviest-k.ensures.inside) }

pub returns-then-weight : goal.returns-then-weight
returns-then-weight c =
    turned (halves c.args.at c.heaviest-k.result c.without_bit.result c.without_bit-2.result c.without_bit.ensures.bits c.without_bit-2.ensures.bits c.without_bit.ensures.less c.without_bit-2.ensures.less)

pub returns-else-weight : goal.returns-else-weight
returns-else-weight c =
    halves c.args.at c.heaviest-k.result c.without_bit.result c.without_bit-2.result c.without_bit.ensures.bits c.without_bit-2.ensures.bits c.without_bit.ensures.less c.without_bit-2.ensures.less
