use Rattle.std.proofs.Common.{◌<◌, length, arith, rules}
use Rattle.std.proofs.lemmas.Bool.Decides.{nat_tests}
use Rattle.std.proofs.lemmas.Int.{to_z-of_z, to_z_pos}
use Rattle.totalizer.specs.Clauses.{literal}
use Rattle.totalizer.proofs.Sizes.{number_last}
use Rattle.writer.proofs.literal_of.Goals as goal

pub number_of-requires : goal.number_of-requires
number_of-requires c = omega (arith, number_last c.args.base c.args.top (length c.args.prices.now) c.args.node c.args.place)

pub overflow_cast-result : goal.overflow_cast-result
overflow_cast-result c =
    let h : c.number_of.result < 32768 = omega (arith, number_last c.args.base c.args.top (length c.args.prices.now) c.args.node c.args.place) in
    search rules

pub returns-then-place-eq0 : goal.returns-then-place-eq0
unfolding literal
returns-then-place-eq0 c = grind (arith, nat_tests)

pub returns-then-node-prices : goal.returns-then-node-prices
unfolding literal
returns-then-node-prices c =
    let h : c.number_of.result < 32768 = omega (arith, number_last c.args.base c.args.top (length c.args.prices.now) c.args.node c.args.place) in
    grind (arith, nat_tests, to_z_pos)

pub returns-then-place-price : goal.returns-then-place-price
unfolding literal
returns-then-place-price c = grind (arith, nat_tests, to_z-of_z)

pub returns-else-place-price : goal.returns-else-place-price
unfolding literal
returns-else-place-price c = grind (arith, nat_tests)
