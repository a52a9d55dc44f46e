use Rattle.std.proofs.Common.{◌∙◌, arith, w8}
use Rattle.std.proofs.lemmas.Bool.Decides.{nat_tests}
use Rattle.std.proofs.lemmas.Int.{to_z-of_z}
use Rattle.design.proofs.OfPrices.{priced_by}
use Rattle.judge.proofs.check_price.Goals as goal

pub returns-then-has_price : goal.returns-then-has_price
returns-then-has_price c =
    let e = c.has_price.ensures ∙ priced_by c.args.prices.now _ c.args.mark (to_z-of_z w8 c.args.mark c.ranges.mark) in grind (arith, nat_tests)

pub returns-then-prices-from : goal.returns-then-prices-from
returns-then-prices-from c =
    let e = c.has_price.ensures ∙ priced_by c.args.prices.now _ c.args.mark (to_z-of_z w8 c.args.mark c.ranges.mark) in grind (arith, nat_tests)

pub returns : goal.returns
returns c =
    let e = c.has_price.ensures ∙ priced_by c.args.prices.now _ c.args.mark (to_z-of_z w8 c.args.mark c.ranges.mark) in grind (arith, nat_tests)
