use Rattle.std.proofs.Common.{arith}
use Rattle.pricing.proofs.list.PriceList.cheapest.Goals as goal

pub returns : goal.returns
returns c =
    let l = c.args.self.now in
    record {
      taking = λ k i t. omega (arith, c.least_at-taking.ensures.each k t, c.least_at.ensures.from, l.take_table k i);
      leaving = λ k i t. omega (arith, c.least_at.ensures.each k t, l.leave_table k i);
    }
