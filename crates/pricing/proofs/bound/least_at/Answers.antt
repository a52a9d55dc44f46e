use Rattle.std.proofs.Common.{arith}
use Rattle.pricing.proofs.Bounding.{left_next, left_done}
use Rattle.pricing.proofs.bound.least_at.Goals as goal

pub loop-k-preserved : goal.loop-k-preserved
loop-k-preserved c = (
  omega (arith, c.min-least.ensures, c.loop-k.invariant.0),
  left_next c.args.table.now c.args.word c.loop-k.k-iterator.left c.next.new.self.left c.in-Some.k c.loop-k.least c.min-least.result
      c.loop-k.invariant.1 c.in-Some.ensures.steps.rest (omega (arith, c.min-least.ensures)) (omega (arith, c.min-least.ensures)),
)

pub returns : goal.returns
returns c = record { from = c.loop-k.invariant.0; each = left_done c.args.table.now c.args.word c.loop-k.k-iterator.left c.loop-k.least c.loop-k.invariant.1 c.in-None.ensures.steps.0 }
