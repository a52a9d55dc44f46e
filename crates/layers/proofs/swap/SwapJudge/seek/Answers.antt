use Rattle.std.proofs.Common.{ap}
use Rattle.layers.specs.Meanings.{swapped}
use Rattle.layers.proofs.OfPlans.{swapped_sought}
use Rattle.layers.proofs.swap.SwapJudge.seek.Goals as goal

pub returns : goal.returns
returns g c =
    record {
      answer = swapped_sought g.J.Judge.scales (g.J.Judge.meaning c.args.self.now.judge) c.args.a c.args.b c.seek.result c.seek.ensures.answer;
      same = ap swapped c.seek.ensures.same;
    }
