use Rattle.std.proofs.Common.{ap}
use Rattle.layers.specs.Meanings.{lowered}
use Rattle.layers.proofs.OfPlans.{lowered_sought}
use Rattle.layers.proofs.limit.LimitJudge.seek.Goals as goal

pub returns : goal.returns
returns g c =
    let s = c.args.self.now in
    record {
      answer = lowered_sought g.J.Judge.scales (g.J.Judge.meaning s.judge) s.limit_a s.limit_b c.args.a c.args.b c.seek.result
          (simp (c.lower-within_a.ensures, c.lower-within_b.ensures) at c.seek.ensures.answer);
      same = ap (lowered s.limit_a s.limit_b) c.seek.ensures.same;
    }
