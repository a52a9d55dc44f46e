use Rattle.std.proofs.Common.{refl}
use Rattle.judge.specs.Calls.{rule_answer, with_rule}
use Rattle.layers.specs.Meanings.{lowered}
use Rattle.layers.proofs.Through.{handed_on}
use Rattle.layers.proofs.limit.LimitJudge.rule.Goals as goal

pub returns : goal.returns
unfolding rule_answer
returns g c =
    let s = c.args.self.now in
    record {
      answer = c.rule.ensures.answer;
      after = handed_on g.J.Judge.meaning (λ k. lowered k.limit_a k.limit_b (g.J.Judge.meaning k.judge)) (lowered s.limit_a s.limit_b) (λ j. record { judge = j; limit_a = s.limit_a; limit_b = s.limit_b }) (λ j. refl) s.judge c.rule.new.self (with_rule (g.J.Judge.meaning s.judge) c.args.marks.now) c.rule.result c.rule.ensures.after;
    }
