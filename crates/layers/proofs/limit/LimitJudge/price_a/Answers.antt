use Rattle.std.proofs.Common.{ℤ, refl, ap, ◌∙◌, subst, w8}
use Rattle.std.proofs.lemmas.Int.{to_z-of_z}
use Rattle.judge.specs.Calls.{price_a_answer, Entered, with_price_a, price_of}
use Rattle.layers.specs.Meanings.{lowered}
use Rattle.layers.proofs.Through.{handed_on}
use Rattle.layers.proofs.limit.LimitJudge.price_a.Goals as goal

pub returns : goal.returns
unfolding price_a_answer
returns g c =
    let s = c.args.self.now in
    let m = g.J.Judge.meaning s.judge in
    let e = to_z-of_z w8 c.args.mark c.ranges.mark in
    let h = subst (λ (k : ℤ). Entered g.J.Judge.meaning s.judge (with_price_a m (price_of k c.args.place)) c.price_a.result c.price_a.new.self) e c.price_a.ensures.after in
    record {
      answer = c.price_a.ensures.answer ∙ ap (λ (k : ℤ). price_a_answer g.J.Judge.scales m k c.args.place) e;
      after = handed_on g.J.Judge.meaning (λ k. lowered k.limit_a k.limit_b (g.J.Judge.meaning k.judge)) (lowered s.limit_a s.limit_b) (λ j. record { judge = j; limit_a = s.limit_a; limit_b = s.limit_b }) (λ j. refl) s.judge c.price_a.new.self (with_price_a m (price_of c.args.mark c.args.place)) c.price_a.result h;
    }
