use Rattle.std.proofs.Common.{ℤ, refl, subst, w8, rules}
use Rattle.std.proofs.lemmas.Int.{to_z-of_z}
use Rattle.judge.specs.Calls.{Entered, with_price_b, price_of}
use Rattle.layers.specs.Meanings.{swapped}
use Rattle.layers.proofs.Through.{handed_on, answers_a}
use Rattle.layers.proofs.swap.SwapJudge.price_a.Goals as goal

pub returns-clause-answer : goal.returns-clause-answer
returns-clause-answer g c = search (rules, answers_a)

pub returns-clause-after : goal.returns-clause-after
returns-clause-after g c =
    let s = c.args.self.now in
    let m = g.J.Judge.meaning s.judge in
    let e = to_z-of_z w8 c.args.mark c.ranges.mark in
    let h = subst (λ (k : ℤ). Entered g.J.Judge.meaning s.judge (with_price_b m (price_of k c.args.place)) c.price_b.result c.price_b.new.self) e c.price_b.ensures.after in
    handed_on g.J.Judge.meaning (λ k. swapped (g.J.Judge.meaning k.judge)) (swapped) (λ j. record { judge = j }) (λ j. refl) s.judge c.price_b.new.self (with_price_b m (price_of c.args.mark c.args.place)) c.price_b.result h
