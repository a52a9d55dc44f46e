use Rattle.std.proofs.Common.{vec_items, ◌∙◌, w8}
use Rattle.std.proofs.lemmas.Int.{to_z-of_z}
use Rattle.std.proofs.lemmas.Result.{err_from_is_err_and}
use Rattle.judge.specs.Calls.{price_a_answer}
use Rattle.plain.proofs.Entering.{sized}
use Rattle.plain.proofs.PlainJudge.price_a.Goals as goal

pub returns-in_err-check-clause-answer : goal.returns-in_err-check-clause-answer
unfolding price_a_answer
returns-in_err-check-clause-answer g c =
    let p = err_from_is_err_and c.from_residual.result c.from_residual.ensures.1 in
    rw (p.1, p.2) (c.in_err-check.ensures.answer ∙ sized c.args.self.now.a_sizes (to_z-of_z w8 c.args.mark c.ranges.mark) g.A.Scale.places.top (vec_items c.args.self.now.prices_a.list.entries) c.args.place)

pub returns-clause-answer : goal.returns-clause-answer
unfolding price_a_answer
returns-clause-answer g c = c.in_ok-check.ensures.answer ∙ sized c.args.self.now.a_sizes (to_z-of_z w8 c.args.mark c.ranges.mark) g.A.Scale.places.top (vec_items c.args.self.now.prices_a.list.entries) c.args.place
