use Rattle.std.proofs.Common.{sym, ap, subst, arith}
use Rattle.scales.proofs.ByPlaces.{PlaceLaws, place_laws}
use Rattle.design.specs.Plan.{Scales}
use Rattle.planner.proofs.Halving.{small_a}
use Rattle.planner.proofs.halve.find_least.Goals as goal

pub returns-in_err-word : goal.returns-in_err-word
returns-in_err-word g c =
    let j = g.J.Judge in
    let l = subst PlaceLaws (ap (λ (x : Scales). x.a) (sym g.met.J.Judge.tied)) (place_laws _ _ _ _ g.J.CostA.Scale.laws) in
    let h = c.in_err-word.ensures in
    rw c.from_residual.ensures
    (record { answer = λ v p b. h.answer v (record { plan = p; at_a = omega (arith, small_a j.scales (j.meaning c.args.judge.now) v l); at_b = b }); same = h.same })
