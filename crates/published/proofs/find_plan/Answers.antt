use Rattle.std.proofs.Common.{sym, ap, subst, rules}
use Rattle.scales.proofs.ByPlaces.{PlaceLaws, place_laws}
use Rattle.design.specs.Plan.{Scales}
use Rattle.published.proofs.Agreed.{reads_as, solved}
use Rattle.published.proofs.find_plan.Goals as goal

pub returns : goal.returns
returns g c =
    let j = g.J.Judge in
    let t = j.table c.args.judge.now in
    let e = sym g.met.J.Judge.tied in
    let la = subst PlaceLaws (ap (λ (x : Scales). x.a) e) (place_laws _ _ _ _ g.J.CostA.Scale.laws) in
    let lb = subst PlaceLaws (ap (λ (x : Scales). x.b) e) (place_laws _ _ _ _ g.J.CostB.Scale.laws) in
    let r = reads_as _ _ t la lb in
    let h = solved _ _ t _ _ _ c.seek.ensures.answer in
    search rules
