use Rattle.std.proofs.Common.{vec_items, ◌∙◌}
use Rattle.scales.proofs.ByPlaces.{place_laws}
use Rattle.pricing.proofs.Costing.{cost_whole}
use Rattle.pricing.proofs.list.PriceList.cost.Goals as goal

pub returns : goal.returns
returns g c =
    let s = g.S.Scale in
    let l = c.args.self.now in
    c.sure_cost.ensures ∙ cost_whole s.places (place_laws s.places s.place s.at s.joined s.laws) (vec_items l.entries) c.args.word l.named
