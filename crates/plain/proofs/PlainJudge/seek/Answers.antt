use Rattle.std.proofs.Common.{refl, rules}
use Rattle.scales.proofs.ByPlaces.{place_laws}
use Rattle.plain.specs.Held.{pair_of}
use Rattle.plain.proofs.Answering.{answered}
use Rattle.plain.proofs.PlainJudge.seek.Goals as goal

pub returns : goal.returns
returns g c =
    let x = g.A.Scale in
    let y = g.B.Scale in
    record {
      answer = let k = answered (pair_of x.places y.places) c.args.self.now c.args.a c.args.b c.lowest.result c.search.result
          (place_laws x.places x.place x.at x.joined x.laws) (place_laws y.places y.place y.at y.joined y.laws) c.lowest.ensures in search rules;
      same = refl;
    }
