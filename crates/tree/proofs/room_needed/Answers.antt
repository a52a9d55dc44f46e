use Rattle.std.proofs.Common.{rules}
use Rattle.scales.proofs.ByPlaces.{place_laws}
use Rattle.plain.specs.Held.{pair_of}
use Rattle.totalizer.proofs.Fits.{fitting}
use Rattle.tree.proofs.room_needed.Goals as goal

pub returns : goal.returns
returns g c =
    let a = g.A.Scale in
    let b = g.B.Scale in
    record {
      needed = search rules;
      fit = fitting (pair_of a.places b.places) (place_laws a.places a.place a.at a.joined a.laws) (place_laws b.places b.place b.at b.joined b.laws);
    }
