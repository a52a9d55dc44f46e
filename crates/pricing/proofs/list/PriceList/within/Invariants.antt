use Rattle.propagation.specs.Narrowing.{Narrow}
use Rattle.pricing.specs.Bounds.{Affordable}
use Rattle.pricing.proofs.list.PriceList.within.Given as goal

abbrev pub invariant-loop-price : goal.invariant-loop-price
invariant-loop-price g l = Narrow (Affordable g.S.Scale.places l.price-items l.bound) l.at.up l.at.down l.here.up l.here.down
