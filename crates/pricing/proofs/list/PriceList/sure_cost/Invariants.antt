use Rattle.std.proofs.Common.{◌≡◌, take}
use Rattle.design.specs.Cost.{total}
use Rattle.pricing.specs.Bounds.{sure}
use Rattle.pricing.proofs.list.PriceList.sure_cost.Given as goal

abbrev pub invariant-loop-price : goal.invariant-loop-price
invariant-loop-price g l = let s = g.S.Scale in s.place l.sum ≡ total s.places (sure l.at) (take l.price-index l.price-items)
