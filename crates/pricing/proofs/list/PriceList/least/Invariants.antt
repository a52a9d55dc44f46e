use Rattle.std.proofs.Common.{ℕ, ◌≤◌, vec_items}
use Rattle.design.specs.Cost.{total}
use Rattle.propagation.specs.Held.{Met}
use Rattle.propagation.specs.Narrowing.{Agrees}
use Rattle.pricing.proofs.Bounding.{counts}
use Rattle.pricing.proofs.list.PriceList.least.Given as goal

abbrev pub invariant-loop-rule : goal.invariant-loop-rule
invariant-loop-rule g l =
    (w : ℕ) → Agrees l.at.up l.at.down w → Met l.rules w → l.sum ≤ total g.S.Scale.places (counts w l.seen) (vec_items l.self.entries)
