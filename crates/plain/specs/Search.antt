-- What the search answers for a partial setting.
use Rattle.std.specs.Prelude.{ℕ, ◌≤◌, List, Some, None, Option}
use Rattle.design.specs.Plan.{Scales}
use Rattle.design.specs.Cost.{cost}
use Rattle.design.specs.declared.price.Price.{Price}
use Rattle.propagation.specs.Held.{Met}
use Rattle.propagation.specs.Narrowing.{Narrow, Nowhere, AllAlive}
use Rattle.propagation.specs.declared.rule.Rule.{Rule}
use Rattle.propagation.specs.declared.partial.Partial.{Partial}
use Rattle.pricing.specs.Bounds.{sure_total}

-- what is looked for: rules, the prices of both costs, and the two bounds
pub record Query : Type 0 where
  pub scales : Scales
  pub rules : List Rule
  pub prices_a : List Price
  pub prices_b : List Price
  pub bound_a : ℕ
  pub bound_b : ℕ

-- a setting that meets the rules, with both costs within the bounds
pub record Fitting (q : Query) (w : ℕ) : Type 0 where
  pub met : Met q.rules w
  pub within_a : cost q.scales.a q.prices_a w ≤ q.bound_a
  pub within_b : cost q.scales.b q.prices_b w ≤ q.bound_b

-- nothing follows any more: each rule can still be met, and the sure marks are within the bounds
pub record Still (q : Query) (p : Partial) : Type 0 where
  pub alive : AllAlive q.rules p.up p.down
  pub sure_a : sure_total q.scales.a q.prices_a p ≤ q.bound_a
  pub sure_b : sure_total q.scales.b q.prices_b p ≤ q.bound_b

abbrev pub Settled : Query → Partial → Option Partial → Type 0
Settled q p None = Nowhere (Fitting q) p.up p.down
Settled q p (Some r) = Narrow (Fitting q) p.up p.down r.up r.down × Still q r

abbrev pub Found : Query → Partial → Option ℕ → Type 0
Found q p None = Nowhere (Fitting q) p.up p.down
Found q p (Some w) = (w ≤ p.up) × Fitting q w
