-- What holds of a list of points, with the plans of a meaning.
use Rattle.std.specs.Prelude.{◌≡◌, ℕ, ◌<◌, true, List}
use Rattle.design.specs.Plan.{Scales, Meaning, Plan, Beats, point, cost_a, cost_b}
use Rattle.planner.specs.declared.entry.Entry.{Entry}
use Rattle.planner.specs.Order.{Ordered, past_a, covered, All}

-- the entry's point is that of its plan, and no plan beats it
pub record Listed (s : Scales) (m : Meaning) (e : Entry) : Type 0 where
  pub plan : Plan s m e.word
  pub shows : point s m e.word ≡ (e.a, e.b)
  pub unbeaten : (v : ℕ) → Plan s m v → Beats (point s m v) (e.a, e.b) → ⊥

-- each entry is listed rightly; cost A rises and cost B falls; and each plan whose cost A is at most
-- the last listed point's is covered by a listed point
pub record Listing (s : Scales) (m : Meaning) (es : List Entry) : Type 0 where
  pub listed : All (Listed s m) es
  pub ordered : Ordered 0 201 es
  pub complete : (v : ℕ) → Plan s m v → cost_a s m v < past_a 0 es → covered es (cost_a s m v) (cost_b s m v) ≡ true
