-- What is listed when a listing has ended: the Pareto front of the published definitions.
use Rattle.std.specs.Prelude.{◌≡◌, ℕ, true, ◌⊎◌, List, [], ◌∷◌}
use Rattle.design.specs.Plan.{Scales, Meaning, Plan, cost_a, cost_b}
use Rattle.published.specs.Literature.{Assignment, ParetoOptimal}
use Rattle.published.specs.Reading.{instance_of, assignment_of, image}
use Rattle.planner.specs.declared.entry.Entry.{Entry}
use Rattle.planner.specs.Order.{All, Ordered, covered}

-- a point is one of the listed
abbrev pub Lists : List Entry → ℕ × ℕ → Type 0
Lists [] p = ⊥
Lists (e ∷ es) p = ((e.a, e.b) ≡ p) ⊎ Lists es p

-- the entry's plan, read as an assignment, is Pareto-optimal and has the entry's point
pub record Optimal (s : Scales) (m : Meaning) (e : Entry) : Type 0 where
  pub optimal : ParetoOptimal (instance_of s m) (assignment_of e.word)
  pub at : image (instance_of s m) (assignment_of e.word) ≡ (e.a, e.b)

-- the listed points are those of the Pareto-optimal assignments, all of them, in order of cost A
pub record Front (s : Scales) (m : Meaning) (es : List Entry) : Type 0 where
  pub sound : All (Optimal s m) es
  pub complete : (τ : Assignment) → ParetoOptimal (instance_of s m) τ → Lists es (image (instance_of s m) τ)
  pub ordered : Ordered 0 201 es

-- a step may answer "ended": each plan is covered already, so that the front is listed
pub record AllListed (s : Scales) (m : Meaning) (es : List Entry) : Type 0 where
  pub covers : (v : ℕ) → Plan s m v → covered es (cost_a s m v) (cost_b s m v) ≡ true
  pub front : Front s m es
