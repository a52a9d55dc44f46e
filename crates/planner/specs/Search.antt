-- The search for the next point: the least cost A among plans whose cost B is within a bound, and
-- among those the least cost B.
use Rattle.std.specs.Prelude.{◌≡◌, ℕ, ◌<◌, ◌≤◌, Some, None, Option}
use Rattle.design.specs.Plan.{Scales, Meaning, Plan, cost_a, cost_b}
use Rattle.planner.specs.declared.entry.Entry.{Entry}
use Rattle.planner.specs.declared.search.Search.{Search}

-- a plan with its two costs
pub record Held (s : Scales) (m : Meaning) (e : Entry) : Type 0 where
  pub plan : Plan s m e.word
  pub is_a : cost_a s m e.word ≡ e.a
  pub is_b : cost_b s m e.word ≡ e.b

-- how far a search is: the best plan found, and below which costs there is none
pub record Narrowed (s : Scales) (m : Meaning) (h : Search) : Type 0 where
  pub held : Held s m h.best
  pub in_bound : h.best.b ≤ h.most
  pub low_a : h.least_a ≤ h.best.a
  pub none_a : (v : ℕ) → Plan s m v → cost_a s m v < h.least_a → cost_b s m v ≤ h.most → ⊥
  pub low_b : h.least_b ≤ h.best.b
  -- the search for B begins where that for A has ended
  pub first_a : h.least_a < h.best.a → h.least_b ≡ 0
  pub none_b : (v : ℕ) → Plan s m v → cost_a s m v ≤ h.best.a → cost_b s m v < h.least_b → ⊥

-- the least cost A among the plans within the bound on B, and among those the least B
pub record Least (s : Scales) (m : Meaning) (most : ℕ) (e : Entry) : Type 0 where
  pub held : Held s m e
  pub in_bound : e.b ≤ most
  pub least_a : (v : ℕ) → Plan s m v → cost_a s m v < e.a → cost_b s m v ≤ most → ⊥
  pub least_b : (v : ℕ) → Plan s m v → cost_a s m v ≤ e.a → cost_b s m v < e.b → ⊥

abbrev pub Searched : Scales → Meaning → ℕ → Option Entry → Type 0
Searched s m most (Some e) = Least s m most e
Searched s m most None = (v : ℕ) → Plan s m v → cost_b s m v ≤ most → ⊥
