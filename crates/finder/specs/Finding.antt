-- What a tree asks of its solver, and what follows from the answers.
use Rattle.std.specs.Prelude.{ℕ, ◌^◌, ◌<◌, ◌≤◌, Bool, true, false}
use Rattle.design.specs.Plan.{Scales, Meaning, Within}
use Rattle.solver.specs.State.{Solving}
use Rattle.totalizer.specs.Encoding.{needed_choices, needed_room, Agree}

-- a solver with the M and K that the design's sizes ask for
pub record Large (s : Scales) (m : Meaning) (v : Solving) : Type 0 where
  pub choices : needed_choices s m.choices m.price_room ≤ v.choices
  pub room : needed_room s m.price_room m.rule_room ≤ v.room

-- yes: the held setting is a plan within the bounds once the extra choices are dropped; no: there is
-- no such plan
abbrev pub Found : Scales → Meaning → ℕ → ℕ → Bool → Solving → Type 0
Found s m x y true v = (w : ℕ) → w < 2 ^ m.choices → Agree m.choices w v.held → Within s m x y w
Found s m x y false v = (w : ℕ) → Within s m x y w → ⊥
