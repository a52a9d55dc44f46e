-- The refusals of a set-up on the tree: those of every judge, and then that the store is smaller than
-- the solver needs.
use Rattle.std.specs.Prelude.{ℕ, [], ◌∷◌, Option, nat_lt}
use Rattle.scales.specs.Models.{hours_places, needles_places}
use Rattle.design.specs.Plan.{Scales}
use Rattle.design.specs.Fault.{first_that_holds}
use Rattle.design.specs.declared.fault.SolverFault.TheVariants.{TooSmall}
use Rattle.design.specs.declared.fault.JudgeFault.{JudgeFault}
use Rattle.design.specs.declared.fault.JudgeFault.TheVariants.{Solver}
use Rattle.judge.specs.Calls.{sizes_fault}
use Rattle.solver.specs.Calls.{store_needed}
use Rattle.totalizer.specs.Encoding.{needed_choices, needed_room}
use Rattle.tree.specs.Sizes.{else_fault}

abbrev pub hours_and_needles : Scales
hours_and_needles = record { a = hours_places; b = needles_places }

-- the numbers that a solver with just the M and K needed is lent
abbrev pub numbers_needed : ℕ → ℕ → ℕ → ℕ
numbers_needed n q r = store_needed (needed_choices hours_and_needles n q) (needed_room hours_and_needles q r)

-- by the numbers that the store has, and N, Q and R
abbrev pub set_up_fault : ℕ → ℕ → ℕ → ℕ → Option JudgeFault
set_up_fault store n q r = else_fault (sizes_fault n q r) (first_that_holds ((nat_lt store (numbers_needed n q r), Solver TooSmall) ∷ []))
