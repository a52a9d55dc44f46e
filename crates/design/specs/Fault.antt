-- Refusals: the number and the layer of each, in the order in which they are looked for.
use Rattle.std.specs.Prelude.{ℕ, Bool, cond, List, [], ◌∷◌, Some, None, Ok, Err, codes, Option, Result}
use Rattle.design.specs.declared.fault.Layer.{Layer}
use Rattle.design.specs.declared.fault.Layer.TheVariants.{Job, Planner, Judge, Solver as InSolver}
use Rattle.design.specs.declared.fault.SolverFault.{SolverFault}
use Rattle.design.specs.declared.fault.SolverFault.TheVariants as solver
use Rattle.design.specs.declared.fault.JudgeFault.{JudgeFault}
use Rattle.design.specs.declared.fault.JudgeFault.TheVariants.{Choices, Capacity, LongRule, BadMark, BadPlace, PricedTwice, Full, Solver}

abbrev pub solver_number : SolverFault → ℕ
solver_number solver.Choices = 5
solver_number solver.TooSmall = 7
solver_number solver.LongClause = 9
solver_number solver.BadMark = 10
solver_number solver.Full = 13

abbrev pub solver_layer : SolverFault → Layer
solver_layer f = InSolver

abbrev pub judge_number : JudgeFault → ℕ
judge_number Choices = 5
judge_number Capacity = 6
judge_number LongRule = 9
judge_number BadMark = 10
judge_number BadPlace = 11
judge_number PricedTwice = 12
judge_number Full = 13
judge_number (Solver f) = solver_number f

abbrev pub judge_layer : JudgeFault → Layer
judge_layer (Solver f) = solver_layer f
judge_layer f = Judge

abbrev pub layer_name : Layer → List ℕ
layer_name Job = codes "job"
layer_name Planner = codes "planner"
layer_name Judge = codes "judge"
layer_name InSolver = codes "solver"

-- of refusals with their conditions, in order, the first whose condition holds
abbrev pub first_that_holds : {F : Type 0} → List (Bool × F) → Option F
first_that_holds [] = None
first_that_holds (x ∷ xs) = cond x.0 (Some x.1) (first_that_holds xs)

-- the answer of a call that is refused by f, or else answers v
abbrev pub refused_or : {F V : Type 0} → Option F → V → Result V F
refused_or (Some f) v = Err f
refused_or None v = Ok v
