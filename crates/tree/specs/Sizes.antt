-- What a tree needs of its solver, and the refusals of its making.
use Rattle.std.specs.Prelude.{◌≡◌, ℕ, Bool, not, ◌&&◌, [], ◌∷◌, Some, None, Ok, Err, Option, Result, nat_le}
use Rattle.design.specs.Plan.{Scales}
use Rattle.design.specs.Fault.{first_that_holds}
use Rattle.design.specs.declared.fault.SolverFault.TheVariants.{TooSmall}
use Rattle.design.specs.declared.fault.JudgeFault.{JudgeFault}
use Rattle.design.specs.declared.fault.JudgeFault.TheVariants.{Solver}
use Rattle.judge.specs.Calls.{sizes_fault}
use Rattle.judge.specs.declared.sizes.Sizes.{Sizes}
use Rattle.solver.specs.State.{Solving}
use Rattle.totalizer.specs.Encoding.{needed_choices, needed_room}

-- a solver with the M and K that a tree of sizes N, Q and R needs
abbrev pub is_large : Scales → ℕ → ℕ → ℕ → Solving → Bool
is_large s n q r v = nat_le (needed_choices s n q) v.choices && nat_le (needed_room s q r) v.room

-- a refusal, or else another
abbrev pub else_fault : Option JudgeFault → Option JudgeFault → Option JudgeFault
else_fault (Some f) other = Some f
else_fault None other = other

-- the refusals of a making: those of every judge, and then that its solver is too small
abbrev pub tree_fault : Scales → ℕ → ℕ → ℕ → Solving → Option JudgeFault
tree_fault s n q r v = else_fault (sizes_fault n q r) (first_that_holds ((not (is_large s n q r v), Solver TooSmall) ∷ []))

-- the sizes that the check lets pass
abbrev pub tree_checked : Scales → ℕ → ℕ → ℕ → Solving → Result Sizes JudgeFault → Type 0
tree_checked s n q r v (Err f) = tree_fault s n q r v ≡ Some f
tree_checked s n q r v (Ok z) = (tree_fault s n q r v ≡ None) × (z.choices ≡ n) × (z.price_room ≡ q) × (z.rule_room ≡ r)
