-- What the checking call of a making answers.
use Rattle.std.specs.Prelude.{◌≡◌, ℕ, ◌≤◌, Some, None, Ok, Err, Result}
use Rattle.design.specs.declared.fault.SolverFault.{SolverFault}
use Rattle.solver.specs.Calls.{making_fault, store_needed}
use Rattle.store.specs.declared.sizes.Sizes.{Sizes}

abbrev pub Checked : ℕ → ℕ → ℕ → Result Sizes SolverFault → Type 0
Checked m k long (Ok s) = (making_fault m k long ≡ None) × (s.choices ≡ m) × (s.room ≡ k) × (store_needed m k ≤ long)
Checked m k long (Err f) = making_fault m k long ≡ Some f
