-- The sizes that a check lets pass.
use Rattle.std.specs.Prelude.{◌≡◌, ℕ, Some, None, Ok, Err, Result}
use Rattle.design.specs.declared.fault.JudgeFault.{JudgeFault}
use Rattle.judge.specs.Calls.{sizes_fault}
use Rattle.judge.specs.declared.sizes.Sizes.{Sizes}

abbrev pub sizes_made : ℕ → ℕ → ℕ → Result Sizes JudgeFault → Type 0
sizes_made n q r (Err f) = sizes_fault n q r ≡ Some f
sizes_made n q r (Ok s) = (sizes_fault n q r ≡ None) × (s.choices ≡ n) × (s.price_room ≡ q) × (s.rule_room ≡ r)
