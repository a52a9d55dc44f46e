-- A judge is made empty, with the tops of its scales as limits, exactly where its sizes are not
-- refused; else what it was to be made of comes back.
use Rattle.std.specs.Prelude.{◌≡◌, ℕ, Some, None, Ok, Err, Option, Result}
use Rattle.design.specs.declared.fault.JudgeFault.{JudgeFault}
use Rattle.design.specs.Plan.{Scales, Meaning}
use Rattle.judge.specs.Calls.{no_entries}
use Rattle.job.specs.declared.maker.Unmade.{Unmade}

abbrev pub Made : {J M : Type 0} → Scales → (J → Meaning) → Option JudgeFault → M → ℕ → ℕ → ℕ → Result J (Unmade M) → Type 0
Made s meaning refusal maker n q r (Ok j) = (refusal ≡ None) × (meaning j ≡ no_entries n q r s.a.top s.b.top)
Made s meaning refusal maker n q r (Err u) = (refusal ≡ Some u.fault) × (u.maker ≡ maker)
