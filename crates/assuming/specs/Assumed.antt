-- Assumptions as values: marks that are all to be true.
use Rattle.std.specs.Prelude.{◌≡◌, Bool, true, false, List, ℤ}
use Rattle.solver.specs.Setting.{setting, truth, all_true}
use Rattle.values.specs.Partial.{Agrees}
use Rattle.sweeping.specs.Sweeps.{Nowhere}

abbrev pub MakesTrue : ℤ → List Bool → Type 0
MakesTrue m b = truth (setting b) m ≡ true

abbrev pub MakesAllTrue : List ℤ → List Bool → Type 0
MakesAllTrue ms b = all_true (setting b) ms ≡ true

-- the values then stand for just the good settings among those they stood for
pub record Narrowed (Good : List Bool → Type 0) (v w : List ℤ) : Type 0 where
  pub gives : (b : List Bool) → Agrees w b → Agrees v b × Good b
  pub keeps : (b : List Bool) → Agrees v b → Good b → Agrees w b

abbrev pub Assumed : (List Bool → Type 0) → List ℤ → List ℤ → Bool → Type 0
Assumed Good v w true = Narrowed Good v w
Assumed Good v w false = Nowhere Good v

-- values that stand for just the settings in which the assumptions are true, or there are none
abbrev pub Prepared : List ℤ → List ℤ → Bool → Type 0
Prepared ms w true = ((b : List Bool) → Agrees w b → MakesAllTrue ms b) × ((b : List Bool) → MakesAllTrue ms b → Agrees w b)
Prepared ms w false = (b : List Bool) → MakesAllTrue ms b → ⊥
