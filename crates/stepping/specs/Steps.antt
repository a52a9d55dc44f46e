-- Clauses by the choice that decides them.
use Rattle.std.specs.Prelude.{◌≡◌, ℕ, suc, ◌<◌, ◌≤◌, max, Bool, true, false, List, [], ◌∷◌, length, ℤ, pos, ◌≢◌, slice_index_or}
use Rattle.design.specs.Mark.{bit_of}
use Rattle.values.specs.Partial.{is_open, state_from}
use Rattle.values.specs.declared.State.TheVariants.{Broken}
use Rattle.sweeping.specs.declared.assignment.Assignment.{Assignment}
use Rattle.sweeping.specs.Trail.{values_in, clauses_at, Meets}
use Rattle.sweeping.specs.Sweeps.{MeetsOne, Everywhere, Nowhere}

-- the highest choice that a clause names, or 0: where choices are gone through in order, the clause
-- is decided once this one is
unfoldable pub highest : List ℤ → ℕ
highest [] = 0
highest (m ∷ ms) = max (suc (bit_of m)) (highest ms)

-- the first n choices have values
abbrev pub Fixed : ℕ → List ℤ → Type 0
Fixed n v = (k : ℕ) → k < n → is_open (slice_index_or v k (pos 0)) ≡ 0

-- choice n decides a clause, which is broken
abbrev pub Breaks : ℕ → List ℤ → List ℤ → Bool → Type 0
Breaks n v c true = state_from v Broken c ≡ Broken
Breaks n v c false = highest c ≡ n → state_from v Broken c ≢ Broken

-- no clause that choice n decides is broken
abbrev pub NoneBroken : ℕ → List ℤ → List (List ℤ) → Type 0
NoneBroken n v [] = Unit {0}
NoneBroken n v (c ∷ cs) = Breaks n v c false × NoneBroken n v cs

-- every clause that a choice below n decides is met
abbrev pub MetBelow : ℕ → List ℤ → List (List ℤ) → Type 0
MetBelow n v [] = Unit {0}
MetBelow n v (c ∷ cs) = (highest c < n → Everywhere (MeetsOne c) v) × MetBelow n v cs

-- what a test of the clauses that choice n decides says
abbrev pub Tested : Assignment → ℕ → Bool → Type 0
Tested a n true = NoneBroken n (values_in a) (clauses_at a)
Tested a n false = Nowhere (Meets (clauses_at a)) (values_in a)

-- values on the way through the choices, n of which are behind
pub record Walked (a : Assignment) (n : ℕ) : Type 0 where
  pub low : n ≤ length (values_in a)
  pub fixed : Fixed n (values_in a)
  pub met : MetBelow n (values_in a) (clauses_at a)
