-- Multi-objective MaxSAT as the literature defines it. Variables are numbered from 1.
use Rattle.std.specs.Prelude.{◌≡◌, ℕ, ◌-◌, ◌<◌, ◌≤◌, min, max, cond, ◌⊎◌, List, [], ◌∷◌, ◌==◌}
use Rattle.scales.specs.Laws.{Places}
use Rattle.scales.specs.Many.{joined_all}

pub record Assignment : Type 0 where
  pub value : ℕ → ℕ
  pub two_valued : (x : ℕ) → (value x ≡ 0) ⊎ (value x ≡ 1)

pub data Literal : Type 0 where
  variable : ℕ → Literal
  negation : ℕ → Literal

abbrev pub literal_value : Assignment → Literal → ℕ
literal_value τ (variable x) = τ.value x
literal_value τ (negation x) = 1 - τ.value x

-- a clause has the largest value of its literals
unfoldable pub clause_value : Assignment → List Literal → ℕ
clause_value τ [] = 0
clause_value τ (l ∷ ls) = max (literal_value τ l) (clause_value τ ls)

-- a formula, a conjunction of clauses, has the least value of its clauses
unfoldable pub formula_value : Assignment → List (List Literal) → ℕ
formula_value τ [] = 1
formula_value τ (c ∷ cs) = min (clause_value τ c) (formula_value τ cs)

abbrev pub Solution : Assignment → List (List Literal) → Type 0
Solution τ F = formula_value τ F ≡ 1

pub record Term : Type 0 where
  pub literal : Literal
  pub place : ℕ

-- the places of the terms whose literal has value 1, in order
unfoldable pub counted : Assignment → List Term → List ℕ
counted τ [] = []
counted τ (t ∷ ts) = cond (literal_value τ t.literal == 1) (t.place ∷ counted τ ts) (counted τ ts)

pub record Objective : Type 0 where
  pub scale : Places
  pub terms : List Term

-- the counted places joined from place 0, in order: a sum up to the top, or a maximum, as the scale is
abbrev pub objective_value : Assignment → Objective → ℕ
objective_value τ O = joined_all O.scale.join 0 (counted τ O.terms)

pub record Instance : Type 0 where
  pub formula : List (List Literal)
  pub first : Objective
  pub second : Objective
  pub first_limit : ℕ
  pub second_limit : ℕ

pub record Feasible (I : Instance) (τ : Assignment) : Type 0 where
  pub solution : Solution τ I.formula
  pub first_within : objective_value τ I.first ≤ I.first_limit
  pub second_within : objective_value τ I.second ≤ I.second_limit

-- σ is at most τ in both objectives, and less in one
pub record Dominates (I : Instance) (σ τ : Assignment) : Type 0 where
  pub first : objective_value σ I.first ≤ objective_value τ I.first
  pub second : objective_value σ I.second ≤ objective_value τ I.second
  pub less : (objective_value σ I.first < objective_value τ I.first) ⊎ (objective_value σ I.second < objective_value τ I.second)

pub record ParetoOptimal (I : Instance) (τ : Assignment) : Type 0 where
  pub feasible : Feasible I τ
  pub undominated : (σ : Assignment) → Feasible I σ → Dominates I σ τ → ⊥
