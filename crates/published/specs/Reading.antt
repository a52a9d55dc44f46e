-- How a judge's meaning is read as an instance and a word as an assignment, and what it says that the
-- design's definitions agree with the literature's.
use Rattle.std.specs.Prelude.{◌≡◌, ℕ, zero, suc, ◌+◌, ◌^◌, ◌<◌, ◌≤◌, Bool, true, false, ◌⊎◌, ◌↔◌, List, map, ℤ, pos, negsuc, Some, None, Option, refl}
use Rattle.std.proofs.Common.{inl, inr}
use Rattle.scales.specs.Laws.{Places}
use Rattle.bits.specs.Bit.{bit}
use Rattle.design.specs.Rule.{meets_all}
use Rattle.design.specs.Plan.{Scales, Meaning, Plan, Beats, point}
use Rattle.design.specs.declared.price.Price.{Price}
use Rattle.published.specs.Literature.{Assignment, Literal, variable, negation, formula_value, Solution, Term, Objective, objective_value, Instance, Feasible, Dominates, ParetoOptimal}

-- a mark as a literal (negsuc k is -(k + 1))
abbrev pub literal_of : ℤ → Literal
literal_of (pos n) = variable n
literal_of (negsuc k) = negation (k + 1)

abbrev pub formula_of : List (List ℤ) → List (List Literal)
formula_of rs = map (map literal_of) rs

abbrev pub term_of : Price → Term
term_of p = record { literal = literal_of p.mark; place = p.place }

abbrev pub objective_of : Places → List Price → Objective
objective_of s ps = record { scale = s; terms = map term_of ps }

abbrev pub instance_of : Scales → Meaning → Instance
instance_of s m = record {
  formula = formula_of m.rules;
  first = objective_of s.a m.prices_a;
  second = objective_of s.b m.prices_b;
  first_limit = m.limit_a;
  second_limit = m.limit_b;
}

abbrev pub truth_value : Bool → ℕ
truth_value true = 1
truth_value false = 0

-- variables count from one, bits from zero; there is no variable 0
abbrev pub value_in : ℕ → ℕ → ℕ
value_in w zero = 0
value_in w (suc k) = truth_value (bit w k)

truth_either : (b : Bool) → (truth_value b ≡ 0) ⊎ (truth_value b ≡ 1)
truth_either true = inr refl
truth_either false = inl refl

pub value_either : (w x : ℕ) → (value_in w x ≡ 0) ⊎ (value_in w x ≡ 1)
value_either w zero = inl refl
value_either w (suc k) = truth_either (bit w k)

abbrev pub assignment_of : ℕ → Assignment
assignment_of w = record { value = value_in w; two_valued = value_either w }

abbrev pub image : Instance → Assignment → ℕ × ℕ
image I τ = (objective_value τ I.first, objective_value τ I.second)

-- the word w stands for the assignment τ: nothing of the instance tells τ from the reading of w
pub record StandsFor (s : Scales) (m : Meaning) (w : ℕ) (τ : Assignment) : Type 0 where
  pub fits : w < 2 ^ m.choices
  pub variables : (x : ℕ) → 1 ≤ x → x ≤ m.choices → value_in w x ≡ τ.value x
  pub formula : formula_value (assignment_of w) (instance_of s m).formula ≡ formula_value τ (instance_of s m).formula
  pub values : image (instance_of s m) (assignment_of w) ≡ image (instance_of s m) τ
  pub feasible : Feasible (instance_of s m) (assignment_of w) ↔ Feasible (instance_of s m) τ

-- no plan's point beats the point of the plan w
pub record Best (s : Scales) (m : Meaning) (w : ℕ) : Type 0 where
  pub plan : Plan s m w
  pub unbeaten : (v : ℕ) → Plan s m v → Beats (point s m v) (point s m w) → ⊥

-- the design's definitions, at a meaning, agree with the literature's at its instance
pub record ReadsAs (s : Scales) (m : Meaning) : Type 0 where
  pub solutions : (w : ℕ) → (meets_all w m.rules ≡ true) ↔ Solution (assignment_of w) (instance_of s m).formula
  pub costs : (w : ℕ) → image (instance_of s m) (assignment_of w) ≡ point s m w
  pub plans : (w : ℕ) → w < 2 ^ m.choices → Plan s m w ↔ Feasible (instance_of s m) (assignment_of w)
  pub beats : (v w : ℕ) → Beats (point s m v) (point s m w) ↔ Dominates (instance_of s m) (assignment_of v) (assignment_of w)
  -- each assignment has exactly one word that stands for it
  pub complete : (τ : Assignment) → (w : ℕ) × StandsFor s m w τ
  pub unique : (τ : Assignment) (v w : ℕ) → StandsFor s m v τ → StandsFor s m w τ → v ≡ w
  -- limits at the tops of the scales leave every solution feasible
  pub unlimited : m.limit_a ≡ s.a.top → m.limit_b ≡ s.b.top → (τ : Assignment) → Solution τ (instance_of s m).formula → Feasible (instance_of s m) τ
  pub optimal : (w : ℕ) → w < 2 ^ m.choices → Best s m w ↔ ParetoOptimal (instance_of s m) (assignment_of w)

pub record WithinBounds (I : Instance) (a b : ℕ) (τ : Assignment) : Type 0 where
  pub feasible : Feasible I τ
  pub first : objective_value τ I.first ≤ a
  pub second : objective_value τ I.second ≤ b

-- what a search for a solution within two bounds answers
abbrev pub Solved : Instance → ℕ → ℕ → Option ℕ → Type 0
Solved I a b (Some w) = WithinBounds I a b (assignment_of w)
Solved I a b None = (τ : Assignment) → WithinBounds I a b τ → ⊥
