-- A design written as clauses, and what is proved of it for every two scales.
use Rattle.std.specs.Prelude.{◌≡◌, ℕ, ◌+◌, ◌-◌, ◌*◌, ◌^◌, ◌<◌, ◌≤◌, Bool, true, List, ◌++◌, length, ℤ}
use Rattle.scales.specs.Laws.{Places}
use Rattle.bits.specs.Bit.{bit}
use Rattle.design.specs.Mark.{holds}
use Rattle.design.specs.Rule.{units_used}
use Rattle.design.specs.Cost.{cost}
use Rattle.design.specs.Plan.{Scales, Meaning, Table, Within}
use Rattle.design.specs.declared.price.Price.{Price}
use Rattle.solver.specs.Setting.{setting, meets_all, clauses_named}
use Rattle.solver.specs.State.{Solving, Admits}
use Rattle.totalizer.specs.Heap.{below}
use Rattle.totalizer.specs.Clauses.{number, tree, assumed}

-- what a judge by a tree keeps: a table, with the tops as limits
pub record Design (s : Scales) (m : Meaning) : Type 0 where
  pub table : Table m
  pub limit_a : m.limit_a ≡ s.a.top
  pub limit_b : m.limit_b ≡ s.b.top

-- the extra choices of A stand past the choices, and those of B past those of A
abbrev pub past_a : Scales → Meaning → ℕ
past_a s m = m.choices + (m.price_room - 1) * s.a.top

abbrev pub number_a : Scales → Meaning → ℕ → ℕ → ℕ
number_a s m i w = number m.choices s.a.top i w

abbrev pub number_b : Scales → Meaning → ℕ → ℕ → ℕ
number_b s m i w = number (past_a s m) s.b.top i w

abbrev pub tree_a : Scales → Meaning → List (List ℤ)
tree_a s m = tree s.a m.choices m.prices_a

abbrev pub tree_b : Scales → Meaning → List (List ℤ)
tree_b s m = tree s.b (past_a s m) m.prices_b

abbrev pub clauses : Scales → Meaning → List (List ℤ)
clauses s m = m.rules ++ (tree_a s m ++ tree_b s m)

-- what the bounds x and y assume
abbrev pub bounds : Scales → Meaning → ℕ → ℕ → List ℤ
bounds s m x y = assumed s.a.top m.choices m.prices_a x ++ assumed s.b.top (past_a s m) m.prices_b y

-- M and K that a tree needs of its solver, by N, Q and R
abbrev pub needed_choices : Scales → ℕ → ℕ → ℕ
needed_choices s n q = n + (q - 1) * (s.a.top + s.b.top)

-- how many pairs of places two joined nodes have in both costs, but for the pairs of two places 0
abbrev pub pairs : Scales → ℕ
pairs s = (s.a.top + 1) * (s.a.top + 1) + (s.b.top + 1) * (s.b.top + 1) - 2

abbrev pub needed_room : Scales → ℕ → ℕ → ℕ
needed_room s q r = r + 4 * (q - 1) * pairs s

-- a solver that holds the design's clauses, in any order
pub record Written (s : Scales) (m : Meaning) (v : Solving) : Type 0 where
  pub same : (f : ℕ → Bool) → meets_all f v.clauses ≡ meets_all f (clauses s m)
  pub choices : needed_choices s m.choices m.price_room ≤ v.choices

-- a word and a setting with the same first n choices
abbrev pub Agree : ℕ → ℕ → List Bool → Type 0
Agree n w b = (k : ℕ) → 1 ≤ k → k ≤ n → bit w (k - 1) ≡ setting b k

-- each plan within the bounds extends to a setting that the solver admits
abbrev pub PlansExtend : Scales → Type 0
PlansExtend s = (m : Meaning) → Design s m → (v : Solving) → Written s m v → (x y w : ℕ) → Within s m x y w
    → (b : List Bool) × Agree m.choices w b × Admits v (bounds s m x y) b

-- each setting that the solver admits is such a plan once the extra choices are dropped
abbrev pub SettingsArePlans : Scales → Type 0
SettingsArePlans s = (m : Meaning) → Design s m → (v : Solving) → Written s m v → (x y w : ℕ) (b : List Bool) → w < 2 ^ m.choices
    → Agree m.choices w b → Admits v (bounds s m x y) b → Within s m x y w

-- the joined cost over the heap is the cost in order of entry
abbrev pub RootIsCost : Places → Type 0
RootIsCost s = (ps : List Price) (w : ℕ) → 1 ≤ length ps → below s (holds w) ps 1 ≡ cost s ps w

-- a node that joins two others and a place that has a number
pub record Extra (s : Places) (q i w : ℕ) : Type 0 where
  pub first : 1 ≤ i
  pub last : i < q
  pub some : 1 ≤ w
  pub high : w ≤ s.top

-- each node and place of both costs has its own choice, past the choices and within M
pub record Numbered (s : Scales) (m : Meaning) : Type 0 where
  pub past : (i w : ℕ) → Extra s.a m.price_room i w → m.choices < number_a s m i w
  pub within : (i w : ℕ) → Extra s.b m.price_room i w → number_b s m i w ≤ needed_choices s m.choices m.price_room
  pub apart : (i w j x : ℕ) → Extra s.a m.price_room i w → Extra s.b m.price_room j x → number_a s m i w < number_b s m j x
  pub one_a : (i w j x : ℕ) → Extra s.a m.price_room i w → Extra s.a m.price_room j x → number_a s m i w ≡ number_a s m j x → (i ≡ j) × (w ≡ x)
  pub one_b : (i w j x : ℕ) → Extra s.b m.price_room i w → Extra s.b m.price_room j x → number_b s m i w ≡ number_b s m j x → (i ≡ j) × (w ≡ x)

-- and the clauses name only such choices and fit K
pub record Fitting (s : Scales) (m : Meaning) : Type 0 where
  pub named : clauses_named (needed_choices s m.choices m.price_room) (clauses s m) ≡ true
  pub fits : units_used (clauses s m) ≤ needed_room s m.price_room m.rule_room

abbrev pub ChoicesSuffice : Scales → Type 0
ChoicesSuffice s = (m : Meaning) → Numbered s m

abbrev pub ClausesFit : Scales → Type 0
ClausesFit s = (m : Meaning) → Design s m → Fitting s m
