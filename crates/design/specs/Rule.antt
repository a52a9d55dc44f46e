-- Rules. A rule is a list of marks, and is met where at least one of them is true.
use Rattle.std.specs.Prelude.{ℕ, ◌+◌, Bool, true, false, ◌&&◌, ◌||◌, List, [], ◌∷◌, length, ℤ}
use Rattle.design.specs.Mark.{holds}

-- no setting meets a rule without marks
unfoldable pub meets : ℕ → List ℤ → Bool
meets w [] = false
meets w (m ∷ ms) = holds w m || meets w ms

unfoldable pub meets_all : ℕ → List (List ℤ) → Bool
meets_all w [] = true
meets_all w (r ∷ rs) = meets w r && meets_all w rs

-- what a rule takes of the rule capacity: one unit, and one more for each mark
abbrev pub rule_units : List ℤ → ℕ
rule_units r = 1 + length r

unfoldable pub units_used : List (List ℤ) → ℕ
units_used [] = 0
units_used (r ∷ rs) = rule_units r + units_used rs
