-- The marks of rules as they are held.
use Rattle.std.specs.Prelude.{◌≡◌, ℕ, true, List, map, take, ℤ}
use Rattle.design.specs.Rule.{meets_all}
use Rattle.propagation.specs.declared.rule.Rule.{Rule}

abbrev pub marks_of : Rule → List ℤ
marks_of r = take r.count r.marks

unfoldable pub rules_of : List Rule → List (List ℤ)
rules_of rs = map marks_of rs

-- a setting meets all rules of a list
abbrev pub Met : List Rule → ℕ → Type 0
Met rs w = meets_all w (rules_of rs) ≡ true
