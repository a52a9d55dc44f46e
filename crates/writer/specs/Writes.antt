-- What the writer asks of a solver and of numbers.
use Rattle.std.specs.Prelude.{◌≡◌, ℕ, ◌+◌, ◌-◌, ◌*◌, ◌^◌, ◌<◌, ◌≤◌, true, List, ℤ, unsigned_abs}
use Rattle.design.specs.Rule.{units_used}
use Rattle.solver.specs.Setting.{clauses_named}
use Rattle.solver.specs.State.{Solving}
use Rattle.totalizer.specs.declared.Literal.{Literal}
use Rattle.totalizer.specs.declared.Literal.TheVariants.{Always, Never, Mark}

-- a solver that takes these clauses: it has room for them and they name its choices
pub record Takes (v : Solving) (cs : List (List ℤ)) : Type 0 where
  pub room : units_used v.clauses + units_used cs ≤ v.room
  pub marks : clauses_named v.choices cs ≡ true

-- q prices whose extra choices, past b, have numbers of 15 bits
pub record Small (b top q : ℕ) : Type 0 where
  pub few : q ≤ 64
  pub numbers : b + (q - 1) * top < 2 ^ 15

-- a node that joins two others
pub record Inner (q i : ℕ) : Type 0 where
  pub first : 1 ≤ i
  pub last : i < q

-- a literal whose mark has an opposite of 16 bits
abbrev pub Short : Literal → Type 0
Short Always = Unit {0}
Short Never = Unit {0}
Short (Mark m) = unsigned_abs m < 2 ^ 15
