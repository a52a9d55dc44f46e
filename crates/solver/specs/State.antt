-- What a solver means.
use Rattle.std.specs.Prelude.{◌≡◌, ℕ, ◌≤◌, Bool, true, false, List, [], ◌++◌, length, replicate, ℤ}
use Rattle.design.specs.Rule.{units_used}
use Rattle.solver.specs.Setting.{setting, meets_all, all_true, clauses_named}

pub record Solving : Type 0 where
  -- M, the number of choices
  pub choices : ℕ
  -- K, how many numbers the clauses may take: one for each, and one more for each mark
  pub room : ℕ
  pub clauses : List (List ℤ)
  -- the setting that the last yes found
  pub held : List Bool

-- a solver just made: no clauses, and every choice left
abbrev pub blank : ℕ → ℕ → Solving
blank m k = record { choices = m; room = k; clauses = []; held = replicate m false }

-- the clauses dropped, more of them appended, another setting held; the rest stays
abbrev pub cleared : Solving → Solving
cleared s = record { choices = s.choices; room = s.room; clauses = []; held = s.held }

abbrev pub with_clauses : Solving → List (List ℤ) → Solving
with_clauses s cs = record { choices = s.choices; room = s.room; clauses = s.clauses ++ cs; held = s.held }

abbrev pub holding : Solving → List Bool → Solving
holding s b = record { choices = s.choices; room = s.room; clauses = s.clauses; held = b }

-- a setting of the choices that meets every clause and makes the assumptions true
pub record Admits (s : Solving) (assumed : List ℤ) (b : List Bool) : Type 0 where
  pub whole : length b ≡ s.choices
  pub meeting : meets_all (setting b) s.clauses ≡ true
  pub assuming : all_true (setting b) assumed ≡ true

-- what holds of every solver
pub record Kept (s : Solving) : Type 0 where
  pub some_choice : 1 ≤ s.choices
  pub few_choices : s.choices ≤ 32767
  pub named : clauses_named s.choices s.clauses ≡ true
  pub fits : units_used s.clauses ≤ s.room
  pub whole : length s.held ≡ s.choices
