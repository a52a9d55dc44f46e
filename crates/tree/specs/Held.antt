-- What a tree means: what its book means. Beside the book stands the solver.
use Rattle.std.specs.Prelude.{◌≡◌}
use Rattle.design.specs.Rule.{units_used}
use Rattle.design.specs.Plan.{Scales, Meaning, Table}
use Rattle.solver.specs.State.{Solving}
use Rattle.plain.specs.Held.{meaning_of}
use Rattle.plain.specs.Kept.{table_of}
use Rattle.plain.specs.declared.state.Plain.{Plain}
use Rattle.totalizer.specs.Encoding.{Written, clauses}
use Rattle.finder.specs.Finding.{Large}

abbrev pub tree_meaning : {X Y Z : Type 0} → Scales → Plain X Y × Z → Meaning
tree_meaning s t = meaning_of s t.0

pub tree_table : {X Y Z : Type 0} (s : Scales) (t : Plain X Y × Z) → Table (tree_meaning s t)
tree_table s t = table_of s t.0

-- a solver that is large enough and holds the design's clauses, and no more of them
pub record Current (s : Scales) (m : Meaning) (v : Solving) : Type 0 where
  pub written : Written s m v
  pub used : units_used v.clauses ≡ units_used (clauses s m)
  pub large : Large s m v

pub record SameSize (v v' : Solving) : Type 0 where
  pub choices : v'.choices ≡ v.choices
  pub room : v'.room ≡ v.room
