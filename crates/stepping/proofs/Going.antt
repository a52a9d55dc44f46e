-- A test of the clauses under way: what is still to look at.
use Rattle.std.proofs.Common.{◌≡◌, ℕ, Bool, true, false, List, [], ◌∷◌, length, ℤ, sym}
use Rattle.design.specs.Mark.{all_are_named}
use Rattle.solver.specs.Setting.{clauses_named}
use Rattle.values.specs.declared.State.TheVariants.{Broken}
use Rattle.values.specs.Partial.{state_from}
use Rattle.sweeping.specs.declared.assignment.Assignment.{Assignment}
use Rattle.sweeping.specs.Trail.{values_in, clauses_at, Meets}
use Rattle.sweeping.specs.Sweeps.{Nowhere}
use Rattle.sweeping.proofs.Visiting.{state_broken}
use Rattle.sweeping.proofs.Going.{meets_parts, named_parts}
use Rattle.stepping.specs.Steps.{Breaks, NoneBroken}

pub record Going (a : Assignment) (n : ℕ) (todo : List (List ℤ)) : Type 0 where
  pub names : clauses_named (length (values_in a)) todo ≡ true
  pub among : (b : List Bool) → Meets (clauses_at a) b → Meets todo b
  pub rest : NoneBroken n (values_in a) todo → NoneBroken n (values_in a) (clauses_at a)

pub start : (a : Assignment) (n : ℕ) → Going a n (clauses_at a)
start a n = record { names = a.named; among = λ b m. m; rest = λ x. x }

-- the clause to look at
module _ (a : Assignment) (n : ℕ) (c : List ℤ) (cs : List (List ℤ)) (g : Going a n (c ∷ cs)) where
  pub named_here : all_are_named (length (values_in a)) c ≡ true
  named_here = (named_parts _ c cs g.names).0

  pub broken_here : state_from (values_in a) Broken c ≡ Broken → Nowhere (Meets (clauses_at a)) (values_in a)
  broken_here e b h m = state_broken _ (values_in a) c named_here (sym e) b h (meets_parts b c cs (g.among b m)).0

  pub going_on : Breaks n (values_in a) c false → Going a n cs
  going_on k = record { names = (named_parts _ c cs g.names).1; among = λ b m. (meets_parts b c cs (g.among b m)).1; rest = λ t. g.rest (k, t) }

pub ended : (a : Assignment) (n : ℕ) → Going a n [] → NoneBroken n (values_in a) (clauses_at a)
ended a n g = g.rest tt
