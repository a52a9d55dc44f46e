-- What a solver's calls answer, and what they leave.
use Rattle.std.specs.Prelude.{◌≡◌, ℕ, ◌+◌, ◌*◌, Bool, true, false, not, ◌||◌, List, [], ◌∷◌, length, ℤ, pos, Ok, Err, Option, Result, nat_lt}
use Rattle.design.specs.Mark.{named, all_are_named}
use Rattle.design.specs.Rule.{rule_units, units_used}
use Rattle.design.specs.Fault.{first_that_holds, refused_or}
use Rattle.design.specs.declared.fault.SolverFault.{SolverFault}
use Rattle.design.specs.declared.fault.SolverFault.TheVariants.{Choices, TooSmall, LongClause, BadMark, Full}
use Rattle.solver.specs.Setting.{setting}
use Rattle.solver.specs.State.{Solving, Admits, holding, with_clauses}

-- the numbers that a solver of M choices and clause room K is lent
abbrev pub store_needed : ℕ → ℕ → ℕ
store_needed m k = 4 * m + k

-- the refusals of a making, by M, K and the store's length, the first in order deciding
abbrev pub making_fault : ℕ → ℕ → ℕ → Option SolverFault
making_fault m k long = first_that_holds ((nat_lt m 1 || nat_lt 32767 m, Choices) ∷ ((nat_lt long (store_needed m k), TooSmall) ∷ []))

-- the refusals of a clause
abbrev pub clause_fault : Solving → List ℤ → Option SolverFault
clause_fault s c =
    first_that_holds ((nat_lt 8 (length c), LongClause) ∷ ((not (all_are_named s.choices c), BadMark) ∷ ((nat_lt s.room (units_used s.clauses + rule_units c), Full) ∷ [])))

unfoldable pub clause_answer : Solving → List ℤ → Result (Unit {0}) SolverFault
clause_answer s c = refused_or (clause_fault s c) tt

-- what an answer to a clause leaves: the clause appended, or the solver whole as it was
abbrev pub Appended : {S : Type 0} → (S → Solving) → S → List ℤ → Result (Unit {0}) SolverFault → S → Type 0
Appended meaning s c (Ok u) t = meaning t ≡ with_clauses (meaning s) (c ∷ [])
Appended meaning s c (Err f) t = t ≡ s

-- what decide answers and leaves: a yes holds a setting that is admitted, a no says that there is
-- none and keeps the one held, and a refusal leaves the solver whole as it was
abbrev pub Decided : {S : Type 0} → (S → Solving) → S → List ℤ → Result Bool SolverFault → S → Type 0
Decided meaning s ms (Ok true) t =
    (all_are_named (meaning s).choices ms ≡ true) × Admits (meaning s) ms (meaning t).held × (meaning t ≡ holding (meaning s) (meaning t).held)
Decided meaning s ms (Ok false) t =
    (all_are_named (meaning s).choices ms ≡ true) × ((b : List Bool) → Admits (meaning s) ms b → ⊥) × (meaning t ≡ meaning s)
Decided meaning s ms (Err f) t = (all_are_named (meaning s).choices ms ≡ false) × (f ≡ BadMark) × (t ≡ s)

-- whether choice n is taken in the held setting
abbrev pub taken_answer : Solving → ℕ → Result Bool SolverFault
taken_answer s n = refused_or (first_that_holds ((not (named s.choices (pos n)), BadMark) ∷ [])) (setting s.held n)
