-- The refusals of a clause, by M, K and the numbers of the clause room that are taken.
use Rattle.std.specs.Prelude.{ℕ, ◌+◌, not, List, [], ◌∷◌, length, ℤ, Result, nat_lt}
use Rattle.design.specs.Mark.{all_are_named}
use Rattle.design.specs.Rule.{rule_units}
use Rattle.design.specs.Fault.{first_that_holds, refused_or}
use Rattle.design.specs.declared.fault.SolverFault.{SolverFault}
use Rattle.design.specs.declared.fault.SolverFault.TheVariants.{LongClause, BadMark, Full}

abbrev pub clause_check : ℕ → ℕ → ℕ → List ℤ → Result (Unit {0}) SolverFault
clause_check m k used c =
    refused_or (first_that_holds ((nat_lt 8 (length c), LongClause) ∷ ((not (all_are_named m c), BadMark) ∷ ((nat_lt k (used + rule_units c), Full) ∷ [])))) tt
