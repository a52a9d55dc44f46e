-- A clause that a solver takes.
use Rattle.std.proofs.Common.{◌≡◌, ◌+◌, ◌≤◌, true, not, ltb, List, [], ◌∷◌, length, ℤ, None, Ok, Option, Result, ap, ◌∙◌, subst, arith}
use Rattle.std.proofs.lemmas.Bool.{cond-false, le-ltb, and_parts}
use Rattle.design.specs.Mark.{all_are_named}
use Rattle.design.specs.Rule.{rule_units, units_used}
use Rattle.design.specs.Fault.{refused_or}
use Rattle.design.specs.declared.fault.SolverFault.{SolverFault}
use Rattle.solver.specs.Setting.{clauses_named}
use Rattle.solver.specs.State.{Solving, with_clauses}
use Rattle.solver.specs.Calls.{clause_fault, clause_answer, Appended}
use Rattle.writer.specs.Writes.{Takes}

no_fault : (v : Solving) (c : List ℤ) → length c ≤ 8 → Takes v (c ∷ []) → clause_fault v c ≡ None
unfolding units_used clauses_named
no_fault v c h t =
    cond-false (ltb 8 (length c)) _ _ (le-ltb 8 (length c) h)
    ∙ cond-false (not (all_are_named v.choices c)) _ _ (ap not (and_parts (all_are_named v.choices c) true t.marks).0)
    ∙ cond-false (ltb v.room (units_used v.clauses + rule_units c)) _ _ (le-ltb v.room (units_used v.clauses + rule_units c) (omega (arith, t.room)))

-- a clause for which there is room and whose marks are the solver's is taken
pub taken : (v : Solving) (c : List ℤ) → length c ≤ 8 → Takes v (c ∷ []) → clause_answer v c ≡ Ok tt
unfolding clause_answer
taken v c h t = ap (λ (f : Option SolverFault). refused_or f tt) (no_fault v c h t)

pub appended : {S : Type 0} (meaning : S → Solving) (s t : S) (c : List ℤ) (r : Result (Unit {0}) SolverFault) → Appended meaning s c r t → r ≡ Ok tt → meaning t ≡ with_clauses (meaning s) (c ∷ [])
appended meaning s t c r a e = subst (λ (x : Result (Unit {0}) SolverFault). Appended meaning s c x t) e a
