use Rattle.std.proofs.Common.{◌≡◌, take}
use Rattle.solver.specs.State.{with_clauses}
use Rattle.propagation.specs.Held.{rules_of}
use Rattle.finder.proofs.book.write_rules.Given as goal

abbrev pub invariant-loop-rule : goal.invariant-loop-rule
invariant-loop-rule g l = g.S.Solver.meaning l.solver ≡ with_clauses (g.S.Solver.meaning l.initial.solver) (rules_of (take l.rule-index l.rules))
