use Rattle.std.proofs.Common.{◌≡◌}
use Rattle.solver.specs.State.{with_clauses}
use Rattle.totalizer.specs.Clauses.{pair, gather}
use Rattle.writer.proofs.heap.Heap.write_row.Given as goal

abbrev pub invariant-loop-right : goal.invariant-loop-right
invariant-loop-right g l =
    let s = g.C.Scale in
    g.S.Solver.meaning l.solver ≡ with_clauses (g.S.Solver.meaning l.initial.solver) (gather (pair s.places l.self.base l.self.prices.now l.node l.left) l.right)
