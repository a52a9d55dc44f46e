use Rattle.std.proofs.Common.{◌≡◌}
use Rattle.solver.specs.State.{with_clauses}
use Rattle.totalizer.specs.Clauses.{row, gather}
use Rattle.writer.proofs.heap.Heap.write_node.Given as goal

abbrev pub invariant-loop-left : goal.invariant-loop-left
invariant-loop-left g l =
    let s = g.C.Scale in
    g.S.Solver.meaning l.solver ≡ with_clauses (g.S.Solver.meaning l.initial.solver) (gather (row s.places l.self.base l.self.prices.now l.node) l.left)
