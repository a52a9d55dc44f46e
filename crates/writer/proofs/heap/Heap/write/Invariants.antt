use Rattle.std.proofs.Common.{◌≡◌, ◌-◌, ◌≤◌, length}
use Rattle.solver.specs.State.{with_clauses}
use Rattle.totalizer.specs.Clauses.{from_last, gather}
use Rattle.writer.proofs.heap.Heap.write.Given as goal

abbrev pub invariant-loop-done : goal.invariant-loop-done
invariant-loop-done g l =
    (l.done - 1 ≤ length l.self.prices.now - 1)
    × (g.S.Solver.meaning l.solver ≡ with_clauses (g.S.Solver.meaning l.initial.solver) (gather (from_last g.C.Scale.places l.self.base l.self.prices.now) (l.done - 1)))
