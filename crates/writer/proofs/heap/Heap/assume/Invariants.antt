use Rattle.std.proofs.Common.{◌≡◌, ◌+◌, ◌≤◌, ◌++◌, length}
use Rattle.totalizer.specs.Clauses.{denied, gather}
use Rattle.writer.proofs.heap.Heap.assume.Given as goal

abbrev pub invariant-loop-above : goal.invariant-loop-above
invariant-loop-above g l =
    (length l.marks.items ≤ length l.initial.marks.items + l.above)
    × (l.marks.items ≡ l.initial.marks.items ++ gather (denied g.C.Scale.places.top l.self.base l.self.prices.now l.bound) l.above)
