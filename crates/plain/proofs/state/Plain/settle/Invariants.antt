use Rattle.std.proofs.Common.{◌+◌}
use Rattle.propagation.specs.Narrowing.{Narrow}
use Rattle.plain.specs.Held.{pair_of}
use Rattle.plain.specs.Asked.{query}
use Rattle.plain.specs.Search.{Fitting}
use Rattle.plain.proofs.state.Plain.settle.Given as goal

abbrev pub invariant-loop-swept : goal.invariant-loop-swept
invariant-loop-swept g l =
    Narrow (Fitting (query (pair_of g.A.Scale.places g.B.Scale.places) l.self l.a l.b)) l.initial.here.up l.initial.here.down l.here.up l.here.down

abbrev pub decreases-loop-swept : goal.decreases-loop-swept
decreases-loop-swept g l = l.here.up + l.here.down
