use Rattle.std.proofs.Common.{◌≡◌, take}
use Rattle.propagation.specs.Held.{Met}
use Rattle.propagation.specs.Narrowing.{Narrow, AllAlive}
use Rattle.propagation.proofs.sweep.Given as goal

abbrev pub invariant-loop-rule : goal.invariant-loop-rule
invariant-loop-rule l =
    Narrow (Met l.rules) l.initial.here.up l.initial.here.down l.here.up l.here.down
    × (l.here.up ≡ l.initial.here.up → l.here.down ≡ l.initial.here.down → AllAlive (take l.rule-index l.rules) l.initial.here.up l.initial.here.down)
