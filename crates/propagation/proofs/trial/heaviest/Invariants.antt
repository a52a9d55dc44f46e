use Rattle.std.proofs.Common.{◌≡◌, ◌<◌, true}
use Rattle.bits.specs.Bit.{bit}
use Rattle.propagation.specs.Easing.{Inside}
use Rattle.propagation.proofs.trial.heaviest.Given as goal

abbrev pub invariant-loop-k : goal.invariant-loop-k
invariant-loop-k l = (l.best < 64) × (bit l.among l.best ≡ true) × Inside l.k-iterator.left l.among
