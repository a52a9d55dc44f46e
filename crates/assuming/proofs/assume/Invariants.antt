use Rattle.std.proofs.Common.{drop}
use Rattle.assuming.proofs.Narrowing.{Going}
use Rattle.assuming.proofs.assume.Given as goal

abbrev pub invariant-loop-mark : goal.invariant-loop-mark
invariant-loop-mark l = Going l.marks l.initial.values l.values (drop l.mark-index l.marks)
