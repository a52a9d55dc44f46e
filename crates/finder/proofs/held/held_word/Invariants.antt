use Rattle.std.proofs.Common.{◌^◌, ◌<◌}
use Rattle.totalizer.specs.Encoding.{Agree}
use Rattle.finder.proofs.held.held_word.Given as goal

abbrev pub invariant-loop-index : goal.invariant-loop-index
invariant-loop-index g l = (l.word < 2 ^ l.index) × Agree l.index l.word (g.S.Solver.meaning l.solver).held
