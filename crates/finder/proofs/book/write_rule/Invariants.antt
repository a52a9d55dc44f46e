use Rattle.std.proofs.Common.{◌≡◌, take}
use Rattle.finder.proofs.book.write_rule.Given as goal

abbrev pub invariant-loop-mark : goal.invariant-loop-mark
invariant-loop-mark g l = l.clause.items ≡ take l.mark-index l.marks
