use Rattle.std.proofs.Common.{arith}
use Rattle.store.specs.Coding.{encode}
use Rattle.store.proofs.Writing.{lent}
use Rattle.store.proofs.store.append.Goals as goal

pub returns : goal.returns
returns c = lent c.args.cells.now (encode c.args.marks.now) c.write_clause.new.free c.args.used (omega arith) c.write_clause.ensures
