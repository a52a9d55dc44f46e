use Rattle.std.proofs.Common.{rules}
use Rattle.std.proofs.Output.{has_written_of_eq}
use Rattle.job.proofs.Words.{hex_word}
use Rattle.job.proofs.word.WordDisplay.fmt.Goals as goal

pub returns-clause-writes : goal.returns-clause-writes
returns-clause-writes g c plain ok = has_written_of_eq g.W.Write.write_str_gives _ _ _ _ (hex_word c.args.self.now.0 (search rules)) (search rules)
