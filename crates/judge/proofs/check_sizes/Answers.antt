use Rattle.std.proofs.Common.{arith}
use Rattle.std.proofs.lemmas.Bool.Decides.{nat_tests}
use Rattle.judge.proofs.check_sizes.Goals as goal

pub returns-then-choices-lt1 : goal.returns-then-choices-lt1
returns-then-choices-lt1 c = grind (arith, nat_tests)

pub returns-then-price_room-lt1 : goal.returns-then-price_room-lt1
returns-then-price_room-lt1 c = grind (arith, nat_tests)

pub returns : goal.returns
returns c = grind (arith, nat_tests)
