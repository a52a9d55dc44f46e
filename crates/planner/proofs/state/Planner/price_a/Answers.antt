use Rattle.std.proofs.Common.{arith}
use Rattle.std.proofs.lemmas.Grind.{common_steps}
use Rattle.planner.proofs.Extend.{extend_priced_a}
use Rattle.planner.proofs.state.Planner.price_a.Goals as goal

pub returns-in_err-check_shut : goal.returns-in_err-check_shut
returns-in_err-check_shut g c = record { run = extend_priced_a _ _ _ _ _ _ c.args.self.now.shut _ _ (grind (arith, common_steps)) (grind (arith, common_steps)) }
