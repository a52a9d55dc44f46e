use Rattle.std.proofs.Common.{arith}
use Rattle.std.proofs.lemmas.Grind.{common_steps}
use Rattle.planner.proofs.Extend.{extend_ruled}
use Rattle.planner.proofs.state.Planner.rule.Goals as goal

pub returns-in_err-check_shut : goal.returns-in_err-check_shut
returns-in_err-check_shut g c = record { run = extend_ruled _ _ _ _ _ _ c.args.self.now.shut _ (grind (arith, common_steps)) (grind (arith, common_steps)) }
