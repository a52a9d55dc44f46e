use Rattle.std.proofs.Common.{w8, SFits, arith, rules}
use Rattle.std.proofs.lemmas.Grind.{common_steps}
use Rattle.std.proofs.lemmas.Int.{to_z-of_z}
use Rattle.planner.proofs.Telling.{goes_rule, goes_price_a, goes_price_b, goes_step, goes_restart, goes_read}
use Rattle.planner.proofs.state.Planner.call.Goals as goal

pub returns-in_err-rule_of-in-Rule : goal.returns-in_err-rule_of-in-Rule
returns-in_err-rule_of-in-Rule g c = goes_rule _ _ _ _ _ _ c.rule_of.result c.in-Rule.is (grind (arith, common_steps)) c.rule_of.ensures

pub returns-in_err-price_a-in-PriceA : goal.returns-in_err-price_a-in-PriceA
returns-in_err-price_a-in-PriceA g c =
    let f : SFits w8 c.in-PriceA.mark = search rules in
    goes_price_a _ _ _ _ _ _ _ c.price_a.result (rw (to_z-of_z w8 c.in-PriceA.mark f) c.in-PriceA.is) (grind (arith, common_steps)) c.price_a.ensures.run

pub returns-in_err-entry-in-Read : goal.returns-in_err-entry-in-Read
returns-in_err-entry-in-Read g c = goes_read _ _ _ _ _ _ c.read.result c.in-Read.is (grind (arith, common_steps)) c.read.ensures.run

pub returns-in_ok-rule_of-in-Rule : goal.returns-in_ok-rule_of-in-Rule
returns-in_ok-rule_of-in-Rule g c = goes_rule _ _ _ _ _ _ c.rule_of.result c.in-Rule.is (grind (arith, common_steps)) c.rule_of.ensures

pub returns-in-Some : goal.returns-in-Some
returns-in-Some g c = goes_step _ _ _ _ _ c.step.result c.in-Step.is (grind (arith, common_steps)) c.step.ensures.run

pub returns-in-None : goal.returns-in-None
returns-in-None g c = goes_step _ _ _ _ _ c.step.result c.in-Step.is (grind (arith, common_steps)) c.step.ensures.run

pub returns-in-Restart : goal.returns-in-Restart
returns-in-Restart g c = search (rules, goes_restart)

pub returns-in_ok-entry-in-Read : goal.returns-in_ok-entry-in-Read
returns-in_ok-entry-in-Read g c = goes_read _ _ _ _ _ _ c.read.result c.in-Read.is (grind (arith, common_steps)) c.read.ensures.run

pub returns-in_ok-price_a-in-PriceA : goal.returns-in_ok-price_a-in-PriceA
returns-in_ok-price_a-in-PriceA g c =
    let f : SFits w8 c.in-PriceA.mark = search rules in
    goes_price_a _ _ _ _ _ _ _ c.price_a.result (rw (to_z-of_z w8 c.in-PriceA.mark f) c.in-PriceA.is) (grind (arith, common_steps)) c.price_a.ensures.run

pub returns-in_err-price_b-in-PriceB : goal.returns-in_err-price_b-in-PriceB
returns-in_err-price_b-in-PriceB g c =
    let f : SFits w8 c.in-PriceB.mark = search rules in
    goes_price_b _ _ _ _ _ _ _ c.price_b.result (rw (to_z-of_z w8 c.in-PriceB.mark f) c.in-PriceB.is) (grind (arith, common_steps)) c.price_b.ensures.run

pub returns-in_ok-price_b-in-PriceB : goal.returns-in_ok-price_b-in-PriceB
returns-in_ok-price_b-in-PriceB g c =
    let f : SFits w8 c.in-PriceB.mark = search rules in
    goes_price_b _ _ _ _ _ _ _ c.price_b.result (rw (to_z-of_z w8 c.in-PriceB.mark f) c.in-PriceB.is) (grind (arith, common_steps)) c.price_b.ensures.run
