use Rattle.std.proofs.Common.{List, ap, ◌∙◌}
use Rattle.std.proofs.lemmas.List.{take_all}
use Rattle.solver.specs.State.{with_clauses}
use Rattle.propagation.specs.Held.{rules_of}
use Rattle.propagation.specs.declared.rule.Rule.{Rule}
use Rattle.finder.proofs.Writing.{rules_start, rule_taken, rule_written}
use Rattle.finder.proofs.book.write_rules.Goals as goal

pub loop-rule-init : goal.loop-rule-init
loop-rule-init g c = rules_start _

pub write_rule-requires : goal.write_rule-requires
write_rule-requires g c =
    let rs = c.args.rules.now in
    let m = g.S.Solver.meaning in
    record {
      short = c.entered.ensures.short;
      takes = rule_taken rs c.loop-rule.rule-index c.rule-item.result c.loop-rule-test.true c.rule-item.is c.entered.result.now c.entered.ensures.marks
          (m c.args.solver.now) (m c.loop-rule.solver) c.loop-rule.invariant c.requires;
    }

pub loop-rule-preserved : goal.loop-rule-preserved
loop-rule-preserved g c =
    let rs = c.args.rules.now in
    let m = g.S.Solver.meaning in
    rule_written rs c.loop-rule.rule-index c.rule-item.result c.loop-rule-test.true c.rule-item.is c.entered.result.now c.entered.ensures.marks
    (m c.args.solver.now) (m c.loop-rule.solver) (m c.write_rule.new.solver) c.loop-rule.invariant c.write_rule.ensures

pub returns : goal.returns
returns g c =
    c.loop-rule.invariant
    ∙ ap (λ (l : List Rule). with_clauses (g.S.Solver.meaning c.args.solver.now) (rules_of l)) (take_all c.loop-rule.rule-index c.args.rules.now c.loop-rule-test.false)
