use Rattle.std.proofs.Common.{◌+◌, List, [], take, sym, ◌∙◌, subst}
use Rattle.std.proofs.lemmas.List.{take_all}
use Rattle.propagation.specs.declared.rule.Rule.{Rule}
use Rattle.propagation.specs.declared.sides.Sides.{Sides}
use Rattle.propagation.specs.Easing.{Asked}
use Rattle.propagation.proofs.Eases.{asked_none, asked_met, asked_open, surely_met}
use Rattle.propagation.proofs.asked.Goals as goal
use Rattle.propagation.proofs.asked.Goals.{then-not-is_met, else-not-is_met}

pub loop-rule-init : goal.loop-rule-init
loop-rule-init c = subst (λ (z : Sides). Asked [] c.args.at z.ups z.downs) (sym c.none-sides.ensures) (asked_none c.args.at 0 0)

pub loop-rule-preserved : goal.loop-rule-preserved
loop-rule-preserved c =
    let rs = c.args.rules.now in
    let i = c.loop-rule.rule-index in
    let r = c.rule-item.result in
    let at = c.loop-rule.invariant in
    let P : Sides → Type 0 = λ z. Asked (take (i + 1) rs) c.args.at z.ups z.downs in
    elim c.if-not-is_met.branch [
      | then-not-is_met w ↦ subst P (sym (w.sides-is ∙ w.with-sides.ensures))
          (asked_open rs i r c.args.at c.loop-rule.sides.ups c.loop-rule.sides.downs c.rule-item.is c.loop-rule-test.true at)
      | else-not-is_met w ↦ subst P (sym w.sides-is)
          (asked_met rs i r c.args.at c.loop-rule.sides.ups c.loop-rule.sides.downs c.rule-item.is c.loop-rule-test.true at (surely_met r c.args.at (c.is_met.ensures.0 w.if-not-is_met.false)))
    ]

pub returns : goal.returns
returns c =
    subst (λ (x : List Rule). Asked x c.args.at c.loop-rule.sides.ups c.loop-rule.sides.downs) (take_all c.loop-rule.rule-index c.args.rules.now c.loop-rule-test.false) c.loop-rule.invariant
