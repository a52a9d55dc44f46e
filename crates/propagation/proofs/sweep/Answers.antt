use Rattle.std.proofs.Common.{◌≡◌, ℕ, ◌≤◌, List, sym, subst, arith}
use Rattle.std.proofs.lemmas.List.{take_all}
use Rattle.propagation.specs.declared.rule.Rule.{Rule}
use Rattle.propagation.specs.Held.{Met}
use Rattle.propagation.specs.Narrowing.{Hit, Alive, AllAlive, Swept}
use Rattle.propagation.proofs.Narrows.{narrow_same, narrow_more}
use Rattle.propagation.proofs.Hits.{item_hit, alive_none, alive_next}
use Rattle.propagation.proofs.sweep.Goals as goal

pub loop-rule-init : goal.loop-rule-init
loop-rule-init c = (narrow_same (Met c.args.rules.now) c.args.at.up c.args.at.down, λ _ _. alive_none c.args.at.up c.args.at.down)

pub returns-in_err-here : goal.returns-in_err-here
returns-in_err-here c =
    subst (Swept c.args.rules.now c.args.at) (sym c.from_residual.ensures)
    (λ w a m. c.in_err-here.ensures w (c.loop-rule.invariant.0.keeps w a m)
    (item_hit c.args.rules.now c.loop-rule.rule-index c.rule-item.result c.rule-item.is c.loop-rule-test.true w m))

pub loop-rule-preserved : goal.loop-rule-preserved
loop-rule-preserved c =
    let r = c.rule-item.result in
    let p = c.args.at in
    let here = c.loop-rule.here in
    let next = c.in_ok-here.here in
    let q = c.in_ok-here.ensures in
    let n = c.loop-rule.invariant.0 in
    let h = item_hit c.args.rules.now c.loop-rule.rule-index r c.rule-item.is c.loop-rule-test.true in (
      narrow_more (Met c.args.rules.now) (Hit r.sides.ups r.sides.downs) p.up p.down here.up here.down next.up next.down h n q.0,
      λ e f.
          let a : next.up ≤ here.up = q.0.up_le in
          let b : next.down ≤ here.down = q.0.down_le in
          let u : here.up ≡ p.up = omega (arith, n.up_le) in
          let d : here.down ≡ p.down = omega (arith, n.down_le) in
          alive_next c.args.rules.now c.loop-rule.rule-index r p.up p.down c.rule-item.is c.loop-rule-test.true (c.loop-rule.invariant.1 u d)
          (subst (λ (x : ℕ). Alive r.sides.ups r.sides.downs x p.down) u (subst (λ (x : ℕ). Alive r.sides.ups r.sides.downs here.up x) d q.1)),
    )

pub returns : goal.returns
returns c = (
  c.loop-rule.invariant.0,
  λ u d. subst (λ (x : List Rule). AllAlive x c.args.at.up c.args.at.down) (take_all c.loop-rule.rule-index c.args.rules.now c.loop-rule-test.false) (c.loop-rule.invariant.1 u d),
)
