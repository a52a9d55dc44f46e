use Rattle.std.proofs.Common.{◌≡◌, true, false, Some, None, length, get_or, pos, sym, ap, ◌∙◌, arith, w16, SFits, rules, ltb-false, ltb-true}
use Rattle.std.specs.List.{between}
use Rattle.std.proofs.lemmas.Int.{to_z-of_z}
use Rattle.design.specs.Mark.{named}
use Rattle.values.specs.Partial.{truth_in, with_open, state_from}
use Rattle.values.proofs.Reading.{first_named, state_none, state_by}
use Rattle.values.proofs.state_of.Goals as goal

pub returns-in-empty : goal.returns-in-empty
returns-in-empty c = state_none c.args.values.now c.loop-left.left.now c.loop-left.state (omega (arith, ltb-true)) ∙ c.loop-left.invariant.1

pub truth_of-requires : goal.truth_of-requires
truth_of-requires c =
    let z = get_or c.loop-left.left.now 0 (pos 0) in
    let f : SFits w16 z = search rules in
    ap (named (length c.args.values.now)) (to_z-of_z w16 z f) ∙ (first_named (length c.args.values.now) c.loop-left.left.now (omega (arith, ltb-false)) c.loop-left.invariant.0).0

pub returns-in-Some-true : goal.returns-in-Some-true
returns-in-Some-true c =
    let z = get_or c.loop-left.left.now 0 (pos 0) in
    let f : SFits w16 z = search rules in
    let y : Some true ≡ truth_in c.args.values.now z = sym (ap Some c.in-Some-true.field-0-test) ∙ (c.in-Some-true.ensures ∙ ap (truth_in c.args.values.now) (to_z-of_z w16 z f)) in
    sym (state_by c.args.values.now c.loop-left.left.now c.loop-left.state (Some true) (omega (arith, ltb-false)) y) ∙ c.loop-left.invariant.1

pub loop-left-preserved-in-Some-false : goal.loop-left-preserved-in-Some-false
loop-left-preserved-in-Some-false c =
    let z = get_or c.loop-left.left.now 0 (pos 0) in
    let f : SFits w16 z = search rules in
    let y : Some false ≡ truth_in c.args.values.now z = sym (ap Some c.in-Some-false.field-0-test) ∙ (c.in-Some-false.ensures ∙ ap (truth_in c.args.values.now) (to_z-of_z w16 z f)) in (
      (first_named (length c.args.values.now) c.loop-left.left.now (omega (arith, ltb-false)) c.loop-left.invariant.0).1,
      sym (state_by c.args.values.now c.loop-left.left.now c.loop-left.state (Some false) (omega (arith, ltb-false)) y) ∙ c.loop-left.invariant.1,
    )

pub loop-left-preserved : goal.loop-left-preserved
loop-left-preserved c =
    let z = get_or c.loop-left.left.now 0 (pos 0) in
    let f : SFits w16 z = search rules in
    let y = c.in-None.ensures ∙ ap (truth_in c.args.values.now) (to_z-of_z w16 z f) in
    let o = c.with_open-state.ensures ∙ ap (with_open c.loop-left.state) (to_z-of_z w16 z f) in (
      (first_named (length c.args.values.now) c.loop-left.left.now (omega (arith, ltb-false)) c.loop-left.invariant.0).1,
      ap (λ x. state_from c.args.values.now x (between 1 (length c.loop-left.left.now) c.loop-left.left.now)) o
          ∙ (sym (state_by c.args.values.now c.loop-left.left.now c.loop-left.state None (omega (arith, ltb-false)) y) ∙ c.loop-left.invariant.1),
    )
