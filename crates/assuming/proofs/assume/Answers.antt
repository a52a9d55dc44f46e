use Rattle.std.proofs.Common.{get_or, pos, w16, SFits, rules}
use Rattle.std.proofs.lemmas.Int.{to_z-of_z}
use Rattle.design.proofs.OfMarks.{all_at}
use Rattle.assuming.proofs.Narrowing.{going_on, going_clash, going_end}
use Rattle.assuming.proofs.assume.Goals as goal

pub assume_one-requires : goal.assume_one-requires
assume_one-requires c =
    let z = get_or c.args.marks.now c.loop-mark.mark-index (pos 0) in
    let f : SFits w16 z = search rules in
    rw (to_z-of_z w16 z f, c.loop-mark.auto.values) (all_at _ c.loop-mark.mark-index c.args.marks.now (pos 0) c.requires c.loop-mark-test.true)

pub returns-then-not-assume_one : goal.returns-then-not-assume_one
returns-then-not-assume_one c =
    let z = get_or c.args.marks.now c.loop-mark.mark-index (pos 0) in
    let f : SFits w16 z = search rules in
    going_clash c.args.marks.now c.args.values.now c.loop-mark.values c.loop-mark.mark-index _ c.loop-mark-test.true (to_z-of_z w16 z f) c.loop-mark.invariant c.if-not-assume_one.ensures

pub loop-mark-preserved : goal.loop-mark-preserved
loop-mark-preserved c =
    let z = get_or c.args.marks.now c.loop-mark.mark-index (pos 0) in
    let f : SFits w16 z = search rules in
    going_on c.args.marks.now c.args.values.now c.loop-mark.values c.loop-mark.mark-index _ c.loop-mark-test.true (to_z-of_z w16 z f) c.loop-mark.invariant c.assume_one.new.values c.if-not-assume_one.ensures

pub returns : goal.returns
returns c = going_end c.args.marks.now c.args.values.now c.loop-mark.values c.loop-mark.mark-index c.loop-mark-test.false c.loop-mark.invariant
