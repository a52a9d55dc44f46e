use Rattle.std.proofs.Common.{◌∷◌}
use Rattle.store.specs.Coding.{clauses_in}
use Rattle.stepping.proofs.Going.{Going, named_here, broken_here, going_on}
use Rattle.stepping.proofs.walk.stands.Goals.{In-Some}
use Rattle.stepping.proofs.walk.stands.Goals as goal

here : (c : goal.In-Some) → Going c.args.assignment.now c.args.choice (c.in-Some.marks.now ∷ clauses_in c.next.new.self.cells.now)
here c = rw c.in-Some.ensures.steps at c.loop-marks.invariant.2

pub breaks-requires : goal.breaks-requires
breaks-requires c = named_here _ _ c.in-Some.marks.now _ (here (goal.at.breaks-requires c).In-Some)

pub returns-then-breaks : goal.returns-then-breaks
returns-then-breaks c = broken_here _ _ c.in-Some.marks.now _ (here (goal.at.returns-then-breaks c).In-Some) c.if-breaks.ensures

pub loop-marks-preserved : goal.loop-marks-preserved
loop-marks-preserved c = (tt, tt, going_on _ _ c.in-Some.marks.now _ (here (goal.at.loop-marks-preserved c).In-Some) c.if-breaks.ensures)
