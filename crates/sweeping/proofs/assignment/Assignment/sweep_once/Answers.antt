use Rattle.std.proofs.Common.{◌∷◌}
use Rattle.std.proofs.lemmas.Result.{err_from_is_err_and}
use Rattle.store.specs.Coding.{clauses_in}
use Rattle.sweeping.proofs.Going.{Going, going_start, named_here, clashing, going_on, going_end}
use Rattle.sweeping.proofs.assignment.Assignment.sweep_once.Goals.{In-Some}
use Rattle.sweeping.proofs.assignment.Assignment.sweep_once.Goals as goal

here : (c : goal.In-Some) → Going c.args.self.now c.loop-marks.self (c.in-Some.marks.now ∷ clauses_in c.next.new.self.cells.now) c.loop-marks.open
here c = rw c.in-Some.ensures.steps at c.loop-marks.invariant.2

pub loop-marks-init : goal.loop-marks-init
loop-marks-init c = (tt, tt, rw c.into_iter-marks-iterator.ensures.into_iter_gives (going_start c.args.self.now))

pub visit-requires : goal.visit-requires
visit-requires c = named_here c.args.self.now c.loop-marks.self c.in-Some.marks.now _ c.loop-marks.open (here (goal.at.visit-requires c).In-Some)

pub returns-in_err-open : goal.returns-in_err-open
returns-in_err-open c =
    let p = err_from_is_err_and c.from_residual.result c.from_residual.ensures.1 in
    let n = clashing c.args.self.now c.loop-marks.self c.in-Some.marks.now _ c.loop-marks.open (here (goal.at.returns-in_err-open c).In-Some) c.in_err-open.ensures.1 in
    rw (p.1, c.in_err-open.ensures.0) (c.loop-marks.invariant.2.reached, n)

pub loop-marks-preserved : goal.loop-marks-preserved
loop-marks-preserved c = (tt, tt, going_on c.args.self.now c.loop-marks.self c.in-Some.marks.now _ c.loop-marks.open (here (goal.at.loop-marks-preserved c).In-Some) c.visit.new.self c.in_ok-open.open c.in_ok-open.ensures)

pub returns : goal.returns
returns c = (c.loop-marks.invariant.2.reached, going_end c.args.self.now c.loop-marks.self c.loop-marks.open (rw c.in-None.ensures.steps.0 at c.loop-marks.invariant.2))
