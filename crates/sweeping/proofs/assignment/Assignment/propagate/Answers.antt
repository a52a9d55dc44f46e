use Rattle.std.proofs.Common.{subst}
use Rattle.std.proofs.lemmas.Result.{err_from_is_err_and}
use Rattle.sweeping.specs.Trail.{values_in, clauses_at, Meets}
use Rattle.sweeping.specs.Sweeps.{Nowhere, Noted}
use Rattle.sweeping.proofs.Reaching.{none_reached}
use Rattle.sweeping.proofs.Going.{swept_on}
use Rattle.sweeping.proofs.assignment.Assignment.propagate.Goals as goal

pub loop-open-init : goal.loop-open-init
loop-open-init c = none_reached (Meets (clauses_at c.args.self.now)) c.args.self.now

pub returns-in_err-open : goal.returns-in_err-open
returns-in_err-open c =
    let p = err_from_is_err_and c.from_residual.result c.from_residual.ensures.1 in
    let q = c.loop-open.invariant in
    rw p.1 (
      swept_on c.args.self.now c.loop-open.self c.sweep_once.new.self q c.in_err-open.ensures.0,
      subst (λ cs. Nowhere (Meets cs) (values_in c.sweep_once.new.self)) q.same.clauses c.in_err-open.ensures.1,
    )

pub returns-then-self-before : goal.returns-then-self-before
returns-then-self-before c =
    let q = c.loop-open.invariant in (
      swept_on c.args.self.now c.loop-open.self c.sweep_once.new.self q c.in_ok-open.ensures.0,
      subst (λ cs. Noted cs c.sweep_once.new.self c.in_ok-open.open) q.same.clauses (c.in_ok-open.ensures.1 c.if-self-before.true),
    )

pub loop-open-preserved : goal.loop-open-preserved
loop-open-preserved c = swept_on c.args.self.now c.loop-open.self c.sweep_once.new.self c.loop-open.invariant c.in_ok-open.ensures.0
