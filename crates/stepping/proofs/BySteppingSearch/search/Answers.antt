use Rattle.std.proofs.Common.{arith}
use Rattle.sweeping.specs.Trail.{values_in, clauses_at}
use Rattle.stepping.proofs.Walking.{met_none}
use Rattle.stepping.proofs.BySteppingSearch.search.Goals as goal

-- no choice is behind yet
pub step-requires : goal.step-requires
step-requires c =
    let a = c.args.assignment.now in
    record { low = omega arith; fixed = λ k h. absurd (omega arith); met = met_none (values_in a) (clauses_at a) }
