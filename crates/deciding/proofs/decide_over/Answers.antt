use Rattle.std.proofs.Common.{ap, ◌∙◌, arith}
use Rattle.solver.specs.Setting.{clauses_named}
use Rattle.store.specs.Coding.{clauses_in}
use Rattle.deciding.proofs.Conclusions.{room_at_first, no_marks}
use Rattle.deciding.proofs.decide_over.Goals as goal

pub invariant_of-assignment : goal.invariant_of-assignment
invariant_of-assignment g c =
    record {
      few = omega (arith, c.requires.few, c.prepare.auto.values);
      named = ap (λ n. clauses_named n (clauses_in c.args.clauses.cells.now)) c.prepare.auto.values ∙ c.requires.clauses;
      marks = no_marks _ c.args.trail.now;
      room = room_at_first c.prepare.new.values c.args.trail.now (omega (arith, c.requires.trail, c.prepare.auto.values));
    }
