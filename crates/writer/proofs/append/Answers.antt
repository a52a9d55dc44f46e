use Rattle.std.proofs.Common.{is_ok, Result, ap, ◌∙◌}
use Rattle.design.specs.declared.fault.SolverFault.{SolverFault}
use Rattle.writer.proofs.Clause.{taken, appended}
use Rattle.writer.proofs.append.Goals as goal

pub unwrap-requires : goal.unwrap-requires
unwrap-requires g c =
    ap (λ (r : Result (Unit {0}) SolverFault). is_ok r)
    (c.clause.ensures.answer ∙ taken (g.S.Solver.meaning c.args.solver.now) c.args.marks.now c.requires.short c.requires.takes)

pub returns : goal.returns
returns g c =
    appended g.S.Solver.meaning c.args.solver.now c.clause.new.self c.args.marks.now c.clause.result c.clause.ensures.after
    (c.clause.ensures.answer ∙ taken (g.S.Solver.meaning c.args.solver.now) c.args.marks.now c.requires.short c.requires.takes)
