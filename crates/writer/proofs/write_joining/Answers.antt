use Rattle.std.proofs.Common.{sym, ap, ◌∙◌, subst, arith}
use Rattle.solver.specs.State.{with_clauses}
use Rattle.writer.specs.Writes.{Takes, Short}
use Rattle.writer.proofs.Parts.{wrote_none}
use Rattle.writer.proofs.Joins.{none_left, none_right, is_always, is_right, is_left, is_both}
use Rattle.writer.proofs.write_joining.Goals as goal

pub append-requires : goal.append-requires
append-requires g c = record {
  short = omega arith;
  takes = subst (Takes (g.S.Solver.meaning c.args.solver.now)) (is_always c.args.left c.args.right c.args.joined c.requires.small c.in-Always.is c.in-Always-right.is) c.requires.takes;
}

pub append-requires-in-Mark-right : goal.append-requires-in-Mark-right
append-requires-in-Mark-right g c =
    let h = subst Short c.in-Mark-right.is c.requires.marks.1 in
    record {
      short = omega arith;
      takes = subst (Takes (g.S.Solver.meaning c.args.solver.now)) (is_right c.args.left c.args.right c.args.joined c.requires.small c.in-Mark-right.v c.in-Always.is c.in-Mark-right.is h) c.requires.takes;
    }

pub append-requires-in-Always-right-2 : goal.append-requires-in-Always-right-2
append-requires-in-Always-right-2 g c =
    let h = subst Short c.in-Mark.is c.requires.marks.0 in
    record {
      short = omega arith;
      takes = subst (Takes (g.S.Solver.meaning c.args.solver.now)) (is_left c.args.left c.args.right c.args.joined c.requires.small c.in-Mark.u c.in-Mark.is c.in-Always-right-2.is h) c.requires.takes;
    }

pub append-requires-in-Mark-right-2 : goal.append-requires-in-Mark-right-2
append-requires-in-Mark-right-2 g c =
    let h = subst Short c.in-Mark.is c.requires.marks.0 in
    let h' = subst Short c.in-Mark-right-2.is c.requires.marks.1 in
    record {
      short = omega arith;
      takes = subst (Takes (g.S.Solver.meaning c.args.solver.now)) (is_both c.args.left c.args.right c.args.joined c.requires.small c.in-Mark.u c.in-Mark-right-2.v c.in-Mark.is c.in-Mark-right-2.is h h') c.requires.takes;
    }

pub returns-in-Never : goal.returns-in-Never
returns-in-Never g c = wrote_none _ _ (none_left c.args.left c.args.right c.args.joined c.in-Never.is)

pub returns-in-Never-right : goal.returns-in-Never-right
returns-in-Never-right g c = wrote_none _ _ (none_right c.args.left c.args.right c.args.joined c.in-Never-right.is)

pub returns-in-Never-right-2 : goal.returns-in-Never-right-2
returns-in-Never-right-2 g c = wrote_none _ _ (none_right c.args.left c.args.right c.args.joined c.in-Never-right-2.is)

pub returns-in-Always-right : goal.returns-in-Always-right
returns-in-Always-right g c =
    c.append.ensures
    ∙ ap (with_clauses (g.S.Solver.meaning c.args.solver.now)) (sym (is_always c.args.left c.args.right c.args.joined c.requires.small c.in-Always.is c.in-Always-right.is))

pub returns-in-Mark-right : goal.returns-in-Mark-right
returns-in-Mark-right g c =
    let h = subst Short c.in-Mark-right.is c.requires.marks.1 in
    c.append-in-Mark-right.ensures
    ∙ ap (with_clauses (g.S.Solver.meaning c.args.solver.now)) (sym (is_right c.args.left c.args.right c.args.joined c.requires.small c.in-Mark-right.v c.in-Always.is c.in-Mark-right.is h))

pub returns-in-Always-right-2 : goal.returns-in-Always-right-2
returns-in-Always-right-2 g c =
    let h = subst Short c.in-Mark.is c.requires.marks.0 in
    c.append-in-Always-right-2.ensures
    ∙ ap (with_clauses (g.S.Solver.meaning c.args.solver.now)) (sym (is_left c.args.left c.args.right c.args.joined c.requires.small c.in-Mark.u c.in-Mark.is c.in-Always-right-2.is h))

pub returns-in-Mark-right-2 : goal.returns-in-Mark-right-2
returns-in-Mark-right-2 g c =
    let h = subst Short c.in-Mark.is c.requires.marks.0 in
    let h' = subst Short c.in-Mark-right-2.is c.requires.marks.1 in
    c.append-in-Mark-right-2.ensures
    ∙ ap (with_clauses (g.S.Solver.meaning c.args.solver.now)) (sym (is_both c.args.left c.args.right c.args.joined c.requires.small c.in-Mark.u c.in-Mark-right-2.v c.in-Mark.is c.in-Mark-right-2.is h h'))
