use Rattle.std.proofs.Common.{◌≤◌, List, [], ◌∷◌, length, get_or, ℤ, pos, sym, ap, ◌∙◌, subst, arith, w8, SFits, rules}
use Rattle.std.proofs.lemmas.List.{take_all}
use Rattle.solver.specs.State.{with_clauses}
use Rattle.writer.specs.Writes.{Takes}
use Rattle.finder.proofs.Entering.{widened, taken_short}
use Rattle.finder.proofs.book.write_rule.Goals as goal

pub push-requires : goal.push-requires
push-requires g c = let e = c.loop-mark.invariant in omega (arith, ap length e, taken_short c.args.marks.now c.loop-mark.mark-index c.loop-mark-test.true, c.requires.short)

pub loop-mark-preserved : goal.loop-mark-preserved
loop-mark-preserved g c =
    let m = get_or c.args.marks.now c.loop-mark.mark-index (pos 0) in
    let f : SFits w8 m = search rules in
    widened c.args.marks.now c.loop-mark.clause.items c.push.new.self.items c.loop-mark.mark-index c.from.result f c.loop-mark-test.true
    c.loop-mark.invariant c.push.ensures.items c.from.ensures

pub append-requires : goal.append-requires
append-requires g c =
    let e = c.as_slice.ensures.value ∙ c.loop-mark.invariant ∙ take_all c.loop-mark.mark-index c.args.marks.now c.loop-mark-test.false in
    record {
      short = subst (λ (l : List ℤ). length l ≤ 8) (sym e) c.requires.short;
      takes = subst (λ (l : List ℤ). Takes (g.S.Solver.meaning c.args.solver.now) (l ∷ [])) (sym e) c.requires.takes;
    }

pub returns : goal.returns
returns g c =
    c.append.ensures
    ∙ ap (λ (l : List ℤ). with_clauses (g.S.Solver.meaning c.args.solver.now) (l ∷ []))
    (c.as_slice.ensures.value ∙ c.loop-mark.invariant ∙ take_all c.loop-mark.mark-index c.args.marks.now c.loop-mark-test.false)
