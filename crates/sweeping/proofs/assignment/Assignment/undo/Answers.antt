use Rattle.std.proofs.Common.{◌≡◌, refl, get_or, pos, sym, ap, ◌∙◌, arith, w16, SFits, rules}
use Rattle.std.proofs.lemmas.Int.{to_z-of_z}
use Rattle.design.specs.Mark.{bit_of}
use Rattle.solver.specs.Setting.{clauses_named}
use Rattle.store.specs.Coding.{clauses_in}
use Rattle.sweeping.specs.Trail.{reopened, marks_from}
use Rattle.sweeping.proofs.Undoing.{mark_below, reopened_next, reopened_rest, undone_whole}
use Rattle.sweeping.proofs.assignment.Assignment.undo.Goals.{After-place, After-loop-at}
use Rattle.sweeping.proofs.assignment.Assignment.undo.Goals as goal

placed : (c : goal.After-place) → c.place.result ≡ bit_of (get_or c.args.self.now.trail.now c.loop-at.at (pos 0))
placed c =
    let z = get_or c.args.self.now.trail.now c.loop-at.at (pos 0) in
    let f : SFits w16 z = search rules in
    c.place.ensures ∙ ap bit_of (to_z-of_z w16 z f)

pub slice_set_of-values : goal.slice_set_of-values
slice_set_of-values c = omega (arith, placed c, mark_below c.args.self.now c.loop-at.at c.loop-at-test.true)

pub loop-at-preserved : goal.loop-at-preserved
loop-at-preserved c = reopened_next c.args.self.now c.loop-at.values c.loop-at.at c.place.result c.loop-at-test.true (placed c) ∙ c.loop-at.invariant

undone : (c : goal.After-loop-at) → c.loop-at.values ≡ reopened c.args.self.now.values.now (marks_from c.args.base c.args.self.now)
undone c = sym (reopened_rest c.args.self.now c.loop-at.values c.loop-at.at c.loop-at-test.false) ∙ c.loop-at.invariant

pub invariant_of-self : goal.invariant_of-self
invariant_of-self c =
    let a = c.args.self.now in
    let w = undone_whole a c.args.base c.loop-at.values c.requires (undone c) in
    record { few = omega (arith, c.loop-at.auto.values, a.few); named = ap (λ k. clauses_named k (clauses_in a.clauses.cells.now)) c.loop-at.auto.values ∙ a.named; marks = w.marks; room = w.room }

pub returns : goal.returns
returns c =
    let a = c.args.self.now in
    record {
      same = record { clauses = refl; values = refl; choices = c.loop-at.auto.values; trail = refl; long = refl };
      top = refl;
      trail = refl;
      values = undone (goal.at.returns c).After-loop-at;
    }
