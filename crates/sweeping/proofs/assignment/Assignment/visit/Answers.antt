use Rattle.std.proofs.Common.{refl, ap, ◌∙◌, subst, sym, arith, length, w16, SFits, rules}
use Rattle.std.proofs.lemmas.Int.{to_z-of_z}
use Rattle.values.specs.Partial.{value_that_holds}
use Rattle.values.proofs.Agreeing.{for_open, fits_holding}
use Rattle.sweeping.specs.Sweeps.{MeetsOne, NotedOne, note}
use Rattle.sweeping.proofs.Reaching.{none_reached, given_reached, given_by}
use Rattle.sweeping.proofs.Visiting.{state_met, state_broken, state_last, last_true, noted_same, noted_several}
use Rattle.sweeping.proofs.assignment.Assignment.visit.Goals as goal

pub set-requires-clause-opened : goal.set-requires-clause-opened
set-requires-clause-opened c =
    let m = c.in-Last.mark in
    let f : SFits w16 m = search rules in
    rw (to_z-of_z w16 m f) (state_last _ c.args.self.now.values.now c.args.marks.now c.requires m c.in-Last.ensures)

pub returns-in-Met : goal.returns-in-Met
returns-in-Met c = (
  none_reached (MeetsOne c.args.marks.now) c.args.self.now,
  λ _. noted_same _ c.args.self.now.values.now c.args.marks.now c.requires (state_met _ c.args.self.now.values.now c.args.marks.now c.requires c.in-Met.ensures) c.args.open,
)

pub returns-in-Broken : goal.returns-in-Broken
returns-in-Broken c = (refl, state_broken _ c.args.self.now.values.now c.args.marks.now c.requires c.in-Broken.ensures)

pub returns-in-Last : goal.returns-in-Last
returns-in-Last c =
    let a = c.args.self.now in
    let v = a.values.now in
    let m = c.in-Last.mark in
    let f : SFits w16 m = search rules in
    let h : SFits w16 c.value_for.result = search rules in
    let g = given_by value_that_holds a c.set.new.self m c.value_for.result f h c.value_for.ensures c.set.ensures in (
      given_reached (MeetsOne c.args.marks.now) a c.set.new.self m (value_that_holds m) (state_last _ v c.args.marks.now c.requires m c.in-Last.ensures) (for_open m) g
          (λ x h k. fits_holding x m (last_true _ v c.args.marks.now c.requires m c.in-Last.ensures x h k)),
      λ h. absurd (omega (arith, c.set.ensures.top)),
    )

pub returns-in-Several : goal.returns-in-Several
returns-in-Several c =
    let m = c.in-Several.mark in
    let v = c.args.self.now.values.now in
    let f : SFits w16 m = search rules in
    let e = c.note.ensures ∙ ap (note c.args.open) (to_z-of_z w16 m f) in (
      none_reached (MeetsOne c.args.marks.now) c.args.self.now,
      λ _. subst (NotedOne c.args.marks.now (length v) v c.args.open) (sym e) (noted_several _ v c.args.marks.now c.requires c.args.open m c.in-Several.ensures),
    )
