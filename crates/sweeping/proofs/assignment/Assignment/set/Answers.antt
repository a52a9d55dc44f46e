use Rattle.std.proofs.Common.{refl, ap, ◌∙◌, arith, w16, length-set, ℤ}
use Rattle.std.proofs.lemmas.Int.{to_z-of_z}
use Rattle.design.specs.Mark.{bit_of}
use Rattle.solver.specs.Setting.{clauses_named}
use Rattle.store.specs.Coding.{clauses_in}
use Rattle.sweeping.proofs.Undoing.{place_free, given_whole}
use Rattle.sweeping.proofs.assignment.Assignment.set.Goals as goal

pub bounds-self-self : goal.bounds-self-self
bounds-self-self c = place_free c.args.self.now c.args.mark c.args.value (bit_of c.args.mark) c.requires.opened c.requires.valued refl

pub invariant_of-self-2 : goal.invariant_of-self-2
invariant_of-self-2 c =
    let a = c.args.self.now in
    let m = to_z-of_z w16 c.args.mark c.ranges.mark in
    let z = to_z-of_z w16 c.args.value c.ranges.value in
    let w = given_whole a c.args.mark c.args.value c.place.result c.requires.opened c.requires.valued (c.place.ensures ∙ ap bit_of m) in
    record { few = omega (arith, length-set {A = ℤ}, a.few); named = ap (λ k. clauses_named k (clauses_in a.clauses.cells.now)) (length-set a.values.now c.place.result _) ∙ a.named; marks = rw (m, z) w.marks; room = rw (m, z) w.room }
