use Rattle.std.proofs.Common.{◌≡◌, take, ap, ◌∙◌, subst, arith, ℤ, length-append, length-drop, length-take}
use Rattle.std.proofs.lemmas.List.{length-take-le}
use Rattle.store.specs.Parts.{part, clauses_of}
use Rattle.deciding.specs.Concluding.{Answered}
use Rattle.deciding.proofs.Conclusions.{clauses_sound, clauses_same, concluded}
use Rattle.deciding.proofs.decide_in.Goals as goal

pub invariant_of-clauses : goal.invariant_of-clauses
invariant_of-clauses g c = record { sound = clauses_sound c.args.cells.now _ c.args.used c.args.choices c.args.room c.requires.stored c.split_at_mut-clauses.ensures.front }

pub decide_over-requires-clause-clauses : goal.decide_over-requires-clause-clauses
decide_over-requires-clause-clauses g c =
    let e = clauses_same c.args.cells.now _ c.args.used c.args.choices c.args.room c.requires.stored c.split_at_mut-clauses.ensures.front in
    let n = length-take-le c.args.choices c.split_at_mut-trail.result.1.now (omega arith) in
    rw (n, e) c.requires.stored.named

pub returns : goal.returns
unfolding part
returns g c =
    let s = c.args.cells.now in
    let st = c.requires.stored in
    let first = c.split_at_mut-clauses.ensures.front in
    let e = clauses_same s _ c.args.used c.args.choices c.args.room st first in
    let h : c.split_at_mut-held.result.0.now ≡ part s c.args.room c.args.choices = c.split_at_mut-held.ensures.front ∙ ap (take c.args.choices) c.split_at_mut-clauses.ensures.back in
    concluded s c.args.used c.args.choices c.args.room c.args.assumptions.now _ c.decide_over.new.held _ st first (omega arith) (omega (arith, length-append {A = ℤ}, length-drop {A = ℤ}, length-take {A = ℤ})) c.decide_over.result
    (subst (λ x. Answered (clauses_of s c.args.used) c.args.assumptions.now x c.decide_over.new.held c.decide_over.result) h
    (subst (λ cs. Answered cs c.args.assumptions.now c.split_at_mut-held.result.0.now c.decide_over.new.held c.decide_over.result) e c.decide_over.ensures))
