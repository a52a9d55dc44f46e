use Rattle.std.proofs.Common.{sym, refl, subst}
use Rattle.store.specs.Parts.{Stored}
use Rattle.deciding.specs.Held.{kind_meaning}
use Rattle.deciding.proofs.Conclusions.{concluded_stored, decided}
use Rattle.deciding.proofs.KindSolver.decide.Goals as goal

pub invariant_of-self : goal.invariant_of-self
invariant_of-self g c =
    let s = c.args.self.now in
    let s' = c.decide_by.new.store in
    let after = concluded_stored s.store.cells.now s'.cells.now s.store.used s.choices s.room c.args.assumptions.now c.decide_by.result s.stored c.decide_by.ensures.answer in
    record { stored = subst (λ u. Stored s'.cells.now u s.choices s.room) (sym c.decide_by.ensures.used) after }

pub returns : goal.returns
returns g c =
    let s = c.args.self.now in
    let s' = c.decide_by.new.store in
    decided kind_meaning s _ s.store.cells.now s'.cells.now s.store.used s'.used s.choices s.room c.args.assumptions.now c.decide_by.result
    refl refl c.decide_by.ensures.used (sym c.if-not-all_named.ensures) s.stored c.decide_by.ensures.answer
