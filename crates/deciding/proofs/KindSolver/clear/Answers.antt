use Rattle.std.proofs.Common.{refl}
use Rattle.store.proofs.Encoded.{no_clauses}
use Rattle.store.proofs.Answering.{same_solving}
use Rattle.deciding.proofs.Conclusions.{stored_none}
use Rattle.deciding.proofs.KindSolver.clear.Goals as goal

pub invariant_of-self : goal.invariant_of-self
invariant_of-self g c =
    let s = c.args.self.now in
    record { stored = stored_none s.store.cells.now s.choices s.room s.stored.some_choice s.stored.few_choices s.stored.high }

pub returns : goal.returns
returns g c =
    let s = c.args.self.now in
    same_solving s.choices s.room (no_clauses s.store.cells.now) refl
