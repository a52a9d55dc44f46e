use Rattle.std.proofs.Common.{◌+◌, ◌-◌, get_or, pos, ap, ◌∙◌, arith, w16, SFits, rules}
use lib.Signed.{lt_z}
use Rattle.std.proofs.lemmas.Int.{to_z-of_z}
use Rattle.deciding.specs.Held.{kind_meaning}
use Rattle.store.proofs.Answering.{told, held_at}
use Rattle.deciding.proofs.KindSolver.taken.Goals as goal

pub returns : goal.returns
returns g c =
    let s = c.args.self.now in
    let z = get_or s.store.cells.now (s.room + c.args.choice - 1) (pos 0) in
    let f : SFits w16 z = search rules in
    told (kind_meaning s) c.args.choice _ (omega arith) (omega arith)
    (ap (lt_z (pos 0)) (to_z-of_z w16 z f) ∙ held_at s.store.cells.now s.choices s.room c.args.choice (omega arith) (omega arith))
