use Rattle.std.proofs.Common.{◌≡◌, length, pos, arith, w16, to_z}
use Rattle.std.proofs.lemmas.Int.{ints}
use Rattle.store.proofs.Writing.{written}
use Rattle.store.proofs.store.write_clause.Goals as goal

pub returns : goal.returns
returns c =
    let z : to_z w16 (length c.args.marks.now) ≡ pos (length c.args.marks.now) = omega (arith, ints) in
    written c.args.free.now c.args.marks.now c.copy_from_slice.new.self _ (omega arith) z c.copy_from_slice.ensures.after
