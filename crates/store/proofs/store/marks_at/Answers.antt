use Rattle.std.proofs.Common.{◌≡◌, ◌+◌, ◌-◌, get_or, take, drop, pos, nat_abs, ap, ◌∙◌, arith, w16, SFits, rules}
use Rattle.std.proofs.lemmas.Int.{to_z-of_z}
use Rattle.store.specs.Parts.{part}
use Rattle.store.proofs.store.marks_at.Goals as goal

pub returns : goal.returns
unfolding part
returns c =
    let z = get_or c.args.cells.now c.args.at (pos 0) in
    let f : SFits w16 z = search rules in
    let n : c.args.at + 1 + c.unsigned_abs-count.result - (c.args.at + 1) ≡ nat_abs z = omega (arith, c.unsigned_abs-count.ensures.value ∙ ap nat_abs (to_z-of_z w16 z f)) in
    ap (λ x. take x (drop (c.args.at + 1) c.args.cells.now)) n
