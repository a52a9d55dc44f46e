use Rattle.std.proofs.Common.{get_or, pos, ap, arith, w16, SFits, rules, ltb-false, ltb-true}
use Rattle.std.proofs.lemmas.Int.{to_z-of_z}
use Rattle.design.specs.Mark.{bit_of}
use Rattle.stepping.proofs.Walking.{highest_none, highest_first}
use Rattle.stepping.proofs.walk.+highest.Goals as goal

pub returns-in-empty : goal.returns-in-empty
returns-in-empty t c = highest_none c.args.marks.now (omega (arith, ltb-true))

pub returns-in-len1-up : goal.returns-in-len1-up
returns-in-len1-up t c =
    let z = get_or c.args.marks.now 0 (pos 0) in
    let f : SFits w16 z = search rules in
    let k = highest_first c.args.marks.now (omega (arith, ltb-false)) in
    omega (arith, c.max.ensures, c.place.ensures, ap bit_of (to_z-of_z w16 z f), k, c.highest.ensures)
