use Rattle.std.proofs.Common.{◌+◌, ◌-◌, arith, rules}
use Rattle.plain.specs.Held.{pair_of}
use Rattle.totalizer.proofs.Fits.{numbered}
use Rattle.tree.proofs.Products.{few_extra}
use Rattle.tree.proofs.choices_needed.Goals as goal

pub overflow_mul-result : goal.overflow_mul-result
overflow_mul-result g c =
    let h = few_extra (c.from-4.result - 1) (c.from.result + c.from-2.result) (omega (arith, c.args.sizes.few_prices)) (omega (arith, g.A.Scale.laws.high, g.B.Scale.laws.high, g.A.Scale.topped, g.B.Scale.topped)) in
    record { fits = omega arith }

pub overflow_add-result : goal.overflow_add-result
overflow_add-result g c =
    let h = few_extra (c.from-4.result - 1) (c.from.result + c.from-2.result) (omega (arith, c.args.sizes.few_prices)) (omega (arith, g.A.Scale.laws.high, g.B.Scale.laws.high, g.A.Scale.topped, g.B.Scale.topped)) in
    record { fits = omega (arith, c.args.sizes.few_choices) }

pub returns : goal.returns
returns g c = record { needed = search rules; own = numbered (pair_of g.A.Scale.places g.B.Scale.places) }
