use Rattle.std.proofs.Common.{◌∙◌, w8}
use Rattle.std.proofs.lemmas.Int.{to_z-of_z}
use Rattle.pricing.proofs.Entering.{same_answer, passes}
use Rattle.pricing.proofs.price_table.PriceTable.check.Goals as goal

pub returns : goal.returns
returns g c =
    let l = c.args.self.now in
    let e = c.check_price.ensures ∙ same_answer l.sizes.choices l.sizes.price_room c.args.place (c.TOP.ensures ∙ g.S.Scale.topped) c.as_slice.ensures (to_z-of_z w8 c.args.mark c.ranges.mark) in
    record { answer = e; fresh = passes l g.S.Scale.places.top c.args.mark c.args.place c.check_price.result e }
