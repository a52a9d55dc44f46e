use Rattle.std.proofs.Common.{◌≡◌, ◌%◌, ◌^◌, vec_items, ap, ◌∙◌}
use lib.Bits.{bit_and}
use Rattle.std.proofs.lemmas.Nat.{and_mask}
use Rattle.design.specs.Cost.{cost}
use Rattle.design.specs.Plan.{cost_a, cost_b}
use Rattle.plain.proofs.PlainJudge.costs.Goals as goal

pub returns : goal.returns
unfolding cost_a cost_b
returns g c =
    let j = c.args.self.now in
    let e : bit_and c.args.word c.lowest.result ≡ c.args.word % 2 ^ j.sizes.choices = ap (bit_and c.args.word) c.lowest.ensures ∙ and_mask c.args.word j.sizes.choices in
    record {
      first = let h = ap (cost g.A.Scale.places (vec_items j.prices_a.list.entries)) e in cc;
      second = let h = ap (cost g.B.Scale.places (vec_items j.prices_b.list.entries)) e in cc;
    }
