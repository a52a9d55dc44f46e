use Rattle.std.proofs.Common.{sym, ap, ◌∙◌}
use Rattle.std.proofs.lemmas.List.{take_all}
use Rattle.scales.specs.Many.{joined_all}
use Rattle.scales.proofs.ManyJoined.{all_none, all_next, joined_many}
use Rattle.scales.proofs.join_all.Goals as goal

pub loop-v-init : goal.loop-v-init
loop-v-init g c = let s = g.S.Scale in c.nothing-sum.ensures ∙ sym (all_none s.joined (s.at 0))

pub loop-v-preserved : goal.loop-v-preserved
loop-v-preserved g c =
    let s = g.S.Scale in
    c.join-sum.ensures ∙ ap (λ x. s.joined x c.v-item.result) c.loop-v.invariant
    ∙ sym (all_next s.places s.place s.at s.joined s.laws c.args.values.now c.loop-v.v-index c.v-item.result c.v-item.is c.loop-v-test.true)

pub returns : goal.returns
returns g c =
    let s = g.S.Scale in
    joined_many s.places s.place s.at s.joined s.laws c.args.values.now c.loop-v.sum
    (c.loop-v.invariant ∙ ap (joined_all s.joined (s.at 0)) (take_all c.loop-v.v-index c.args.values.now c.loop-v-test.false))
