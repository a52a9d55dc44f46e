use Rattle.std.proofs.Common.{inl, inr, arith}
use Rattle.std.proofs.lemmas.Bool.{both_ways, not_from_true, not_from_false, eq-eqb, ne_eqb}
use Rattle.propagation.proofs.Eases.{some_left, none_left}
use Rattle.propagation.proofs.rule.Rule.is_met.Goals as goal

pub returns-then-without-ne0 : goal.returns-then-without-ne0
returns-then-without-ne0 c =
    let r = c.args.self.now in
    let s = some_left r.sides.ups c.args.at.down c.without.result (omega arith) c.without.ensures.bits c.if-without-ne0.true in
    (λ _. (s.0, s.1, inl (s.2, s.3)), λ _. not_from_false _ (ne_eqb c.without.result 0 c.if-without-ne0.true))

pub returns-else-without-ne0 : goal.returns-else-without-ne0
returns-else-without-ne0 c =
    let r = c.args.self.now in
    let x = c.without-else-without-ne0 in (
      λ t. let s = some_left r.sides.downs c.args.at.up x.result (omega arith) x.ensures.bits (λ z. both_ways _ (not_from_true _ (eq-eqb x.result 0 z)) t) in (s.0, s.1, inr (s.2, s.3)),
      λ m. elim m.2 [
        | inl t ↦ absurd (none_left r.sides.ups c.args.at.down c.without.result c.without.ensures.bits c.if-without-ne0.false m.0 t.0 t.1)
        | inr t ↦ not_from_false _ (ne_eqb x.result 0 (λ z. none_left r.sides.downs c.args.at.up x.result x.ensures.bits z m.0 t.0 t.1))
      ],
    )
