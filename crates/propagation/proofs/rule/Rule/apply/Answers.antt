use Rattle.std.proofs.Common.{sym, ap, ◌∙◌, arith}
use Rattle.propagation.specs.declared.sides.Sides.{Sides}
use Rattle.propagation.proofs.Narrows.{broken, must_leave, must_take, drop_up, drop_down}
use Rattle.bits.proofs.OfBits.{dropped}
use Rattle.propagation.proofs.rule.Rule.apply.Goals as goal

pub returns-then-leaves-eq0 : goal.returns-then-leaves-eq0
returns-then-leaves-eq0 c =
    let r = c.args.self.now in
    let u = ap (λ (z : Sides). z.ups) c.possible-takes.ensures in
    let d = ap (λ (z : Sides). z.downs) c.possible-takes.ensures in
    broken r.sides.ups r.sides.downs c.args.at.up c.args.at.down (sym u ∙ c.if-takes-eq0.true) (sym d ∙ c.if-leaves-eq0.true)

pub returns-then-leaves-highest_bit : goal.returns-then-leaves-highest_bit
returns-then-leaves-highest_bit c =
    let r = c.args.self.now in
    let p = c.args.at in
    let s = c.highest_bit.ensures in
    let u = ap (λ (z : Sides). z.ups) c.possible-takes.ensures in
    let l = ap (λ (z : Sides). z.downs) c.possible-takes.ensures in
    let q = c.if-leaves-highest_bit.true ∙ s.power in
    let d = dropped p.up _ s.index c.without.result q c.without.ensures.bits in (
      record {
        up_le = c.without.ensures.less;
        down_le = omega arith;
        keeps = λ w a h. drop_up p.up p.down s.index c.without.result w d a (must_leave r.sides.ups r.sides.downs p.up p.down s.index w (sym u ∙ c.if-takes-eq0.true) (sym l ∙ q) a h);
      },
      λ z y. c.if-leaves-eq0.false (l ∙ y),
    )

pub returns-then-takes-highest_bit : goal.returns-then-takes-highest_bit
returns-then-takes-highest_bit c =
    let r = c.args.self.now in
    let p = c.args.at in
    let s = c.highest_bit-then-leaves-eq0-2.ensures in
    let u = ap (λ (z : Sides). z.ups) c.possible-takes.ensures in
    let l = ap (λ (z : Sides). z.downs) c.possible-takes.ensures in
    let q = c.if-takes-highest_bit.true ∙ s.power in
    let d = dropped p.down _ s.index c.without-then-takes-highest_bit.result q c.without-then-takes-highest_bit.ensures.bits in (
      record {
        up_le = omega arith;
        down_le = c.without-then-takes-highest_bit.ensures.less;
        keeps = λ w a h. drop_down p.up p.down s.index c.without-then-takes-highest_bit.result w d a (must_take r.sides.ups r.sides.downs p.up p.down s.index w (sym u ∙ q) (sym l ∙ c.if-leaves-eq0-2.true) a h);
      },
      λ z y. c.if-takes-eq0.false (u ∙ z),
    )
