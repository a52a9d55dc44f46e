use Rattle.std.proofs.Common.{ℕ, not, ◌&&◌, ap, ◌∙◌, w8}
use Rattle.std.proofs.lemmas.Int.{to_z-of_z}
use Rattle.bits.specs.Bit.{bit}
use Rattle.propagation.specs.declared.sides.Sides.{Sides}
use Rattle.propagation.specs.Masks.{up_bit, down_bit}
use Rattle.pricing.proofs.Bounding.{drop_mark}
use Rattle.pricing.proofs.bound.exclude.Goals as goal

pub returns : goal.returns
returns c =
    let p = c.args.at in
    let m = c.args.mark in
    let e = to_z-of_z w8 c.args.mark c.ranges.mark in
    let u = ap (λ (z : Sides). z.ups) c.of-sides.ensures ∙ ap up_bit e in
    let d = ap (λ (z : Sides). z.downs) c.of-sides.ensures ∙ ap down_bit e in
    record {
      up_le = c.without.ensures.less;
      down_le = c.without-2.ensures.less;
      keeps = λ w a f. drop_mark p.up p.down c.without.result c.without-2.result w m c.requires f
          (λ k. c.without.ensures.bits k ∙ ap (λ (n : ℕ). bit p.up k && not (bit n k)) u)
          (λ k. c.without-2.ensures.bits k ∙ ap (λ (n : ℕ). bit p.down k && not (bit n k)) d) a;
    }
