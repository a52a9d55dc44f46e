use Rattle.std.proofs.Common.{◌≡◌, ℕ, ◌<◌, ◌≤◌, List, [], ◌∷◌, ◌++◌, length, get_or, take, ℤ, pos, sym, refl, ap, ◌∙◌, arith, length-set, w8, SFits, to_z, of_z, rules}
use Rattle.std.proofs.lemmas.Int.{to_z-of_z}
use Rattle.std.proofs.lemmas.List.{take_more, take_more_set, take_all}
use Rattle.design.specs.Mark.{named, all_are_named}
use Rattle.propagation.specs.declared.sides.Sides.{Sides}
use Rattle.propagation.specs.Masks.{up_bit, down_bit, ups_of, downs_of}
use Rattle.design.proofs.OfMarks.{all_at}
use Rattle.propagation.proofs.Making.{ups_next, downs_next, ups_none, downs_none}
use Rattle.propagation.proofs.rule.Rule.new.Goals as goal

pub loop-i-init : goal.loop-i-init
loop-i-init c = (refl, refl, ap (λ (z : Sides). z.ups) c.none-sides.ensures ∙ ups_none, ap (λ (z : Sides). z.downs) c.none-sides.ensures ∙ downs_none)

pub of-requires : goal.of-requires
of-requires c =
    let z = get_or c.args.marks.now c.loop-i.i (pos 0) in
    let f : SFits w8 z = search rules in
    ap (named 64) (to_z-of_z w8 z f) ∙ all_at 64 c.loop-i.i c.args.marks.now (pos 0) c.requires.named c.loop-i-test.true

pub loop-i-preserved : goal.loop-i-preserved
loop-i-preserved c =
    let ms = c.args.marks.now in
    let i = c.loop-i.i in
    let z = get_or c.args.marks.now c.loop-i.i (pos 0) in
    let f : SFits w8 z = search rules in
    let e : to_z w8 (of_z w8 z) ≡ z = to_z-of_z w8 z f in
    let l : c.loop-i.i < length c.args.marks.now = c.loop-i-test.true in
    let m : length c.args.marks.now ≤ 8 = c.requires.short in
    let n : c.loop-i.i < length c.loop-i.held = omega (arith, c.loop-i.invariant.0) in
    let u = ap (λ (s : Sides). s.ups) c.of.ensures in
    let d = ap (λ (s : Sides). s.downs) c.of.ensures in (
      length-set c.loop-i.held i _ ∙ c.loop-i.invariant.0,
      take_more_set c.loop-i.held i _ n ∙ ap (λ (x : List ℤ). x ++ to_z w8 (of_z w8 z) ∷ []) c.loop-i.invariant.1 ∙ ap (λ (x : ℤ). take i ms ++ x ∷ []) e ∙ sym (take_more ms i (pos 0) l),
      ap (λ (s : Sides). s.ups) c.with-sides.ensures ∙ ups_next ms i _ _ l c.loop-i.invariant.2 (u ∙ ap up_bit e),
      ap (λ (s : Sides). s.downs) c.with-sides.ensures ∙ downs_next ms i _ _ l c.loop-i.invariant.3 (d ∙ ap down_bit e),
    )

all_held : (ms held : List ℤ) (i : ℕ) → i ≤ length ms → length ms ≤ i → take i held ≡ take i ms → take (length ms) held ≡ ms
all_held ms held i h k e = let q : length ms ≡ i = omega arith in ap (λ (n : ℕ). take n held) q ∙ e ∙ take_all i ms k

pub invariant_of-result : goal.invariant_of-result
invariant_of-result c =
    let ms = c.args.marks.now in
    let e = all_held ms c.loop-i.held c.loop-i.i c.loop-i.auto.i-end c.loop-i-test.false c.loop-i.invariant.1 in
    let t = take_all c.loop-i.i ms c.loop-i-test.false in
    record {
      short = c.requires.short;
      named = ap (all_are_named 64) e ∙ c.requires.named;
      up_word = c.loop-i.invariant.2 ∙ ap ups_of (t ∙ sym e);
      down_word = c.loop-i.invariant.3 ∙ ap downs_of (t ∙ sym e);
    }

pub returns : goal.returns
returns c = all_held c.args.marks.now c.loop-i.held c.loop-i.i c.loop-i.auto.i-end c.loop-i-test.false c.loop-i.invariant.1
