use Rattle.std.proofs.Common.{◌≡◌, ℕ, suc, ◌+◌, length, ℤ, sym, ap, ◌∙◌, subst, arith, rules}
use Rattle.arrayvec.specs.ArrayVec.{ArrayVec}
use Rattle.totalizer.specs.Clauses.{literal, denial, denied}
use Rattle.writer.specs.Writes.{Short}
use Rattle.writer.proofs.Opposites.{turned}
use Rattle.writer.proofs.Marks.{said_more, quiet_more, marks_start, assumed_none, assumed_all}
use Rattle.writer.proofs.heap.Heap.assume.Goals as goal
use Rattle.writer.proofs.heap.Heap.assume.Goals.{in-Mark, in_default}

pub loop-above-init : goal.loop-above-init
loop-above-init g c = (omega arith, marks_start _ _)

pub loop-above-preserved : goal.loop-above-preserved
loop-above-preserved g c =
    let s = g.C.Scale.places in
    let h = c.args.self.now in
    let d = denied s.top h.base h.prices.now c.args.bound in
    let j : c.args.bound + suc c.loop-above.above ≡ c.args.bound + 1 + c.loop-above.above = omega arith in
    let t : d c.loop-above.above ≡ denial c.literal.result =
    ap (λ (k : ℕ). denial (literal s.top h.base h.prices.now 1 k)) j ∙ sym (ap denial c.literal.ensures.is) in
    elim c.match-literal.branch [
      | in-Mark w ↦
          let p = ap (λ (v : ArrayVec ℤ). v.items) w.marks-is ∙ w.push.ensures.items in (
            omega (arith, ap (λ (v : ArrayVec ℤ). length v.items) w.marks-is, w.push.ensures.len, c.loop-above.invariant.0),
            said_more c.loop-above.marks.items c.match-literal.marks.items c.args.marks.now.items c.loop-above.above w.in-Mark.mark _ c.literal.result d
                c.loop-above.invariant.1 p (turned w.in-Mark.mark (subst Short w.in-Mark.is c.literal.ensures.short)) w.in-Mark.is t,
          )
      | in_default w ↦
          let p = ap (λ (v : ArrayVec ℤ). v.items) w.marks-is in (
            omega (arith, ap length p, c.loop-above.invariant.0),
            p ∙ quiet_more c.loop-above.marks.items c.args.marks.now.items c.loop-above.above c.literal.result d c.loop-above.invariant.1 w.in_default.not-Mark t,
          )
    ]

pub returns-then-is_empty : goal.returns-then-is_empty
returns-then-is_empty g c = record { items = assumed_none _ _ _ _ _ (search rules); few = omega arith }

pub returns : goal.returns
returns g c =
    let h = c.args.self.now in
    record {
      items = assumed_all c.args.marks.now.items c.loop-above.marks.items g.C.Scale.places.top h.base h.prices.now c.args.bound c.loop-above.above
          (search rules) (omega (arith, g.C.Scale.topped)) c.loop-above.invariant.1;
      few = omega (arith, g.C.Scale.topped, c.loop-above.invariant.0);
    }
