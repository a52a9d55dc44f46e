use Rattle.std.proofs.Common.{◌≡◌, ℕ, suc, ◌+◌, ◌-◌, length, ap, ◌∙◌, subst, arith}
use Rattle.solver.specs.State.{with_clauses}
use Rattle.totalizer.specs.Clauses.{grid, from_last, tree, gather}
use Rattle.writer.specs.Writes.{Takes}
use Rattle.writer.proofs.Parts.{takes_part, wrote_more, wrote_start}
use Rattle.writer.proofs.heap.Heap.write.Goals as goal

pub loop-done-init : goal.loop-done-init
loop-done-init g c = (omega arith, wrote_start _ _)

pub write_node-requires : goal.write_node-requires
unfolding tree
write_node-requires g c =
    let s = g.C.Scale in
    let m = g.S.Solver.meaning in
    let e : length c.args.self.now.prices.now - suc (c.loop-done.done - 1) ≡ length c.args.self.now.prices.now - c.loop-done.done = omega arith in
    record {
      inner = record { first = omega arith; last = omega arith };
      takes = subst (λ (k : ℕ). Takes (m c.loop-done.solver) (grid s.places c.args.self.now.base c.args.self.now.prices.now k)) e
          (takes_part (m c.args.solver.now) (m c.loop-done.solver) (from_last s.places c.args.self.now.base c.args.self.now.prices.now) (length c.args.self.now.prices.now - 1) (c.loop-done.done - 1)
          c.requires c.loop-done.invariant.1 (omega arith));
    }

pub loop-done-preserved : goal.loop-done-preserved
loop-done-preserved g c =
    let s = g.C.Scale in
    let m = g.S.Solver.meaning in
    let e : length c.args.self.now.prices.now - c.loop-done.done ≡ length c.args.self.now.prices.now - suc (c.loop-done.done - 1) = omega arith in
    let d : c.loop-done.done - 1 + 1 ≡ c.loop-done.done + 1 - 1 = omega arith in (
      omega arith,
      subst (λ (k : ℕ). m c.write_node.new.solver ≡ with_clauses (m c.args.solver.now) (gather (from_last s.places c.args.self.now.base c.args.self.now.prices.now) k)) d
          (wrote_more (m c.args.solver.now) (m c.loop-done.solver) (m c.write_node.new.solver) (from_last s.places c.args.self.now.base c.args.self.now.prices.now) (c.loop-done.done - 1)
          c.loop-done.invariant.1
          (subst (λ (k : ℕ). m c.write_node.new.solver ≡ with_clauses (m c.loop-done.solver) (grid s.places c.args.self.now.base c.args.self.now.prices.now k)) e c.write_node.ensures)),
    )

pub returns : goal.returns
unfolding tree
returns g c =
    let s = g.C.Scale in
    let e : c.loop-done.done - 1 ≡ length c.args.self.now.prices.now - 1 = omega arith in
    c.loop-done.invariant.1
    ∙ ap (λ (k : ℕ). with_clauses (g.S.Solver.meaning c.args.solver.now) (gather (from_last s.places c.args.self.now.base c.args.self.now.prices.now) k)) e
