use Rattle.std.proofs.Common.{◌≡◌, ℕ, suc, ap, ◌∙◌, arith}
use Rattle.solver.specs.State.{with_clauses}
use Rattle.totalizer.specs.Clauses.{row, grid, gather}
use Rattle.writer.proofs.Parts.{takes_part, wrote_more, wrote_start}
use Rattle.writer.proofs.heap.Heap.write_node.Goals as goal

pub loop-left-init : goal.loop-left-init
loop-left-init g c = wrote_start _ _

pub write_row-requires : goal.write_row-requires
unfolding grid
write_row-requires g c =
    let s = g.C.Scale in
    record {
      inner = c.requires.inner;
      places = omega arith;
      takes = takes_part (g.S.Solver.meaning c.args.solver.now) (g.S.Solver.meaning c.loop-left.solver)
          (row s.places c.args.self.now.base c.args.self.now.prices.now c.args.node) (suc s.places.top) c.loop-left.left
          c.requires.takes c.loop-left.invariant (omega arith);
    }

pub loop-left-preserved : goal.loop-left-preserved
loop-left-preserved g c =
    let s = g.C.Scale in
    wrote_more (g.S.Solver.meaning c.args.solver.now) (g.S.Solver.meaning c.loop-left.solver) (g.S.Solver.meaning c.write_row.new.solver)
    (row s.places c.args.self.now.base c.args.self.now.prices.now c.args.node) c.loop-left.left
    c.loop-left.invariant c.write_row.ensures

pub returns : goal.returns
unfolding grid
returns g c =
    let s = g.C.Scale in
    let e : c.loop-left.left ≡ suc s.places.top = omega arith in
    c.loop-left.invariant
    ∙ ap (λ (k : ℕ). with_clauses (g.S.Solver.meaning c.args.solver.now) (gather (row s.places c.args.self.now.base c.args.self.now.prices.now c.args.node) k)) e
