use Rattle.std.proofs.Common.{◌≡◌, ℕ, suc, ap, ◌∙◌, arith}
use Rattle.solver.specs.State.{with_clauses}
use Rattle.totalizer.specs.Clauses.{row, pair, gather}
use Rattle.writer.proofs.Parts.{takes_part, wrote_more, wrote_start}
use Rattle.writer.proofs.heap.Heap.write_row.Goals as goal

pub loop-right-init : goal.loop-right-init
loop-right-init g c = wrote_start _ _

pub write_pair-requires : goal.write_pair-requires
unfolding row
write_pair-requires g c =
    let s = g.C.Scale in
    record {
      inner = c.requires.inner;
      places = (c.requires.places, omega arith);
      takes = takes_part (g.S.Solver.meaning c.args.solver.now) (g.S.Solver.meaning c.loop-right.solver)
          (pair s.places c.args.self.now.base c.args.self.now.prices.now c.args.node c.args.left) (suc s.places.top) c.loop-right.right
          c.requires.takes c.loop-right.invariant (omega arith);
    }

pub loop-right-preserved : goal.loop-right-preserved
loop-right-preserved g c =
    let s = g.C.Scale in
    wrote_more (g.S.Solver.meaning c.args.solver.now) (g.S.Solver.meaning c.loop-right.solver) (g.S.Solver.meaning c.write_pair.new.solver)
    (pair s.places c.args.self.now.base c.args.self.now.prices.now c.args.node c.args.left) c.loop-right.right
    c.loop-right.invariant c.write_pair.ensures

pub returns : goal.returns
unfolding row
returns g c =
    let s = g.C.Scale in
    let e : c.loop-right.right ≡ suc s.places.top = omega arith in
    c.loop-right.invariant
    ∙ ap (λ (k : ℕ). with_clauses (g.S.Solver.meaning c.args.solver.now) (gather (pair s.places c.args.self.now.base c.args.self.now.prices.now c.args.node c.args.left) k)) e
