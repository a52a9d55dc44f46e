use Rattle.std.proofs.Common.{◌≡◌, ℕ, ◌+◌, ◌^◌, ◌<◌, subst, arith}
use Rattle.totalizer.specs.Encoding.{Agree}
use Rattle.solver.specs.Calls.{taken_answer}
use Rattle.finder.proofs.Reading.{told_is, read_none, read_taken, read_left}
use Rattle.finder.proofs.held.held_word.Goals as goal
use Rattle.finder.proofs.held.held_word.Goals.{then-unwrap, else-unwrap}

pub loop-index-init : goal.loop-index-init
loop-index-init g c = (omega arith, read_none _)

pub loop-index-preserved : goal.loop-index-preserved
loop-index-preserved g c =
    let v = g.S.Solver.meaning c.args.solver.now in
    let i = c.loop-index.index in
    let e = subst (λ (k : ℕ). c.taken.result ≡ taken_answer v (k + 1)) c.from.ensures c.taken.ensures in
    elim c.if-unwrap.branch [
      | then-unwrap w ↦ read_taken c.loop-index.word c.if-unwrap.word i v.held (omega arith) c.loop-index.invariant.0 c.loop-index.invariant.1
          (told_is v (i + 1) c.taken.result c.unwrap.result _ (omega arith) (omega arith) e c.unwrap.ensures w.if-unwrap.true) w.word-is
      | else-unwrap w ↦ read_left c.loop-index.word c.if-unwrap.word i v.held c.loop-index.invariant.0 c.loop-index.invariant.1
          (told_is v (i + 1) c.taken.result c.unwrap.result _ (omega arith) (omega arith) e c.unwrap.ensures w.if-unwrap.false) w.word-is
    ]

pub returns : goal.returns
returns g c =
    let v = g.S.Solver.meaning c.args.solver.now in
    let e : c.loop-index.index ≡ c.args.choices = omega arith in
    record {
      fits = subst (λ (k : ℕ). c.loop-index.word < 2 ^ k) e c.loop-index.invariant.0;
      same = subst (λ (k : ℕ). Agree k c.loop-index.word v.held) e c.loop-index.invariant.1;
    }
