use Rattle.std.proofs.Common.{ℕ, map, sym, refl, ap, ◌∙◌, arith}
use Rattle.std.proofs.lemmas.Result.{err_from_is_err_and}
use Rattle.solver.specs.Setting.{clauses_named}
use Rattle.solver.specs.Calls.{clause_answer}
use Rattle.solver.specs.Checks.{clause_check}
use Rattle.store.specs.Coding.{encode}
use Rattle.store.specs.Long.{units_sound}
use Rattle.store.specs.Parts.{clauses_of, is_taken, part}
use Rattle.store.proofs.Encoded.{wrote, one_more, more_sound, named_more, part_kept}
use Rattle.store.proofs.Answering.{passed, same_solving}
use Rattle.deciding.proofs.KindSolver.clause.Goals as goal

pub returns-in_err-check_clause : goal.returns-in_err-check_clause
unfolding clause_answer
returns-in_err-check_clause g c =
    let s = c.args.self.now in
    let u = units_sound s.store.cells.now s.store.used s.stored.sound (omega arith) in
    let p = err_from_is_err_and c.from_residual.result c.from_residual.ensures.1 in
    rw (p.1, p.2)
    (record {
      answer = c.in_err-check_clause.ensures ∙ ap (λ (n : ℕ). clause_check s.choices s.room n c.args.marks.now) (sym u);
      after = refl;
    })

pub invariant_of-self : goal.invariant_of-self
invariant_of-self g c =
    let s = c.args.self.now in
    let ms = c.args.marks.now in
    let p = passed s.choices s.room s.store.used ms c.in_ok-check_clause.ensures in
    let w = wrote s.store.cells.now c.put.new.self.cells.now ms s.store.used c.put.new.self.used (omega arith) c.put.ensures.used c.put.ensures.cells in
    let e = one_more s.store.cells.now c.put.new.self.cells.now ms s.store.used c.put.new.self.used s.stored.sound w in
    record {
      stored = record {
        some_choice = s.stored.some_choice;
        few_choices = s.stored.few_choices;
        low = omega (arith, c.put.ensures.used, p.fits);
        high = omega (arith, c.put.ensures.long, s.stored.high);
        sound = more_sound s.store.cells.now c.put.new.self.cells.now ms s.store.used c.put.new.self.used s.stored.sound w;
        named = ap (clauses_named s.choices) e ∙ named_more s.choices (clauses_of s.store.cells.now s.store.used) ms s.stored.named p.names;
      };
    }

pub returns : goal.returns
unfolding clause_answer
returns g c =
    let s = c.args.self.now in
    let ms = c.args.marks.now in
    let u = units_sound s.store.cells.now s.store.used s.stored.sound (omega arith) in
    let p = passed s.choices s.room s.store.used ms c.in_ok-check_clause.ensures in
    let w = wrote s.store.cells.now c.put.new.self.cells.now ms s.store.used c.put.new.self.used (omega arith) c.put.ensures.used c.put.ensures.cells in
    let e = one_more s.store.cells.now c.put.new.self.cells.now ms s.store.used c.put.new.self.used s.stored.sound w in
    let h = ap (λ x. part x s.room s.choices) c.put.ensures.cells ∙ part_kept s.store.cells.now (encode ms) s.store.used s.room s.choices (omega arith) (omega (arith, p.fits)) in
    record {
      answer = c.in_ok-check_clause.ensures ∙ ap (λ (n : ℕ). clause_check s.choices s.room n ms) (sym u);
      after = same_solving s.choices s.room e (ap (map is_taken) h);
    }
