use Rattle.std.proofs.Common.{◌≡◌, nat_abs, length, ap, ◌∙◌, w16, SFits, rules}
use Rattle.std.proofs.lemmas.Int.{to_z-of_z}
use Rattle.store.proofs.Encoded.{TakenOff, taken_off, no_clauses_in}
use Rattle.store.proofs.clauses.ClausesIterator.next.Goals.{After-unsigned_abs}
use Rattle.store.proofs.clauses.ClausesIterator.next.Goals as goal

count : (c : goal.After-unsigned_abs) → c.unsigned_abs.result ≡ nat_abs c.in_ok-length.length.now
count c =
    let f : SFits w16 c.in_ok-length.length.now = search rules in
    c.unsigned_abs.ensures.value ∙ ap nat_abs (to_z-of_z w16 c.in_ok-length.length.now f)

off : (c : goal.After-unsigned_abs) → TakenOff c.args.self.now.cells.now c.in_ok-length.rest.now c.unsigned_abs.result
off c = taken_off _ c.in_ok-length.length.now _ _ c.args.self.now.sound c.in_ok-length.ensures.cases.0 (count c)

pub split_at-requires : goal.split_at-requires
split_at-requires c = (off c).fits

pub invariant_of-self : goal.invariant_of-self
invariant_of-self c = record { sound = rw c.split_at.ensures.back (off (goal.at.invariant_of-self c).After-unsigned_abs).sound }

pub returns-clause-steps : goal.returns-clause-steps
returns-clause-steps c = rw (c.split_at.ensures.front, c.split_at.ensures.back) (off (goal.at.returns-clause-steps c).After-unsigned_abs).left

pub returns-in_err-length-clause-steps : goal.returns-in_err-length-clause-steps
returns-in_err-length-clause-steps c =
    let e = no_clauses_in c.args.self.now.cells.now c.in_err-length.ensures.cases in
    rw c.from_residual.ensures (e, e)

pub returns-clause-goes : goal.returns-clause-goes
returns-clause-goes c = let e = ap length (returns-clause-steps c) in search rules
