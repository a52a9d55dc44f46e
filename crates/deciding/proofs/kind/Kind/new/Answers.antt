use Rattle.std.proofs.Common.{◌≡◌, ◌+◌, ◌-◌, length, take, drop, replicate, pos, ap, ◌∙◌, arith, rules}
use Rattle.store.proofs.Encoded.{no_clauses}
use Rattle.store.proofs.Answering.{held_zero, same_solving}
use Rattle.deciding.proofs.Conclusions.{stored_none}
use Rattle.deciding.proofs.kind.Kind.new.Goals as goal

pub invariant_of-result : goal.invariant_of-result
invariant_of-result g c = record { stored = stored_none _ c.args.sizes.choices c.args.sizes.room c.args.sizes.some c.args.sizes.few (search rules) }

pub returns : goal.returns
returns g c =
    let s = c.args.sizes in
    let n : length (take (s.room + s.choices - s.room) (drop s.room c.args.cells.now)) ≡ s.choices = omega arith in
    same_solving s.choices s.room (no_clauses _)
    (held_zero c.args.cells.now c.fill.new.self _ s.choices s.room (omega arith) (c.fill.ensures.after (λ y e. e) ∙ ap (λ k. replicate k (pos 0)) n))
