-- What a judge's table says of its rules and prices.
use Rattle.std.proofs.Common.{◌≡◌, ℕ, zero, suc, ◌≤◌, true, not, ◌&&◌, leb, List, [], ◌∷◌, length, ℤ, refl, arith}
use Rattle.std.proofs.lemmas.Bool.{and_parts, and_from}
use Rattle.design.specs.Mark.{named, all_are_named}
use Rattle.design.specs.Cost.{priced}
use Rattle.design.specs.Plan.{rules_kept, prices_kept}
use Rattle.design.specs.declared.price.Price.{Price}
use Rattle.solver.specs.Setting.{clauses_named}
use Rattle.totalizer.specs.Heap.{MarksNamed}
use Rattle.totalizer.proofs.Marks.{choice_low, choice_high, named_from}

pub rules_named : (n : ℕ) (rs : List (List ℤ)) → rules_kept n rs ≡ true → clauses_named n rs ≡ true
unfolding rules_kept clauses_named
rules_named n [] e = refl
rules_named n (r ∷ rs) e =
    let p = and_parts (leb (length r) 8 && all_are_named n r) (rules_kept n rs) e in
    and_from (all_are_named n r) (clauses_named n rs) (and_parts (leb (length r) 8) (all_are_named n r) p.0).1 (rules_named n rs p.1)

pub marks_named : (n : ℕ) (ps : List Price) → prices_kept n ps ≡ true → MarksNamed n ps
unfolding prices_kept
marks_named n [] e j h = absurd (omega arith)
marks_named n (p ∷ ps) e zero h =
    (and_parts (named n p.mark) (not (priced ps p.mark)) (and_parts (named n p.mark && not (priced ps p.mark)) (prices_kept n ps) e).0).0
marks_named n (p ∷ ps) e (suc j) h =
    marks_named n ps (and_parts (named n p.mark && not (priced ps p.mark)) (prices_kept n ps) e).1 j (omega arith)

-- marks of n choices are marks of more
pub marks_more : (n m : ℕ) (c : List ℤ) → n ≤ m → all_are_named n c ≡ true → all_are_named m c ≡ true
unfolding all_are_named
marks_more n m [] h e = refl
marks_more n m (k ∷ c) h e =
    let p = and_parts (named n k) (all_are_named n c) e in
    let x = choice_low n k p.0 in
    let y = choice_high n k p.0 in
    and_from (named m k) (all_are_named m c) (named_from m k x (omega arith)) (marks_more n m c h p.1)

pub clauses_more : (n m : ℕ) (cs : List (List ℤ)) → n ≤ m → clauses_named n cs ≡ true → clauses_named m cs ≡ true
unfolding clauses_named
clauses_more n m [] h e = refl
clauses_more n m (c ∷ cs) h e =
    let p = and_parts (all_are_named n c) (clauses_named n cs) e in
    and_from (all_are_named m c) (clauses_named m cs) (marks_more n m c h p.0) (clauses_more n m cs h p.1)
