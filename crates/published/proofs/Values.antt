-- Literals, clauses, formulas and objectives have the values that marks, rules and prices give them.
use Rattle.std.proofs.Common.{◌≡◌, ℕ, zero, suc, ◌+◌, ◌-◌, ◌<◌, min, max, Bool, true, false, cond, not, ◌&&◌, ◌||◌, eqb, ltb, leb, List, [], ◌∷◌, map, length, ℤ, pos, negsuc, sym, refl, ap, ◌∙◌, arith}
use Rattle.std.proofs.lemmas.Bool.{false≢true, ltb-true, leb-true, and_parts}
use Rattle.scales.specs.Laws.{Places}
use Rattle.scales.specs.Many.{joined_all}
use Rattle.bits.specs.Bit.{bit}
use Rattle.design.specs.Mark.{named, all_are_named, holds}
use Rattle.design.specs.Rule.{meets, meets_all}
use Rattle.design.specs.Cost.{total_from, total, with_price, cost, priced}
use Rattle.design.specs.Plan.{rules_kept, prices_kept}
use Rattle.design.specs.declared.price.Price.{Price}
use Rattle.published.specs.Literature.{Assignment, literal_value, clause_value, formula_value, counted, objective_value}
use Rattle.published.specs.Reading.{literal_of, formula_of, term_of, objective_of, truth_value}

-- the bits of a word are the values of the variables 1 to n
abbrev pub Gives : ℕ → ℕ → Assignment → Type 0
Gives n w τ = (k : ℕ) → k < n → τ.value (suc k) ≡ truth_value (bit w k)

not_value : (b : Bool) → 1 - truth_value b ≡ truth_value (not b)
not_value true = refl
not_value false = refl

or_value : (x y : Bool) → max (truth_value x) (truth_value y) ≡ truth_value (x || y)
or_value true true = refl
or_value true false = refl
or_value false true = refl
or_value false false = refl

and_value : (x y : Bool) → min (truth_value x) (truth_value y) ≡ truth_value (x && y)
and_value true true = refl
and_value true false = refl
and_value false true = refl
and_value false false = refl

is_true : (b : Bool) → eqb (truth_value b) 1 ≡ b
is_true true = refl
is_true false = refl

joined_if : (f : ℕ → ℕ → ℕ) (c : ℕ) (b : Bool) (x : ℕ) (xs : List ℕ) → joined_all f c (cond b (x ∷ xs) xs) ≡ joined_all f (cond b (f c x) c) xs
unfolding joined_all
joined_if f c true x xs = refl
joined_if f c false x xs = refl

module _ (n w : ℕ) (τ : Assignment) (gives : Gives n w τ) where
  pub literal_holds : (m : ℤ) → named n m ≡ true → literal_value τ (literal_of m) ≡ truth_value (holds w m)
  literal_holds (pos zero) h = absurd (false≢true h)
  literal_holds (pos (suc k)) h =
      let l = leb-true (suc k) n (and_parts (ltb 0 (suc k)) _ h).1 in
      let e : suc k - 1 ≡ k = omega arith in
      gives k (omega arith) ∙ ap (λ (x : ℕ). truth_value (bit w x)) (sym e)
  literal_holds (negsuc k) h =
      let e : k + 1 ≡ suc k = omega arith in
      ap (λ (x : ℕ). 1 - τ.value x) e ∙ ap (λ (x : ℕ). 1 - x) (gives k (ltb-true k n h)) ∙ not_value (bit w k)

  clause_met : (r : List ℤ) → all_are_named n r ≡ true → clause_value τ (map literal_of r) ≡ truth_value (meets w r)
  unfolding all_are_named clause_value meets
  clause_met [] h = refl
  clause_met (m ∷ r) h =
      let p = and_parts (named n m) (all_are_named n r) h in
      let e = literal_holds m p.0 in
      let f = clause_met r p.1 in
      rw (e, f) (or_value (holds w m) (meets w r))

  pub formula_met : (rs : List (List ℤ)) → rules_kept n rs ≡ true → formula_value τ (formula_of rs) ≡ truth_value (meets_all w rs)
  unfolding formula_value meets_all rules_kept
  formula_met [] h = refl
  formula_met (r ∷ rs) h =
      let p = and_parts (leb (length r) 8 && all_are_named n r) (rules_kept n rs) h in
      let e = clause_met r (and_parts (leb (length r) 8) (all_are_named n r) p.0).1 in
      let f = formula_met rs p.1 in
      rw (e, f) (and_value (meets w r) (meets_all w rs))

  joined_from : (s : Places) (c : ℕ) (ps : List Price) → prices_kept n ps ≡ true → joined_all s.join c (counted τ (map term_of ps)) ≡ total_from s (holds w) c ps
  unfolding joined_all counted total_from prices_kept
  joined_from s c [] h = refl
  joined_from s c (p ∷ ps) h =
      let k = and_parts (named n p.mark && not (priced ps p.mark)) (prices_kept n ps) h in
      let e = ap (λ (x : ℕ). eqb x 1) (literal_holds p.mark (and_parts (named n p.mark) (not (priced ps p.mark)) k.0).0) ∙ is_true (holds w p.mark) in
      rw e (joined_if s.join c (holds w p.mark) p.place (counted τ (map term_of ps)) ∙ joined_from s (with_price s (holds w) c p) ps k.1)

  pub objective_cost : (s : Places) (ps : List Price) → prices_kept n ps ≡ true → objective_value τ (objective_of s ps) ≡ cost s ps w
  unfolding total
  objective_cost s ps h = joined_from s 0 ps h
