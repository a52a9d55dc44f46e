-- A rule or a price more: what a check let pass keeps the table as it has to be.
use Rattle.std.proofs.Common.{◌≡◌, ℕ, ◌+◌, ◌≤◌, true, List, [], ◌∷◌, ◌++◌, length, ℤ, Ok, Result, sym, refl, ap, ◌∙◌, arith}
use Rattle.std.proofs.lemmas.Bool.{le-leb}
use Rattle.std.proofs.lemmas.Bool.Decides.{nat_tests}
use Rattle.design.specs.declared.price.Price.{Price}
use Rattle.design.specs.declared.fault.JudgeFault.{JudgeFault}
use Rattle.design.specs.Mark.{all_are_named}
use Rattle.design.specs.Rule.{rule_units, units_used}
use Rattle.design.specs.Plan.{rules_kept}
use Rattle.design.specs.Fault.{refused_or}
use Rattle.design.proofs.Truth.{both, left_of, right_of}
use Rattle.judge.specs.Calls.{rule_fault, price_fault}
use Rattle.judge.specs.declared.sizes.Sizes.{Sizes}
use Rattle.propagation.specs.declared.rule.Rule.{Rule}
use Rattle.propagation.specs.Held.{marks_of, rules_of}
use Rattle.propagation.proofs.Making.{rules_next}

-- what a rule that is not refused fulfils
pub record RulePassed (n used room : ℕ) (r : List ℤ) : Type 0 where
  pub short : length r ≤ 8
  pub names : all_are_named n r ≡ true
  pub fits : used + rule_units r ≤ room

pub rule_passed : (n used room : ℕ) (r : List ℤ) → ◌≡◌ {A = Result (Unit {0}) JudgeFault} (Ok tt) (refused_or (rule_fault n used room r) tt) → RulePassed n used room r
rule_passed n used room r e = record { short = grind (arith, nat_tests); names = grind (arith, nat_tests); fits = grind (arith, nat_tests) }

rules_more : (n : ℕ) (rs : List (List ℤ)) (r : List ℤ) → rules_kept n rs ≡ true → length r ≤ 8 → all_are_named n r ≡ true → rules_kept n (rs ++ r ∷ []) ≡ true
unfolding rules_kept
rules_more n [] r k s a = both _ _ (both _ _ (le-leb (length r) 8 s) a) refl
rules_more n (q ∷ rs) r k s a = both _ _ (left_of _ _ k) (rules_more n rs r (right_of _ _ k) s a)

pub kept_rule : (n : ℕ) (rs qs : List Rule) (x : Rule) (r : List ℤ) → qs ≡ rs ++ x ∷ [] → marks_of x ≡ r → rules_kept n (rules_of rs) ≡ true → length r ≤ 8 → all_are_named n r ≡ true → rules_kept n (rules_of qs) ≡ true
kept_rule n rs qs x r e f k s a = ap (rules_kept n) (rules_next rs qs x r e f) ∙ rules_more n (rules_of rs) r k s a

units_more : (rs : List (List ℤ)) (r : List ℤ) → units_used (rs ++ r ∷ []) ≡ units_used rs + rule_units r
unfolding units_used
units_more [] r = omega arith
units_more (q ∷ rs) r = let e = units_more rs r in omega arith

pub units_next : (rs qs : List Rule) (x : Rule) (r : List ℤ) → qs ≡ rs ++ x ∷ [] → marks_of x ≡ r → units_used (rules_of qs) ≡ units_used (rules_of rs) + rule_units r
units_next rs qs x r e f = ap units_used (rules_next rs qs x r e f) ∙ units_more (rules_of rs) r

-- each rule takes at least one unit
pub units_long : (rs : List Rule) → length rs ≤ units_used (rules_of rs)
unfolding units_used rules_of
units_long [] = omega arith
units_long (r ∷ rs) = let h = units_long rs in omega arith

-- nothing entered yet
pub no_units : (rs : List Rule) → rs ≡ [] → 0 ≡ units_used (rules_of rs)
unfolding units_used rules_of
no_units rs e = sym (ap (λ (x : List Rule). units_used (rules_of x)) e)

pub no_rules : (n : ℕ) (rs : List Rule) → rs ≡ [] → rules_kept n (rules_of rs) ≡ true
unfolding rules_kept rules_of
no_rules n rs e = ap (λ (x : List Rule). rules_kept n (rules_of x)) e

pub no_rules_of : (rs : List Rule) → rs ≡ [] → rules_of rs ≡ []
unfolding rules_of
no_rules_of rs e = ap rules_of e

-- the answer to a price, by sizes and a mark that are the same
pub sized : {y z : Sizes} {k m : ℤ} → y ≡ z → k ≡ m → (top : ℕ) (ps : List Price) (p : ℕ)
    → ◌≡◌ {A = Result (Unit {0}) JudgeFault} (refused_or (price_fault y.choices y.price_room top ps k p) tt) (refused_or (price_fault z.choices z.price_room top ps m p) tt)
sized {y} {z} {k} {m} e f top ps p =
    ap (λ (x : ℤ). refused_or (price_fault y.choices y.price_room top ps x p) tt) f
    ∙ ap (λ (x : Sizes). refused_or (price_fault x.choices x.price_room top ps m p) tt) e
