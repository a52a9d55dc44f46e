-- What the calls that every kind shares answer.
use Rattle.std.proofs.Common.{◌≡◌, ℕ, zero, suc, ◌+◌, ◌-◌, ◌<◌, ◌≤◌, Bool, true, false, ltb, leb, List, ◌∷◌, ◌++◌, map, length, get_or, take, drop, replicate, ℤ, pos, negsuc, Ok, Result, sym, refl, ap, ◌∙◌, arith}
use lib.Signed.{lt_z}
use lib.ListN.{get_or-map}
use Rattle.std.proofs.lemmas.Bool.{lt-ltb, le-leb}
use Rattle.std.proofs.lemmas.Bool.Decides.{nat_tests}
use Rattle.std.proofs.lemmas.List.{get_or-take, get_or-drop, length-replicate}
use Rattle.design.specs.Mark.{all_are_named}
use Rattle.design.specs.Rule.{rule_units}
use Rattle.design.specs.declared.fault.SolverFault.{SolverFault}
use Rattle.solver.specs.State.{Solving}
use Rattle.solver.specs.Calls.{taken_answer}
use Rattle.solver.specs.Checks.{clause_check}
use Rattle.store.specs.Parts.{is_taken, part, held_of}
use Rattle.store.proofs.Over.{part_here}

-- what a clause that is not refused fulfils
pub record Passed (m k used : ℕ) (c : List ℤ) : Type 0 where
  pub short : length c ≤ 8
  pub names : all_are_named m c ≡ true
  pub fits : used + rule_units c ≤ k

pub passed : (m k used : ℕ) (c : List ℤ) → ◌≡◌ {A = Result (Unit {0}) SolverFault} (Ok tt) (clause_check m k used c) → Passed m k used c
passed m k used c e = record { short = grind (arith, nat_tests); names = grind (arith, nat_tests); fits = grind (arith, nat_tests) }

taken_is : (z : ℤ) → lt_z (pos 0) z ≡ is_taken z
taken_is (pos zero) = refl
taken_is (pos (suc n)) = lt-ltb 0 (suc n) (omega arith)
taken_is (negsuc n) = refl

pub held_at : (s : List ℤ) (m k n : ℕ) → 0 < n → n ≤ m → lt_z (pos 0) (get_or s (k + n - 1) (pos 0)) ≡ get_or (held_of s m k) (n - 1) false
unfolding part
held_at s m k n p h =
    let i : k + n - 1 ≡ k + (n - 1) = omega arith in
    taken_is (get_or s (k + n - 1) (pos 0))
    ∙ (ap (λ j. is_taken (get_or s j (pos 0))) i
    ∙ (ap is_taken (sym (get_or-take m (drop k s) (n - 1) (pos 0) (omega arith) ∙ get_or-drop k s (n - 1) (pos 0)))
    ∙ sym (get_or-map is_taken (take m (drop k s)) (n - 1) (pos 0))))

pub told : (s : Solving) (n : ℕ) (b : Bool) → 0 < n → n ≤ s.choices → b ≡ get_or s.held (n - 1) false → Ok b ≡ taken_answer s n
told s n b p h e =
    let x : ltb 0 n ≡ true = lt-ltb _ _ p in
    let y : leb n s.choices ≡ true = le-leb _ _ h in
    simp (x, y, e)

map_zero : (m : ℕ) → map is_taken (replicate m (pos 0)) ≡ replicate m false
map_zero zero = refl
map_zero (suc m) = ap (λ x. false ∷ x) (map_zero m)

pub held_zero : (s h rest : List ℤ) (m k : ℕ) → k ≤ length s → h ≡ replicate m (pos 0) → held_of (take k s ++ (h ++ rest)) m k ≡ replicate m false
held_zero s h rest m k l e =
    ap (map is_taken) (part_here s h rest k m l (ap length e ∙ length-replicate m (pos 0)) ∙ e) ∙ map_zero m

pub same_solving : (m k : ℕ) {cs ds : List (List ℤ)} {h g : List Bool} → cs ≡ ds → h ≡ g
    → ◌≡◌ {A = Solving} record { choices = m; room = k; clauses = cs; held = h } record { choices = m; room = k; clauses = ds; held = g }
same_solving m k e f = cc
