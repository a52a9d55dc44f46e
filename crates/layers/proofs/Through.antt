-- Calls that are handed on to the judge below.
use Rattle.std.proofs.Common.{◌≡◌, ℕ, ℤ, Ok, Err, Result, ap, ◌∙◌, w8, SFits, to_z, of_z}
use Rattle.std.proofs.lemmas.Int.{to_z-of_z}
use Rattle.design.specs.declared.fault.JudgeFault.{JudgeFault}
use Rattle.design.specs.Plan.{Scales, Meaning}
use Rattle.judge.specs.Calls.{Entered, price_a_answer, price_b_answer}
use Rattle.layers.specs.Meanings.{swapped, swapped_scales}

-- what was entered below was entered into the layer, and what was refused there left the layer whole
pub handed_on : {J K : Type 0} (below : J → Meaning) (above : K → Meaning) (up : Meaning → Meaning) (over : J → K) → ((x : J) → above (over x) ≡ up (below x))
    → (j k : J) (next : Meaning) (r : Result (Unit {0}) JudgeFault) → Entered below j next r k → Entered above (over j) (up next) r (over k)
handed_on below above up over is j k next (Ok u) h = is k ∙ ap up h
handed_on below above up over is j k next (Err f) h = ap over h

-- what is answered below to a price in the other cost, whose mark went through a signed byte
pub answers_a : (s : Scales) (m : Meaning) (k : ℤ) (p : ℕ) (r : Result (Unit {0}) JudgeFault) → SFits w8 k → r ≡ price_b_answer s m (to_z w8 (of_z w8 k)) p → r ≡ price_a_answer (swapped_scales s) (swapped m) k p
unfolding price_a_answer price_b_answer
answers_a s m k p r f e = e ∙ ap (λ (n : ℤ). price_b_answer s m n p) (to_z-of_z w8 k f)

pub answers_b : (s : Scales) (m : Meaning) (k : ℤ) (p : ℕ) (r : Result (Unit {0}) JudgeFault) → SFits w8 k → r ≡ price_a_answer s m (to_z w8 (of_z w8 k)) p → r ≡ price_b_answer (swapped_scales s) (swapped m) k p
unfolding price_a_answer price_b_answer
answers_b s m k p r f e = e ∙ ap (λ (n : ℤ). price_a_answer s m n p) (to_z-of_z w8 k f)
