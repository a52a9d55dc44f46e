-- Clauses whose highest choice has a value are met or broken.
use Rattle.std.proofs.Common.{◌≡◌, ℕ, zero, suc, ◌+◌, ◌<◌, ◌≤◌, max, Bool, true, false, Some, ◌⊎◌, List, [], ◌∷◌, length, get_or, ℤ, pos, negsuc, sym, refl, ap, ◌∙◌, inl, inr, arith}
use Rattle.std.specs.List.{between}
use Rattle.std.proofs.lemmas.List.{nil_from_length}
use Rattle.std.proofs.lemmas.Slice.{first_rest}
use Rattle.std.proofs.lemmas.Bool.{and_parts, and_from, cases_lt}
use Rattle.design.specs.Mark.{named, all_are_named, bit_of}
use Rattle.design.proofs.OfMarks.{bit_below}
use Rattle.solver.specs.Setting.{meets_all, clauses_named}
use Rattle.values.specs.declared.State.TheVariants.{Met, Broken}
use Rattle.values.specs.Partial.{said, truth_in, with_open, by_truth, state_from, Agrees, is_open}
use Rattle.sweeping.specs.Trail.{Meets}
use Rattle.sweeping.specs.Sweeps.{MeetsOne, Everywhere}
use Rattle.sweeping.proofs.Visiting.{state_met}
use Rattle.stepping.specs.Steps.{highest, Fixed, NoneBroken, MetBelow}

pub highest_none : (ms : List ℤ) → length ms ≡ 0 → 0 ≡ highest ms
unfolding highest
highest_none ms h = sym (ap highest (nil_from_length ms h))

pub highest_first : (ms : List ℤ) → 0 < length ms → highest ms ≡ max (suc (bit_of (get_or ms 0 (pos 0)))) (highest (between 1 (length ms) ms))
unfolding highest
highest_first ms h = ap highest (first_rest ms (pos 0) h)

has_value : (m z : ℤ) → is_open z ≡ 0 → (said m z ≡ Some true) ⊎ (said m z ≡ Some false)
has_value m (pos zero) h = absurd (omega arith)
has_value (pos c) (pos (suc n)) h = inl refl
has_value (pos c) (negsuc n) h = inr refl
has_value (negsuc k) (pos (suc n)) h = inr refl
has_value (negsuc k) (negsuc n) h = inl refl

pub decided : (n : ℕ) (v c : List ℤ) → Fixed n v → highest c ≤ n → (state_from v Broken c ≡ Met) ⊎ (state_from v Broken c ≡ Broken)
unfolding highest state_from
decided n v [] f h = inr refl
decided n v (m ∷ ms) f h = by (has_value m (get_or v (bit_of m) (pos 0)) (f (bit_of m) (omega arith))) (decided n v ms f (omega arith))
  where
    by : (truth_in v m ≡ Some true) ⊎ (truth_in v m ≡ Some false) → (state_from v Broken ms ≡ Met) ⊎ (state_from v Broken ms ≡ Broken) → (state_from v Broken (m ∷ ms) ≡ Met) ⊎ (state_from v Broken (m ∷ ms) ≡ Broken)
    by (inl e) r = inl (ap (λ t. by_truth t (state_from v Broken ms) (state_from v (with_open Broken m) ms)) e)
    by (inr e) (inl r) = inl (ap (λ t. by_truth t (state_from v Broken ms) (state_from v (with_open Broken m) ms)) e ∙ r)
    by (inr e) (inr r) = inr (ap (λ t. by_truth t (state_from v Broken ms) (state_from v (with_open Broken m) ms)) e ∙ r)

highest_named : (n : ℕ) (c : List ℤ) → all_are_named n c ≡ true → highest c ≤ n
unfolding highest all_are_named
highest_named n [] w = omega arith
highest_named n (m ∷ ms) w = let p = and_parts (named n m) (all_are_named n ms) w in omega (arith, bit_below n m p.0, highest_named n ms p.1)

-- one choice more
pub met_more : (n k : ℕ) (v : List ℤ) (cs : List (List ℤ)) → Fixed n v → clauses_named k cs ≡ true → NoneBroken n v cs → MetBelow n v cs → MetBelow (n + 1) v cs
unfolding clauses_named
met_more n k v [] f w b m = tt
met_more n k v (c ∷ cs) f w b m =
    let p = and_parts (all_are_named k c) (clauses_named k cs) w in
    (λ h. by h (cases_lt (highest c) n), met_more n k v cs f p.1 b.1 m.1)
  where
    state : highest c ≡ n → (state_from v Broken c ≡ Met) ⊎ (state_from v Broken c ≡ Broken) → Everywhere (MeetsOne c) v
    state e (inl s) = state_met k v c (and_parts (all_are_named k c) (clauses_named k cs) w).0 (sym s)
    state e (inr s) = absurd (b.0 e s)

    by : highest c < n + 1 → (highest c < n) ⊎ (n ≤ highest c) → Everywhere (MeetsOne c) v
    by h (inl l) = m.0 l
    by h (inr l) = let e : highest c ≡ n = omega arith in state e (decided n v c f (omega arith))

-- after the last choice
pub met_all : (n : ℕ) (v : List ℤ) (cs : List (List ℤ)) → clauses_named n cs ≡ true → MetBelow (n + 1) v cs → Everywhere (Meets cs) v
unfolding clauses_named meets_all
met_all n v [] w m b a = refl
met_all n v (c ∷ cs) w m b a =
    let p = and_parts (all_are_named n c) (clauses_named n cs) w in
    let l : highest c < n + 1 = omega (arith, highest_named n c p.0) in
    and_from _ _ (m.0 l b a) (met_all n v cs p.1 m.1 b a)

-- more values
pub met_still : (n : ℕ) (v v' : List ℤ) (cs : List (List ℤ)) → ((b : List Bool) → Agrees v' b → Agrees v b) → MetBelow n v cs → MetBelow n v' cs
met_still n v v' [] f m = tt
met_still n v v' (c ∷ cs) f m = (λ h b a. m.0 h b (f b a), met_still n v v' cs f m.1)

-- before the first choice
pub met_none : (v : List ℤ) (cs : List (List ℤ)) → MetBelow 0 v cs
met_none v [] = tt
met_none v (c ∷ cs) = (λ h. absurd (omega arith), met_none v cs)
