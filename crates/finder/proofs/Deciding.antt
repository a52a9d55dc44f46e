-- What a solver's answer under the bounds' assumptions says of the design.
use Rattle.std.proofs.Common.{◌≡◌, ℕ, Bool, true, false, List, [], ◌++◌, ℤ, is_ok, Ok, Err, Result, sym, refl, ap, ◌∙◌, subst, ap₂}
use Rattle.std.proofs.lemmas.Bool.{both_ways}
use Rattle.scales.proofs.ByPlaces.{PlaceLaws}
use Rattle.design.specs.Plan.{Scales, Meaning}
use Rattle.design.specs.declared.price.Price.{Price}
use Rattle.design.specs.declared.fault.SolverFault.{SolverFault}
use Rattle.solver.specs.State.{Solving, holding}
use Rattle.solver.specs.Calls.{Decided}
use Rattle.totalizer.specs.Clauses.{assumed}
use Rattle.totalizer.specs.Encoding.{Design, Written, past_a, bounds}
use Rattle.totalizer.proofs.Fits.{bounds_named}
use Rattle.totalizer.proofs.Directions.{plans_extend, settings_are_plans}
use Rattle.finder.specs.Finding.{Found}

-- the marks that were written are those that the bounds assume
pub bounds_are : (s : Scales) (m : Meaning) (x y n n' : ℕ) (ps qs : List Price) → n ≡ m.choices → ps ≡ m.prices_a → n' ≡ past_a s m → qs ≡ m.prices_b
    → (ws ys zs : List ℤ) → ws ≡ [] → ys ≡ ws ++ assumed s.a.top n ps x → zs ≡ ys ++ assumed s.b.top n' qs y → zs ≡ bounds s m x y
bounds_are s m x y n n' ps qs e f e' f' ws ys zs o p q =
    q ∙ ap₂ (λ (k l : List ℤ). k ++ l)
    (p ∙ ap₂ (λ (k l : List ℤ). k ++ l) o (ap₂ (λ (k : ℕ) (l : List Price). assumed s.a.top k l x) e f))
    (ap₂ (λ (k : ℕ) (l : List Price). assumed s.b.top k l y) e' f')

module _ {S : Type 0} (meaning : S → Solving) (s : Scales) (la : PlaceLaws s.a) (lb : PlaceLaws s.b) (m : Meaning) (o : Design s m) (t₀ t₁ : S) (w : Written s m (meaning t₀)) (x y : ℕ) where
  answered : (r : Result Bool SolverFault) → Decided meaning t₀ (bounds s m x y) r t₁ → is_ok r ≡ true
  answered (Ok b) d = refl
  answered (Err f) d = absurd (both_ways _ d.0 (bounds_named s m o (meaning t₀).choices x y w.choices))

  pub is_answered : (xs : List ℤ) (r : Result Bool SolverFault) → xs ≡ bounds s m x y → Decided meaning t₀ xs r t₁ → is_ok r ≡ true
  is_answered xs r e d = answered r (subst (λ (l : List ℤ). Decided meaning t₀ l r t₁) e d)

  told : (b : Bool) → Decided meaning t₀ (bounds s m x y) (Ok b) t₁ → Found s m x y b (meaning t₁)
  told true d = λ n h a. settings_are_plans s la lb m o (meaning t₀) w x y n (meaning t₁).held h a d.1
  told false d = λ n p. let b = plans_extend s la lb m o (meaning t₀) w x y n p in d.1 b.0 b.2

  still : (b : Bool) → Decided meaning t₀ (bounds s m x y) (Ok b) t₁ → meaning t₁ ≡ holding (meaning t₀) (meaning t₁).held
  still true d = d.2
  still false d = d.2 ∙ ap (λ (l : List Bool). holding (meaning t₀) l) (sym (ap (λ (v : Solving). v.held) d.2))

  pub found : (xs : List ℤ) (r : Result Bool SolverFault) (b : Bool) → xs ≡ bounds s m x y → r ≡ Ok b → Decided meaning t₀ xs r t₁ → Found s m x y b (meaning t₁)
  found xs r b e f d = told b (subst (λ (z : Result Bool SolverFault). Decided meaning t₀ (bounds s m x y) z t₁) f (subst (λ (l : List ℤ). Decided meaning t₀ l r t₁) e d))

  pub stays : (xs : List ℤ) (r : Result Bool SolverFault) (b : Bool) → xs ≡ bounds s m x y → r ≡ Ok b → Decided meaning t₀ xs r t₁ → meaning t₁ ≡ holding (meaning t₀) (meaning t₁).held
  stays xs r b e f d = still b (subst (λ (z : Result Bool SolverFault). Decided meaning t₀ (bounds s m x y) z t₁) f (subst (λ (l : List ℤ). Decided meaning t₀ l r t₁) e d))
