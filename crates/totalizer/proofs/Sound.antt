-- A setting that meets the clauses has each node's literal true at the node's cost.
use Rattle.std.proofs.Common.{◌≡◌, ℕ, zero, suc, ◌+◌, ◌-◌, ◌*◌, ◌<◌, ◌≤◌, min, Bool, true, false, cond, eqb, ltb, leb, ◌⊎◌, List, [], length, get_or, pos, nat_abs, sym, refl, ap, ◌∙◌, subst, ap₂, inl, inr, arith}
use Rattle.std.proofs.lemmas.Bool.{cases_lt, cases_eq, cond-true, cond-false, le-leb, le-ltb, lt-ltb, ne_eqb}
use Rattle.scales.specs.Laws.{Places}
use Rattle.scales.proofs.ByPlaces.{PlaceLaws}
use Rattle.design.specs.declared.price.Price.{Price}
use Rattle.solver.specs.Setting.{truth, meets_all}
use Rattle.totalizer.specs.declared.Literal.TheVariants.{Always, Never, Mark}
use Rattle.totalizer.specs.Heap.{no_price, Costs, MarksNamed}
use Rattle.totalizer.specs.Clauses.{number, says, literal, pair}
use Rattle.totalizer.proofs.Meets.{Named, Met, met_joins}
use Rattle.totalizer.proofs.Marks.{choice_low}
use Rattle.totalizer.proofs.Folds.{costs_within, nothing_first}

-- the forms of a literal
pub literal_none : (s : Places) (b : ℕ) (ps : List Price) (i : ℕ) → literal s.top b ps i 0 ≡ Always
unfolding literal
literal_none s b ps i = refl

pub literal_inner : (s : Places) (b : ℕ) (ps : List Price) (i w : ℕ) → i < length ps → 1 ≤ w → literal s.top b ps i w ≡ Mark (pos (number b s.top i w))
unfolding literal
literal_inner s b ps i w h k = cond-false (eqb w 0) _ _ (ne_eqb w 0 (λ e. omega arith)) ∙ cond-true (ltb i (length ps)) _ _ (lt-ltb i (length ps) h)

pub literal_price : (s : Places) (b : ℕ) (ps : List Price) (j w : ℕ) → 1 ≤ w
    → literal s.top b ps (length ps + j) w ≡ cond (leb w (get_or ps j no_price).place) (Mark (get_or ps j no_price).mark) Never
unfolding literal
literal_price s b ps j w k =
    cond-false (eqb w 0) _ _ (ne_eqb w 0 (λ e. omega arith))
    ∙ cond-false (ltb (length ps + j) (length ps)) _ _ (le-ltb (length ps + j) (length ps) (omega arith))
    ∙ ap (λ (k : ℕ). cond (leb w (get_or ps k no_price).place) (Mark (get_or ps k no_price).mark) Never) (omega arith)

-- every literal of a node names a nat_abs
pub literal_named : (s : Places) (n b : ℕ) (ps : List Price) → MarksNamed n ps → (i w : ℕ) → i < 2 * length ps → Named (literal s.top b ps i w)
literal_named s n b ps marked i w h = by (cases_eq w 0) (cases_lt i (length ps))
  where
    at_price : (t : Bool) → 1 ≤ nat_abs (get_or ps (i - length ps) no_price).mark → Named (cond t (Mark (get_or ps (i - length ps) no_price).mark) Never)
    at_price true k = k
    at_price false k = tt

    by : (w ≡ 0) ⊎ (w ≡ 0 → ⊥) → (i < length ps) ⊎ (length ps ≤ i) → Named (literal s.top b ps i w)
    by (inl e) c = subst Named (sym (ap (literal s.top b ps i) e ∙ literal_none s b ps i)) tt
    by (inr e) (inl k) =
        let p : 1 ≤ w = omega arith in
        let q : 1 ≤ number b s.top i w = omega arith in
        subst Named (sym (literal_inner s b ps i w k p)) q
    by (inr e) (inr k) =
        let p : 1 ≤ w = omega arith in
        let j : length ps + (i - length ps) ≡ i = omega arith in
        subst Named (sym (ap (λ (x : ℕ). literal s.top b ps x w) (sym j) ∙ literal_price s b ps (i - length ps) w p)) (at_price _ (choice_low n (get_or ps (i - length ps) no_price).mark (marked (i - length ps) (omega arith))))

module _ (s : Places) (l : PlaceLaws s) (n b : ℕ) (ps : List Price) (marked : MarksNamed n ps) (f : ℕ → Bool) (v : ℕ → ℕ) (h : Costs s (truth f) ps v) where
  price_holds : (j : ℕ) → j < length ps → says f (literal s.top b ps (length ps + j) (v (length ps + j))) ≡ true
  price_holds j k = ap (λ (w : ℕ). says f (literal s.top b ps (length ps + j) w)) (h.leaves j k) ∙ by (truth f p.mark) refl
    where
      p : Price
      p = get_or ps j no_price

      high : ℕ
      high = min p.place s.top

      full : truth f p.mark ≡ true → (high ≡ 0) ⊎ (high ≡ 0 → ⊥) → says f (literal s.top b ps (length ps + j) high) ≡ true
      full t (inl e) = ap (λ (w : ℕ). says f (literal s.top b ps (length ps + j) w)) e ∙ ap (says f) (literal_none s b ps (length ps + j))
      full t (inr e) =
          ap (says f) (literal_price s b ps j high (omega arith) ∙ cond-true (leb high p.place) _ _ (le-leb high p.place (omega arith))) ∙ t

      by : (t : Bool) → truth f p.mark ≡ t → says f (literal s.top b ps (length ps + j) (cond t high 0)) ≡ true
      by true t = full t (cases_eq high 0)
      by false t = ap (says f) (literal_none s b ps (length ps + j))

  -- if each clause is met, then each node's "at least" holds at the node's cost
  inner_holds : Met f s b ps → (i : ℕ) → 1 ≤ i → i < length ps
      → says f (literal s.top b ps (2 * i) (v (2 * i))) ≡ true → says f (literal s.top b ps (2 * i + 1) (v (2 * i + 1))) ≡ true
      → says f (literal s.top b ps i (v i)) ≡ true
  unfolding pair
  inner_holds met i a k x y = by (cases_eq (v i) 0) (cases_eq (v (2 * i) + v (2 * i + 1)) 0)
    where
      at_left : v (2 * i) ≤ s.top
      at_left = costs_within s l (truth f) ps v h (2 * i) (omega arith) (omega arith)

      at_right : v (2 * i + 1) ≤ s.top
      at_right = costs_within s l (truth f) ps v h (2 * i + 1) (omega arith) (omega arith)

      by : (v i ≡ 0) ⊎ (v i ≡ 0 → ⊥) → (v (2 * i) + v (2 * i + 1) ≡ 0) ⊎ (v (2 * i) + v (2 * i + 1) ≡ 0 → ⊥) → says f (literal s.top b ps i (v i)) ≡ true
      by (inl e) c = ap (λ (w : ℕ). says f (literal s.top b ps i w)) e ∙ ap (says f) (literal_none s b ps i)
      by (inr e) (inl z) =
          let e₁ : v (2 * i) ≡ 0 = omega arith in
          let e₂ : v (2 * i + 1) ≡ 0 = omega arith in
          absurd (e (h.joins i a k ∙ ap₂ s.join e₁ e₂ ∙ nothing_first s l 0 (omega arith)))
      by (inr e) (inr z) =
          let m = met i (v (2 * i)) (v (2 * i + 1)) a k at_left at_right in
          let c = sym (cond-false (eqb (v (2 * i) + v (2 * i + 1)) 0) [] _ (ne_eqb _ 0 z)) in
          let t = met_joins f (literal s.top b ps (2 * i) (v (2 * i))) (literal s.top b ps (2 * i + 1) (v (2 * i + 1))) (number b s.top i (s.join (v (2 * i)) (v (2 * i + 1))))
          (ap (meets_all f) c ∙ m) (literal_named s n b ps marked (2 * i) (v (2 * i)) (omega arith)) (literal_named s n b ps marked (2 * i + 1) (v (2 * i + 1)) (omega arith)) x y in
          ap (says f) (literal_inner s b ps i (v i) k (omega arith)) ∙ ap (λ (w : ℕ). f (number b s.top i w)) (h.joins i a k) ∙ t

  node_holds : Met f s b ps → (d i : ℕ) → 1 ≤ i → i < 2 * length ps → length ps ≤ i + d → says f (literal s.top b ps i (v i)) ≡ true
  node_holds met zero i a k o =
      subst (λ (x : ℕ). says f (literal s.top b ps x (v x)) ≡ true) (omega arith) (price_holds (i - length ps) (omega arith))
  node_holds met (suc d) i a k o =
      by (cases_lt i (length ps))
      (λ c. node_holds met d (2 * i) (omega arith) (omega arith) (omega arith))
      (λ c. node_holds met d (2 * i + 1) (omega arith) (omega arith) (omega arith))
    where
      by : (i < length ps) ⊎ (length ps ≤ i) → (i < length ps → says f (literal s.top b ps (2 * i) (v (2 * i))) ≡ true)
          → (i < length ps → says f (literal s.top b ps (2 * i + 1) (v (2 * i + 1))) ≡ true) → says f (literal s.top b ps i (v i)) ≡ true
      by (inl c) x y = inner_holds met i a c (x c) (y c)
      by (inr c) x y = subst (λ (x : ℕ). says f (literal s.top b ps x (v x)) ≡ true) (omega arith) (price_holds (i - length ps) (omega arith))

  pub root_holds : Met f s b ps → 1 ≤ length ps → says f (literal s.top b ps 1 (v 1)) ≡ true
  root_holds met k = node_holds met (length ps) 1 (omega arith) (omega arith) (omega arith)
