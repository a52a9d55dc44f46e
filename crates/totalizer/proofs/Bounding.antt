-- What the assumptions of one cost say: the cost is at most the bound.
use Rattle.std.proofs.Common.{◌≡◌, ℕ, suc, ◌+◌, ◌-◌, ◌<◌, ◌≤◌, Bool, true, false, cond, not, ◌&&◌, eqb, ltb, leb, ◌⊎◌, List, [], length, get_or, pos, neg_ℤ, sym, refl, ap, ◌∙◌, subst, inl, inr, arith}
use Rattle.std.proofs.lemmas.Bool.{both_ways, cases_lt, true≢false, cond-false, lt-leb, ne_eqb, eqb-false, eqb-true, and_parts, not-true}
use Rattle.scales.specs.Laws.{Places}
use Rattle.scales.proofs.ByPlaces.{PlaceLaws}
use Rattle.design.specs.Cost.{total}
use Rattle.design.specs.declared.price.Price.{Price}
use Rattle.solver.specs.Setting.{truth, meets_all, all_true}
use Rattle.totalizer.specs.declared.Literal.{Literal}
use Rattle.totalizer.specs.declared.Literal.TheVariants.{Always, Never, Mark}
use Rattle.totalizer.specs.Heap.{no_price, Costs, below, MarksNamed}
use Rattle.totalizer.specs.Clauses.{number, says, literal, denial, gather, tree, assumed, denied}
use Rattle.totalizer.proofs.Gathers.{gather_from, gather_parts, every_true}
use Rattle.totalizer.proofs.Meets.{Named, opposite, met_tree}
use Rattle.totalizer.proofs.Folds.{costs_within, below_costs, root_cost, cost_none}
use Rattle.totalizer.proofs.Sound.{literal_named, root_holds}
use Rattle.totalizer.proofs.Complete.{Tells, literal_tells}

sure : Literal → Bool
sure Always = true
sure Never = false
sure (Mark m) = false

literal_unsure : (s : Places) (b : ℕ) (ps : List Price) (i w : ℕ) → 1 ≤ w → sure (literal s.top b ps i w) ≡ false
unfolding literal sure
literal_unsure s b ps i w h =
    ap sure (cond-false (eqb w 0) _ _ (ne_eqb w 0 (λ e. omega arith))) ∙ by (ltb i (length ps)) (leb w (get_or ps (i - length ps) no_price).place)
  where
    by : (x y : Bool) → sure (cond x (Mark (pos (number b s.top i w))) (cond y (Mark (get_or ps (i - length ps) no_price).mark) Never)) ≡ false
    by true y = refl
    by false true = refl
    by false false = refl

denial_true : (f : ℕ → Bool) (a : Literal) → Named a → says f a ≡ false → all_true f (denial a) ≡ true
unfolding all_true
denial_true f Always n e = absurd (true≢false e)
denial_true f Never n e = refl
denial_true f (Mark m) n e = ap (λ (b : Bool). b && true) (opposite f m n ∙ ap not e)

true_denial : (f : ℕ → Bool) (a : Literal) → Named a → sure a ≡ false → all_true f (denial a) ≡ true → says f a ≡ false
unfolding all_true sure
true_denial f Always n s e = absurd (true≢false s)
true_denial f Never n s e = refl
true_denial f (Mark m) n s e = not-true (truth f m) (sym (opposite f m n) ∙ (and_parts (truth f (neg_ℤ m)) true e).0)

le_or : (p q : ℕ) → (p ≤ q) ⊎ (q < p)
le_or p q = turn (cases_lt q p)
  where
    turn : (q < p) ⊎ (p ≤ q) → (p ≤ q) ⊎ (q < p)
    turn (inl y) = inr y
    turn (inr y) = inl y

module _ (s : Places) (l : PlaceLaws s) (n b : ℕ) (ps : List Price) (marked : MarksNamed n ps) where
  -- a setting whose extra choices tell the nodes' costs makes the assumptions true
  pub all_assumed : (f : ℕ → Bool) (v : ℕ → ℕ) → Costs s (truth f) ps v → Tells s b ps f v → (x : ℕ) → total s (truth f) ps ≤ x → all_true f (assumed s.top b ps x) ≡ true
  unfolding assumed
  all_assumed f v h t x c = by (eqb (length ps) 0) refl
    where
      each : 1 ≤ length ps → (k : ℕ) → k < s.top - x → all_true f (denial (literal s.top b ps 1 (x + suc k))) ≡ true
      each o k m =
          let e = root_cost s l (truth f) ps v h o in
          denial_true f (literal s.top b ps 1 (x + suc k)) (literal_named s n b ps marked 1 (x + suc k) (omega arith))
          (literal_tells s l n b ps marked f v h t 1 (x + suc k) (omega arith) (omega arith) (omega arith) ∙ lt-leb (x + suc k) (v 1) (omega arith))

      by : (z : Bool) → eqb (length ps) 0 ≡ z → all_true f (cond z [] (gather (denied s.top b ps x) (s.top - x))) ≡ true
      by true e = (every_true f).none
      by false e =
          let z = eqb-false (length ps) 0 e in
          gather_from (all_true f) (every_true f) (denied s.top b ps x) (s.top - x) (each (omega arith))

  -- a setting that meets the clauses and makes the assumptions true costs at most the bound
  pub cost_bounded : (f : ℕ → Bool) → meets_all f (tree s b ps) ≡ true → (x : ℕ) → all_true f (assumed s.top b ps x) ≡ true → total s (truth f) ps ≤ x
  unfolding assumed
  cost_bounded f met x e = by (eqb (length ps) 0) refl e
    where
      v : ℕ → ℕ
      v = below s (truth f) ps

      h : Costs s (truth f) ps v
      h = below_costs s (truth f) ps

      root : 1 ≤ length ps → all_true f (gather (denied s.top b ps x) (s.top - x)) ≡ true → (v 1 ≤ x) ⊎ (x < v 1) → total s (truth f) ps ≤ x
      root o a (inl c) = omega (arith, root_cost s l (truth f) ps v h o)
      root o a (inr c) =
          let m = costs_within s l (truth f) ps v h 1 (omega arith) (omega arith) in
          let j : x + suc (v 1 - x - 1) ≡ v 1 = omega arith in
          let d = gather_parts (all_true f) (every_true f) (denied s.top b ps x) (s.top - x) a (v 1 - x - 1) (omega arith) in
          let d' : all_true f (denial (literal s.top b ps 1 (v 1))) ≡ true = subst (λ (w : ℕ). all_true f (denial (literal s.top b ps 1 w)) ≡ true) j d in
          let no_more = true_denial f (literal s.top b ps 1 (v 1)) (literal_named s n b ps marked 1 (v 1) (omega arith)) (literal_unsure s b ps 1 (v 1) (omega arith)) d' in
          absurd (both_ways _ no_more (root_holds s l n b ps marked f v h (met_tree f s b ps met) o))

      by : (z : Bool) → eqb (length ps) 0 ≡ z → all_true f (cond z [] (gather (denied s.top b ps x) (s.top - x))) ≡ true → total s (truth f) ps ≤ x
      by true c a = cost_none s (truth f) ps x (eqb-true (length ps) 0 c)
      by false c a = let z = eqb-false (length ps) 0 c in root (omega arith) a (le_or (v 1) x)
