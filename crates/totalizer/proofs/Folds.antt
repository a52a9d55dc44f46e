-- The cost over the heap and the cost in order of entry.
use Rattle.std.proofs.Common.{◌≡◌, ℕ, zero, suc, ◌+◌, ◌-◌, ◌*◌, ◌<◌, ◌≤◌, min, Bool, true, false, cond, leb, ◌⊎◌, List, [], ◌∷◌, length, get_or, ℤ, sym, refl, ap, ◌∙◌, subst, ap₂, inl, inr, arith}
use Rattle.std.proofs.lemmas.Bool.{le-leb, lt-leb, cond-true, cond-false, cases_lt}
use Rattle.scales.specs.Laws.{Places}
use Rattle.scales.proofs.ByPlaces.{PlaceLaws}
use Rattle.design.specs.Cost.{total_from, total}
use Rattle.design.specs.declared.price.Price.{Price}
use Rattle.totalizer.specs.Heap.{no_price, paid, node, below, Costs, range}

module _ (s : Places) (t : ℤ → Bool) (ps : List Price) where
  -- one more step of depth changes nothing, once the prices are reached
  node_more : (d i : ℕ) → 1 ≤ i → length ps ≤ i + d → node s t ps d i ≡ node s t ps (suc d) i
  unfolding node
  node_more zero i h k = sym (cond-true (leb (length ps) i) _ _ (le-leb (length ps) i (omega arith)))
  node_more (suc d) i h k =
      ap₂ (λ (x y : ℕ). cond (leb (length ps) i) (paid s t (get_or ps (i - length ps) no_price)) (s.join x y))
      (node_more d (2 * i) (omega arith) (omega arith)) (node_more d (2 * i + 1) (omega arith) (omega arith))

  node_joins : (d i : ℕ) → 1 ≤ i → i < length ps → length ps ≤ i + d → node s t ps d i ≡ s.join (node s t ps d (2 * i)) (node s t ps d (2 * i + 1))
  unfolding node
  node_joins zero i h l k = absurd (omega arith)
  node_joins (suc d) i h l k =
      cond-false (leb (length ps) i) _ _ (lt-leb (length ps) i l)
      ∙ ap₂ s.join (node_more d (2 * i) (omega arith) (omega arith)) (node_more d (2 * i + 1) (omega arith) (omega arith))

  node_leaves : (d j : ℕ) → node s t ps d (length ps + j) ≡ paid s t (get_or ps j no_price)
  unfolding node
  node_leaves zero j = ap (λ (k : ℕ). paid s t (get_or ps k no_price)) (omega arith)
  node_leaves (suc d) j =
      cond-true (leb (length ps) (length ps + j)) _ _ (le-leb (length ps) (length ps + j) (omega arith))
      ∙ ap (λ (k : ℕ). paid s t (get_or ps k no_price)) (omega arith)

  pub below_costs : Costs s t ps (below s t ps)
  unfolding below
  below_costs = record {
    leaves = λ j h. node_leaves (length ps) j;
    joins = λ i h k. node_joins (length ps) i h k (omega arith);
  }

module _ (s : Places) (l : PlaceLaws s) where
  pub nothing_first : (v : ℕ) → v ≤ s.top → s.join 0 v ≡ v
  nothing_first v h = l.comm 0 v ∙ l.none v h

  -- a place above the top joins as the top
  read_none : (x : ℕ) → (x < s.top) ⊎ (s.top ≤ x) → s.join x 0 ≡ min x s.top
  read_none x (inl h) = l.none x (omega arith) ∙ omega arith
  read_none x (inr h) = omega (arith, l.mono s.top x 0 h, l.none s.top (omega arith), l.under x 0)

  join_read : (c x : ℕ) → s.join c (min x s.top) ≡ s.join c x
  join_read c x = ap (s.join c) (sym (read_none x (cases_lt x s.top))) ∙ sym (l.assoc c x 0) ∙ l.none (s.join c x) (l.under c x)

  pub range_within : (v : ℕ → ℕ) (a n : ℕ) → range s v a n ≤ s.top
  unfolding range
  range_within v a zero = omega arith
  range_within v a (suc n) = l.under (range s v a n) (v (a + n))

  -- a range by its first node
  range_first : (v : ℕ → ℕ) (a n : ℕ) → range s v a (suc n) ≡ s.join (v a) (range s v (suc a) n)
  unfolding range
  range_first v a zero = l.comm 0 (v (a + 0)) ∙ ap (λ (k : ℕ). s.join (v k) 0) (omega arith)
  range_first v a (suc n) =
      ap (λ (x : ℕ). s.join x (v (a + suc n))) (range_first v a n)
      ∙ l.assoc (v a) (range s v (suc a) n) (v (a + suc n))
      ∙ ap (λ (k : ℕ). s.join (v a) (s.join (range s v (suc a) n) (v k))) (omega arith)

  -- the nodes k to 2k - 1 join to the same as the nodes k - 1 to 2k - 3; here m is k - 2
  range_up : (v : ℕ → ℕ) (m : ℕ) → v (suc m) ≡ s.join (v (2 * suc m)) (v (2 * suc m + 1)) → range s v (suc (suc m)) (suc (suc m)) ≡ range s v (suc m) (suc m)
  unfolding range
  range_up v m e =
      ap₂ (λ (x y : ℕ). s.join (s.join (range s v (suc (suc m)) m) (v x)) (v y)) (omega arith) (omega arith)
      ∙ l.assoc (range s v (suc (suc m)) m) (v (2 * suc m)) (v (2 * suc m + 1))
      ∙ ap (s.join (range s v (suc (suc m)) m)) (sym e)
      ∙ l.comm (range s v (suc (suc m)) m) (v (suc m))
      ∙ sym (range_first v (suc m) m)

  range_root : (v : ℕ → ℕ) (q : ℕ) → ((i : ℕ) → 1 ≤ i → i < suc q → v i ≡ s.join (v (2 * i)) (v (2 * i + 1))) → range s v (suc q) (suc q) ≡ range s v 1 1
  range_root v zero h = refl
  range_root v (suc q) h = range_up v q (h (suc q) (omega arith) (omega arith)) ∙ range_root v q (λ i a b. h i a (omega arith))

  -- the cost in order of entry is that of a range of nodes which hold the prices
  cost_range : (t : ℤ → Bool) (v : ℕ → ℕ) (ps : List Price) (a c : ℕ) → c ≤ s.top
      → ((j : ℕ) → j < length ps → v (a + j) ≡ paid s t (get_or ps j no_price)) → total_from s t c ps ≡ s.join c (range s v a (length ps))
  unfolding total_from range
  cost_range t v [] a c k h = sym (l.none c k)
  cost_range t v (p ∷ ps) a c k h =
      let e : v a ≡ paid s t p = ap v (omega arith) ∙ h 0 (omega arith) in
      let x : cond (t p.mark) (s.join c p.place) c ≡ s.join c (v a) = by_truth (t p.mark) ∙ ap (s.join c) (sym e) in
      ap (λ (y : ℕ). total_from s t y ps) x
      ∙ cost_range t v ps (suc a) (s.join c (v a)) (l.under c (v a)) (λ j m. ap v (omega arith) ∙ h (suc j) (omega arith))
      ∙ l.assoc c (v a) (range s v (suc a) (length ps))
      ∙ ap (s.join c) (sym (range_first v a (length ps)))
    where
      by_truth : (b : Bool) → cond b (s.join c p.place) c ≡ s.join c (cond b (min p.place s.top) 0)
      by_truth true = sym (join_read c p.place)
      by_truth false = sym (l.none c k)

  -- each node's cost is a place
  pub costs_within : (t : ℤ → Bool) (ps : List Price) (v : ℕ → ℕ) → Costs s t ps v → (i : ℕ) → 1 ≤ i → i < 2 * length ps → v i ≤ s.top
  costs_within t ps v h i a b = by_place (dec i (length ps))
    where
      dec : (x y : ℕ) → (x < y) ⊎ (y ≤ x)
      dec x y = cases_lt x y

      at_price : (j : ℕ) → j < length ps → paid s t (get_or ps j no_price) ≤ s.top
      at_price j m = by_truth (t (get_or ps j no_price).mark)
        where
          by_truth : (b : Bool) → cond b (min (get_or ps j no_price).place s.top) 0 ≤ s.top
          by_truth true = omega arith
          by_truth false = omega arith

      by_place : (i < length ps) ⊎ (length ps ≤ i) → v i ≤ s.top
      by_place (inl k) = subst (λ (x : ℕ). x ≤ s.top) (sym (h.joins i a k)) (l.under _ _)
      by_place (inr k) =
          let e : v i ≡ paid s t (get_or ps (i - length ps) no_price) = ap v (omega arith) ∙ h.leaves (i - length ps) (omega arith) in
          subst (λ (x : ℕ). x ≤ s.top) (sym e) (at_price (i - length ps) (omega arith))

  -- the root's cost is the cost in order of entry
  pub root_cost : (t : ℤ → Bool) (ps : List Price) (v : ℕ → ℕ) → Costs s t ps v → 1 ≤ length ps → total s t ps ≡ v 1
  unfolding total range
  root_cost t ps v h k =
      cost_range t v ps (length ps) 0 (omega arith) h.leaves
      ∙ nothing_first _ (range_within v (length ps) (length ps))
      ∙ up (length ps) k h.joins
      ∙ nothing_first (v 1) (costs_within t ps v h 1 (omega arith) (omega arith))
    where
      up : (q : ℕ) → 1 ≤ q → ((i : ℕ) → 1 ≤ i → i < q → v i ≡ s.join (v (2 * i)) (v (2 * i + 1))) → range s v q q ≡ s.join 0 (v 1)
      up zero a b = absurd (omega arith)
      up (suc q) a b = range_root v q b

pub cost_none : (s : Places) (t : ℤ → Bool) (ps : List Price) (x : ℕ) → length ps ≡ 0 → total s t ps ≤ x
unfolding total total_from
cost_none s t [] x e = omega arith
cost_none s t (p ∷ ps) x e = absurd (omega arith)
