-- How much room the clauses take, and which choices they name.
use Rattle.std.proofs.Common.{◌≡◌, ℕ, zero, suc, ◌+◌, ◌-◌, ◌*◌, ◌/◌, ◌%◌, ◌<◌, ◌≤◌, Bool, true, false, cond, ◌&&◌, eqb, ◌⊎◌, List, [], ◌∷◌, ◌++◌, length, get_or, ℤ, pos, neg_ℤ, nat_abs, sym, refl, ap, ◌∙◌, subst, inl, inr, mul-le-mul_right, arith, length-append}
use Rattle.std.proofs.lemmas.Bool.{cases_lt, cases_eq, cond-true, cond-false, eqb-false, eq-eqb, ne_eqb, and_from}
use Rattle.std.proofs.lemmas.Nat.{div-mul-add, mod-mul-add}
use Rattle.scales.specs.Laws.{Places}
use Rattle.scales.proofs.ByPlaces.{PlaceLaws}
use Rattle.design.specs.Mark.{named, all_are_named}
use Rattle.design.specs.Rule.{units_used}
use Rattle.design.specs.declared.price.Price.{Price}
use Rattle.solver.specs.Setting.{clauses_named}
use Rattle.totalizer.specs.declared.Literal.{Literal}
use Rattle.totalizer.specs.declared.Literal.TheVariants.{Always, Never, Mark}
use Rattle.totalizer.specs.Heap.{no_price, MarksNamed}
use Rattle.totalizer.specs.Clauses.{number, literal, possible, denial, joins_to, pair, gather, row, grid, from_last, tree, assumed, denied}
use Rattle.totalizer.proofs.Gathers.{append_from, gather_from, every_named, every_clause_named}
use Rattle.totalizer.proofs.Marks.{choice_low, choice_high, named_from, choice_opposite}
use Rattle.totalizer.proofs.Complete.{join_above}
use Rattle.totalizer.proofs.Sound.{literal_none, literal_inner, literal_price}

pub used_append : (xs ys : List (List ℤ)) → units_used (xs ++ ys) ≡ units_used xs + units_used ys
unfolding units_used
used_append [] ys = omega arith
used_append (c ∷ xs) ys = omega (arith, used_append xs ys)

pub used_one : (c : List ℤ) → units_used (c ∷ []) ≡ 1 + length c
unfolding units_used
used_one c = omega arith

-- what stands up to one part of a list of parts takes no more than all
pub gather_used : (g : ℕ → List (List ℤ)) (n k : ℕ) → k < n → units_used (gather g k) + units_used (g k) ≤ units_used (gather g n)
unfolding gather
gather_used g zero k h = absurd (omega arith)
gather_used g (suc n) k h = by (cases_eq k n) (gather_used g n k)
  where
    by : (k ≡ n) ⊎ (k ≡ n → ⊥) → (k < n → units_used (gather g k) + units_used (g k) ≤ units_used (gather g n)) → units_used (gather g k) + units_used (g k) ≤ units_used (gather g n ++ g n)
    by (inl e) r = subst (λ (x : ℕ). units_used (gather g x) + units_used (g x) ≤ units_used (gather g n ++ g n)) (sym e) (omega (arith, used_append (gather g n) (g n)))
    by (inr e) r = omega (arith, used_append (gather g n) (g n), r (omega arith))

gather_bound : (g : ℕ → List (List ℤ)) (n c : ℕ) → ((k : ℕ) → k < n → units_used (g k) ≤ c) → units_used (gather g n) ≤ n * c
unfolding gather units_used
gather_bound g zero c h = omega arith
gather_bound g (suc n) c h = omega (arith, used_append (gather g n) (g n), gather_bound g n c (λ k l. h k (omega arith)), h n (omega arith))

gather_first : (g : ℕ → List (List ℤ)) (n e c : ℕ) → units_used (g 0) ≤ e → ((k : ℕ) → 1 ≤ k → units_used (g k) ≤ c) → units_used (gather g (suc n)) ≤ e + n * c
unfolding gather units_used
gather_first g zero e c a h = omega (arith, used_append [] (g 0))
gather_first g (suc n) e c a h = omega (arith, used_append (gather g (suc n)) (g (suc n)), gather_first g n e c a h, h (suc n) (omega arith))

denial_short : (a : Literal) → length (denial a) ≤ 1
denial_short Always = omega arith
denial_short Never = omega arith
denial_short (Mark m) = omega arith

joins_used : (a b : Literal) (n : ℕ) → units_used (joins_to a b n) ≤ 4
unfolding joins_to units_used
joins_used a b n = by (possible a && possible b)
  where
    by : (z : Bool) → units_used (cond z ((denial a ++ (denial b ++ pos n ∷ [])) ∷ []) []) ≤ 4
    by true = omega (arith, denial_short a, denial_short b, length-append (denial a) (denial b ++ pos n ∷ []), length-append (denial b) (pos n ∷ []))
    by false = omega arith

module _ (s : Places) (b : ℕ) (ps : List Price) where
  pub pair_used : (i u v : ℕ) → units_used (pair s b ps i u v) ≤ 4
  unfolding pair units_used
  pair_used i u v = by (eqb (u + v) 0)
    where
      by : (z : Bool) → units_used (cond z [] (joins_to (literal s.top b ps (2 * i) u) (literal s.top b ps (2 * i + 1) v) (number b s.top i (s.join u v)))) ≤ 4
      by true = omega arith
      by false = joins_used _ _ _

  pair_none : (i : ℕ) → units_used (pair s b ps i 0 0) ≤ 0
  unfolding pair units_used
  pair_none i = omega arith

  row_used : (i u : ℕ) → units_used (row s b ps i u) ≤ 4 + s.top * 4
  unfolding row
  row_used i u = gather_first (pair s b ps i u) s.top 4 4 (pair_used i u 0) (λ k h. pair_used i u k)

  row_none : (i : ℕ) → units_used (row s b ps i 0) ≤ 0 + s.top * 4
  unfolding row
  row_none i = gather_first (pair s b ps i 0) s.top 0 4 (pair_none i) (λ k h. pair_used i 0 k)

  pub grid_used : (i : ℕ) → units_used (grid s b ps i) ≤ 4 * ((s.top + 1) * (s.top + 1) - 1)
  unfolding grid
  grid_used i = omega (arith, gather_first (row s b ps i) s.top (0 + s.top * 4) (4 + s.top * 4) (row_none i) (λ k h. row_used i k))

  pub tree_used : units_used (tree s b ps) ≤ (length ps - 1) * (4 * ((s.top + 1) * (s.top + 1) - 1))
  unfolding tree
  tree_used = gather_bound (from_last s b ps) (length ps - 1) _ (λ k h. grid_used (length ps - suc k))

-- the numbering is one to one
pub number_injective : (b top i w j x : ℕ) → 1 ≤ i → 1 ≤ w → w ≤ top → 1 ≤ j → 1 ≤ x → x ≤ top → number b top i w ≡ number b top j x → (i ≡ j) × (w ≡ x)
number_injective b top i w j x a c d a' c' d' e =
    let y : (i - 1) * top + (w - 1) ≡ (j - 1) * top + (x - 1) = omega arith in
    let p : i - 1 ≡ j - 1 = sym (div-mul-add (i - 1) top (w - 1) (omega arith)) ∙ ap (λ (k : ℕ). k / top) y ∙ div-mul-add (j - 1) top (x - 1) (omega arith) in
    let q : w - 1 ≡ x - 1 = sym (mod-mul-add (i - 1) top (w - 1) (omega arith)) ∙ ap (λ (k : ℕ). k % top) y ∙ mod-mul-add (j - 1) top (x - 1) (omega arith) in
    (omega arith, omega arith)

-- a number of a node below q is at most that of the last place of the last such node
pub number_last : (b top q i w : ℕ) → 1 ≤ i → i < q → w ≤ top → number b top i w ≤ b + (q - 1) * top
number_last b top q zero w a k c = absurd (omega arith)
number_last b top q (suc j) w a k c =
    let e : suc j - 1 ≡ j = omega arith in
    let r : suc j * top ≤ (q - 1) * top = mul-le-mul_right top (omega arith) in
    subst (λ (x : ℕ). b + x * top + w ≤ b + (q - 1) * top) (sym e) (omega arith)

-- marks within M
abbrev Inside : ℕ → Literal → Type 0
Inside m Always = Unit {0}
Inside m Never = Unit {0}
Inside m (Mark k) = (1 ≤ nat_abs k) × (nat_abs k ≤ m)

denial_named : (m : ℕ) (a : Literal) → Inside m a → all_are_named m (denial a) ≡ true
unfolding all_are_named
denial_named m Always h = refl
denial_named m Never h = refl
denial_named m (Mark k) h = and_from (named m (neg_ℤ k)) true (named_from m (neg_ℤ k) (omega (arith, choice_opposite k, h.0)) (omega (arith, choice_opposite k, h.1))) refl

joins_named : (m : ℕ) (a b : Literal) (n : ℕ) → Inside m a → Inside m b → 1 ≤ n → n ≤ m → clauses_named m (joins_to a b n) ≡ true
unfolding joins_to clauses_named all_are_named
joins_named m a b n p q c d = by (possible a && possible b)
  where
    clause : all_are_named m (denial a ++ (denial b ++ pos n ∷ [])) ≡ true
    clause =
        append_from (all_are_named m) (every_named m) (denial a) (denial b ++ pos n ∷ []) (denial_named m a p)
        (append_from (all_are_named m) (every_named m) (denial b) (pos n ∷ []) (denial_named m b q) (and_from (named m (pos n)) true (named_from m (pos n) c d) refl))

    by : (z : Bool) → clauses_named m (cond z ((denial a ++ (denial b ++ pos n ∷ [])) ∷ []) []) ≡ true
    by true = and_from _ true clause refl
    by false = refl

literal_inside : (s : Places) (n b m : ℕ) (ps : List Price) → MarksNamed n ps → n ≤ m → b + (length ps - 1) * s.top ≤ m
    → (i w : ℕ) → 1 ≤ i → i < 2 * length ps → w ≤ s.top → Inside m (literal s.top b ps i w)
literal_inside s n b m ps marked c d i w a k o = by (cases_eq w 0) (cases_lt i (length ps))
  where
    at_price : (t : Bool) → (1 ≤ nat_abs (get_or ps (i - length ps) no_price).mark) × (nat_abs (get_or ps (i - length ps) no_price).mark ≤ m)
        → Inside m (cond t (Mark (get_or ps (i - length ps) no_price).mark) Never)
    at_price true h = h
    at_price false h = tt

    by : (w ≡ 0) ⊎ (w ≡ 0 → ⊥) → (i < length ps) ⊎ (length ps ≤ i) → Inside m (literal s.top b ps i w)
    by (inl e) h = subst (Inside m) (sym (ap (literal s.top b ps i) e ∙ literal_none s b ps i)) tt
    by (inr e) (inl h) =
        let q : (1 ≤ number b s.top i w) × (number b s.top i w ≤ m) = (omega arith, omega (arith, number_last b s.top (length ps) i w a h o)) in
        subst (Inside m) (sym (literal_inner s b ps i w h (omega arith))) q
    by (inr e) (inr h) =
        let j : length ps + (i - length ps) ≡ i = omega arith in
        let p = marked (i - length ps) (omega arith) in
        subst (Inside m) (sym (ap (λ (x : ℕ). literal s.top b ps x w) (sym j) ∙ literal_price s b ps (i - length ps) w (omega arith))) (at_price _ (choice_low n (get_or ps (i - length ps) no_price).mark p, omega (arith, choice_high n (get_or ps (i - length ps) no_price).mark p)))

pub tree_named : (s : Places) → PlaceLaws s → (n b m : ℕ) (ps : List Price) → MarksNamed n ps → n ≤ m → b + (length ps - 1) * s.top ≤ m → clauses_named m (tree s b ps) ≡ true
unfolding tree grid row pair
tree_named s l n b m ps marked c d =
    gather_from (clauses_named m) (every_clause_named m) (from_last s b ps) (length ps - 1) λ k o.
    gather_from (clauses_named m) (every_clause_named m) (row s b ps (length ps - suc k)) (suc s.top) λ u p.
    gather_from (clauses_named m) (every_clause_named m) (pair s b ps (length ps - suc k) u) (suc s.top) λ v q.
    by (length ps - suc k) u v (omega arith) (omega arith) p q (cases_eq (u + v) 0)
  where
    by : (i u v : ℕ) → 1 ≤ i → i < length ps → u < suc s.top → v < suc s.top → (u + v ≡ 0) ⊎ (u + v ≡ 0 → ⊥) → clauses_named m (pair s b ps i u v) ≡ true
    by i u v a o p q (inl e) =
        ap (clauses_named m) (cond-true (eqb (u + v) 0) _ _ (eq-eqb (u + v) 0 e)) ∙ (every_clause_named m).none
    by i u v a o p q (inr e) =
        let h = join_above s l u v (omega arith) (omega arith) in
        ap (clauses_named m) (cond-false (eqb (u + v) 0) _ _ (ne_eqb (u + v) 0 e))
        ∙ joins_named m _ _ (number b s.top i (s.join u v))
        (literal_inside s n b m ps marked c d (2 * i) u (omega arith) (omega arith) (omega arith))
        (literal_inside s n b m ps marked c d (2 * i + 1) v (omega arith) (omega arith) (omega arith))
        (omega arith) (omega (arith, number_last b s.top (length ps) i (s.join u v) (omega arith) (omega arith) (l.under u v)))

pub assumed_named : (s : Places) (n b m : ℕ) (ps : List Price) → MarksNamed n ps → n ≤ m → b + (length ps - 1) * s.top ≤ m → (x : ℕ) → all_are_named m (assumed s.top b ps x) ≡ true
unfolding assumed
assumed_named s n b m ps marked c d x = by (eqb (length ps) 0) refl
  where
    by : (z : Bool) → eqb (length ps) 0 ≡ z → all_are_named m (cond z [] (gather (denied s.top b ps x) (s.top - x))) ≡ true
    by true e = (every_named m).none
    by false e =
        let z = eqb-false (length ps) 0 e in
        let q : 1 ≤ length ps = omega arith in
        gather_from (all_are_named m) (every_named m) (denied s.top b ps x) (s.top - x) λ k o.
        denial_named m (literal s.top b ps 1 (x + suc k)) (literal_inside s n b m ps marked c d 1 (x + suc k) (omega arith) (omega arith) (omega arith))
