-- A setting whose extra choices tell the nodes' costs meets the clauses.
use Rattle.std.proofs.Common.{◌≡◌, ℕ, ◌+◌, ◌-◌, ◌*◌, ◌/◌, ◌%◌, ◌<◌, ◌≤◌, min, Bool, true, false, cond, eqb, leb, ◌⊎◌, List, [], length, get_or, sym, refl, ap, ◌∙◌, subst, ap₂, inl, inr, arith}
use Rattle.std.proofs.lemmas.Bool.{cases_lt, cases_eq, le-leb, lt-leb, leb-true, leb-false, eqb-false}
use Rattle.std.proofs.lemmas.Nat.{div-mul-add, mod-mul-add}
use Rattle.scales.specs.Laws.{Places}
use Rattle.scales.proofs.ByPlaces.{PlaceLaws}
use Rattle.design.specs.declared.price.Price.{Price}
use Rattle.solver.specs.Setting.{truth, meets_all}
use Rattle.totalizer.specs.declared.Literal.TheVariants.{Never, Mark}
use Rattle.totalizer.specs.Heap.{no_price, Costs, MarksNamed}
use Rattle.totalizer.specs.Clauses.{number, says, literal, joins_to, pair, at_least}
use Rattle.totalizer.proofs.Meets.{Met, joins_met, none_met}
use Rattle.totalizer.proofs.Sound.{literal_none, literal_inner, literal_price, literal_named}

-- the extra choices of one cost tell the nodes' costs
abbrev pub Tells : Places → ℕ → List Price → (ℕ → Bool) → (ℕ → ℕ) → Type 0
Tells s b ps f v = (i w : ℕ) → 1 ≤ i → i < length ps → 1 ≤ w → w ≤ s.top → f (number b s.top i w) ≡ leb w (v i)

-- a join is at least its parts
pub join_above : (s : Places) → PlaceLaws s → (u v : ℕ) → u ≤ s.top → v ≤ s.top → (u ≤ s.join u v) × (v ≤ s.join u v)
join_above s l u v a b =
    (l.grows u v a, omega (arith, l.grows v u b, l.comm u v))

-- the join keeps the order in both parts
pub join_below : (s : Places) → PlaceLaws s → (u v x y : ℕ) → u ≤ x → v ≤ y → s.join u v ≤ s.join x y
join_below s l u v x y a b = omega (arith, l.mono u x v a, l.more x v y b)

module _ (s : Places) (l : PlaceLaws s) (n b : ℕ) (ps : List Price) (marked : MarksNamed n ps) (f : ℕ → Bool) (v : ℕ → ℕ) (h : Costs s (truth f) ps v) (t : Tells s b ps f v) where
  price_tells : (j w : ℕ) → j < length ps → 1 ≤ w → w ≤ s.top → says f (literal s.top b ps (length ps + j) w) ≡ leb w (v (length ps + j))
  price_tells j w k o u =
      ap (says f) (literal_price s b ps j w o) ∙ by (leb w p.place) (truth f p.mark) refl refl ∙ ap (leb w) (sym (h.leaves j k))
    where
      p : Price
      p = get_or ps j no_price

      by : (x y : Bool) → leb w p.place ≡ x → truth f p.mark ≡ y → says f (cond x (Mark p.mark) Never) ≡ leb w (cond y (min p.place s.top) 0)
      by true true e d = d ∙ sym (le-leb w (min p.place s.top) (let q = leb-true w p.place e in omega arith))
      by true false e d = d ∙ sym (lt-leb w 0 (omega arith))
      by false true e d = sym (lt-leb w (min p.place s.top) (let q = leb-false w p.place e in omega arith))
      by false false e d = sym (lt-leb w 0 (omega arith))

  -- each literal says that the node's cost is at least the place
  pub literal_tells : (i w : ℕ) → 1 ≤ i → i < 2 * length ps → w ≤ s.top → says f (literal s.top b ps i w) ≡ leb w (v i)
  literal_tells i w a k o = by (cases_eq w 0) (cases_lt i (length ps))
    where
      by : (w ≡ 0) ⊎ (w ≡ 0 → ⊥) → (i < length ps) ⊎ (length ps ≤ i) → says f (literal s.top b ps i w) ≡ leb w (v i)
      by (inl e) c = ap (says f) (ap (literal s.top b ps i) e ∙ literal_none s b ps i) ∙ sym (le-leb w (v i) (omega arith))
      by (inr e) (inl c) = ap (says f) (literal_inner s b ps i w c (omega arith)) ∙ t i w a c (omega arith) o
      by (inr e) (inr c) =
          subst (λ (x : ℕ). says f (literal s.top b ps x w) ≡ leb w (v x)) (omega arith) (price_tells (i - length ps) w (omega arith) (omega arith) o)

  -- such a setting meets each clause
  pub pairs_met : Met f s b ps
  unfolding pair
  pairs_met i u w a k c d = by (eqb (u + w) 0) refl
    where
      holds : eqb (u + w) 0 ≡ false → says f (literal s.top b ps (2 * i) u) ≡ true → says f (literal s.top b ps (2 * i + 1) w) ≡ true → f (number b s.top i (s.join u w)) ≡ true
      holds e x y =
          let p : u ≤ v (2 * i) = leb-true u (v (2 * i)) (sym (literal_tells (2 * i) u (omega arith) (omega arith) c) ∙ x) in
          let q : w ≤ v (2 * i + 1) = leb-true w (v (2 * i + 1)) (sym (literal_tells (2 * i + 1) w (omega arith) (omega arith) d) ∙ y) in
          let z = eqb-false (u + w) 0 e in
          let o : 1 ≤ s.join u w = omega (arith, z, join_above s l u w c d) in
          let r : s.join u w ≤ v i = omega (arith, join_below s l u w (v (2 * i)) (v (2 * i + 1)) p q, h.joins i a k) in
          t i (s.join u w) a k o (l.under u w) ∙ le-leb (s.join u w) (v i) r

      by : (z : Bool) → eqb (u + w) 0 ≡ z
          → meets_all f (cond z [] (joins_to (literal s.top b ps (2 * i) u) (literal s.top b ps (2 * i + 1) w) (number b s.top i (s.join u w)))) ≡ true
      by true e = none_met f
      by false e =
          joins_met f (literal s.top b ps (2 * i) u) (literal s.top b ps (2 * i + 1) w) (number b s.top i (s.join u w)) (holds e)
          (literal_named s n b ps marked (2 * i) u (omega arith)) (literal_named s n b ps marked (2 * i + 1) w (omega arith))

-- the numbering read back
pub at_least_of : (top : ℕ) (v : ℕ → ℕ) (i w : ℕ) → 1 ≤ i → 1 ≤ w → w ≤ top → at_least top v ((i - 1) * top + w) ≡ leb w (v i)
at_least_of top v i w a c d =
    let e : (i - 1) * top + w - 1 ≡ (i - 1) * top + (w - 1) = omega arith in
    let x : ((i - 1) * top + w - 1) / top + 1 ≡ i = ap (λ (k : ℕ). k / top + 1) e ∙ ap (λ (k : ℕ). k + 1) (div-mul-add (i - 1) top (w - 1) (omega arith)) ∙ omega arith in
    let y : ((i - 1) * top + w - 1) % top + 1 ≡ w = ap (λ (k : ℕ). k % top + 1) e ∙ ap (λ (k : ℕ). k + 1) (mod-mul-add (i - 1) top (w - 1) (omega arith)) ∙ omega arith in
    ap₂ (λ (p q : ℕ). leb p (v q)) y x
