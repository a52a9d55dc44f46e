-- What the clauses of one cost say.
use Rattle.std.proofs.Common.{◌≡◌, ℕ, zero, suc, ◌-◌, ◌<◌, ◌≤◌, Bool, true, false, not, ◌&&◌, ◌||◌, List, [], length, ℤ, pos, negsuc, neg_ℤ, nat_abs, sym, refl, subst, arith}
use Rattle.std.proofs.lemmas.Bool.{true≢false}
use Rattle.scales.specs.Laws.{Places}
use Rattle.design.specs.declared.price.Price.{Price}
use Rattle.solver.specs.Setting.{truth, meets, meets_all}
use Rattle.totalizer.specs.declared.Literal.{Literal}
use Rattle.totalizer.specs.declared.Literal.TheVariants.{Always, Never, Mark}
use Rattle.totalizer.specs.Clauses.{says, joins_to, pair, row, grid, from_last, tree}
use Rattle.totalizer.proofs.Gathers.{gather_from, gather_parts, every_met}

-- a literal that names a nat_abs
abbrev pub Named : Literal → Type 0
Named Always = Unit {0}
Named Never = Unit {0}
Named (Mark m) = 1 ≤ nat_abs m

pub opposite : (f : ℕ → Bool) (m : ℤ) → 1 ≤ nat_abs m → truth f (neg_ℤ m) ≡ not (truth f m)
opposite f (pos zero) h = absurd (omega arith)
opposite f (pos (suc n)) h = refl
opposite f (negsuc k) h = not_not (f (suc k))
  where
    not_not : (b : Bool) → b ≡ not (not b)
    not_not true = refl
    not_not false = refl

-- what the clause of two literals says
pub joins_met : (f : ℕ → Bool) (a b : Literal) (n : ℕ) → (says f a ≡ true → says f b ≡ true → f n ≡ true) → Named a → Named b → meets_all f (joins_to a b n) ≡ true
unfolding joins_to meets_all meets
joins_met f Always Always n h p q = from (f n) (h refl refl)
  where
    from : (x : Bool) → x ≡ true → ((x || false) && true) ≡ true
    from true e = refl
    from false e = e
joins_met f Always Never n h p q = refl
joins_met f Always (Mark m) n h p q = from (truth f (neg_ℤ m)) (truth f m) (f n) (opposite f m q) (h refl)
  where
    from : (x y z : Bool) → x ≡ not y → (y ≡ true → z ≡ true) → ((x || (z || false)) && true) ≡ true
    from true y z e k = refl
    from false true true e k = refl
    from false true false e k = k refl
    from false false z e k = absurd (true≢false (sym e))
joins_met f Never b n h p q = refl
joins_met f (Mark m) Always n h p q = from (truth f (neg_ℤ m)) (truth f m) (f n) (opposite f m p) (λ e. h e refl)
  where
    from : (x y z : Bool) → x ≡ not y → (y ≡ true → z ≡ true) → ((x || (z || false)) && true) ≡ true
    from true y z e k = refl
    from false true true e k = refl
    from false true false e k = k refl
    from false false z e k = absurd (true≢false (sym e))
joins_met f (Mark m) Never n h p q = refl
joins_met f (Mark m) (Mark m') n h p q = from (truth f (neg_ℤ m)) (truth f m) (truth f (neg_ℤ m')) (truth f m') (f n) (opposite f m p) (opposite f m' q) h
  where
    from : (x y x' y' z : Bool) → x ≡ not y → x' ≡ not y' → (y ≡ true → y' ≡ true → z ≡ true) → ((x || (x' || (z || false))) && true) ≡ true
    from true y x' y' z e e' k = refl
    from false false x' y' z e e' k = absurd (true≢false (sym e))
    from false true true y' z e e' k = refl
    from false true false false z e e' k = absurd (true≢false (sym e'))
    from false true false true true e e' k = refl
    from false true false true false e e' k = k refl refl

pub met_joins : (f : ℕ → Bool) (a b : Literal) (n : ℕ) → meets_all f (joins_to a b n) ≡ true → Named a → Named b → says f a ≡ true → says f b ≡ true → f n ≡ true
unfolding joins_to meets_all meets
met_joins f a b n h p q s t = by a b p q s t h
  where
    one : (x : Bool) → ((x || false) && true) ≡ true → x ≡ true
    one true e = refl
    one false e = e

    two : (x y z : Bool) → x ≡ not y → y ≡ true → ((x || (z || false)) && true) ≡ true → z ≡ true
    two x y true e t k = refl
    two true true false e t k = sym e
    two true false false e t k = t
    two false y false e t k = k

    three : (x y x' y' z : Bool) → x ≡ not y → y ≡ true → x' ≡ not y' → y' ≡ true → ((x || (x' || (z || false))) && true) ≡ true → z ≡ true
    three x y x' y' true e t e' t' k = refl
    three true true x' y' false e t e' t' k = sym e
    three true false x' y' false e t e' t' k = t
    three false y x' y' false e t e' t' k = two x' y' false e' t' k

    by : (a b : Literal) → Named a → Named b → says f a ≡ true → says f b ≡ true → meets_all f (joins_to a b n) ≡ true → f n ≡ true
    by Always Always p q s t h = one (f n) h
    by Always Never p q s t h = absurd (true≢false (sym t))
    by Always (Mark m) p q s t h = two (truth f (neg_ℤ m)) (truth f m) (f n) (opposite f m q) t h
    by Never b p q s t h = absurd (true≢false (sym s))
    by (Mark m) Always p q s t h = two (truth f (neg_ℤ m)) (truth f m) (f n) (opposite f m p) s h
    by (Mark m) Never p q s t h = absurd (true≢false (sym t))
    by (Mark m) (Mark m') p q s t h = three (truth f (neg_ℤ m)) (truth f m) (truth f (neg_ℤ m')) (truth f m') (f n) (opposite f m p) s (opposite f m' q) t h

-- each clause of each node below the prices
abbrev pub Met : (ℕ → Bool) → Places → ℕ → List Price → Type 0
Met f s b ps = (i u v : ℕ) → 1 ≤ i → i < length ps → u ≤ s.top → v ≤ s.top → meets_all f (pair s b ps i u v) ≡ true

pub tree_met : (f : ℕ → Bool) (s : Places) (b : ℕ) (ps : List Price) → Met f s b ps → meets_all f (tree s b ps) ≡ true
unfolding tree grid row
tree_met f s b ps h =
    gather_from (meets_all f) (every_met f) (from_last s b ps) (length ps - 1) λ k l.
    gather_from (meets_all f) (every_met f) (row s b ps (length ps - suc k)) (suc s.top) λ u m.
    gather_from (meets_all f) (every_met f) (pair s b ps (length ps - suc k) u) (suc s.top) λ v o.
    h (length ps - suc k) u v (omega arith) (omega arith) (omega arith) (omega arith)

in_grid : (f : ℕ → Bool) (s : Places) (b : ℕ) (ps : List Price) (i u v : ℕ) → u ≤ s.top → v ≤ s.top → meets_all f (grid s b ps i) ≡ true → meets_all f (pair s b ps i u v) ≡ true
unfolding grid row
in_grid f s b ps i u v m o g =
    gather_parts (meets_all f) (every_met f) (pair s b ps i u) (suc s.top)
    (gather_parts (meets_all f) (every_met f) (row s b ps i) (suc s.top) g u (omega arith)) v (omega arith)

pub met_tree : (f : ℕ → Bool) (s : Places) (b : ℕ) (ps : List Price) → meets_all f (tree s b ps) ≡ true → Met f s b ps
unfolding tree
met_tree f s b ps h i u v a l m o =
    let e : length ps - suc (length ps - suc i) ≡ i = omega arith in
    let g = gather_parts (meets_all f) (every_met f) (from_last s b ps) (length ps - 1) h (length ps - suc i) (omega arith) in
    in_grid f s b ps i u v m o (subst (λ (x : ℕ). meets_all f (grid s b ps x) ≡ true) e g)

pub none_met : (f : ℕ → Bool) → meets_all f [] ≡ true
unfolding meets_all
none_met f = refl
