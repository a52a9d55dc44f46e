-- Lists of clauses and of marks, part by part.
use Rattle.std.proofs.Common.{◌≡◌, ℕ, zero, suc, ◌<◌, ◌≤◌, Bool, true, false, ◌&&◌, ◌⊎◌, List, [], ◌∷◌, ◌++◌, sym, refl, ap, ◌∙◌, subst, inl, inr, arith}
use Rattle.std.proofs.lemmas.Bool.{and_parts, and_from, cases_lt}
use Rattle.design.specs.Mark.{named, all_are_named}
use Rattle.solver.specs.Setting.{truth, meets, meets_all, all_true, clauses_named}
use Rattle.totalizer.specs.Clauses.{gather}

and_assoc : (a b c : Bool) → (a && (b && c)) ≡ ((a && b) && c)
and_assoc true b c = refl
and_assoc false b c = refl

-- a test of every element of a list: true of none, and of two lists in a row where it is true of both
pub record Every {X : Type 0} (h : List X → Bool) : Type 0 where
  pub none : h [] ≡ true
  pub both : (xs ys : List X) → h (xs ++ ys) ≡ (h xs && h ys)

pub append_from : {X : Type 0} (h : List X → Bool) → Every h → (xs ys : List X) → h xs ≡ true → h ys ≡ true → h (xs ++ ys) ≡ true
append_from h e xs ys a b = e.both xs ys ∙ and_from (h xs) (h ys) a b

pub append_parts : {X : Type 0} (h : List X → Bool) → Every h → (xs ys : List X) → h (xs ++ ys) ≡ true → (h xs ≡ true) × (h ys ≡ true)
append_parts h e xs ys a = and_parts (h xs) (h ys) (sym (e.both xs ys) ∙ a)

pub gather_from : {X : Type 0} (h : List X → Bool) → Every h → (g : ℕ → List X) (n : ℕ) → ((k : ℕ) → k < n → h (g k) ≡ true) → h (gather g n) ≡ true
unfolding gather
gather_from h e g zero a = e.none
gather_from h e g (suc n) a = append_from h e (gather g n) (g n) (gather_from h e g n (λ k l. a k (omega arith))) (a n (omega arith))

pub gather_parts : {X : Type 0} (h : List X → Bool) → Every h → (g : ℕ → List X) (n : ℕ) → h (gather g n) ≡ true → (k : ℕ) → k < n → h (g k) ≡ true
unfolding gather
gather_parts h e g zero a k l = absurd (omega arith)
gather_parts h e g (suc n) a k l =
    let p = append_parts h e (gather g n) (g n) a in
    last (cases_lt k n) (gather_parts h e g n p.0 k) p.1
  where
    last : (k < n) ⊎ (n ≤ k) → (k < n → h (g k) ≡ true) → h (g n) ≡ true → h (g k) ≡ true
    last (inl c) p q = p c
    last (inr c) p q = subst (λ (x : ℕ). h (g x) ≡ true) (omega arith) q

-- a test by `&&` over the elements
pub every_by : {X : Type 0} (p : X → Bool) (h : List X → Bool) → h [] ≡ true → ((x : X) (xs : List X) → h (x ∷ xs) ≡ (p x && h xs)) → Every h
every_by {X} p h n c = record { none = n; both = both }
  where
    both : (xs ys : List X) → h (xs ++ ys) ≡ (h xs && h ys)
    both [] ys = ap (λ (b : Bool). b && h ys) (sym n)
    both (x ∷ xs) ys = c x (xs ++ ys) ∙ ap (λ (b : Bool). p x && b) (both xs ys) ∙ and_assoc (p x) (h xs) (h ys) ∙ ap (λ (b : Bool). b && h ys) (sym (c x xs))

pub every_met : (f : ℕ → Bool) → Every (meets_all f)
unfolding meets_all
every_met f = every_by (meets f) (meets_all f) refl (λ x xs. refl)

pub every_true : (f : ℕ → Bool) → Every (all_true f)
unfolding all_true
every_true f = every_by (truth f) (all_true f) refl (λ x xs. refl)

pub every_named : (n : ℕ) → Every (all_are_named n)
unfolding all_are_named
every_named n = every_by (named n) (all_are_named n) refl (λ x xs. refl)

pub every_clause_named : (n : ℕ) → Every (clauses_named n)
unfolding clauses_named
every_clause_named n = every_by (all_are_named n) (clauses_named n) refl (λ x xs. refl)
