-- The marks of a bound, one after another.
use Rattle.std.proofs.Common.{◌≡◌, ℕ, ◌+◌, ◌-◌, ◌≤◌, eqb, List, [], ◌∷◌, ◌++◌, length, ℤ, neg_ℤ, sym, refl, ap, ◌∙◌, ap₂, append_assoc, append-nil, add-one, arith}
use Rattle.std.proofs.lemmas.Bool.{cond-true, cond-false, eq-eqb, ne_eqb}
use Rattle.design.specs.declared.price.Price.{Price}
use Rattle.totalizer.specs.declared.Literal.{Literal}
use Rattle.totalizer.specs.declared.Literal.TheVariants.{Always, Never, Mark}
use Rattle.totalizer.specs.Clauses.{gather, denial, denied, assumed}

pub said_more : (ms ms' zs : List ℤ) (k : ℕ) (z y : ℤ) (a : Literal) (g : ℕ → List ℤ) → ms ≡ zs ++ gather g k → ms' ≡ ms ++ y ∷ []
    → y ≡ neg_ℤ z → a ≡ Mark z → g k ≡ denial a → ms' ≡ zs ++ gather g (k + 1)
unfolding gather
said_more ms ms' zs k z y a g e p o s t =
    p ∙ ap₂ (λ (l : List ℤ) (x : ℤ). l ++ x ∷ []) e o
    ∙ append_assoc zs (gather g k) (neg_ℤ z ∷ [])
    ∙ ap (λ (l : List ℤ). zs ++ (gather g k ++ l)) (sym (t ∙ ap denial s))
    ∙ ap (λ (j : ℕ). zs ++ gather g j) (sym (add-one k))

pub quiet_more : (ms zs : List ℤ) (k : ℕ) (a : Literal) (g : ℕ → List ℤ) → ms ≡ zs ++ gather g k
    → ((m : ℤ) → a ≡ Mark m → ⊥) → g k ≡ denial a → ms ≡ zs ++ gather g (k + 1)
unfolding gather
quiet_more ms zs k a g e s t =
    e ∙ ap (λ (l : List ℤ). zs ++ l) (sym (append-nil (gather g k)))
    ∙ ap (λ (l : List ℤ). zs ++ (gather g k ++ l)) (sym (t ∙ quiet a s))
    ∙ ap (λ (j : ℕ). zs ++ gather g j) (sym (add-one k))
  where
    quiet : (a : Literal) → ((m : ℤ) → a ≡ Mark m → ⊥) → denial a ≡ []
    quiet Always s = refl
    quiet Never s = refl
    quiet (Mark m) s = absurd (s m refl)

pub marks_start : (xs : List ℤ) (g : ℕ → List ℤ) → xs ≡ xs ++ gather g 0
unfolding gather
marks_start xs g = sym (append-nil xs)

pub assumed_none : (xs : List ℤ) (top b : ℕ) (ps : List Price) (x : ℕ) → length ps ≡ 0 → xs ≡ xs ++ assumed top b ps x
unfolding assumed
assumed_none xs top b ps x e = sym (ap (λ (l : List ℤ). xs ++ l) (cond-true (eqb (length ps) 0) _ _ (eq-eqb (length ps) 0 e)) ∙ append-nil xs)

pub assumed_all : (xs ys : List ℤ) (top b : ℕ) (ps : List Price) (x n : ℕ) → 1 ≤ length ps → n ≡ top - x → ys ≡ xs ++ gather (denied top b ps x) n → ys ≡ xs ++ assumed top b ps x
unfolding assumed
assumed_all xs ys top b ps x n h k e =
    e ∙ ap (λ (j : ℕ). xs ++ gather (denied top b ps x) j) k
    ∙ ap (λ (l : List ℤ). xs ++ l) (sym (cond-false (eqb (length ps) 0) _ _ (ne_eqb (length ps) 0 (λ z. omega arith))))
