-- Clauses written part by part.
use Rattle.std.proofs.Common.{◌≡◌, ℕ, ◌+◌, ◌*◌, ◌<◌, eqb, List, [], ℤ, sym, ap, ◌∙◌, subst, ap₂, append_assoc, append-nil, add-one, arith}
use Rattle.std.proofs.lemmas.Bool.{cond-true, cond-false, eq-eqb, ne_eqb}
use Rattle.solver.specs.State.{Solving, with_clauses}
use Rattle.design.specs.declared.price.Price.{Price}
use Rattle.totalizer.specs.declared.Literal.{Literal}
use Rattle.scales.specs.Laws.{Places}
use Rattle.solver.specs.Setting.{clauses_named}
use Rattle.totalizer.specs.Clauses.{number, literal, joins_to, pair, gather}
use Rattle.totalizer.proofs.Gathers.{gather_parts, every_clause_named}
use Rattle.totalizer.proofs.Sizes.{used_append, gather_used}
use Rattle.writer.specs.Writes.{Takes}

pub pair_nothing : (s : Places) (b : ℕ) (ps : List Price) (i u v : ℕ) → u ≡ 0 → v ≡ 0 → pair s b ps i u v ≡ []
unfolding pair
pair_nothing s b ps i u v p q = cond-true (eqb (u + v) 0) _ _ (eq-eqb (u + v) 0 (omega arith))

pub pair_joins : (s : Places) (b : ℕ) (ps : List Price) (i u v top j n : ℕ) (x y : Literal) → (u ≡ 0 → v ≡ 0 → ⊥) → top ≡ s.top → j ≡ s.join u v
    → x ≡ literal top b ps (2 * i) u → y ≡ literal top b ps (2 * i + 1) v → n ≡ number b top i j → pair s b ps i u v ≡ joins_to x y n
unfolding pair
pair_joins s b ps i u v top j n x y z t e p q o =
    cond-false (eqb (u + v) 0) _ _ (ne_eqb (u + v) 0 (λ h. z (omega arith) (omega arith)))
    ∙ ap (λ (k : ℕ). joins_to (literal k b ps (2 * i) u) (literal k b ps (2 * i + 1) v) (number b k i (s.join u v))) (sym t)
    ∙ ap₂ (λ (l r : Literal). joins_to l r (number b top i (s.join u v))) (sym p) (sym q)
    ∙ ap (λ (k : ℕ). joins_to x y (number b top i k)) (sym e)
    ∙ ap (joins_to x y) (sym o)

-- a part of what a solver takes, once what stands before it is written
pub takes_part : (m m' : Solving) (g : ℕ → List (List ℤ)) (n k : ℕ) → Takes m (gather g n) → m' ≡ with_clauses m (gather g k) → k < n → Takes m' (g k)
takes_part m m' g n k t e h = subst (λ (x : Solving). Takes x (g k)) (sym e) (record {
  room = omega (arith, used_append m.clauses (gather g k), gather_used g n k h, t.room);
  marks = gather_parts (clauses_named m.choices) (every_clause_named m.choices) g n t.marks k h;
})

-- one part more is written
pub wrote_more : (m m' m'' : Solving) (g : ℕ → List (List ℤ)) (k : ℕ) → m' ≡ with_clauses m (gather g k) → m'' ≡ with_clauses m' (g k) → m'' ≡ with_clauses m (gather g (k + 1))
unfolding gather
wrote_more m m' m'' g k e d =
    d ∙ ap (λ (x : Solving). with_clauses x (g k)) e
    ∙ (λ i. record { choices = m.choices; room = m.room; clauses = append_assoc m.clauses (gather g k) (g k) i; held = m.held })
    ∙ ap (λ (j : ℕ). with_clauses m (gather g j)) (sym (add-one k))

pub wrote_start : (m : Solving) (g : ℕ → List (List ℤ)) → m ≡ with_clauses m (gather g 0)
unfolding gather
wrote_start m g = sym (λ i. record { choices = m.choices; room = m.room; clauses = append-nil m.clauses i; held = m.held })

-- nothing is written
pub wrote_none : (m : Solving) (cs : List (List ℤ)) → cs ≡ [] → m ≡ with_clauses m cs
wrote_none m cs e = sym (ap (with_clauses m) e ∙ λ i. record { choices = m.choices; room = m.room; clauses = append-nil m.clauses i; held = m.held })
