-- A book's design written into a solver that is large enough.
use Rattle.std.proofs.Common.{◌≡◌, ℕ, ◌≤◌, List, [], ◌++◌, length, sym, refl, ap, ◌∙◌, subst, ap₂, arith}
use Rattle.scales.proofs.ByPlaces.{PlaceLaws}
use Rattle.design.specs.Rule.{units_used}
use Rattle.design.specs.Plan.{Scales, Meaning}
use Rattle.design.specs.declared.price.Price.{Price}
use Rattle.solver.specs.State.{Solving, Kept, cleared, with_clauses}
use Rattle.propagation.specs.Held.{rules_of}
use Rattle.propagation.specs.declared.rule.Rule.{Rule}
use Rattle.plain.specs.Held.{meaning_of}
use Rattle.plain.specs.Kept.{table_of}
use Rattle.plain.specs.declared.state.Plain.{Plain}
use Rattle.totalizer.specs.Clauses.{tree}
use Rattle.totalizer.specs.Encoding.{Design, past_a, tree_a, tree_b, clauses, needed_choices}
use Rattle.totalizer.proofs.Fits.{few_a, few_b, design_used, design_named}
use Rattle.writer.specs.Writes.{Takes, Small}
use Rattle.finder.specs.Finding.{Large}
use Rattle.finder.proofs.Writing.{takes_front, takes_rest, with_more}

pub design_of : {X Y : Type 0} (s : Scales) (j : Plain X Y) → Design s (meaning_of s j)
design_of s j = record { table = table_of s j; limit_a = refl; limit_b = refl }

none_used : units_used [] ≡ 0
unfolding units_used
none_used = refl

module _ (s : Scales) (m : Meaning) (o : Design s m) (v : Solving) (k : Kept v) (enough : needed_choices s m.choices m.price_room ≤ v.choices) where
  pub small_a : (n t : ℕ) (ps : List Price) → n ≡ m.choices → t ≡ s.a.top → ps ≡ m.prices_a → Small n t (length ps)
  small_a n t ps e f d =
      let q = few_a s m o in
      subst (λ (x : ℕ). Small x t (length ps)) (sym e) (subst (λ (x : ℕ). Small m.choices x (length ps)) (sym f) (subst (λ (l : List Price). Small m.choices s.a.top (length l)) (sym d)
      (record { few = omega (arith, o.table.a_fits, o.table.few_prices); numbers = omega (arith, k.few_choices) })))

  pub small_b : (n t : ℕ) (ps : List Price) → n ≡ past_a s m → t ≡ s.b.top → ps ≡ m.prices_b → Small n t (length ps)
  small_b n t ps e f d =
      let q = few_b s m o in
      subst (λ (x : ℕ). Small x t (length ps)) (sym e) (subst (λ (x : ℕ). Small (past_a s m) x (length ps)) (sym f) (subst (λ (l : List Price). Small (past_a s m) s.b.top (length l)) (sym d)
      (record { few = omega (arith, o.table.b_fits, o.table.few_prices); numbers = omega (arith, k.few_choices) })))

module _ (s : Scales) (la : PlaceLaws s.a) (lb : PlaceLaws s.b) (m : Meaning) (o : Design s m) (v : Solving) (enough : Large s m v) where
  whole : Takes (cleared v) (clauses s m)
  whole = record { room = omega (arith, none_used, design_used s m o, enough.room); marks = design_named s la lb m o v.choices enough.choices }

  pub takes_rules : (v₁ : Solving) (rs : List Rule) → v₁ ≡ cleared v → rules_of rs ≡ m.rules → Takes v₁ (rules_of rs)
  takes_rules v₁ rs e₁ e =
      subst (λ (x : Solving). Takes x (rules_of rs)) (sym e₁) (subst (Takes (cleared v)) (sym e) (takes_front (cleared v) m.rules (tree_a s m ++ tree_b s m) whole))

  -- the rules are written, from a solver that was cleared
  abbrev pub Ruled : Solving → Type 0
  Ruled v₂ = v₂ ≡ with_clauses (cleared v) m.rules

  pub ruled : (v₁ v₂ : Solving) (rs : List Rule) → v₁ ≡ cleared v → rules_of rs ≡ m.rules → v₂ ≡ with_clauses v₁ (rules_of rs) → Ruled v₂
  ruled v₁ v₂ rs e₁ e d = d ∙ ap₂ with_clauses e₁ e

  same_a : (n : ℕ) (ps : List Price) → n ≡ m.choices → ps ≡ m.prices_a → tree s.a n ps ≡ tree_a s m
  same_a n ps e d = ap₂ (λ (x : ℕ) (l : List Price). tree s.a x l) e d

  same_b : (n : ℕ) (ps : List Price) → n ≡ past_a s m → ps ≡ m.prices_b → tree s.b n ps ≡ tree_b s m
  same_b n ps e d = ap₂ (λ (x : ℕ) (l : List Price). tree s.b x l) e d

  pub takes_a : (v₂ : Solving) (n : ℕ) (ps : List Price) → Ruled v₂ → n ≡ m.choices → ps ≡ m.prices_a → Takes v₂ (tree s.a n ps)
  takes_a v₂ n ps r f g =
      subst (Takes v₂) (sym (same_a n ps f g)) (takes_front v₂ (tree_a s m) (tree_b s m) (takes_rest (cleared v) v₂ m.rules (tree_a s m ++ tree_b s m) r whole))

  pub past_tree : (v₂ v₃ : Solving) (n : ℕ) (ps : List Price) → n ≡ m.choices → ps ≡ m.prices_a → v₃ ≡ with_clauses v₂ (tree s.a n ps) → v₃ ≡ with_clauses v₂ (tree_a s m)
  past_tree v₂ v₃ n ps f g h = h ∙ ap (with_clauses v₂) (same_a n ps f g)

  pub takes_b : (v₂ v₃ : Solving) (n : ℕ) (ps : List Price) → Ruled v₂ → v₃ ≡ with_clauses v₂ (tree_a s m) → n ≡ past_a s m → ps ≡ m.prices_b → Takes v₃ (tree s.b n ps)
  takes_b v₂ v₃ n ps r h f g =
      subst (Takes v₃) (sym (same_b n ps f g))
      (takes_rest v₂ v₃ (tree_a s m) (tree_b s m) h (takes_rest (cleared v) v₂ m.rules (tree_a s m ++ tree_b s m) r whole))

  pub all_written : (v₂ v₃ v₄ : Solving) (n : ℕ) (ps : List Price) → Ruled v₂ → v₃ ≡ with_clauses v₂ (tree_a s m) → n ≡ past_a s m → ps ≡ m.prices_b → v₄ ≡ with_clauses v₃ (tree s.b n ps)
      → v₄ ≡ with_clauses (cleared v) (clauses s m)
  all_written v₂ v₃ v₄ n ps r h f g w =
      with_more (cleared v) v₂ v₄ m.rules (tree_a s m ++ tree_b s m) r
      (with_more v₂ v₃ v₄ (tree_a s m) (tree_b s m) h (w ∙ ap (with_clauses v₃) (same_b n ps f g)))
