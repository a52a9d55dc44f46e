-- The clauses of a design fit the choices and the room that a tree needs.
use Rattle.std.proofs.Common.{◌≡◌, ℕ, ◌+◌, ◌-◌, ◌*◌, ◌≤◌, true, ◌++◌, length, sym, subst, le_trans, mul-le-mul_right, arith}
use Rattle.scales.proofs.ByPlaces.{PlaceLaws}
use Rattle.design.specs.Mark.{all_are_named}
use Rattle.design.specs.Rule.{units_used}
use Rattle.design.specs.Plan.{Scales, Meaning}
use Rattle.solver.specs.Setting.{clauses_named}
use Rattle.totalizer.specs.Heap.{MarksNamed}
use Rattle.totalizer.specs.Clauses.{assumed}
use Rattle.totalizer.specs.Encoding.{Design, past_a, tree_a, tree_b, clauses, bounds, needed_choices, needed_room, Numbered, Fitting}
use Rattle.totalizer.proofs.Gathers.{append_from, every_named, every_clause_named}
use Rattle.totalizer.proofs.OfTable.{rules_named, marks_named, clauses_more}
use Rattle.totalizer.proofs.Sizes.{used_append, tree_used, tree_named, assumed_named, number_injective, number_last}

module _ (s : Scales) (m : Meaning) where
  pub numbered : Numbered s m
  numbered = record {
    past = λ i w e. omega (arith, e.some);
    within = λ i w e. omega (arith, number_last (past_a s m) s.b.top m.price_room i w e.first e.last e.high);
    apart = λ i w j x e d. omega (arith, number_last m.choices s.a.top m.price_room i w e.first e.last e.high, d.some);
    one_a = λ i w j x e d. number_injective m.choices s.a.top i w j x e.first e.some e.high d.first d.some d.high;
    one_b = λ i w j x e d. number_injective (past_a s m) s.b.top i w j x e.first e.some e.high d.first d.some d.high;
  }

module _ (s : Scales) (m : Meaning) (o : Design s m) where
  pub marked_a : MarksNamed m.choices m.prices_a
  marked_a = marks_named m.choices m.prices_a o.table.kept_a

  pub marked_b : MarksNamed m.choices m.prices_b
  marked_b = marks_named m.choices m.prices_b o.table.kept_b

  pub few_a : (length m.prices_a - 1) * s.a.top ≤ (m.price_room - 1) * s.a.top
  few_a = mul-le-mul_right s.a.top (omega (arith, o.table.a_fits))

  pub few_b : (length m.prices_b - 1) * s.b.top ≤ (m.price_room - 1) * s.b.top
  few_b = mul-le-mul_right s.b.top (omega (arith, o.table.b_fits))

  pub bounds_named : (n x y : ℕ) → needed_choices s m.choices m.price_room ≤ n → all_are_named n (bounds s m x y) ≡ true
  bounds_named n x y h =
      let qa = few_a in
      let qb = few_b in
      append_from (all_are_named n) (every_named n) (assumed s.a.top m.choices m.prices_a x) (assumed s.b.top (past_a s m) m.prices_b y)
      (assumed_named s.a m.choices m.choices n m.prices_a marked_a (omega arith) (omega arith) x)
      (assumed_named s.b m.choices (past_a s m) n m.prices_b marked_b (omega arith) (omega arith) y)

  pub design_used : units_used (clauses s m) ≤ needed_room s m.price_room m.rule_room
  design_used =
      let ta = s.a.top in
      let tb = s.b.top in
      let qa : (length m.prices_a - 1) * (4 * ((ta + 1) * (ta + 1) - 1)) ≤ (m.price_room - 1) * (4 * ((ta + 1) * (ta + 1) - 1)) = mul-le-mul_right (4 * ((ta + 1) * (ta + 1) - 1)) (omega (arith, o.table.a_fits)) in
      let qb : (length m.prices_b - 1) * (4 * ((tb + 1) * (tb + 1) - 1)) ≤ (m.price_room - 1) * (4 * ((tb + 1) * (tb + 1) - 1)) = mul-le-mul_right (4 * ((tb + 1) * (tb + 1) - 1)) (omega (arith, o.table.b_fits)) in
      let xa = tree_used s.a m.choices m.prices_a in
      let xb = tree_used s.b (past_a s m) m.prices_b in
      let e = used_append m.rules (tree_a s m ++ tree_b s m) in
      let e' = used_append (tree_a s m) (tree_b s m) in
      in_all (units_used (clauses s m)) (units_used m.rules) (units_used (tree_a s m)) (units_used (tree_b s m)) m.rule_room (m.price_room - 1) ((ta + 1) * (ta + 1)) ((tb + 1) * (tb + 1))
      (omega arith) (omega arith) (omega (arith, e, e')) o.table.rules_fit (le_trans xa qa) (le_trans xb qb)
    where
      in_all : (u x y z r q a b : ℕ) → 1 ≤ a → 1 ≤ b → u ≡ x + y + z → x ≤ r → y ≤ q * (4 * (a - 1)) → z ≤ q * (4 * (b - 1)) → u ≤ r + 4 * q * (a + b - 2)
      in_all u x y z r q a b pa pb e k ka kb =
          let c : a + b - 2 ≡ (a - 1) + (b - 1) = omega arith in
          subst (λ (t : ℕ). u ≤ r + 4 * q * t) (sym c) (spread (a - 1) (b - 1) ka kb)
        where
          spread : (a' b' : ℕ) → y ≤ q * (4 * a') → z ≤ q * (4 * b') → u ≤ r + 4 * q * (a' + b')
          spread a' b' ka kb = omega arith

module _ (s : Scales) (la : PlaceLaws s.a) (lb : PlaceLaws s.b) (m : Meaning) (o : Design s m) where
  pub design_named : (n : ℕ) → needed_choices s m.choices m.price_room ≤ n → clauses_named n (clauses s m) ≡ true
  design_named n h =
      let qa = few_a s m o in
      let qb = few_b s m o in
      append_from (clauses_named n) (every_clause_named n) m.rules (tree_a s m ++ tree_b s m) (clauses_more m.choices n m.rules (omega arith) (rules_named m.choices m.rules o.table.kept_rules))
      (append_from (clauses_named n) (every_clause_named n) (tree_a s m) (tree_b s m)
      (tree_named s.a la m.choices m.choices n m.prices_a (marked_a s m o) (omega arith) (omega arith))
      (tree_named s.b lb m.choices (past_a s m) n m.prices_b (marked_b s m o) (omega arith) (omega arith)))

  pub fitting : Fitting s m
  fitting = record { named = design_named (needed_choices s m.choices m.price_room) (omega arith); fits = design_used s m o }
