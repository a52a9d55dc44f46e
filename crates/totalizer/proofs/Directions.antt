-- Both directions: plans extend to settings that the solver admits, and those are plans.
use Rattle.std.proofs.Common.{◌≡◌, ℕ, zero, suc, ◌+◌, ◌-◌, ◌*◌, ◌^◌, ◌<◌, ◌≤◌, Bool, true, false, leb, List, ◌++◌, map, length, sym, ap, ◌∙◌, subst, mul-le-mul_right, arith}
use Rattle.std.specs.List.{range_with_len}
use Rattle.std.proofs.lemmas.List.FromFn.{length-map-range_with_len, get_or-map-range_with_len}
use Rattle.std.proofs.lemmas.Bool.{cond-true, cond-false, le-leb, lt-leb}
use Rattle.scales.specs.Laws.{Places}
use Rattle.scales.proofs.ByPlaces.{PlaceLaws}
use Rattle.design.specs.Mark.{holds}
use Rattle.design.specs.Cost.{total}
use Rattle.design.specs.Plan.{Scales, Meaning, Within, cost_a, cost_b}
use Rattle.design.proofs.Totals.{total_under}
use Rattle.solver.specs.Setting.{truth, setting, meets_all, all_true}
use Rattle.totalizer.specs.Heap.{Costs, below}
use Rattle.totalizer.specs.Clauses.{number, assumed, at_least, extended}
use Rattle.totalizer.specs.Encoding.{Design, past_a, tree_a, tree_b, clauses, bounds, RootIsCost, PlansExtend, SettingsArePlans}
use Rattle.totalizer.proofs.Gathers.{append_from, append_parts, every_met, every_true}
use Rattle.totalizer.proofs.Meets.{tree_met}
use Rattle.totalizer.proofs.Folds.{below_costs, root_cost}
use Rattle.totalizer.proofs.Complete.{Tells, pairs_met, at_least_of}
use Rattle.totalizer.proofs.Agreeing.{Alike, rules_alike, all_alike, total_alike, costs_alike, in_word, cost_word, rules_word}
use Rattle.totalizer.proofs.OfTable.{rules_named}
use Rattle.totalizer.proofs.Bounding.{all_assumed, cost_bounded}
use Rattle.totalizer.proofs.Fits.{marked_a, marked_b, bounds_named, design_named}

-- the extra choices of both costs, as the extended setting has them
extended_own : (n m ta tb : ℕ) (va vb : ℕ → ℕ) (f : ℕ → Bool) → Alike n f (extended n m ta tb va vb f)
unfolding extended
extended_own n m ta tb va vb f k a b = sym (cond-true (leb k n) _ _ (le-leb k n b))

row_next : (i t : ℕ) → 1 ≤ i → (i - 1) * t + t ≡ i * t
row_next zero t h = absurd (omega arith)
row_next (suc j) t h = let e : suc j - 1 ≡ j = omega arith in ap (λ (x : ℕ). x * t + t) e ∙ omega arith

sub_own : (x y z : ℕ) → x + y + z - x ≡ y + z
sub_own x y z = omega arith

extended_a : (n m ta tb : ℕ) (va vb : ℕ → ℕ) (f : ℕ → Bool) (i w : ℕ) → 1 ≤ i → i * ta ≤ m → 1 ≤ w → w ≤ ta → extended n m ta tb va vb f (number n ta i w) ≡ leb w (va i)
unfolding extended
extended_a n m ta tb va vb f i w a k c d =
    let e : (i - 1) * ta + ta ≡ i * ta = row_next i ta a in
    cond-false (leb (number n ta i w) n) _ _ (lt-leb (number n ta i w) n (omega arith))
    ∙ cond-true (leb (number n ta i w) (n + m)) _ _ (le-leb (number n ta i w) (n + m) (omega arith))
    ∙ ap (at_least ta va) (sub_own n ((i - 1) * ta) w)
    ∙ at_least_of ta va i w a c d

extended_b : (n m ta tb : ℕ) (va vb : ℕ → ℕ) (f : ℕ → Bool) (i w : ℕ) → 1 ≤ i → 1 ≤ w → w ≤ tb → extended n m ta tb va vb f (number (n + m) tb i w) ≡ leb w (vb i)
unfolding extended
extended_b n m ta tb va vb f i w a c d =
    cond-false (leb (number (n + m) tb i w) n) _ _ (lt-leb (number (n + m) tb i w) n (omega arith))
    ∙ cond-false (leb (number (n + m) tb i w) (n + m)) _ _ (lt-leb (number (n + m) tb i w) (n + m) (omega arith))
    ∙ ap (at_least tb vb) (sub_own (n + m) ((i - 1) * tb) w)
    ∙ at_least_of tb vb i w a c d

-- a setting of the design's own choices that meets the rules, with both costs within the bounds
record Allowed (s : Scales) (m : Meaning) (x y : ℕ) (f : ℕ → Bool) : Type 0 where
  meeting : meets_all f m.rules ≡ true
  at_a : total s.a (truth f) m.prices_a ≤ x
  at_b : total s.b (truth f) m.prices_b ≤ y

record Found (s : Scales) (m : Meaning) (x y : ℕ) (g : ℕ → Bool) : Type 0 where
  meeting : meets_all g (clauses s m) ≡ true
  assuming : all_true g (bounds s m x y) ≡ true

module _ (s : Scales) (la : PlaceLaws s.a) (lb : PlaceLaws s.b) (m : Meaning) (o : Design s m) where
  completes : (x y : ℕ) (f : ℕ → Bool) → Allowed s m x y f → (g : ℕ → Bool) × Alike m.choices f g × Found s m x y g
  completes x y f p = (g, own, record { meeting = met; assuming = assuming })
    where
      va : ℕ → ℕ
      va = below s.a (truth f) m.prices_a

      vb : ℕ → ℕ
      vb = below s.b (truth f) m.prices_b

      e : ℕ
      e = (m.price_room - 1) * s.a.top

      g : ℕ → Bool
      g = extended m.choices e s.a.top s.b.top va vb f

      own : Alike m.choices f g
      own = extended_own m.choices e s.a.top s.b.top va vb f

      costs_in_a : Costs s.a (truth g) m.prices_a va
      costs_in_a = costs_alike m.choices s.a f g own m.prices_a va (marked_a s m o) (below_costs s.a (truth f) m.prices_a)

      costs_in_b : Costs s.b (truth g) m.prices_b vb
      costs_in_b = costs_alike m.choices s.b f g own m.prices_b vb (marked_b s m o) (below_costs s.b (truth f) m.prices_b)

      tells_a : Tells s.a m.choices m.prices_a g va
      tells_a i w a b c d =
          let q : i ≤ m.price_room - 1 = omega (arith, o.table.a_fits) in
          extended_a m.choices e s.a.top s.b.top va vb f i w a (mul-le-mul_right s.a.top q) c d

      tells_b : Tells s.b (past_a s m) m.prices_b g vb
      tells_b i w a b c d = extended_b m.choices e s.a.top s.b.top va vb f i w a c d

      met : meets_all g (clauses s m) ≡ true
      met =
          append_from (meets_all g) (every_met g) m.rules (tree_a s m ++ tree_b s m)
          (sym (rules_alike m.choices f g own m.rules (rules_named m.choices m.rules o.table.kept_rules)) ∙ p.meeting)
          (append_from (meets_all g) (every_met g) (tree_a s m) (tree_b s m)
          (tree_met g s.a m.choices m.prices_a (pairs_met s.a la m.choices m.choices m.prices_a (marked_a s m o) g va costs_in_a tells_a))
          (tree_met g s.b (past_a s m) m.prices_b (pairs_met s.b lb m.choices (past_a s m) m.prices_b (marked_b s m o) g vb costs_in_b tells_b)))

      assuming : all_true g (bounds s m x y) ≡ true
      assuming =
          append_from (all_true g) (every_true g) (assumed s.a.top m.choices m.prices_a x) (assumed s.b.top (past_a s m) m.prices_b y)
          (all_assumed s.a la m.choices m.choices m.prices_a (marked_a s m o) g va costs_in_a tells_a x
          (subst (λ (c : ℕ). c ≤ x) (total_alike m.choices s.a f g own m.prices_a (marked_a s m o)) p.at_a))
          (all_assumed s.b lb m.choices (past_a s m) m.prices_b (marked_b s m o) g vb costs_in_b tells_b y
          (subst (λ (c : ℕ). c ≤ y) (total_alike m.choices s.b f g own m.prices_b (marked_b s m o)) p.at_b))

  bounded : (x y : ℕ) (f g : ℕ → Bool) → Alike m.choices f g → Found s m x y g → Allowed s m x y f
  bounded x y f g own p =
      let r = append_parts (meets_all g) (every_met g) m.rules (tree_a s m ++ tree_b s m) p.meeting in
      let t = append_parts (meets_all g) (every_met g) (tree_a s m) (tree_b s m) r.1 in
      let u = append_parts (all_true g) (every_true g) (assumed s.a.top m.choices m.prices_a x) (assumed s.b.top (past_a s m) m.prices_b y) p.assuming in
      record {
        meeting = rules_alike m.choices f g own m.rules (rules_named m.choices m.rules o.table.kept_rules) ∙ r.0;
        at_a = subst (λ (c : ℕ). c ≤ x) (sym (total_alike m.choices s.a f g own m.prices_a (marked_a s m o)))
            (cost_bounded s.a la m.choices m.choices m.prices_a (marked_a s m o) g t.0 x u.0);
        at_b = subst (λ (c : ℕ). c ≤ y) (sym (total_alike m.choices s.b f g own m.prices_b (marked_b s m o)))
            (cost_bounded s.b lb m.choices (past_a s m) m.prices_b (marked_b s m o) g t.1 y u.1);
      }

-- the first n choices of a setting, listed
listed : ℕ → (ℕ → Bool) → List Bool
listed n g = map g (range_with_len 1 n)

listed_alike : (n : ℕ) (g : ℕ → Bool) → Alike n g (setting (listed n g))
unfolding listed
listed_alike n g k a b = sym (get_or-map-range_with_len g 1 n (k - 1) k false (omega arith) (omega arith))

listed_length : (n : ℕ) (g : ℕ → Bool) → length (listed n g) ≡ n
unfolding listed
listed_length n g = length-map-range_with_len g 1 n

allowed_from : (s : Scales) (m : Meaning) (x y w : ℕ) → Within s m x y w → Allowed s m x y (in_word w)
unfolding cost_a cost_b
allowed_from s m x y w p = record {
  meeting = sym (rules_word w m.rules) ∙ p.plan.rules;
  at_a = subst (λ (c : ℕ). c ≤ x) (cost_word s.a m.prices_a w) p.at_a;
  at_b = subst (λ (c : ℕ). c ≤ y) (cost_word s.b m.prices_b w) p.at_b;
}

within_from : (s : Scales) → PlaceLaws s.a → PlaceLaws s.b → (m : Meaning) → Design s m → (x y w : ℕ) → w < 2 ^ m.choices → Allowed s m x y (in_word w) → Within s m x y w
unfolding cost_a cost_b
within_from s la lb m o x y w h p = record {
  plan = record {
    fits = h;
    rules = rules_word w m.rules ∙ p.meeting;
    within_a = subst (λ (c : ℕ). total s.a (holds w) m.prices_a ≤ c) (sym o.limit_a) (total_under s.a la (holds w) m.prices_a);
    within_b = subst (λ (c : ℕ). total s.b (holds w) m.prices_b ≤ c) (sym o.limit_b) (total_under s.b lb (holds w) m.prices_b);
  };
  at_a = subst (λ (c : ℕ). c ≤ x) (sym (cost_word s.a m.prices_a w)) p.at_a;
  at_b = subst (λ (c : ℕ). c ≤ y) (sym (cost_word s.b m.prices_b w)) p.at_b;
}

pub plans_extend : (s : Scales) → PlaceLaws s.a → PlaceLaws s.b → PlansExtend s
plans_extend s la lb m o v t x y w p =
    let c = completes s la lb m o x y (in_word w) (allowed_from s m x y w p) in
    let g = c.0 in
    let n = v.choices in
    let h = listed_alike n g in
    let k = t.choices in (
      listed n g,
      (λ j a b. c.1 j a b ∙ h j a (omega arith)),
      record {
        whole = listed_length n g;
        meeting = t.same (setting (listed n g)) ∙ sym (rules_alike n g (setting (listed n g)) h (clauses s m) (design_named s la lb m o n k)) ∙ c.2.meeting;
        assuming = sym (all_alike n g (setting (listed n g)) h (bounds s m x y) (bounds_named s m o n x y k)) ∙ c.2.assuming;
      },
    )

pub settings_are_plans : (s : Scales) → PlaceLaws s.a → PlaceLaws s.b → SettingsArePlans s
settings_are_plans s la lb m o v t x y w b h a p =
    within_from s la lb m o x y w h
    (bounded s la lb m o x y (in_word w) (setting b) a (record { meeting = sym (t.same (setting b)) ∙ p.meeting; assuming = p.assuming }))

pub root_is_cost : (s : Places) → PlaceLaws s → RootIsCost s
root_is_cost s l ps w h = sym (root_cost s l (holds w) ps (below s (holds w) ps) (below_costs s (holds w) ps) h)
