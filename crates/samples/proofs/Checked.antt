-- A list is right if a sweep over all settings says so.
use Rattle.std.proofs.Common.{◌≡◌, ℕ, zero, suc, ◌+◌, ◌^◌, ◌<◌, Bool, true, not, ◌&&◌, ◌||◌, eqb, ltb, leb, ◌⊎◌, List, [], ◌∷◌, ap, ◌∙◌, inl, inr, arith}
use Rattle.std.proofs.lemmas.Bool.{cases_eq, or_cases, and_parts, leb-true, ltb-true, eqb-true, le-leb, not-true, and_from, both_ways}
use Rattle.design.specs.Rule.{meets_all}
use Rattle.design.specs.Plan.{Scales, Meaning, cost_a, cost_b}
use Rattle.planner.specs.declared.entry.Entry.{Entry}
use Rattle.planner.specs.Order.{All, Ordered, covered}
use Rattle.samples.proofs.Unique.{Shown, CoversAll}

abbrev pub is_plan : Scales → Meaning → ℕ → Bool
is_plan s m w = meets_all w m.rules && (leb (cost_a s m w) m.limit_a && leb (cost_b s m w) m.limit_b)

abbrev pub all_below : ℕ → (ℕ → Bool) → Bool
all_below zero P = true
all_below (suc n) P = P n && all_below n P

below_at : (n : ℕ) (P : ℕ → Bool) (k : ℕ) → all_below n P ≡ true → k < n → P k ≡ true
below_at zero P k h l = absurd (omega arith)
below_at (suc n) P k h l = by (λ b. below_at n P k (and_parts (P n) _ h).1 b) (cases_eq k n)
  where
    by : (k < n → P k ≡ true) → (k ≡ n) ⊎ (k ≡ n → ⊥) → P k ≡ true
    by go (inl e) = ap P e ∙ (and_parts _ _ h).0
    by go (inr e) = go (omega (arith, l, e))

abbrev pub shown : Scales → Meaning → List Entry → Bool
shown s m [] = true
shown s m (e ∷ es) = ((ltb e.word (2 ^ m.choices) && is_plan s m e.word) && (eqb (cost_a s m e.word) e.a && eqb (cost_b s m e.word) e.b)) && shown s m es

abbrev pub in_order : ℕ → ℕ → List Entry → Bool
in_order low high [] = true
in_order low high (e ∷ es) = (leb low e.a && ltb e.b high) && in_order (e.a + 1) e.b es

abbrev pub right : Scales → Meaning → List Entry → Bool
right s m es = shown s m es && (in_order 0 201 es && all_below (2 ^ m.choices) (λ w. not (is_plan s m w) || covered es (cost_a s m w) (cost_b s m w)))

pub shown_by : (s : Scales) (m : Meaning) (es : List Entry) → shown s m es ≡ true → All (Shown s m) es
shown_by s m [] h = tt
shown_by s m (e ∷ es) h =
    let p = and_parts _ _ h in
    let q = and_parts _ _ p.0 in
    let f = and_parts _ _ q.0 in
    let g = and_parts _ _ q.1 in
    let i = and_parts (meets_all e.word m.rules) _ f.1 in
    let k = and_parts _ _ i.1 in (
      record {
        plan = record { fits = ltb-true e.word (2 ^ m.choices) f.0; rules = i.0; within_a = leb-true _ _ k.0; within_b = leb-true _ _ k.1 };
        is_a = eqb-true _ _ g.0;
        is_b = eqb-true _ _ g.1;
      },
      shown_by s m es p.1,
    )

pub order_by : (low high : ℕ) (es : List Entry) → in_order low high es ≡ true → Ordered low high es
order_by low high [] h = tt
order_by low high (e ∷ es) h =
    let p = and_parts _ _ h in
    let q = and_parts _ _ p.0 in
    (leb-true low e.a q.0, ltb-true e.b high q.1, order_by (e.a + 1) e.b es p.1)

pub covers_by : (s : Scales) (m : Meaning) (es : List Entry) → all_below (2 ^ m.choices) (λ w. not (is_plan s m w) || covered es (cost_a s m w) (cost_b s m w)) ≡ true → CoversAll s m es
covers_by s m es h v p = by (or_cases _ _ (below_at (2 ^ m.choices) (λ w. not (is_plan s m w) || covered es (cost_a s m w) (cost_b s m w)) v h p.fits))
  where
    by : (not (is_plan s m v) ≡ true) ⊎ (covered es (cost_a s m v) (cost_b s m v) ≡ true) → covered es (cost_a s m v) (cost_b s m v) ≡ true
    by (inr t) = t
    by (inl t) = absurd (both_ways (is_plan s m v) (not-true _ t) (and_from _ _ p.rules (and_from _ _ (le-leb _ _ p.within_a) (le-leb _ _ p.within_b))))
