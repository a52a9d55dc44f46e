-- The list of entries, one more at its end.
use Rattle.std.proofs.Common.{◌≡◌, ℕ, ◌+◌, ◌<◌, ◌≤◌, true, false, ◌⊎◌, List, [], ◌∷◌, ◌++◌, refl, inl, inr, arith}
use Rattle.std.proofs.lemmas.Bool.{cases_Bool, cases_lt}
use Rattle.std.proofs.lemmas.Bool.Decides.{nat_tests}
use Rattle.design.specs.Plan.{Scales, Meaning, Plan, Beats, point, cost_a, cost_b}
use Rattle.planner.specs.declared.entry.Entry.{Entry}
use Rattle.planner.specs.Order.{All, Ordered, past_a, last_b, covered}
use Rattle.planner.specs.Points.{Listed, Listing}
use Rattle.planner.specs.Search.{Least}

pub all_more : (P : Entry → Type 0) (es : List Entry) (e : Entry) → All P es → P e → All P (es ++ e ∷ [])
all_more P [] e h p = (p, tt)
all_more P (x ∷ es) e h p = (h.0, all_more P es e h.1 p)

pub ordered_more : (low high : ℕ) (es : List Entry) (e : Entry) → Ordered low high es → past_a low es ≤ e.a → e.b < last_b high es → Ordered low high (es ++ e ∷ [])
ordered_more low high [] e o p q = (p, q, tt)
ordered_more low high (x ∷ es) e o p q = (o.0, o.1, ordered_more (x.a + 1) x.b es e o.2 p q)

pub past_more : (low : ℕ) (es : List Entry) (e : Entry) → past_a low (es ++ e ∷ []) ≡ e.a + 1
past_more low [] e = refl
past_more low (x ∷ es) e = past_more (x.a + 1) es e

pub last_more : (high : ℕ) (es : List Entry) (e : Entry) → last_b high (es ++ e ∷ []) ≡ e.b
last_more high [] e = refl
last_more high (x ∷ es) e = last_more x.b es e

pub last_low : (low high : ℕ) (es : List Entry) → Ordered low high es → last_b high es ≤ high
last_low low high [] o = omega arith
last_low low high (x ∷ es) o = omega (arith, last_low (x.a + 1) x.b es o.2, o.1)

-- what an entry covers is at the last B or above
pub covered_above : (low high : ℕ) (es : List Entry) (a b : ℕ) → Ordered low high es → covered es a b ≡ true → last_b high es ≤ b
covered_above low high [] a b o h = cc
covered_above low high (x ∷ es) a b o h =
    elim (covered_case x es a b h) [
      | inl le ↦ omega (arith, last_low (x.a + 1) x.b es o.2, le)
      | inr t ↦ covered_above (x.a + 1) x.b es a b o.2 t
    ]
  where
    covered_case : (x : Entry) (es : List Entry) (a b : ℕ) → covered (x ∷ es) a b ≡ true → (x.b ≤ b) ⊎ (covered es a b ≡ true)
    covered_case x es a b h = grind (arith, nat_tests)

pub covered_old : (es : List Entry) (e : Entry) (a b : ℕ) → covered es a b ≡ true → covered (es ++ e ∷ []) a b ≡ true
covered_old [] e a b h = grind arith
covered_old (x ∷ es) e a b h =
    let ih : covered es a b ≡ true → covered (es ++ e ∷ []) a b ≡ true = covered_old es e a b in
    grind (arith, nat_tests)

pub covered_new : (es : List Entry) (e : Entry) (a b : ℕ) → e.a ≤ a → e.b ≤ b → covered (es ++ e ∷ []) a b ≡ true
covered_new [] e a b p q = grind (arith, nat_tests)
covered_new (x ∷ es) e a b p q =
    let ih : covered (es ++ e ∷ []) a b ≡ true = covered_new es e a b p q in
    grind (arith, nat_tests)

-- the last entry covers what is past its A and at its B or above
pub covered_last : (low high : ℕ) (x : Entry) (es : List Entry) (a b : ℕ) → past_a low (x ∷ es) ≤ a + 1 → last_b high (x ∷ es) ≤ b → covered (x ∷ es) a b ≡ true
covered_last low high x [] a b p q = grind (arith, nat_tests)
covered_last low high x (y ∷ es) a b p q =
    let ih : covered (y ∷ es) a b ≡ true = covered_last low high y es a b p q in
    grind (arith, nat_tests)

-- a plan's B is small
abbrev pub Small : Scales → Meaning → Type 0
Small s m = (v : ℕ) → Plan s m v → cost_b s m v ≤ 200

-- with what is listed complete up to its last A, a plan at the last B or above is covered
pub covered_at : (s : Scales) (m : Meaning) (es : List Entry) → Small s m → Listing s m es → (v : ℕ) → Plan s m v → last_b 201 es ≤ cost_b s m v → covered es (cost_a s m v) (cost_b s m v) ≡ true
covered_at s m [] small l v p h = absurd (omega (arith, small v p))
covered_at s m (x ∷ es) small l v p h =
    elim (cases_lt (cost_a s m v) (past_a 0 (x ∷ es))) [
      | inl lt ↦ l.complete v p lt
      | inr le ↦ covered_last 0 201 x es (cost_a s m v) (cost_b s m v) (omega arith) h
    ]

-- ended: no plan is below the last B
pub all_covered : (s : Scales) (m : Meaning) (es : List Entry) → Small s m → Listing s m es → ((v : ℕ) → Plan s m v → cost_b s m v < last_b 201 es → ⊥) → (v : ℕ) → Plan s m v → covered es (cost_a s m v) (cost_b s m v) ≡ true
all_covered s m es small l none v p =
    elim (cases_lt (cost_b s m v) (last_b 201 es)) [
      | inl lt ↦ absurd (none v p lt)
      | inr le ↦ covered_at s m es small l v p le
    ]

module _ (s : Scales) (m : Meaning) (es : List Entry) (e : Entry) (most : ℕ) (small : Small s m) (l : Listing s m es) (bound : most + 1 ≡ last_b 201 es) (f : Least s m most e) where
  pub new_uncovered : covered es e.a e.b ≡ false
  new_uncovered =
      elim (cases_Bool (covered es e.a e.b)) [
        | inl t ↦ absurd (omega (arith, covered_above 0 201 es e.a e.b l.ordered t, f.in_bound))
        | inr t ↦ t
      ]

  pub new_rises : past_a 0 es ≤ e.a
  new_rises = elim (cases_lt e.a (past_a 0 es)) [
    | inl lt ↦
        let a = f.held.is_a in
        let b = f.held.is_b in
        let c = l.complete e.word f.held.plan (omega arith) in
        let t : covered es e.a e.b ≡ true = rw (← a, ← b) c in
        absurd (omega (arith, covered_above 0 201 es e.a e.b l.ordered t, f.in_bound))
    | inr le ↦ le
  ]

  new_complete : (v : ℕ) → Plan s m v → cost_a s m v < past_a 0 (es ++ e ∷ []) → covered (es ++ e ∷ []) (cost_a s m v) (cost_b s m v) ≡ true
  new_complete v p lt =
      elim (cases_lt most (cost_b s m v)) [
        | inl gt ↦ covered_old es e _ _ (covered_at s m es small l v p (omega arith))
        | inr le ↦
            let at_a : e.a ≤ cost_a s m v = elim (cases_lt (cost_a s m v) e.a) [ inl h ↦ absurd (f.least_a v p h le) | inr h ↦ h ] in
            let same_a : cost_a s m v ≤ e.a = omega (arith, past_more 0 es e) in
            let at_b : e.b ≤ cost_b s m v = elim (cases_lt (cost_b s m v) e.b) [ inl h ↦ absurd (f.least_b v p same_a h) | inr h ↦ h ] in
            covered_new es e _ _ at_a at_b
      ]

  beaten : (v : ℕ) → Plan s m v → Beats (point s m v) (e.a, e.b) → ⊥
  beaten v p h = elim h.1 [ inl lt ↦ f.least_a v p lt (omega (arith, f.in_bound, h.0.1)) | inr lt ↦ f.least_b v p h.0.0 lt ]

  pub listing_more : Listing s m (es ++ e ∷ [])
  listing_more = record {
    listed = all_more (Listed s m) es e l.listed (record {
      plan = f.held.plan;
      shows = let a = f.held.is_a in let b = f.held.is_b in cc;
      unbeaten = λ v p h. beaten v p h;
    });
    ordered = ordered_more 0 201 es e l.ordered new_rises (omega (arith, f.in_bound));
    complete = new_complete;
  }
