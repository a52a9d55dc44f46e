-- Two lists of a design that cover every plan have the same points.
use Rattle.std.proofs.Common.{◌≡◌, ℕ, ◌+◌, ◌<◌, ◌≤◌, true, ◌&&◌, leb, ◌⊎◌, List, [], ◌∷◌, sym, refl, ap, ◌∙◌, subst, inl, inr, arith}
use Rattle.std.proofs.lemmas.Bool.{or_cases, and_parts, leb-true}
use Rattle.design.specs.Plan.{Scales, Meaning, Plan, cost_a, cost_b}
use Rattle.design.proofs.Truth.{never}
use Rattle.planner.specs.declared.entry.Entry.{Entry}
use Rattle.planner.specs.Order.{All, Ordered, covered}
use Rattle.planner.specs.Points.{Listed}
use Rattle.samples.specs.Designs.{points}

-- a point is one of a list's
abbrev pub Has : List Entry → ℕ → ℕ → Type 0
Has [] a b = ⊥
Has (e ∷ es) a b = ((e.a ≡ a) × (e.b ≡ b)) ⊎ Has es a b

-- an entry with the point of its plan
pub record Shown (s : Scales) (m : Meaning) (e : Entry) : Type 0 where
  pub plan : Plan s m e.word
  pub is_a : cost_a s m e.word ≡ e.a
  pub is_b : cost_b s m e.word ≡ e.b

abbrev pub CoversAll : Scales → Meaning → List Entry → Type 0
CoversAll s m es = (v : ℕ) → Plan s m v → covered es (cost_a s m v) (cost_b s m v) ≡ true

-- all of a list lie at or above a cost A, and below a cost B
has_above : (low high : ℕ) (es : List Entry) (a b : ℕ) → Ordered low high es → Has es a b → (low ≤ a) × (b < high)
has_above low high [] a b o h = absurd h
has_above low high (e ∷ es) a b o (inl h) = (omega (arith, o.0, h.0), omega (arith, o.1, h.1))
has_above low high (e ∷ es) a b o (inr h) = let r = has_above (e.a + 1) e.b es a b o.2 h in (omega (arith, r.0, o.0), omega (arith, r.1, o.1))

-- of two points of one list neither covers the other, unless they are the same
same_in : (low high : ℕ) (es : List Entry) (a b x y : ℕ) → Ordered low high es → Has es a b → Has es x y → a ≤ x → b ≤ y → (a ≡ x) × (b ≡ y)
same_in low high [] a b x y o h k p q = absurd h
same_in low high (e ∷ es) a b x y o (inl h) (inl k) p q = (sym h.0 ∙ k.0, sym h.1 ∙ k.1)
same_in low high (e ∷ es) a b x y o (inl h) (inr k) p q = let r = has_above (e.a + 1) e.b es x y o.2 k in absurd (omega (arith, r.1, h.1))
same_in low high (e ∷ es) a b x y o (inr h) (inl k) p q = let r = has_above (e.a + 1) e.b es a b o.2 h in absurd (omega (arith, r.0, k.0))
same_in low high (e ∷ es) a b x y o (inr h) (inr k) p q = same_in (e.a + 1) e.b es a b x y o.2 h k p q

-- lists in order with the same points are the same
pub same_points : (low high : ℕ) (es fs : List Entry) → Ordered low high es → Ordered low high fs → ((a b : ℕ) → Has es a b → Has fs a b) → ((a b : ℕ) → Has fs a b → Has es a b) → points es ≡ points fs
same_points low high [] [] o p f g = refl
same_points low high [] (x ∷ fs) o p f g = absurd (g x.a x.b (inl (refl, refl)))
same_points low high (e ∷ es) [] o p f g = absurd (f e.a e.b (inl (refl, refl)))
same_points low high (e ∷ es) (x ∷ fs) o p f g =
    let same = heads (f e.a e.b (inl (refl, refl))) (g x.a x.b (inl (refl, refl))) in
    let tail-e : Ordered (e.a + 1) e.b es = o.2 in
    let tail-x : Ordered (e.a + 1) e.b fs = subst (λ (k : ℕ). Ordered (k + 1) e.b fs) (sym same.0) (subst (λ (k : ℕ). Ordered (x.a + 1) k fs) (sym same.1) p.2) in
    let rest = same_points (e.a + 1) e.b es fs tail-e tail-x
    (λ a b h. later_x same a b (has_above (e.a + 1) e.b es a b o.2 h).0 (f a b (inr h)))
    (λ a b h. later_e same a b (has_above (x.a + 1) x.b fs a b p.2 h).0 (g a b (inr h))) in
    ap (λ (k : ℕ × ℕ). k ∷ points es) (pair same.0 same.1) ∙ ap (λ (k : List (ℕ × ℕ)). (x.a, x.b) ∷ k) rest
  where
    pair : {a b c d : ℕ} → a ≡ c → b ≡ d → ◌≡◌ {A = ℕ × ℕ} (a, b) (c, d)
    pair {a} {b} {c} {d} q r = ap (λ (k : ℕ). (k, b)) q ∙ ap (λ (k : ℕ). (c, k)) r

    heads : Has (x ∷ fs) e.a e.b → Has (e ∷ es) x.a x.b → (e.a ≡ x.a) × (e.b ≡ x.b)
    heads (inl h) k = (sym h.0, sym h.1)
    heads (inr h) (inl k) = (k.0, k.1)
    heads (inr h) (inr k) =
        let r = has_above (x.a + 1) x.b fs e.a e.b p.2 h in
        let t = has_above (e.a + 1) e.b es x.a x.b o.2 k in
        absurd (omega (arith, r.0, t.0))

    later_x : (e.a ≡ x.a) × (e.b ≡ x.b) → (a b : ℕ) → e.a + 1 ≤ a → Has (x ∷ fs) a b → Has fs a b
    later_x same a b lt (inl h) = absurd (omega (arith, h.0, same.0))
    later_x same a b lt (inr h) = h

    later_e : (e.a ≡ x.a) × (e.b ≡ x.b) → (a b : ℕ) → x.a + 1 ≤ a → Has (e ∷ es) a b → Has es a b
    later_e same a b lt (inl h) = absurd (omega (arith, h.0, same.0))
    later_e same a b lt (inr h) = h

-- what covers a point in a list, as a point of the list with its plan
found : (s : Scales) (m : Meaning) (es : List Entry) (x y : ℕ) → All (Shown s m) es → covered es x y ≡ true → (e : Entry) × Shown s m e × Has es e.a e.b × (e.a ≤ x) × (e.b ≤ y)
found s m [] x y l h = absurd (never (sym h))
found s m (e ∷ es) x y l h = by (λ t. found s m es x y l.1 t) (or_cases _ _ h)
  where
    by : (covered es x y ≡ true → (f : Entry) × Shown s m f × Has es f.a f.b × (f.a ≤ x) × (f.b ≤ y)) → ((leb e.a x && leb e.b y) ≡ true) ⊎ (covered es x y ≡ true)
        → (f : Entry) × Shown s m f × Has (e ∷ es) f.a f.b × (f.a ≤ x) × (f.b ≤ y)
    by go (inl t) = let p = and_parts _ _ t in (e, l.0, inl (refl, refl), leb-true e.a x p.0, leb-true e.b y p.1)
    by go (inr t) = let r = go t in (r.0, r.1, inr r.2, r.3, r.4)

-- each point of a list has its plan
plan_of : (s : Scales) (m : Meaning) (es : List Entry) (a b : ℕ) → All (Shown s m) es → Has es a b → (w : ℕ) × Plan s m w × (cost_a s m w ≡ a) × (cost_b s m w ≡ b)
plan_of s m [] a b l h = absurd h
plan_of s m (e ∷ es) a b l (inl h) = (e.word, l.0.plan, l.0.is_a ∙ h.0, l.0.is_b ∙ h.1)
plan_of s m (e ∷ es) a b l (inr h) = plan_of s m es a b l.1 h

module _ (s : Scales) (m : Meaning) (es fs : List Entry) (le : All (Shown s m) es) (lf : All (Shown s m) fs) (oe : Ordered 0 201 es) (of : Ordered 0 201 fs) (ce : CoversAll s m es) (cf : CoversAll s m fs) where
  -- a point of one list is one of the other: what covers it there is covered here again
  moves : (a b : ℕ) → Has es a b → Has fs a b
  moves a b h =
      let w = plan_of s m es a b le h in
      let f = found s m fs (cost_a s m w.0) (cost_b s m w.0) lf (cf w.0 w.1) in
      let g = found s m es f.0.a f.0.b le (subst (λ (k : ℕ). covered es k f.0.b ≡ true) f.1.is_a (subst (λ (k : ℕ). covered es (cost_a s m f.0.word) k ≡ true) f.1.is_b (ce f.0.word f.1.plan))) in
      let q = same_in 0 201 es g.0.a g.0.b a b oe g.2 h (omega (arith, g.3, f.3, w.2)) (omega (arith, g.4, f.4, w.3)) in
      let x : f.0.a ≡ a = omega (arith, g.3, f.3, w.2, q.0) in
      let y : f.0.b ≡ b = omega (arith, g.4, f.4, w.3, q.1) in
      subst (λ (k : ℕ). Has fs k b) x (subst (λ (k : ℕ). Has fs f.0.a k) y f.2)

pub one_list : (s : Scales) (m : Meaning) (es fs : List Entry) → All (Shown s m) es → All (Shown s m) fs → Ordered 0 201 es → Ordered 0 201 fs → CoversAll s m es → CoversAll s m fs → points es ≡ points fs
one_list s m es fs le lf oe of ce cf = same_points 0 201 es fs oe of (moves s m es fs le lf oe of ce cf) (moves s m fs es lf le of oe cf ce)

pub shown_of : (s : Scales) (m : Meaning) (es : List Entry) → All (Listed s m) es → All (Shown s m) es
shown_of s m [] l = tt
shown_of s m (e ∷ es) l = (record { plan = l.0.plan; is_a = ap (λ (p : ℕ × ℕ). p.0) l.0.shows; is_b = ap (λ (p : ℕ × ℕ). p.1) l.0.shows }, shown_of s m es l.1)
