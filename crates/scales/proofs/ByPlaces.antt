-- A scale's laws, by places: what all code above uses.
use Rattle.std.proofs.Common.{◌≡◌, ℕ, ◌≤◌, sym, ap, ◌∙◌, arith}
use Rattle.scales.specs.Laws.{Places, Laws}

pub record PlaceLaws (s : Places) : Type 0 where
  pub some : 1 ≤ s.top
  pub few : s.top ≤ 200
  pub mono : (c c' x : ℕ) → c ≤ c' → s.join c x ≤ s.join c' x
  pub more : (c x y : ℕ) → x ≤ y → s.join c x ≤ s.join c y
  pub grows : (c x : ℕ) → c ≤ s.top → c ≤ s.join c x
  pub under : (c x : ℕ) → s.join c x ≤ s.top
  pub swap : (c x y : ℕ) → s.join (s.join c x) y ≡ s.join (s.join c y) x
  pub assoc : (c x y : ℕ) → s.join (s.join c x) y ≡ s.join c (s.join x y)
  pub comm : (c x : ℕ) → s.join c x ≡ s.join x c
  pub none : (c : ℕ) → c ≤ s.top → s.join c 0 ≡ c

module _ {V : Type 0} (s : Places) (place : V → ℕ) (at : ℕ → V) (joined : V → V → V) (l : Laws s place at joined) where
  pub place_below : (v : V) → place v ≤ s.top
  place_below v = let e = ap place (l.at_place v) in let f = l.place_at (place v) in omega arith

  -- the place of two values joined
  pub place_joined : (u v : V) → place (joined u v) ≡ s.join (place u) (place v)
  place_joined u v =
      sym (l.join_is (place u) (place v) ∙ ap (λ (x : V). place (joined x (at (place v)))) (l.at_place u) ∙ ap (λ (x : V). place (joined u x)) (l.at_place v))

  pub place_laws : PlaceLaws s
  place_laws = record { some = l.low; few = l.high; mono = mono; more = more; grows = grows; under = under; swap = swap; assoc = assoc; comm = comm; none = none }
    where
      mono : (c c' x : ℕ) → c ≤ c' → s.join c x ≤ s.join c' x
      mono c c' x h =
          let m = l.monotone (at c) (at c') (at x) (let e = l.place_at c in let f = l.place_at c' in omega arith) in
          omega (arith, l.join_is c x, l.join_is c' x)

      comm : (c x : ℕ) → s.join c x ≡ s.join x c
      comm c x = l.join_is c x ∙ ap place (l.comm (at c) (at x)) ∙ sym (l.join_is x c)

      more : (c x y : ℕ) → x ≤ y → s.join c x ≤ s.join c y
      more c x y h = let m = mono x y c h in omega (arith, comm c x, comm c y)

      none : (c : ℕ) → c ≤ s.top → s.join c 0 ≡ c
      none c h = let e = ap place (l.comm (at c) (at 0) ∙ l.neutral (at c)) in omega (arith, l.join_is c 0, l.place_at c)

      grows : (c x : ℕ) → c ≤ s.top → c ≤ s.join c x
      grows c x h = let m = more c 0 x (omega arith) in let n = none c h in omega arith

      under : (c x : ℕ) → s.join c x ≤ s.top
      under c x = omega (arith, l.join_is c x, place_below (joined (at c) (at x)))

      -- a joined place, as a value
      at_join : (c x : ℕ) → at (s.join c x) ≡ joined (at c) (at x)
      at_join c x = ap at (l.join_is c x) ∙ l.at_place (joined (at c) (at x))

      assoc : (c x y : ℕ) → s.join (s.join c x) y ≡ s.join c (s.join x y)
      assoc c x y =
          l.join_is (s.join c x) y
          ∙ ap (λ (v : V). place (joined v (at y))) (at_join c x)
          ∙ ap place (l.assoc (at c) (at x) (at y))
          ∙ sym (l.join_is c (s.join x y) ∙ ap (λ (v : V). place (joined (at c) v)) (at_join x y))

      swap : (c x y : ℕ) → s.join (s.join c x) y ≡ s.join (s.join c y) x
      swap c x y = assoc c x y ∙ ap (s.join c) (comm x y) ∙ sym (assoc c y x)
