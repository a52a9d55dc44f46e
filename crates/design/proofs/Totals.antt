-- What joined prices come to, on every scale.
use Rattle.std.proofs.Common.{◌≡◌, ℕ, zero, suc, ◌+◌, ◌<◌, ◌≤◌, Bool, true, false, cond, ◌⊎◌, List, [], ◌∷◌, ◌++◌, length, get_or, take, ℤ, sym, refl, ap, ◌∙◌, inl, inr, arith}
use Rattle.std.proofs.lemmas.List.{take_more}
use Rattle.scales.specs.Laws.{Places}
use Rattle.scales.proofs.ByPlaces.{PlaceLaws}
use Rattle.design.specs.Cost.{with_price, total_from, total}
use Rattle.design.specs.declared.price.Price.{Price}
use Rattle.design.proofs.Truth.{never}

-- each price whose mark passes the first test passes the second
abbrev pub Wider : List Price → (ℤ → Bool) → (ℤ → Bool) → Type 0
Wider [] t t' = Unit {0}
Wider (p ∷ ps) t t' = (t p.mark ≡ true → t' p.mark ≡ true) × Wider ps t t'

-- some price of the mark is at least x, or x is 0
unfoldable pub Offered : List Price → ℤ → ℕ → Type 0
Offered [] m x = x ≡ 0
Offered (p ∷ ps) m x = ((p.mark ≡ m) × (x ≤ p.place)) ⊎ Offered ps m x

pub total_none : (s : Places) (t : ℤ → Bool) → total s t [] ≡ 0
unfolding total total_from
total_none s t = refl

more_from : (s : Places) (t : ℤ → Bool) (c : ℕ) (ps : List Price) (p : Price) → total_from s t c (ps ++ p ∷ []) ≡ with_price s t (total_from s t c ps) p
unfolding total_from
more_from s t c [] p = refl
more_from s t c (q ∷ ps) p = more_from s t (with_price s t c q) ps p

-- one price more at the end
pub total_next : (s : Places) (t : ℤ → Bool) (ps : List Price) (i : ℕ) (d : Price) → i < length ps → total s t (take (i + 1) ps) ≡ with_price s t (total s t (take i ps)) (get_or ps i d)
unfolding total
total_next s t ps i d h = ap (total_from s t 0) (take_more ps i d h) ∙ more_from s t 0 (take i ps) (get_or ps i d)

module _ (s : Places) (l : PlaceLaws s) where
  stays : (c y : ℕ) (b : Bool) → c ≤ s.top → cond b (s.join c y) c ≤ s.top
  stays c y true h = l.under c y
  stays c y false h = h

  under_from : (t : ℤ → Bool) (c : ℕ) (ps : List Price) → c ≤ s.top → total_from s t c ps ≤ s.top
  unfolding total_from
  under_from t c [] h = h
  under_from t c (p ∷ ps) h = under_from t (with_price s t c p) ps (stays c p.place (t p.mark) h)

  pub total_under : (t : ℤ → Bool) (ps : List Price) → total s t ps ≤ s.top
  unfolding total
  total_under t ps = under_from t 0 ps (omega arith)

  one_wider : (c d y : ℕ) (b b' : Bool) → (b ≡ true → b' ≡ true) → c ≤ d → c ≤ s.top → d ≤ s.top → cond b (s.join c y) c ≤ cond b' (s.join d y) d
  one_wider c d y true true w h k k' = l.mono c d y h
  one_wider c d y true false w h k k' = absurd (never (sym (w refl)))
  one_wider c d y false true w h k k' = let g = l.grows d y k' in omega arith
  one_wider c d y false false w h k k' = h

  wider_from : (t t' : ℤ → Bool) (ps : List Price) → Wider ps t t' → (c d : ℕ) → c ≤ d → c ≤ s.top → d ≤ s.top → total_from s t c ps ≤ total_from s t' d ps
  unfolding total_from
  wider_from t t' [] w c d h k k' = h
  wider_from t t' (p ∷ ps) w c d h k k' =
      wider_from t t' ps w.1 (with_price s t c p) (with_price s t' d p)
      (one_wider c d p.place (t p.mark) (t' p.mark) w.0 h k k') (stays c p.place (t p.mark) k) (stays d p.place (t' p.mark) k')

  -- more marks that pass make a total no less
  pub total_wider : (t t' : ℤ → Bool) (ps : List Price) → Wider ps t t' → total s t ps ≤ total s t' ps
  unfolding total
  total_wider t t' ps w = wider_from t t' ps w 0 0 (omega arith) (omega arith) (omega arith)

  -- one price more in front counts as one more at the end
  one_push : (c x d y : ℕ) (b b' : Bool) → (b ≡ true → b' ≡ true) → c ≤ s.top → s.join c x ≤ d
      → s.join (cond b (s.join c y) c) x ≤ cond b' (s.join d y) d
  one_push c x d y true true w h k = let e = l.swap c x y in let m = l.mono (s.join c x) d y k in omega arith
  one_push c x d y true false w h k = absurd (never (sym (w refl)))
  one_push c x d y false true w h k = let p = l.grows (s.join c x) y (l.under c x) in let m = l.mono (s.join c x) d y k in omega arith
  one_push c x d y false false w h k = k

  push : (t t' : ℤ → Bool) (x : ℕ) (ps : List Price) → Wider ps t t' → (c d : ℕ) → c ≤ s.top → s.join c x ≤ d → s.join (total_from s t c ps) x ≤ total_from s t' d ps
  unfolding total_from
  push t t' x [] w c d h k = k
  push t t' x (p ∷ ps) w c d h k =
      push t t' x ps w.1 (with_price s t c p) (with_price s t' d p) (stays c p.place (t p.mark) h)
      (one_push c x d p.place (t p.mark) (t' p.mark) w.0 h k)

  insert : (t t' : ℤ → Bool) (m : ℤ) → t m ≡ false → t' m ≡ true → (x : ℕ) (ps : List Price) → Wider ps t t' → (c d : ℕ) → Offered ps m x → c ≤ d → c ≤ s.top → d ≤ s.top
      → s.join (total_from s t c ps) x ≤ total_from s t' d ps
  unfolding total_from Offered
  insert t t' m f g x [] w c d o h k k' = let e = ap (s.join c) o in let n = l.none c k in omega arith
  insert t t' m f g x (p ∷ ps) w c d (inr o) h k k' =
      insert t t' m f g x ps w.1 (with_price s t c p) (with_price s t' d p) o
      (one_wider c d p.place (t p.mark) (t' p.mark) w.0 h k k') (stays c p.place (t p.mark) k) (stays d p.place (t' p.mark) k')
  insert t t' m f g x (p ∷ ps) w c d (inl o) h k k' =
      push t t' x ps w.1 (with_price s t c p) (with_price s t' d p) (stays c p.place (t p.mark) k)
      (let e : with_price s t c p ≡ c = ap (λ (b : Bool). cond b (s.join c p.place) c) (ap t o.0 ∙ f) in
      let e' : with_price s t' d p ≡ s.join d p.place = ap (λ (b : Bool). cond b (s.join d p.place) d) (ap t' o.0 ∙ g) in
      let e₂ : s.join (with_price s t c p) x ≡ s.join c x = ap (λ (n : ℕ). s.join n x) e in
      let a = l.mono c d x h in
      let b = l.more d x p.place o.1 in
      omega arith)

  -- a mark that joins those that pass brings its price
  pub total_insert : (t t' : ℤ → Bool) (ps : List Price) → Wider ps t t' → (m : ℤ) → t m ≡ false → t' m ≡ true → (x : ℕ) → Offered ps m x → s.join (total s t ps) x ≤ total s t' ps
  unfolding total
  total_insert t t' ps w m f g x o = insert t t' m f g x ps w 0 0 o (omega arith) (omega arith) (omega arith)

pub offered_at : (ps : List Price) (i : ℕ) (d : Price) → i < length ps → Offered ps (get_or ps i d).mark (get_or ps i d).place
unfolding Offered
offered_at [] i d h = absurd (omega arith)
offered_at (q ∷ ps) zero d h = inl (refl, omega arith)
offered_at (q ∷ ps) (suc i) d h = inr (offered_at ps i d (omega arith))
