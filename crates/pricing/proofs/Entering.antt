-- A price more: what a check let pass keeps the table as it has to be.
use Rattle.std.proofs.Common.{◌≡◌, ℕ, ◌<◌, true, false, List, [], ◌∷◌, ◌++◌, length, ℤ, Ok, Err, OnOk, Result, vec_items, sym, refl, ap, ◌∙◌, inl, inr}
use Rattle.std.proofs.lemmas.Bool.{not_from_false, not-true, or_parts, or_from}
use Rattle.std.proofs.lemmas.Bool.Decides.{nat_tests}
use Rattle.std.proofs.Common.{arith}
use Rattle.design.specs.declared.price.Price.{Price}
use Rattle.design.specs.declared.fault.JudgeFault.{JudgeFault}
use Rattle.design.specs.Mark.{named, same_mark}
use Rattle.design.specs.Cost.{priced}
use Rattle.design.specs.Plan.{prices_kept}
use Rattle.design.specs.Fault.{refused_or}
use Rattle.design.proofs.Truth.{never, tell, both, left_of, right_of}
use Rattle.design.proofs.OfPrices.{same_true, same_from, priced_more}
use Rattle.judge.specs.Calls.{price_fault}
use Rattle.pricing.specs.declared.price_table.PriceTable.{PriceTable}
use Rattle.pricing.specs.Entries.{Fresh}

-- a price that is not refused is one that the table can take
pub passes : {S : Type 0} (l : PriceTable S) (top : ℕ) (m : ℤ) (p : ℕ) (r : Result (Unit {0}) JudgeFault)
    → r ≡ refused_or (price_fault l.sizes.choices l.sizes.price_room top (vec_items l.list.entries) m p) tt → OnOk r (Fresh l m)
passes l top m p (Err f) e = tt
passes l top m p (Ok u) e = let f = fresh (vec_items l.list.entries) e in record { names = f.0; first = f.1; fits = f.2 }
  where
    fresh : (ps : List Price) → ◌≡◌ {A = Result (Unit {0}) JudgeFault} (Ok tt) (refused_or (price_fault l.sizes.choices l.sizes.price_room top ps m p) tt)
        → (named l.sizes.choices m ≡ true) × (priced ps m ≡ false) × (length ps < l.sizes.price_room)
    fresh ps e = (grind (arith, nat_tests), grind (arith, nat_tests), grind (arith, nat_tests))

turned : (x y : ℤ) → same_mark x y ≡ false → same_mark y x ≡ false
turned x y f = elim (tell (same_mark y x)) [ inl t ↦ absurd (never (sym (same_from x y (sym (same_true y x t))) ∙ f)) | inr g ↦ g ]

prices_more : (n : ℕ) (ps : List Price) (p : Price) → prices_kept n ps ≡ true → named n p.mark ≡ true → priced ps p.mark ≡ false → prices_kept n (ps ++ p ∷ []) ≡ true
unfolding prices_kept priced
prices_more n [] p k a f = both _ _ (both _ _ a refl) refl
prices_more n (q ∷ ps) p k a f =
    let o = or_parts (same_mark q.mark p.mark) (priced ps p.mark) f in
    let h = left_of _ _ k in
    both _ _
    (both _ _ (left_of _ _ h) (not_from_false _ (priced_more ps p q.mark ∙ or_from _ _ (not-true _ (right_of (named n q.mark) _ h)) (turned q.mark p.mark o.0))))
    (prices_more n ps p (right_of _ _ k) a o.1)

pub kept_price : (n : ℕ) (ps qs : List Price) (p : Price) → qs ≡ ps ++ p ∷ [] → prices_kept n ps ≡ true → named n p.mark ≡ true → priced ps p.mark ≡ false → prices_kept n qs ≡ true
kept_price n ps qs p e k a f = ap (prices_kept n) e ∙ prices_more n ps p k a f

-- what a check of a price answers, by what its arguments are
pub same_answer : (n room : ℕ) (place : ℕ) {top top' : ℕ} {ps ps' : List Price} {m m' : ℤ} → top ≡ top' → ps ≡ ps' → m ≡ m'
    → ◌≡◌ {A = Result (Unit {0}) JudgeFault} (refused_or (price_fault n room top ps m place) tt) (refused_or (price_fault n room top' ps' m' place) tt)
same_answer n room place {top} {top'} {ps} {ps'} {m} {m'} e f h =
    ap (λ (x : ℕ). refused_or (price_fault n room x ps m place) tt) e
    ∙ ap (λ (x : List Price). refused_or (price_fault n room top' x m place) tt) f
    ∙ ap (λ (x : ℤ). refused_or (price_fault n room top' ps' x place) tt) h

pub no_prices : (n : ℕ) (ps : List Price) → ps ≡ [] → prices_kept n ps ≡ true
unfolding prices_kept
no_prices n ps e = ap (prices_kept n) e
