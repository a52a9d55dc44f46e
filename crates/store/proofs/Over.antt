-- A list with another written over it.
use Rattle.std.proofs.Common.{◌≡◌, ℕ, ◌+◌, ◌-◌, ◌<◌, ◌≤◌, List, [], ◌∷◌, ◌++◌, length, get_or, take, drop, ℤ, pos, sym, refl, ap, ◌∙◌, append_assoc, arith, length-append}
use Rattle.std.proofs.lemmas.List.{drop-drop, length-drop, take_at, drop_at, length-take-le, take_more, get_or-drop}
use Rattle.store.specs.Parts.{over, part}

module _ {X : Type 0} (s : List X) (at : ℕ) (h : at ≤ length s) where
  front_long : (new : List X) → length (take at s ++ new) ≡ at + length new
  front_long new = simp length-append (omega (arith, length-take-le at s h))

  pub over_front : (new : List X) → over s at new ≡ (take at s ++ new) ++ drop (at + length new) s
  over_front new = sym (append_assoc (take at s) new (drop (at + length new) s))

  pub take_over_all : (new : List X) (n : ℕ) → n ≡ at + length new → take n (over s at new) ≡ take at s ++ new
  take_over_all new n e = ap (take n) (over_front new) ∙ take_at (take at s ++ new) (drop (at + length new) s) n (front_long new ∙ sym e)

  pub drop_over : (new : List X) (n : ℕ) → at + length new ≤ n → drop n (over s at new) ≡ drop n s
  drop_over new n l =
      let e : at + length new + (n - (at + length new)) ≡ n = omega arith in
      sym (ap (λ x. drop x (over s at new)) e) ∙ (sym (drop-drop (n - (at + length new)) (at + length new) (over s at new))
      ∙ (ap (drop (n - (at + length new))) (ap (drop (at + length new)) (over_front new) ∙ drop_at (take at s ++ new) (drop (at + length new) s) (at + length new) (front_long new))
      ∙ (drop-drop (n - (at + length new)) (at + length new) s ∙ ap (λ x. drop x s) e)))

pub part_none : (s : List ℤ) (from : ℕ) → part s from 0 ≡ []
unfolding part
part_none s from = refl

pub part_more : (s : List ℤ) (from i : ℕ) → from + i < length s → part s from (i + 1) ≡ part s from i ++ get_or s (from + i) (pos 0) ∷ []
unfolding part
part_more s from i h =
    take_more (drop from s) i (pos 0) (simp length-drop (omega arith)) ∙ ap (λ x. take i (drop from s) ++ x ∷ []) (get_or-drop from s i (pos 0))

-- the part behind the front
pub part_here : (s h rest : List ℤ) (k m : ℕ) → k ≤ length s → length h ≡ m → part (take k s ++ (h ++ rest)) k m ≡ h
unfolding part
part_here s h rest k m l n = ap (take m) (drop_at (take k s) (h ++ rest) k (length-take-le k s l)) ∙ take_at h rest m n
