-- Parts of lists that begin alike, and marks that name choices.
use Rattle.std.proofs.Common.{◌≡◌, ℕ, zero, suc, ◌+◌, ◌≤◌, true, List, [], ◌∷◌, ◌++◌, take, drop, ℤ, sym, refl, ap, ◌∙◌}
use Rattle.std.proofs.lemmas.List.{take-take, drop-take, drop-drop}
use Rattle.std.proofs.lemmas.Bool.{and_parts, and_from}
use Rattle.std.proofs.Math.Seq.{take-add}
use Rattle.design.specs.Mark.{named, all_are_named}
use Rattle.store.specs.Parts.{part}

-- parts of two lists that begin alike
pub part_front : (s s' : List ℤ) (n from k : ℕ) → take n s' ≡ take n s → from + k ≤ n → part s' from k ≡ part s from k
unfolding part
part_front s s' n from k e h =
    sym (drop-take from k s')
    ∙ (ap (drop from) (sym (take-take (from + k) n s' h) ∙ (ap (take (from + k)) e ∙ take-take (from + k) n s h))
    ∙ drop-take from k s)

pub front_less : (s s' : List ℤ) (n k : ℕ) → take n s' ≡ take n s → k ≤ n → take k s' ≡ take k s
front_less s s' n k e h = sym (take-take k n s' h) ∙ (ap (take k) e ∙ take-take k n s h)

pub part_sum : (s : List ℤ) (from a b : ℕ) → part s from (a + b) ≡ part s from a ++ part s (from + a) b
unfolding part
part_sum s from a b = take-add a b (drop from s) ∙ ap (λ r. take a (drop from s) ++ take b r) (drop-drop a from s)

pub named_one_more : (n : ℕ) (xs : List ℤ) (m : ℤ) → all_are_named n xs ≡ true → named n m ≡ true → all_are_named n (xs ++ m ∷ []) ≡ true
unfolding all_are_named
named_one_more n [] m a b = and_from _ _ b refl
named_one_more n (x ∷ xs) m a b =
    let p = and_parts (named n x) (all_are_named n xs) a in
    and_from _ _ p.0 (named_one_more n xs m p.1 b)

pub named_take : (n k : ℕ) (xs : List ℤ) → all_are_named n xs ≡ true → all_are_named n (take k xs) ≡ true
unfolding all_are_named
named_take n zero xs a = refl
named_take n (suc k) [] a = refl
named_take n (suc k) (x ∷ xs) a =
    let p = and_parts (named n x) (all_are_named n xs) a in
    and_from _ _ p.0 (named_take n k xs p.1)
