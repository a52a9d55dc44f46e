-- Parts of a list that are written over.
use Rattle.std.proofs.Common.{◌≡◌, ℕ, suc, ◌+◌, ◌-◌, ◌<◌, ◌≤◌, List, [], ◌∷◌, ◌++◌, length, take, drop, set, ℤ, pos, ap, ◌∙◌, append-nil, arith}
use borrow.Rule.Slice.PartMut.{put_mid}
use Rattle.std.proofs.lemmas.List.{take_rest, drop-drop, drop_all, length-drop}
use Rattle.store.specs.Parts.{over}

-- after a call that was lent &mut s[used..] and wrote over its front
pub lent : {X : Type 0} (s new last : List X) (used : ℕ) → used ≤ length s
    → last ≡ over (take (length s - used) (drop used s)) 0 new
    → put_mid used (length s - used) s last ≡ over s used new
lent s new last used h e =
    let rest : drop (length s - used) (drop used s) ≡ [] = drop_all (length s - used) (drop used s) (simp length-drop (omega arith)) in
    let z : 0 + length new ≡ length new = omega arith in
    let whole : last ≡ new ++ drop (used + length new) s =
    e ∙ (ap (λ x. new ++ drop (0 + length new) x) (take_rest s used)
    ∙ (ap (λ n. new ++ drop n (drop used s)) z ∙ ap (λ x. new ++ x) (drop-drop (length new) used s))) in
    ap (λ p. take used s ++ (last ++ p)) rest ∙ ap (λ p. take used s ++ p) (append-nil last ∙ whole)

-- a length at 0, and marks after it
pub written : (free marks last : List ℤ) (z : ℤ) → 0 < length free → z ≡ pos (length marks) → last ≡ marks
    → put_mid 1 (length marks + 1 - 1) (set free 0 z) last ≡ over free 0 (pos (length marks) ∷ marks)
written [] marks last z h e f = absurd (omega arith)
written (r ∷ rs) marks last z h e f =
    let k : length marks + 1 - 1 ≡ length marks = omega arith in
    let q : 0 + suc (length marks) ≡ suc (length marks) = omega arith in
    let d : drop (0 + suc (length marks)) (r ∷ rs) ≡ drop (length marks) rs = ap (λ n. drop n (r ∷ rs)) q in
    cc
