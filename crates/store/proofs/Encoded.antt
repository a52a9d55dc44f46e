-- Clauses in a store: reading them back, one more at the end, and the next from a place on.
use Rattle.std.proofs.Common.{◌≡◌, ℕ, zero, suc, ◌+◌, ◌≤◌, true, List, [], ◌∷◌, ◌++◌, length, take, drop, ℤ, pos, nat_abs, sym, refl, ap, ◌∙◌, subst, append_assoc, append-nil, arith, length-append}
use Rattle.std.proofs.lemmas.List.{take_at, drop_at, length-take, take-take}
use Rattle.std.proofs.lemmas.Bool.{and_parts, and_from}
use Rattle.design.specs.Mark.{all_are_named}
use Rattle.solver.specs.Setting.{clauses_named}
use Rattle.store.specs.Coding.{encode, encode_all, decode, clauses_in, Sound}
use Rattle.store.specs.Parts.{clauses_of, part, over}
use Rattle.store.proofs.Over.{take_over_all, drop_over}

pub decode_encode : (cs : List (List ℤ)) (f : ℕ) → length (encode_all cs) ≤ f → decode f (encode_all cs) ≡ cs
unfolding encode_all decode
decode_encode [] zero h = refl
decode_encode [] (suc f) h = refl
decode_encode (c ∷ cs) zero h = absurd (omega arith)
decode_encode (c ∷ cs) (suc f) h =
    let t : take (length c) (c ++ encode_all cs) ≡ c = take_at c (encode_all cs) (length c) refl in
    let d : drop (length c) (c ++ encode_all cs) ≡ encode_all cs = drop_at c (encode_all cs) (length c) refl in
    let r : decode f (encode_all cs) ≡ cs = decode_encode cs f (omega (arith, length-append c (encode_all cs))) in
    let e : decode f (drop (length c) (c ++ encode_all cs)) ≡ cs = ap (decode f) d ∙ r in
    cc

pub encode_more : (cs : List (List ℤ)) (c : List ℤ) → encode_all (cs ++ (c ∷ [])) ≡ encode_all cs ++ encode c
unfolding encode_all
encode_more [] c = append-nil (encode c)
encode_more (d ∷ ds) c = ap (λ r. encode d ++ r) (encode_more ds c) ∙ sym (append_assoc (encode d) (encode_all ds) (encode c))

-- the used part after a clause is written
pub wrote : (s s' c : List ℤ) (used used' : ℕ) → used ≤ length s → used' ≡ used + (length c + 1) → s' ≡ over s used (encode c) → take used' s' ≡ take used s ++ encode c
wrote s s' c used used' h u e = ap (take used') e ∙ take_over_all s used h (encode c) used' (omega arith)

-- one clause more
pub one_more : (s s' c : List ℤ) (used used' : ℕ) → encode_all (clauses_of s used) ≡ take used s → take used' s' ≡ take used s ++ encode c
    → clauses_of s' used' ≡ clauses_of s used ++ (c ∷ [])
unfolding clauses_of clauses_in
one_more s s' c used used' w e =
    let cs = clauses_of s used in
    let is : take used' s' ≡ encode_all (cs ++ (c ∷ [])) = e ∙ (ap (λ r. r ++ encode c) (sym w) ∙ sym (encode_more cs c)) in
    ap (λ x. decode (length x) x) is ∙ decode_encode (cs ++ (c ∷ [])) (length (encode_all (cs ++ (c ∷ [])))) (omega arith)

pub more_sound : (s s' c : List ℤ) (used used' : ℕ) → encode_all (clauses_of s used) ≡ take used s → take used' s' ≡ take used s ++ encode c
    → encode_all (clauses_of s' used') ≡ take used' s'
more_sound s s' c used used' w e =
    ap encode_all (one_more s s' c used used' w e) ∙ (encode_more (clauses_of s used) c ∙ (ap (λ r. r ++ encode c) w ∙ sym e))

pub named_more : (m : ℕ) (cs : List (List ℤ)) (c : List ℤ) → clauses_named m cs ≡ true → all_are_named m c ≡ true → clauses_named m (cs ++ (c ∷ [])) ≡ true
unfolding clauses_named
named_more m [] c w a = rw a
named_more m (d ∷ ds) c w a =
    let p = and_parts (all_are_named m d) (clauses_named m ds) w in
    and_from _ _ p.0 (named_more m ds c p.1 a)

pub no_clauses : (s : List ℤ) → clauses_of s 0 ≡ []
unfolding clauses_of clauses_in decode
no_clauses s = refl

pub encode_none : encode_all [] ≡ []
unfolding encode_all
encode_none = refl

pub named_none : (m : ℕ) → clauses_named m [] ≡ true
unfolding clauses_named
named_none m = refl

-- the part past the clause room stays where only the clause room is written
pub part_kept : (s new : List ℤ) (at from n : ℕ) → at ≤ length s → at + length new ≤ from → part (over s at new) from n ≡ part s from n
unfolding part
part_kept s new at from n h l = ap (take n) (drop_over s at h new from l)

-- the clauses of two stores that begin alike
pub same_clauses : (s s' : List ℤ) (used n : ℕ) → used ≤ n → take n s' ≡ take n s → clauses_of s' used ≡ clauses_of s used
unfolding clauses_of
same_clauses s s' used n h e = ap clauses_in (sym (take-take used n s' h) ∙ (ap (take used) e ∙ take-take used n s h))

pub no_clauses_in : (s : List ℤ) → length s ≡ 0 → clauses_in s ≡ []
unfolding clauses_in decode
no_clauses_in [] h = refl
no_clauses_in (n ∷ s) h = absurd (omega arith)

-- whole clauses of which the first one's length, k, is taken off
pub record TakenOff (s rest : List ℤ) (k : ℕ) : Type 0 where
  pub fits : k ≤ length rest
  pub left : clauses_in s ≡ take k rest ∷ clauses_in (drop k rest)
  pub sound : Sound (drop k rest)

pub taken_off : (s : List ℤ) (n : ℤ) (rest : List ℤ) (k : ℕ) → Sound s → s ≡ n ∷ rest → k ≡ nat_abs n → TakenOff s rest k
unfolding clauses_in decode encode_all
taken_off s n rest k w i h =
    let c = take (nat_abs n) rest in
    let cs = decode (length rest) (drop (nat_abs n) rest) in
    let w' : Sound (n ∷ rest) = subst Sound i w in
    let z : n ≡ pos (length c) = cc in
    let r : c ++ encode_all cs ≡ rest = cc in
    let l : k ≡ length c = h ∙ ap nat_abs z in
    let d : drop k rest ≡ encode_all cs = ap (drop k) (sym r) ∙ (ap (λ x. drop x (c ++ encode_all cs)) l ∙ drop_at c (encode_all cs) (length c) refl) in
    let e : clauses_in (drop k rest) ≡ cs = ap clauses_in d ∙ decode_encode cs (length (encode_all cs)) (omega arith) in
    record {
      fits = omega (arith, l, length-take (nat_abs n) rest);
      left = ap clauses_in i ∙ (ap (λ x. c ∷ x) (sym e) ∙ ap (λ x. take x rest ∷ clauses_in (drop k rest)) (sym h));
      sound = ap encode_all e ∙ sym d;
    }
