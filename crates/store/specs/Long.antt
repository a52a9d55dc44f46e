-- How long the parts of a store are.
use Rattle.std.specs.Prelude.{◌≡◌, ℕ, ◌+◌, ◌≤◌, List, [], ◌∷◌, length, take, drop, ℤ, refl}
use Rattle.std.proofs.Common.{◌∙◌, ap, arith, length-append}
use Rattle.std.proofs.lemmas.List.{length-take-le, length-drop}
use Rattle.design.specs.Rule.{units_used}
use Rattle.store.specs.Coding.{encode_all}
use Rattle.store.specs.Parts.{clauses_of, part}

pub units_long : (cs : List (List ℤ)) → units_used cs ≡ length (encode_all cs)
unfolding encode_all units_used
units_long [] = refl
units_long (c ∷ cs) = omega (arith, units_long cs, length-append c (encode_all cs))

-- in a sound store the clauses take just what is used
pub units_sound : (s : List ℤ) (used : ℕ) → encode_all (clauses_of s used) ≡ take used s → used ≤ length s → units_used (clauses_of s used) ≡ used
units_sound s used w h = units_long (clauses_of s used) ∙ (ap length w ∙ length-take-le used s h)

pub part_long : (s : List ℤ) (from n : ℕ) → from + n ≤ length s → length (part s from n) ≡ n
unfolding part
part_long s from n h = length-take-le n (drop from s) (simp length-drop (omega arith))
