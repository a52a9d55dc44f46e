-- Numbers up to a top, and the two ways in which they join.
use Rattle.std.specs.Prelude.{◌≡◌, ℕ, ◌+◌, ◌≤◌, min, max, refl}
use Rattle.std.proofs.Common.{ap, arith}
use mathlib.Core.HLevel.{Σ_prop_path}
use Rattle.std.proofs.Math.Bridge.{le_prop}
use Rattle.scales.specs.Laws.{Places, Laws}
use Rattle.scales.specs.declared.count.Count.{Count}

-- a number above the top is read as the top
abbrev pub counted : (top : ℕ) → ℕ → Count top
counted top n = record { count = min n top; within = omega arith }

abbrev pub added : {top : ℕ} → Count top → Count top → Count top
added {top} x y = counted top (x.count + y.count)

abbrev pub larger : {top : ℕ} → Count top → Count top → Count top
larger x y = record { count = max x.count y.count; within = omega arith }

abbrev to_count : {top : ℕ} → (n : ℕ) × (n ≤ top) → Count top
to_count p = record { count = p.0; within = p.1 }

-- two values of one number are the same
pub count_same : {top : ℕ} {x y : Count top} → x.count ≡ y.count → x ≡ y
count_same {top} {x} {y} e =
    ap to_count (Σ_prop_path (λ (k : ℕ). le_prop {n = k} {m = top}) {u = (x.count, x.within)} {v = (y.count, y.within)} e)

-- what adds up, to the top at most
abbrev pub sums : ℕ → Places
sums top = record { top = top; join = λ p q. min (min p top + min q top) top }

-- what takes the larger
abbrev pub worsts : ℕ → Places
worsts top = record { top = top; join = λ p q. max (min p top) (min q top) }

pub sums_laws : (top : ℕ) → 1 ≤ top → top ≤ 200 → Laws (sums top) (λ (v : Count top). v.count) (counted top) added
sums_laws top low high = record {
  low = low;
  high = high;
  place_at = λ p. refl;
  at_place = λ v. let w = v.within in count_same (omega arith);
  assoc = λ u v w. let a = u.within in let b = w.within in count_same (omega arith);
  comm = λ u v. count_same (omega arith);
  neutral = λ v. let w = v.within in count_same (omega arith);
  monotone = λ u v w h. omega arith;
  join_is = λ p q. refl;
}

pub worsts_laws : (top : ℕ) → 1 ≤ top → top ≤ 200 → Laws (worsts top) (λ (v : Count top). v.count) (counted top) larger
worsts_laws top low high = record {
  low = low;
  high = high;
  place_at = λ p. refl;
  at_place = λ v. let w = v.within in count_same (omega arith);
  assoc = λ u v w. count_same (omega arith);
  comm = λ u v. count_same (omega arith);
  neutral = λ v. let w = v.within in count_same (omega arith);
  monotone = λ u v w h. omega arith;
  join_is = λ p q. refl;
}
