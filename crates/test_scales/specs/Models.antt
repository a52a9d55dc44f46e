-- The two scales of the tests, with their laws.
use Rattle.std.specs.Prelude.{ℕ, ◌+◌, min, refl}
use Rattle.std.proofs.Common.{arith}
use Rattle.scales.specs.Laws.{Places, Laws}
use Rattle.scales.specs.Counts.{counted, count_same, added, sums, sums_laws}
use Rattle.scales.specs.declared.count.Count.{Count}

-- with nothing on one side this is the other; two that are at least 1 come to at least 3
abbrev pub two_skips : ℕ → ℕ → ℕ
two_skips p q = min (p + q + min p q) 3

abbrev pub skips_places : Places
skips_places = record { top = 3; join = λ p q. two_skips (min p 3) (min q 3) }

abbrev pub skips_at : ℕ → Count 3
skips_at = counted 3

abbrev pub skips_joined : Count 3 → Count 3 → Count 3
skips_joined x y = record { count = two_skips x.count y.count; within = omega arith }

pub skips_laws : Laws skips_places (λ (v : Count 3). v.count) skips_at skips_joined
skips_laws = record {
  low = omega arith;
  high = omega arith;
  place_at = λ p. refl;
  at_place = λ v. let w = v.within in count_same (omega arith);
  assoc = λ u v w. count_same (omega arith);
  comm = λ u v. count_same (omega arith);
  neutral = λ v. let w = v.within in count_same (omega arith);
  monotone = λ u v w h. omega arith;
  join_is = λ p q. refl;
}

abbrev pub sum_places : Places
sum_places = sums 200

abbrev pub sum_at : ℕ → Count 200
sum_at = counted 200

abbrev pub sum_joined : Count 200 → Count 200 → Count 200
sum_joined = added

pub sum_laws : Laws sum_places (λ (v : Count 200). v.count) sum_at sum_joined
sum_laws = sums_laws 200 (omega arith) (omega arith)
