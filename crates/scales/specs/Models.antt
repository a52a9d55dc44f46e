-- Hours and needles, with their laws.
use Rattle.std.specs.Prelude.{ℕ}
use Rattle.std.proofs.Common.{arith}
use Rattle.scales.specs.Laws.{Places, Laws}
use Rattle.scales.specs.Counts.{counted, added, larger, sums, worsts, sums_laws, worsts_laws}
use Rattle.scales.specs.declared.count.Count.{Count}

-- a place above 40 is read as 40, and so is a sum
abbrev pub hours_places : Places
hours_places = sums 40

abbrev pub quarters_at : ℕ → Count 40
quarters_at = counted 40

abbrev pub quarters_sum : Count 40 → Count 40 → Count 40
quarters_sum = added

pub hours_laws : Laws hours_places (λ (v : Count 40). v.count) quarters_at quarters_sum
hours_laws = sums_laws 40 (omega arith) (omega arith)

abbrev pub needles_places : Places
needles_places = worsts 24

abbrev pub needles_at : ℕ → Count 24
needles_at = counted 24

abbrev pub needles_larger : Count 24 → Count 24 → Count 24
needles_larger = larger

pub needles_laws : Laws needles_places (λ (v : Count 24). v.count) needles_at needles_larger
needles_laws = worsts_laws 24 (omega arith) (omega arith)
