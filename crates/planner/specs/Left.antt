-- How much of a search is left: the gap in A, and below it the gap in B.
use Rattle.std.specs.Prelude.{ℕ, ◌+◌, ◌-◌, ◌*◌}
use Rattle.planner.specs.declared.search.Search.{Search}

abbrev pub left : Search → ℕ
left h = (h.best.a - h.least_a) * 256 + (h.best.b - h.least_b)
