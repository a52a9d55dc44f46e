use Rattle.std.proofs.Common.{◌≡◌}
use Rattle.planner.specs.Left.{left}
use Rattle.planner.specs.Search.{Narrowed}
use Rattle.planner.proofs.halve.find_least.Given as goal

abbrev pub invariant-loop-search : goal.invariant-loop-search
invariant-loop-search g l =
    let j = g.J.Judge in
    (j.meaning l.judge ≡ j.meaning l.initial.judge) × (l.search.most ≡ l.initial.search.most) × Narrowed j.scales (j.meaning l.initial.judge) l.search

abbrev pub decreases-loop-search : goal.decreases-loop-search
decreases-loop-search g l = left l.search
