-- A clause taken apart as its first mark and the rest.
use Rattle.std.proofs.Common.{Option, Bool, ◌≡◌, ℕ, ◌<◌, true, List, length, get_or, ℤ, pos, sym, ap, ◌∙◌}
use Rattle.std.specs.List.{between}
use Rattle.std.proofs.lemmas.List.{nil_from_length}
use Rattle.std.proofs.lemmas.Slice.{first_rest}
use Rattle.std.proofs.lemmas.Bool.{and_parts}
use Rattle.design.specs.Mark.{named, all_are_named}
use Rattle.design.proofs.OfMarks.{all_first}
use Rattle.values.specs.declared.State.{State}
use Rattle.values.specs.Partial.{truth_in, with_open, by_truth, state_from}

pub first_named : (n : ℕ) (ms : List ℤ) → 0 < length ms → all_are_named n ms ≡ true → (named n (get_or ms 0 (pos 0)) ≡ true) × (all_are_named n (between 1 (length ms) ms) ≡ true)
first_named n ms h w = and_parts (named n (get_or ms 0 (pos 0))) (all_are_named n (between 1 (length ms) ms)) (sym (all_first n ms h) ∙ w)

pub state_none : (v ms : List ℤ) (s : State) → length ms ≡ 0 → s ≡ state_from v s ms
unfolding state_from
state_none v ms s h = sym (ap (state_from v s) (nil_from_length ms h))

pub state_first : (v ms : List ℤ) (s : State) → 0 < length ms
    → state_from v s ms
    ≡ by_truth (truth_in v (get_or ms 0 (pos 0))) (state_from v s (between 1 (length ms) ms)) (state_from v (with_open s (get_or ms 0 (pos 0))) (between 1 (length ms) ms))
unfolding state_from
state_first v ms s h = ap (state_from v s) (first_rest ms (pos 0) h)

-- by the first mark's truth
pub state_by : (v ms : List ℤ) (s : State) (t : Option Bool) → 0 < length ms → t ≡ truth_in v (get_or ms 0 (pos 0))
    → state_from v s ms ≡ by_truth t (state_from v s (between 1 (length ms) ms)) (state_from v (with_open s (get_or ms 0 (pos 0))) (between 1 (length ms) ms))
state_by v ms s t h e =
    state_first v ms s h
    ∙ ap (λ x. by_truth x (state_from v s (between 1 (length ms) ms)) (state_from v (with_open s (get_or ms 0 (pos 0))) (between 1 (length ms) ms))) (sym e)
