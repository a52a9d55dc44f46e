use Rattle.std.proofs.Common.{◌≡◌, Bool, true, ◌&&◌, List, [], ◌∷◌, refl, subst}
use Rattle.std.proofs.lemmas.Bool.{and_parts}
use Rattle.bits.specs.Bit.{bit}
use Rattle.design.specs.Rule.{meets, meets_all}
use Rattle.design.specs.Cost.{total, total_from}
use Rattle.design.specs.Plan.{Meaning, cost_a, cost_b}
use Rattle.planner.specs.Points.{Listing}
use Rattle.planner.specs.Front.{AllListed}
use Rattle.planner.specs.Runs.{state_of}
use Rattle.samples.specs.Designs.{Each}
use Rattle.samples.proofs.Unique.{one_list, shown_of}
use Rattle.samples.proofs.Checked.{right, shown_by, order_by, covers_by}
use Rattle.layer_samples.specs.Designs.{Layered, samples_of_layers, ListsLayered}
use Rattle.layer_samples.proofs.layer_samples_hold.Goals as goal

-- a sample whose list is right holds of every run
sample_holds : (x : Layered) → right x.scales_of x.meaning x.entries ≡ true → ListsLayered x
sample_holds x r m h l e =
    let p = and_parts _ _ r in
    let q = and_parts _ _ p.1 in
    let es = (state_of m h).entries in
    let c = subst (λ (k : Meaning). AllListed x.scales_of k (state_of m h).entries) e l.0 in
    let g = subst (λ (k : Meaning). Listing x.scales_of k (state_of m h).entries) e l.1 in
    one_list x.scales_of x.meaning es x.entries (shown_of x.scales_of x.meaning es g.listed) (shown_by x.scales_of x.meaning x.entries p.0) g.ordered (order_by 0 201 x.entries q.0)
    c.covers (covers_by x.scales_of x.meaning x.entries q.1)

abbrev all_right : List Layered → Bool
all_right [] = true
all_right (x ∷ xs) = right x.scales_of x.meaning x.entries && all_right xs

all_hold : (xs : List Layered) → all_right xs ≡ true → Each ListsLayered xs
all_hold [] h = tt
all_hold (x ∷ xs) h = let p = and_parts _ _ h in (sample_holds x p.0, all_hold xs p.1)

pub returns : goal.returns
unfolding cost_a cost_b total total_from meets meets_all bit
returns c = record { count = refl; hold = all_hold samples_of_layers refl }
