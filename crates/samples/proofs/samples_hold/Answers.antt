use Rattle.std.proofs.Common.{◌≡◌, Bool, true, ◌&&◌, List, [], ◌∷◌, refl, subst}
use Rattle.std.proofs.lemmas.Bool.{and_parts}
use Rattle.bits.specs.Bit.{bit}
use Rattle.design.specs.Rule.{meets, meets_all}
use Rattle.design.specs.Cost.{total, total_from}
use Rattle.design.specs.Plan.{Meaning, cost_a, cost_b}
use Rattle.planner.specs.Points.{Listing}
use Rattle.planner.specs.Front.{AllListed}
use Rattle.planner.specs.Runs.{state_of}
use Rattle.samples.specs.Designs.{Sample, samples, scales, ListsThem, Each}
use Rattle.samples.proofs.Unique.{one_list, shown_of}
use Rattle.samples.proofs.Checked.{right, shown_by, order_by, covers_by}
use Rattle.samples.proofs.samples_hold.Goals as goal

-- a sample whose list is right holds of every run
sample_holds : (x : Sample) → right scales x.meaning x.entries ≡ true → ListsThem x
sample_holds x r m h l e =
    let p = and_parts _ _ r in
    let q = and_parts _ _ p.1 in
    let es = (state_of m h).entries in
    let c = subst (λ (k : Meaning). AllListed scales k (state_of m h).entries) e l.0 in
    let g = subst (λ (k : Meaning). Listing scales k (state_of m h).entries) e l.1 in
    one_list scales x.meaning es x.entries (shown_of scales x.meaning es g.listed) (shown_by scales x.meaning x.entries p.0) g.ordered (order_by 0 201 x.entries q.0)
    c.covers (covers_by scales x.meaning x.entries q.1)

abbrev all_right : List Sample → Bool
all_right [] = true
all_right (x ∷ xs) = right scales x.meaning x.entries && all_right xs

all_hold : (xs : List Sample) → all_right xs ≡ true → Each ListsThem xs
all_hold [] h = tt
all_hold (x ∷ xs) h = let p = and_parts _ _ h in (sample_holds x p.0, all_hold xs p.1)

pub returns : goal.returns
unfolding cost_a cost_b total total_from meets meets_all bit
returns c = record { count = refl; hold = (all_hold samples refl, (refl, (refl, (refl, (refl, (refl, tt)))))) }
