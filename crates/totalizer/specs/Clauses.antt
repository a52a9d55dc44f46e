-- The clauses and assumptions of one cost.
use Rattle.std.specs.Prelude.{ℕ, zero, suc, ◌+◌, ◌-◌, ◌*◌, ◌/◌, ◌%◌, Bool, true, false, cond, ◌&&◌, List, [], ◌∷◌, ◌++◌, length, ℤ, pos, neg_ℤ, ◌==◌, nat_le, nat_lt, slice_index_or}
use Rattle.scales.specs.Laws.{Places}
use Rattle.design.specs.declared.price.Price.{Price}
use Rattle.solver.specs.Setting.{truth}
use Rattle.totalizer.specs.declared.Literal.{Literal}
use Rattle.totalizer.specs.declared.Literal.TheVariants.{Always, Never, Mark}
use Rattle.totalizer.specs.Heap.{no_price}

-- the extra choice "node i costs at least w", of the choices past b; place 0 has none
abbrev pub number : ℕ → ℕ → ℕ → ℕ → ℕ
number b top i w = b + (i - 1) * top + w

-- what a literal says of a setting
abbrev pub says : (ℕ → Bool) → Literal → Bool
says f Always = true
says f Never = false
says f (Mark m) = truth f m

-- "node i costs at least w": at a price's node, places up to the price stand for its mark
unfoldable pub literal : ℕ → ℕ → List Price → ℕ → ℕ → Literal
literal top b ps i w =
    cond (w == 0) Always
    (cond (nat_lt i (length ps)) (Mark (pos (number b top i w)))
    (cond (nat_le w (slice_index_or ps (i - length ps) no_price).place) (Mark (slice_index_or ps (i - length ps) no_price).mark) Never))

abbrev pub possible : Literal → Bool
possible Always = true
possible Never = false
possible (Mark m) = true

-- what stands in a clause, or among the assumptions, for "not so"
abbrev pub denial : Literal → List ℤ
denial Always = []
denial Never = []
denial (Mark m) = neg_ℤ m ∷ []

-- if both hold, choice n is taken; no clause where one of them cannot hold
unfoldable pub joins_to : Literal → Literal → ℕ → List (List ℤ)
joins_to x y n = cond (possible x && possible y) ((denial x ++ (denial y ++ pos n ∷ [])) ∷ []) []

-- the clause for the places u and v of node i's two children; none for both at 0
unfoldable pub pair : Places → ℕ → List Price → ℕ → ℕ → ℕ → List (List ℤ)
pair s b ps i u v =
    cond (u + v == 0) [] (joins_to (literal s.top b ps (2 * i) u) (literal s.top b ps (2 * i + 1) v) (number b s.top i (s.join u v)))

-- g 0, g 1 and so on, n of them, one after another
unfoldable pub gather : {X : Type 0} → (ℕ → List X) → ℕ → List X
gather g zero = []
gather g (suc n) = gather g n ++ g n

-- the clauses with the place u of the left child
unfoldable pub row : Places → ℕ → List Price → ℕ → ℕ → List (List ℤ)
row s b ps i u = gather (pair s b ps i u) (suc s.top)

-- those of node i
unfoldable pub grid : Places → ℕ → List Price → ℕ → List (List ℤ)
grid s b ps i = gather (row s b ps i) (suc s.top)

-- the nodes below q from the last to the first: children stand before the nodes that join them
abbrev pub from_last : Places → ℕ → List Price → ℕ → List (List ℤ)
from_last s b ps k = grid s b ps (length ps - suc k)

-- all clauses of one cost
unfoldable pub tree : Places → ℕ → List Price → List (List ℤ)
tree s b ps = gather (from_last s b ps) (length ps - 1)

-- the root's k-th place above the bound x, denied
abbrev pub denied : ℕ → ℕ → List Price → ℕ → ℕ → List ℤ
denied top b ps x k = denial (literal top b ps 1 (x + suc k))

-- what a bound x assumes: every place of the root above it denied, or nothing without prices
unfoldable pub assumed : ℕ → ℕ → List Price → ℕ → List ℤ
assumed top b ps x = cond (length ps == 0) [] (gather (denied top b ps x) (top - x))

-- the value of the k-th extra choice of a cost, where v tells the nodes' costs
abbrev pub at_least : ℕ → (ℕ → ℕ) → ℕ → Bool
at_least top v k = nat_le ((k - 1) % top + 1) (v ((k - 1) / top + 1))

-- a setting of n choices, with the extra choices of both costs; those of the first are m
unfoldable pub extended : ℕ → ℕ → ℕ → ℕ → (ℕ → ℕ) → (ℕ → ℕ) → (ℕ → Bool) → ℕ → Bool
extended n m top-a top-b va vb f k =
    cond (nat_le k n) (f k) (cond (nat_le k (n + m)) (at_least top-a va (k - n)) (at_least top-b vb (k - (n + m))))
