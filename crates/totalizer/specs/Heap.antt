-- The heap of one cost. With q prices, nodes q to 2q - 1 are the prices in order of entry, and node
-- i below q joins nodes 2i and 2i + 1; node 1 is the root.
use Rattle.std.specs.Prelude.{◌≡◌, ℕ, zero, suc, ◌+◌, ◌-◌, ◌*◌, ◌<◌, ◌≤◌, min, Bool, true, cond, List, length, get_or, ℤ, pos, nat_le, slice_index_or}
use Rattle.scales.specs.Laws.{Places}
use Rattle.design.specs.Mark.{named}
use Rattle.design.specs.declared.price.Price.{Price}

-- what stands past a list's prices
abbrev pub no_price : Price
no_price = record { mark = pos 0; place = 0 }

-- what a price adds where its mark passes a test; a place above the top is read as the top
abbrev pub paid : Places → (ℤ → Bool) → Price → ℕ
paid s t p = cond (t p.mark) (min p.place s.top) 0

-- the cost below node i, where the heap goes down at most d times from there
unfoldable pub node : Places → (ℤ → Bool) → List Price → ℕ → ℕ → ℕ
node s t ps zero i = paid s t (slice_index_or ps (i - length ps) no_price)
node s t ps (suc d) i =
    cond (nat_le (length ps) i) (paid s t (slice_index_or ps (i - length ps) no_price)) (s.join (node s t ps d (2 * i)) (node s t ps d (2 * i + 1)))

-- the cost below node i: the prices below it whose marks pass a test, joined as the heap has them
unfoldable pub below : Places → (ℤ → Bool) → List Price → ℕ → ℕ
below s t ps i = node s t ps (length ps) i

-- v tells each node's cost
pub record Costs (s : Places) (t : ℤ → Bool) (ps : List Price) (v : ℕ → ℕ) : Type 0 where
  pub leaves : (j : ℕ) → j < length ps → v (length ps + j) ≡ paid s t (slice_index_or ps j no_price)
  pub joins : (i : ℕ) → 1 ≤ i → i < length ps → v i ≡ s.join (v (2 * i)) (v (2 * i + 1))

-- n nodes from a on, joined
unfoldable pub range : Places → (ℕ → ℕ) → ℕ → ℕ → ℕ
range s v a zero = 0
range s v a (suc n) = s.join (range s v a n) (v (a + n))

-- each price's mark names one of the choices 1 to n
abbrev pub MarksNamed : ℕ → List Price → Type 0
MarksNamed n ps = (j : ℕ) → j < length ps → named n (get_or ps j no_price).mark ≡ true
