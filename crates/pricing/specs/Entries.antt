-- A price more in a table.
use Rattle.std.specs.Prelude.{◌≡◌, ◌<◌, ◌≤◌, true, false, [], ◌∷◌, ◌++◌, length, ℤ, vec_items, vec_capacity}
use Rattle.design.specs.Mark.{named}
use Rattle.design.specs.Cost.{priced}
use Rattle.design.specs.declared.price.Price.{Price}
use Rattle.pricing.specs.declared.price_table.PriceTable.{PriceTable}

-- a mark that the table has room for, and that has no price in it
pub record Fresh {S : Type 0} (l : PriceTable S) (m : ℤ) : Type 0 where
  pub names : named l.sizes.choices m ≡ true
  pub first : priced (vec_items l.list.entries) m ≡ false
  pub fits : length (vec_items l.list.entries) < l.sizes.price_room

-- the table with a price more, in memory no smaller
pub record Longer {S : Type 0} (l : PriceTable S) (p : Price) (l' : PriceTable S) : Type 0 where
  pub items : vec_items l'.list.entries ≡ vec_items l.list.entries ++ p ∷ []
  pub memory : vec_capacity l.list.entries ≤ vec_capacity l'.list.entries
  pub sizes : l'.sizes ≡ l.sizes
