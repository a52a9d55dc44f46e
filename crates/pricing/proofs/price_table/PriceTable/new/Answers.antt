use Rattle.std.proofs.Common.{◌≡◌, length, vec_items, vec_len, ap, ◌∙◌, arith}
use Rattle.pricing.proofs.Entering.{no_prices}
use Rattle.pricing.proofs.price_table.PriceTable.new.Goals as goal

pub invariant_of-result : goal.invariant_of-result
invariant_of-result g c =
    let e = ap vec_items c.new.ensures ∙ c.requires in
    let v : vec_len c.new.result.entries ≡ length (vec_items c.new.result.entries) = c.new.result.entries.ok.0 in
    record { fits = omega (arith, v, ap length e); kept = no_prices _ (vec_items c.new.result.entries) e }
