use Rattle.std.proofs.Common.{List, sym, ap, ◌∙◌}
use Rattle.design.specs.declared.price.Price.{Price}
use Rattle.design.specs.Mark.{all_are_named}
use Rattle.propagation.specs.declared.sides.Sides.{Sides}
use Rattle.propagation.specs.Masks.{ups_of, downs_of, ups_from, downs_from}
use Rattle.pricing.specs.Tables.{marks_in, price_at, take_mark, leave_mark}
use Rattle.pricing.proofs.Tabling.{zero_table}
use Rattle.pricing.proofs.list.PriceList.new.Goals as goal

pub invariant_of-result : goal.invariant_of-result
unfolding all_are_named marks_in price_at ups_of downs_of ups_from downs_from
invariant_of-result c =
    let e = c.requires in
    record {
      named = ap (λ (ps : List Price). all_are_named 64 (marks_in ps)) e;
      take_table = λ k i. zero_table k ∙ sym (ap (λ (ps : List Price). price_at ps (take_mark k)) e);
      leave_table = λ k i. zero_table k ∙ sym (ap (λ (ps : List Price). price_at ps (leave_mark k)) e);
      up_word = ap (λ (z : Sides). z.ups) c.none.ensures ∙ sym (ap (λ (ps : List Price). ups_of (marks_in ps)) e);
      down_word = ap (λ (z : Sides). z.downs) c.none.ensures ∙ sym (ap (λ (ps : List Price). downs_of (marks_in ps)) e);
    }
