-- A call by its state before and after, and what that says of every run.
use Rattle.std.proofs.Common.{◌≡◌, ℕ, zero, suc, ◌+◌, ◌<◌, Bool, true, false, List, [], ◌∷◌, ◌++◌, ℤ, Some, None, Result, sym, refl, ap, ◌∙◌, subst, arith}
use Rattle.std.specs.List.{slice_get}
use Rattle.std.specs.Option.{ok_or}
use Rattle.scales.proofs.ByPlaces.{PlaceLaws}
use Rattle.design.specs.declared.fault.JudgeFault.{JudgeFault}
use Rattle.design.specs.Mark.{holds}
use Rattle.design.specs.Plan.{Scales, Meaning, Plan, cost_b}
use Rattle.design.proofs.Totals.{total_under}
use Rattle.judge.specs.Calls.{rule_answer, price_a_answer, price_b_answer, with_rule, with_price_a, with_price_b, price_of}
use Rattle.planner.specs.declared.entry.Entry.{Entry}
use Rattle.planner.specs.declared.entry.PlannerFault.{PlannerFault}
use Rattle.planner.specs.declared.entry.PlannerFault.TheVariants.{NoEntry}
use Rattle.planner.specs.Order.{last_b}
use Rattle.planner.specs.Points.{Listing}
use Rattle.planner.specs.Search.{Least}
use Rattle.planner.specs.Runs.{State, Event, Reply, ruled, priced_a, priced_b, stepped, read_at, read_reply, after, entered, entry_reply, state_of, state_at, Answered, Lawful, Extends}
use Rattle.published.specs.Reading.{ReadsAs}
use Rattle.planner.proofs.Fronts.{all_listed}
use Rattle.planner.proofs.Lists.{Small, all_covered, new_uncovered, listing_more}

pub listing_none : (s : Scales) (m : Meaning) → Listing s m []
listing_none s m = record { listed = tt; ordered = tt; complete = λ v p lt. absurd (omega arith) }

pub listing_of : (s : Scales) (m : Meaning) (h : List Event) → Lawful s m h → Listing s (state_of m h).meaning (state_of m h).entries
listing_of s m [] l = listing_none s m
listing_of s m (e ∷ h) l = l.1

-- an event that is right after a right list extends every lawful run
pub extend_by : (s : Scales) (x : State) (e : Event) (y : State) → after x e ≡ y
    → (Listing s x.meaning x.entries → Answered s x e × Listing s (after x e).meaning (after x e).entries)
    → Extends s x e y
extend_by s x e y p f m h q l =
    let r = f (subst (λ (z : State). Listing s z.meaning z.entries) q (listing_of s m h l)) in (
      ap (λ (z : State). after z e) q ∙ p,
      (subst (λ (z : State). Answered s z e) (sym q) r.0, subst (λ (z : State). Listing s (after z e).meaning (after z e).entries) (sym q) r.1, l),
    )

-- no cost is above the top, and no top above 200
pub small_by : (s : Scales) (m : Meaning) → PlaceLaws s.b → Small s m
unfolding cost_b
small_by s m l v p = omega (arith, total_under s.b l (holds v) m.prices_b, l.few)

pub extend_some : (s : Scales) (m n : Meaning) (es fs : List Entry) (o : Bool) (e : Entry) (most : ℕ) → PlaceLaws s.b → most + 1 ≡ last_b 201 es → Least s m most e
    → n ≡ m → fs ≡ es ++ e ∷ [] → Extends s (state_at m es o) (stepped (Some e)) (state_at n fs true)
extend_some s m n es fs o e most t b f p q =
    extend_by s (state_at m es o) (stepped (Some e)) (state_at n fs true)
    (ap (λ (k : Meaning). state_at k (es ++ e ∷ []) true) (sym p) ∙ ap (λ (k : List Entry). state_at n k true) (sym q))
    (λ l. (new_uncovered s m es e most (small_by s m t) l b f, listing_more s m es e most (small_by s m t) l b f))

pub extend_none : (s : Scales) (m n : Meaning) (es : List Entry) (o : Bool) → PlaceLaws s.b → ReadsAs s m → ((v : ℕ) → Plan s m v → cost_b s m v < last_b 201 es → ⊥)
    → n ≡ m → Extends s (state_at m es o) (stepped None) (state_at n es true)
extend_none s m n es o t r none p =
    extend_by s (state_at m es o) (stepped None) (state_at n es true)
    (ap (λ (k : Meaning). state_at k es true) (sym p))
    (λ l. (all_listed s m r es l (all_covered s m es (small_by s m t) l none), l))

-- a call that enters something, of one of the three kinds: while a listing is open it is refused, and
-- else nothing is listed
module _ (s : Scales) (event : Reply → Event) (next : Meaning → Meaning) (reply : Meaning → Result (Unit {0}) JudgeFault)
    (goes : (x : State) (q : Reply) → after x (event q) ≡ state_at (entered x.meaning (next x.meaning) q) x.entries x.listing)
    (asks : (x : State) (q : Reply) → q ≡ entry_reply x.listing (reply x.meaning) → Answered s x (event q)) where
  stays_right : (m : Meaning) (es : List Entry) (o : Bool) (q : Reply) → (o ≡ false → es ≡ []) → q ≡ entry_reply o (reply m) → Listing s m es → Listing s (entered m (next m) q) es
  stays_right m es true q none e l = rw e l
  stays_right m es false q none e l = rw (none refl) (listing_none s (entered m (next m) q))

  extend_entered : (m n : Meaning) (es : List Entry) (o : Bool) (q : Reply) → (o ≡ false → es ≡ []) → q ≡ entry_reply o (reply m) → n ≡ entered m (next m) q → Extends s (state_at m es o) (event q) (state_at n es o)
  extend_entered m n es o q none e f =
      let g = goes (state_at m es o) q in
      extend_by s (state_at m es o) (event q) (state_at n es o) (g ∙ ap (λ (k : Meaning). state_at k es o) (sym f))
      (λ l. (asks (state_at m es o) q e, rw g (stays_right m es o q none e l)))

module _ (s : Scales) (m n : Meaning) (es : List Entry) (o : Bool) (q : Reply) (none : o ≡ false → es ≡ []) where
  pub extend_ruled : (r : List ℤ) → q ≡ entry_reply o (rule_answer m r) → n ≡ entered m (with_rule m r) q → Extends s (state_at m es o) (ruled r q) (state_at n es o)
  extend_ruled r = extend_entered s (ruled r) (λ k. with_rule k r) (λ k. rule_answer k r) (λ _ _. refl) (λ _ _ e. e) m n es o q none

  pub extend_priced_a : (k : ℤ) (p : ℕ) → q ≡ entry_reply o (price_a_answer s m k p) → n ≡ entered m (with_price_a m (price_of k p)) q → Extends s (state_at m es o) (priced_a k p q) (state_at n es o)
  extend_priced_a k p = extend_entered s (priced_a k p) (λ x. with_price_a x (price_of k p)) (λ x. price_a_answer s x k p) (λ _ _. refl) (λ _ _ e. e) m n es o q none

  pub extend_priced_b : (k : ℤ) (p : ℕ) → q ≡ entry_reply o (price_b_answer s m k p) → n ≡ entered m (with_price_b m (price_of k p)) q → Extends s (state_at m es o) (priced_b k p q) (state_at n es o)
  extend_priced_b k p = extend_entered s (priced_b k p) (λ x. with_price_b x (price_of k p)) (λ x. price_b_answer s x k p) (λ _ _. refl) (λ _ _ e. e) m n es o q none

reply_is : (es : List Entry) (i : ℕ) → ok_or (slice_get es i) NoEntry ≡ read_reply es i
reply_is [] i = refl
reply_is (e ∷ es) zero = refl
reply_is (e ∷ es) (suc i) = reply_is es i

pub extend_read : (s : Scales) (m : Meaning) (es : List Entry) (o : Bool) (i : ℕ) (r : Result Entry PlannerFault) → r ≡ ok_or (slice_get es i) NoEntry → Extends s (state_at m es o) (read_at i r) (state_at m es o)
extend_read s m es o i r e = extend_by s (state_at m es o) (read_at i r) (state_at m es o) refl (λ l. (e ∙ reply_is es i, l))
