-- Runs: what was called and answered, the newest first, from a planner just made on a judge of some
-- meaning. By a run alone are defined its rules and prices, its list and whether a listing is open.
use Rattle.std.specs.Prelude.{◌≡◌, ℕ, zero, suc, Bool, true, false, cond, List, [], ◌∷◌, ◌++◌, ℤ, Some, None, Ok, Err, vec_items, Option, Result}
use Rattle.design.specs.declared.fault.JudgeFault.{JudgeFault}
use Rattle.design.specs.Plan.{Scales, Meaning}
use Rattle.scales.specs.declared.Scale.{Ghosts as ScaleGhosts}
use Rattle.judge.specs.declared.Judge.{Ghosts}
use Rattle.judge.specs.Calls.{rule_answer, price_a_answer, price_b_answer, with_rule, with_price_a, with_price_b, price_of}
use Rattle.planner.specs.declared.entry.Entry.{Entry}
use Rattle.planner.specs.declared.entry.PlannerFault.{PlannerFault}
use Rattle.planner.specs.declared.entry.PlannerFault.TheVariants.{ListingOpen, NoEntry, Judge}
use Rattle.planner.specs.declared.state.Planner.{Planner}
use Rattle.planner.specs.Order.{covered}
use Rattle.planner.specs.Points.{Listing}
use Rattle.planner.specs.Front.{AllListed}

abbrev pub Reply : Type 0
Reply = Result (Unit {0}) PlannerFault

-- a call with its answer; a step's has the entry that it put into the list
pub data Event : Type 0 where
  ruled : List ℤ → Reply → Event
  priced_a : ℤ → ℕ → Reply → Event
  priced_b : ℤ → ℕ → Reply → Event
  stepped : Option Entry → Event
  restarted : Event
  read_at : ℕ → Result Entry PlannerFault → Event

pub record State : Type 0 where
  pub meaning : Meaning
  pub entries : List Entry
  pub listing : Bool

abbrev pub state_at : Meaning → List Entry → Bool → State
state_at m es o = record { meaning = m; entries = es; listing = o }

abbrev pub start : Meaning → State
start m = state_at m [] false

-- what an accepted entry makes of the meaning; a refused one leaves it
abbrev pub entered : Meaning → Meaning → Reply → Meaning
entered m next (Ok u) = next
entered m next (Err f) = m

-- a run's rules and prices, its list and its listing after one call more
abbrev pub after : State → Event → State
after x (ruled r q) = state_at (entered x.meaning (with_rule x.meaning r) q) x.entries x.listing
after x (priced_a k p q) = state_at (entered x.meaning (with_price_a x.meaning (price_of k p)) q) x.entries x.listing
after x (priced_b k p q) = state_at (entered x.meaning (with_price_b x.meaning (price_of k p)) q) x.entries x.listing
after x (stepped (Some e)) = state_at x.meaning (x.entries ++ e ∷ []) true
after x (stepped None) = state_at x.meaning x.entries true
after x restarted = start x.meaning
after x (read_at i q) = x

abbrev pub state_of : Meaning → List Event → State
state_of m [] = start m
state_of m (e ∷ h) = after (state_of m h) e

abbrev pub raised : Result (Unit {0}) JudgeFault → Reply
raised (Ok u) = Ok u
raised (Err f) = Err (Judge f)

-- an entry is refused while a listing is open, and else as the judge refuses it
abbrev pub entry_reply : Bool → Result (Unit {0}) JudgeFault → Reply
entry_reply listing q = cond listing (Err ListingOpen) (raised q)

-- the entry at an index from 0
abbrev pub read_reply : List Entry → ℕ → Result Entry PlannerFault
read_reply [] i = Err NoEntry
read_reply (e ∷ es) zero = Ok e
read_reply (e ∷ es) (suc i) = read_reply es i

-- what a call has to answer, by the run before it
abbrev pub Answered : Scales → State → Event → Type 0
Answered s x (ruled r q) = q ≡ entry_reply x.listing (rule_answer x.meaning r)
Answered s x (priced_a k p q) = q ≡ entry_reply x.listing (price_a_answer s x.meaning k p)
Answered s x (priced_b k p q) = q ≡ entry_reply x.listing (price_b_answer s x.meaning k p)
Answered s x (stepped (Some e)) = covered x.entries e.a e.b ≡ false
Answered s x (stepped None) = AllListed s x.meaning x.entries
Answered s x restarted = Unit {0}
Answered s x (read_at i q) = q ≡ read_reply x.entries i

-- the law: after each call, the last as each before it, the call was answered as it has to be and the
-- list is right
abbrev pub Lawful : Scales → Meaning → List Event → Type 0
Lawful s m [] = Unit {0}
Lawful s m (e ∷ h) = Answered s (state_of m h) e × Listing s (state_of m (e ∷ h)).meaning (state_of m (e ∷ h)).entries × Lawful s m h

-- of every lawful run that led to x, the call makes a lawful run that leads to y
abbrev pub Extends : Scales → State → Event → State → Type 0
Extends s x e y = (m : Meaning) (h : List Event) → state_of m h ≡ x → Lawful s m h → (state_of m (e ∷ h) ≡ y) × Lawful s m (e ∷ h)

-- a step's answer is the point of the entry that it listed, or none where it listed none
abbrev pub shown : Option Entry → Option (ℕ × ℕ)
shown (Some e) = Some (e.a, e.b)
shown None = None

abbrev pub Steps : Scales → State → Option (ℕ × ℕ) → State → Type 0
Steps s x r y = (o : Option Entry) × (r ≡ shown o) × Extends s x (stepped o) y

-- a planner by its judge's meaning, its list and whether a listing is open
abbrev pub state_in : {J P Q V W : Type 0} {j : Ghosts J P Q V W} {p : ScaleGhosts P V} {q : ScaleGhosts Q W} → (J → Meaning) → Planner J P Q V W j p q → State
state_in meaning p = state_at (meaning p.judge) (vec_items p.entries) p.listing
