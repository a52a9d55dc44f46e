-- The format of a job. Each command is a command byte with operands of a fixed size.
use Rattle.std.specs.Prelude.{ℕ, ◌+◌, ◌*◌, ◌<◌, ◌≤◌, cond, List, map, length, take, drop, ℤ, pos, ◌-ℤ◌, Some, None, Ok, Err, Option, Result, ◌==◌, nat_le, nat_lt, slice_index}
use Rattle.decode.specs.declared.command.Command.{Command}
use Rattle.decode.specs.declared.command.Command.TheVariants.{SetUp, Rule, PriceA, PriceB, Step, Restart, Read}
use Rattle.decode.specs.declared.command.Spoilt.{Spoilt}
use Rattle.decode.specs.declared.command.Spoilt.TheVariants.{Unknown, CutOff}

-- a mark is a signed byte
abbrev pub mark_of : ℕ → ℤ
mark_of b = cond (nat_lt b 128) (pos b) (pos b -ℤ pos 256)

abbrev pub byte : List ℕ → ℕ → ℕ
byte bs k = slice_index bs k

-- what the bytes of a command say, the command byte first
abbrev pub set_up : List ℕ → Command
set_up bs = SetUp (byte bs 1) (byte bs 2) (byte bs 3 + 256 * byte bs 4)

abbrev pub rule : List ℕ → Command
rule bs = Rule (byte bs 1) (map mark_of (take 8 (drop 2 bs)))

abbrev pub price_a : List ℕ → Command
price_a bs = PriceA (mark_of (byte bs 1)) (byte bs 2)

abbrev pub price_b : List ℕ → Command
price_b bs = PriceB (mark_of (byte bs 1)) (byte bs 2)

abbrev pub read : List ℕ → Command
read bs = Read (byte bs 1)

-- the size of a command with its command byte, and what its bytes say
pub record Form : Type 0 where
  pub size : ℕ
  pub says : List ℕ → Command

abbrev pub form : ℕ → (List ℕ → Command) → Option Form
form n f = Some (record { size = n; says = f })

-- the form of a command by its command byte
abbrev pub form_of : ℕ → Option Form
form_of b =
    cond (b == 1) (form 5 set_up)
    (cond (b == 2) (form 10 rule)
    (cond (b == 3) (form 3 price_a)
    (cond (b == 4) (form 3 price_b)
    (cond (b == 5) (form 1 (λ _. Step))
    (cond (b == 6) (form 1 (λ _. Restart))
    (cond (b == 7) (form 2 read)
    None))))))

-- bytes read as a command of a form, with the offset of the next command
abbrev pub read_as : Option Form → ℕ → List ℕ → Result (Command × ℕ) Spoilt
read_as None at bs = Err Unknown
read_as (Some f) at bs =
    cond (nat_le f.size (length bs)) (Ok (f.says bs, at + f.size)) (Err CutOff)

-- the command that the bytes from an offset on begin with
abbrev pub first_command : ℕ → List ℕ → Result (Command × ℕ) Spoilt
first_command at bs = read_as (form_of (byte bs 0)) at bs

-- what stands at an offset of a job: nothing at its end or past it
abbrev pub command_at : List ℕ → ℕ → Option (Result (Command × ℕ) Spoilt)
command_at job at = cond (nat_lt at (length job)) (Some (first_command at (drop at job))) None

-- the next command stands further on, and no further than the end, so that a walk over a job ends
abbrev pub Advances : List ℕ → ℕ → Option (Result (Command × ℕ) Spoilt) → Type 0
Advances job at None = Unit {0}
Advances job at (Some (Err e)) = Unit {0}
Advances job at (Some (Ok (c, next))) = (at < next) × (next ≤ length job)
