-- The bytes of a command, as who writes a job has them.
use Rattle.std.specs.Prelude.{◌≡◌, ℕ, ◌+◌, ◌-◌, ◌/◌, ◌%◌, List, [], ◌∷◌, length, map, ℤ, pos, negsuc, Some, None, Ok, Err, Option, Result}
use Rattle.std.specs.List.{between}
use Rattle.decode.specs.declared.command.Command.{Command}
use Rattle.decode.specs.declared.command.Command.TheVariants.{SetUp, Rule, PriceA, PriceB, Step, Restart, Read}
use Rattle.decode.specs.declared.command.Spoilt.{Spoilt}

-- negsuc n is -(n + 1), which is 255 - n as a byte
abbrev pub byte_of : ℤ → ℕ
byte_of (pos n) = n
byte_of (negsuc n) = 255 - n

abbrev pub bytes_of : Command → List ℕ
bytes_of (SetUp n q r) = 1 ∷ n ∷ q ∷ r % 256 ∷ r / 256 ∷ []
bytes_of (Rule count marks) = 2 ∷ count ∷ map byte_of marks
bytes_of (PriceA mark place) = 3 ∷ byte_of mark ∷ place ∷ []
bytes_of (PriceB mark place) = 4 ∷ byte_of mark ∷ place ∷ []
bytes_of Step = 5 ∷ []
bytes_of Restart = 6 ∷ []
bytes_of (Read index) = 7 ∷ index ∷ []

-- a command that was read at an offset, with the offset that comes after its bytes
abbrev pub placed : ℕ → Result Command Spoilt → Result (Command × ℕ) Spoilt
placed at (Ok c) = Ok (c, at + length (bytes_of c))
placed at (Err e) = Err e

-- the bytes from the offset to the next one are those of the command that was read
abbrev pub Spells : List ℕ → ℕ → Option (Result (Command × ℕ) Spoilt) → Type 0
Spells job at None = Unit {0}
Spells job at (Some (Err e)) = Unit {0}
Spells job at (Some (Ok (c, next))) = between at next job ≡ bytes_of c
