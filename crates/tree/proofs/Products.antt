-- How large the numbers of a tree can be.
use Rattle.std.proofs.Common.{ℕ, ◌*◌, ◌≤◌, mul-le-mul_right, arith}

pub few_extra : (x y : ℕ) → x ≤ 63 → y ≤ 400 → x * y ≤ 25200
few_extra x y h k = let p : x * y ≤ 63 * y = mul-le-mul_right y h in omega arith
