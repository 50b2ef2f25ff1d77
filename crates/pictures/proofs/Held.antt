-- What a reader or a writer of bits holds: bits put behind it, and its top taken off. Assumes nothing.
use Rattle.std.proofs.Common.{◌≡◌, ℕ, ◌+◌, ◌-◌, ◌*◌, ◌/◌, ◌%◌, ◌^◌, ◌<◌, mod-eq_of_lt, mul_comm, arith}
use Rattle.std.proofs.lemmas.Nat.{mul-add-lt, pow-add, shr_split}

-- with more bits behind it, it fits its bits
pub held_fits : (held bits more low : ℕ) → held < 2 ^ bits → low < 2 ^ more → held * 2 ^ more + low < 2 ^ (bits + more)
held_fits held bits more low small fits = omega (arith, pow-add 2 bits more, mul-add-lt held (2 ^ more) low (2 ^ bits) small fits, mul_comm (2 ^ bits) (2 ^ more))

-- without its top, its lowest bits are left
pub top_off : (held low : ℕ) → held < 2 ^ 64 → held - held / 2 ^ low * 2 ^ low % 2 ^ 64 ≡ held % 2 ^ low
top_off held low fits =
    let parts = shr_split held low in
    omega (arith, mod-eq_of_lt {n = held / 2 ^ low * 2 ^ low} {m = 2 ^ 64} (omega arith))
