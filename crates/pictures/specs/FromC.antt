-- What a C program gets for the bytes of a picture of any of the three kinds. Assumes nothing.
use Rattle.std.specs.Prelude.{◌≡◌, ℕ, ◌^◌, ◌<◌, cond, not, List, length, ◌==◌, ◌≢◌, nat_lt}
use Rattle.pictures.specs.Reading.{Verdict, format_in, head_in}

-- The refusal of a picture of no known kind.
abbrev pub unknown_kind : List ℕ → ℕ
unknown_kind bytes = cond (nat_lt (length bytes) 9) 20 (cond (not (format_in bytes == 1)) 21 22)

-- The verdict on a kind whose codes are the numbers below a limit, whichever slip is at fault.
abbrev pub JudgedAs : ℕ → ℕ → ℕ → List ℕ → ℕ → Type 0
JudgedAs kind width limit bytes n = (slip : ℕ) × Verdict (λ code. code < limit) kind width bytes n slip

-- 0 for a sound picture, otherwise the number of the refusal.
pub record Judged (bytes : List ℕ) (n : ℕ) : Type 0 where
  pub word : (head_in bytes).kind ≡ 1 → JudgedAs 1 32 (2 ^ 32) bytes n
  pub mask : (head_in bytes).kind ≡ 2 → JudgedAs 2 8 (2 ^ 8) bytes n
  pub dial : (head_in bytes).kind ≡ 3 → JudgedAs 3 14 10000 bytes n
  pub other : ((head_in bytes).kind ≢ 1) → ((head_in bytes).kind ≢ 2) → ((head_in bytes).kind ≢ 3) → n ≡ unknown_kind bytes
