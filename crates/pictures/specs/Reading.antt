-- What a picture says, by its bytes, and what check and load answer. Assumes nothing.
use Rattle.std.specs.Prelude.{◌≡◌, ℕ, ◌+◌, ◌-◌, ◌*◌, ◌/◌, ◌%◌, ◌^◌, ◌<◌, ◌≤◌, Bool, cond, not, ◌||◌, ◌⊎◌, List, map, length, take, drop, All, Option, Result, MatchOption, MatchResult, ◌==◌, ◌≢◌, nat_lt, slice_index}
use Rattle.std.specs.Int.Digits.{number_from_digits}
use Rattle.kinds.specs.Codes.{code_of}
use Rattle.kinds.specs.declared.kind.Kind.{Kind}
use Rattle.plans.specs.Binomial.{choose}
use Rattle.plans.specs.Refusals.{outside}
use Rattle.sharing.specs.Format.{Head, body_length, digits, filling, picture}
use Rattle.pictures.specs.Faults.{number_of, slip_of}
use Rattle.pictures.specs.declared.fault.CardFault.{CardFault}
use Rattle.pictures.specs.declared.head.CardHead.{CardHead}

-- The format stands in the upper half of the first byte.
abbrev pub format_in : List ℕ → ℕ
format_in bytes = slice_index bytes 0 / 16

-- What the first nine bytes say: five halves of a byte, the issue in four bytes and the round in two.
abbrev pub head_in : List ℕ → Head
head_in bytes =
    record { kind = slice_index bytes 0 % 16; harbours = slice_index bytes 1 / 16; threshold = slice_index bytes 1 % 16; harbour = slice_index bytes 2 / 16; components = slice_index bytes 2 % 16; issue = number_from_digits 256 (take 4 (drop 3 bytes)); round = number_from_digits 256 (take 2 (drop 7 bytes)) }

-- The known kind that the first byte names, where it names one.
abbrev pub NamesKind : List ℕ → Option Kind → Type 0
NamesKind bytes r = MatchOption r ((kind : Kind) → code_of kind ≢ (head_in bytes).kind) (λ kind. code_of kind ≡ (head_in bytes).kind)

-- How many slips the card of a head has.
abbrev pub slips_of : Head → ℕ
slips_of h = h.components * choose (h.harbours - 1) (h.threshold - 1)

-- Whether harbours, threshold, components or harbour are outside their ranges.
abbrev pub unfit : ℕ → ℕ → ℕ → ℕ → Bool
unfit n t k harbour = outside 1 10 n || (outside 1 n t || (outside 1 8 k || outside 1 n harbour))

abbrev pub unfit_head : Head → Bool
unfit_head h = unfit h.harbours h.threshold h.components h.harbour

-- The refusal that the head and the length give, and 0 where they give none.
abbrev pub head_refusal : ℕ → ℕ → List ℕ → ℕ
head_refusal kind width bytes =
    cond (nat_lt (length bytes) 9) 20
    (cond (not (format_in bytes == 1)) 21
    (cond (not ((head_in bytes).kind == kind)) 22
    (cond (unfit_head (head_in bytes)) 23
    (cond (not (length bytes == 9 + body_length width (slips_of (head_in bytes)))) 24 0))))

-- A body holds so many codes of so many bits, no more than a card has.
abbrev pub HoldsCodes : ℕ → ℕ → List ℕ → Type 0
HoldsCodes width n body = (n ≤ 2016) × (length body ≡ body_length width n)

-- So many codes, from the first bit of the body on, highest bit first.
abbrev pub codes_of : ℕ → ℕ → List ℕ → List ℕ
codes_of width n body = digits (2 ^ width) n (number_from_digits 256 body / 2 ^ filling width n)

abbrev pub codes_in : ℕ → List ℕ → List ℕ
codes_in width bytes = codes_of width (slips_of (head_in bytes)) (drop 9 bytes)

-- What the bits behind the codes make, as a number.
abbrev pub rest_of : ℕ → ℕ → List ℕ → ℕ
rest_of width n body = number_from_digits 256 body % 2 ^ filling width n

abbrev pub rest_in : ℕ → List ℕ → ℕ
rest_in width bytes = rest_of width (slips_of (head_in bytes)) (drop 9 bytes)

-- The slip at this place is the first whose code is no element's.
pub record FirstUnreadable (Code : ℕ → Type 0) (codes : List ℕ) (slip : ℕ) : Type 0 where
  pub there : slip < length codes
  pub before : All Code (take slip codes)
  pub unread : Code (slice_index codes slip) → ⊥

-- What the body comes to: the refusal's number, 0 where there is none, and the slip at fault. Every code is tried before the bits behind them.
abbrev pub ReadThrough : (ℕ → Type 0) → List ℕ → ℕ → ℕ → ℕ → Type 0
ReadThrough Code codes rest n slip =
    (FirstUnreadable Code codes slip × (n ≡ 25)) ⊎ (All Code codes × (slip ≡ 0) × (n ≡ cond (rest == 0) 0 26))

-- What the picture comes to for a kind whose codes are these: head and length first, then the body.
abbrev pub Verdict : (ℕ → Type 0) → ℕ → ℕ → List ℕ → ℕ → ℕ → Type 0
Verdict Code kind width bytes n slip =
    ((1 ≤ head_refusal kind width bytes) × (n ≡ head_refusal kind width bytes) × (slip ≡ 0)) ⊎ ((head_refusal kind width bytes ≡ 0) × ReadThrough Code (codes_in width bytes) (rest_in width bytes) n slip)

-- The numbers that are codes of elements.
abbrev pub Coded : {C : Type 0} → (C → ℕ) → ℕ → Type 0
Coded {C} coded n = (e : C) × (coded e ≡ n)

-- The number of the refusal, and 0 for a sound picture.
abbrev pub Judges : {C : Type 0} → (C → ℕ) → ℕ → ℕ → List ℕ → ℕ → Type 0
Judges coded kind width bytes n = (slip : ℕ) × Verdict (Coded coded) kind width bytes n slip

-- What a head of the program says, for a kind.
abbrev pub said_by : ℕ → CardHead → Head
said_by kind h =
    record { kind = kind; harbours = h.plan.harbours; threshold = h.plan.threshold; harbour = h.harbour; components = h.plan.components; issue = h.issue; round = h.round }

-- What check answers. An accepted picture is exactly the picture of its head and codes.
abbrev pub Checked : {C : Type 0} → (C → ℕ) → ℕ → ℕ → List ℕ → Result CardHead CardFault → Type 0
Checked coded kind width bytes r =
    MatchResult r
    (λ h. Verdict (Coded coded) kind width bytes 0 0 × (said_by kind h ≡ head_in bytes) × (bytes ≡ picture width (said_by kind h) (codes_in width bytes)))
    (λ f. Verdict (Coded coded) kind width bytes (number_of f) (slip_of f))

-- What load answers and what the place then holds: the elements of the codes, or, refused, just what it held.
abbrev pub Loaded : {C : Type 0} → (C → ℕ) → ℕ → ℕ → List ℕ → List C → List C → Result CardHead CardFault → Type 0
Loaded coded kind width bytes before after r =
    MatchResult r
    (λ h. Verdict (Coded coded) kind width bytes 0 0 × (said_by kind h ≡ head_in bytes) × (length before ≡ slips_of (head_in bytes)) × (map coded after ≡ codes_in width bytes) × (bytes ≡ picture width (said_by kind h) (map coded after)))
    (λ f. (after ≡ before) × (Verdict (Coded coded) kind width bytes (number_of f) (slip_of f) ⊎ (Verdict (Coded coded) kind width bytes 0 0 × (length before ≢ slips_of (head_in bytes)) × (number_of f ≡ 19) × (slip_of f ≡ 0))))
