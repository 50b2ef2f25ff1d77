-- Which refusal a call gives, by its number, and 0 where it gives none. Assumes nothing.
use Rattle.std.specs.Prelude.{◌≡◌, ℕ, ◌^◌, Bool, cond, not, ◌||◌, Result, MatchResult, ◌==◌, count_ones, nat_le, nat_lt}
use Rattle.plans.specs.Groups.{member}
use Rattle.plans.specs.declared.refusal.Refusal.{Refusal}
use Rattle.plans.specs.declared.refusal.Refusal.TheVariants.{Harbours, Threshold, Components, NoSuchGroup, NotAGroup, NotAMember, PastTheMatrix}

abbrev pub number_of : Refusal → ℕ
number_of Harbours = 1
number_of Threshold = 2
number_of Components = 3
number_of NoSuchGroup = 4
number_of NotAGroup = 5
number_of NotAMember = 6
number_of PastTheMatrix = 7

-- What a test answers: it passes where the refusal is 0, and otherwise gives that refusal.
abbrev pub Passes : ℕ → Result Unit Refusal → Type 0
Passes n r = MatchResult r (λ _. n ≡ 0) (λ e. number_of e ≡ n)

-- What a call answers: the right thing where the refusal is 0, and otherwise that refusal.
abbrev pub Answers : {X : Type 0} → ℕ → (X → Type 0) → Result X Refusal → Type 0
Answers n Right r = MatchResult r (λ x. (n ≡ 0) × Right x) (λ e. number_of e ≡ n)

-- Whether a number lies outside low to high.
abbrev pub outside : ℕ → ℕ → ℕ → Bool
outside low high n = nat_lt n low || nat_lt high n

-- A plan: the harbours first, then the threshold, then the components.
abbrev pub plan_refusal : ℕ → ℕ → ℕ → ℕ
plan_refusal n t k = cond (outside 1 10 n) 1 (cond (outside 1 n t) 2 (cond (outside 1 8 k) 3 0))

-- A group by its number, of so many groups.
abbrev pub group_refusal : ℕ → ℕ → ℕ
group_refusal count g = cond (nat_le count g) 4 0

-- A mask that is to be a group: it is empty, has not t bits, or names a harbour above n.
abbrev pub mask_refusal : ℕ → ℕ → ℕ → ℕ
mask_refusal n t mask = cond (mask == 0 || (not (count_ones mask == t) || nat_le (2 ^ n) mask)) 5 0

-- A harbour that is to be a member of a mask.
abbrev pub position_refusal : ℕ → ℕ → ℕ
position_refusal mask harbour = cond (member mask harbour) 0 6

-- A group and a harbour that is to be a member of it.
abbrev pub find_refusal : ℕ → ℕ → ℕ → ℕ → ℕ
find_refusal n t mask harbour = cond (mask_refusal n t mask == 0) (position_refusal mask harbour) 5
