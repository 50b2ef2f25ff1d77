-- Which slip lies where: cards and the tray as lists of labels, over any list of groups. Assumes nothing.
use Rattle.std.specs.Prelude.{ℕ, ◌+◌, ◌*◌, List, map, length, take, sum_by, count_by, filter, slice_index}
use Rattle.std.specs.List.{range_with_len, flat_map}
use Rattle.plans.specs.Groups.{has}

-- A slip's label: its group's number, the bit of the harbour that holds it, and its component.
pub record Slot : Type 0 where
  pub group : ℕ
  pub bit : ℕ
  pub component : ℕ

-- The mask of a group by its number.
abbrev pub mask_of : List ℕ → ℕ → ℕ
mask_of masks g = slice_index masks g

-- The numbers of the groups that name the harbour at a bit, rising.
abbrev pub joined_by : List ℕ → ℕ → List ℕ
joined_by masks bit = filter (λ g. has (mask_of masks g) bit) (range_with_len 0 (length masks))

-- The k slips of a group on a harbour's card, by component.
abbrev pub slots : ℕ → ℕ → ℕ → List Slot
slots k bit g = map (λ c. record { group = g; bit = bit; component = c }) (range_with_len 0 k)

-- A card: for each group with its harbour, by rising number, k slips by component.
abbrev pub card : List ℕ → ℕ → ℕ → List Slot
card masks k bit = flat_map (slots k bit) (joined_by masks bit)

-- The tray of n harbours: cards 1 to n end to end.
abbrev pub tray : List ℕ → ℕ → ℕ → List Slot
tray masks n k = flat_map (card masks k) (range_with_len 0 n)

-- How many groups name the harbour at a bit.
abbrev pub named_by : List ℕ → ℕ → ℕ
named_by masks bit = count_by (λ m. has m bit) masks

-- The place in the tray of a group's component 0 on a harbour's card: the cards before it, and on it the groups before.
abbrev pub place : List ℕ → ℕ → ℕ → ℕ → ℕ
place masks k g bit = k * (sum_by (named_by masks) (range_with_len 0 bit) + named_by (take g masks) bit)
