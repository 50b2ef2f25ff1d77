use Rattle.std.proofs.Common.{◌≤◌, sym, arith, rules}
use Rattle.std.proofs.lemmas.Nat.{one_shl}
use Rattle.plans.proofs.Halves.{member_within, members_rest}
use Rattle.plans.proofs.mask.position.Goals as goal

within : (c : goal.Else-not-contains) → (1 ≤ c.args.harbour) × (c.args.harbour ≤ 16)
within c = member_within c.args.mask c.args.harbour c.ranges.mask.fits (sym c.if-not-contains.ensures)

pub overflow_cast-below : goal.overflow_cast-below
overflow_cast-below c = record { fits = omega (arith, within c) }

pub overflow_shl-below : goal.overflow_shl-below
overflow_shl-below c = omega (arith, within c)

pub returns : goal.returns
returns c = let w = within c in search (rules, one_shl, members_rest)
