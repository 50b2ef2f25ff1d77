-- One turn of the loop that lays a card. Assumes nothing.
use Rattle.std.proofs.Common.{◌≡◌, ℕ, ◌+◌, ◌-◌, ◌*◌, ◌/◌, ◌^◌, ◌<◌, ◌≤◌, Bool, true, false, cond, not, eqb, List, ◌++◌, map, length, take, Option, ℤ, sym, refl, ap, ◌∙◌, subst, ap₂, arith, w8, of_z}
use lib.Count.{ones}
use Rattle.std.specs.Bool.{then_some}
use Rattle.std.specs.Option.{IfSome}
use Rattle.std.proofs.Math.Nat.{mul-div_cancel_left}
use Rattle.std.proofs.lemmas.List.{length-map}
use Rattle.kinds.specs.Group.{Group}
use Rattle.plans.specs.Layout.{mask_of, slots}
use Rattle.plans.specs.Shape.{masks_of, shape_of}
use Rattle.plans.specs.declared.plan.Plan.{Plan}
use Rattle.sharing.specs.Threshold.{scheme_of}
use Rattle.trays.specs.Dealings.{LaidCards, LaidTo, key_dealt}
use Rattle.trays.specs.Laying.{block_of, cards, front, key_of, slip_at, with_blocks}
use Rattle.trays.specs.Sources.{slips_of}
use Rattle.trays.specs.declared.dealing.Dealing.{Dealing}
use Rattle.trays.specs.declared.dealing.source.Source.{Source}
use Rattle.trays.proofs.Fronts.{front_all, laid_as, laid_more}
use Rattle.trays.proofs.Parts.{length_key, map_part}
use Rattle.trays.proofs.Seats.{Seat, has_block, own_long, slips_there}

back : (h : ℕ) → 1 ≤ h → h - 1 + 1 ≡ h
back h some = omega arith

module _ {E : Type 0} (d : Dealing E) where
  abbrev plan : Plan
  plan = d.table.now.plan

  -- What a group's slips are laid from.
  pub record Sourced (g : ℕ) (s : Source E) : Type 0 where
    pub keyed : s.key ≡ d.key
    pub owned : s.own.now ≡ block_of (plan.components * (plan.threshold - 1)) g d.random.now
    pub sized : s.size ≡ plan.components

  -- As many blocks as the threshold less one.
  count : (g h at : ℕ) (z : ℤ) (s : Source E) → Sourced g s → Seat plan g (h - 1) at z → length s.own.now / s.size ≡ plan.threshold - 1
  count g h at z s source seat =
      ap₂ ◌/◌ (ap length source.owned ∙ own_long plan g plan.components plan.threshold d.random.now seat.low refl refl d.enough) source.sized
      ∙ mul-div_cancel_left (plan.threshold - 1) plan.keyed

  -- How many members stand above one, by its mask.
  above : (g h mask : ℕ) → mask ≡ mask_of (masks_of (shape_of plan)) g → 1 ≤ h → ones (mask / 2 ^ h) ≡ ones (mask_of (masks_of (shape_of plan)) g / 2 ^ (h - 1 + 1))
  above g h mask is some = ap₂ (λ x j. ones (x / 2 ^ j)) is (sym (back h some))

  -- The block of a later member is one of the group's.
  pub block_there : (g h at mask : ℕ) (z : ℤ) (s : Source E) (block : Option ℕ) → mask ≡ mask_of (masks_of (shape_of plan)) g → 1 ≤ h → Sourced g s → Seat plan g (h - 1) at z
      → block ≡ then_some (not (eqb (of_z w8 z) 1)) (ones (mask / 2 ^ h)) → IfSome block (λ b. b < length s.own.now / s.size)
  block_there g h at mask z s block is some source seat told = subst (λ o. IfSome o (λ b. b < length s.own.now / s.size)) (sym told) (by (eqb (of_z w8 z) 1) refl)
    where
      by : (t : Bool) → eqb (of_z w8 z) 1 ≡ t → IfSome (then_some (not t) (ones (mask / 2 ^ h))) (λ b. b < length s.own.now / s.size)
      by true first = tt
      by false later = omega (arith, has_block plan g (h - 1) at z seat later, above g h mask is some, count g h at z s source seat)

  module _ (G : Group) (m : E → G.Value) where
    -- A member's slips are those of the matrix.
    slips_are : (g h at mask : ℕ) (z : ℤ) (s : Source E) (block : Option ℕ) → mask ≡ mask_of (masks_of (shape_of plan)) g → 1 ≤ h → Sourced g s → Seat plan g (h - 1) at z
        → block ≡ then_some (not (eqb (of_z w8 z) 1)) (ones (mask / 2 ^ h))
        → map (slip_at G (scheme_of plan) (key_dealt G m d) (map m d.random.now)) (slots plan.components (h - 1) g) ≡ slips_of G m s block
    slips_are g h at mask z s block is some source seat told =
        slips_there plan G (key_dealt G m d) (map m d.random.now) (length_key G m plan.components d.key d.sized) (length-map d.random.now m ∙ d.enough) g (h - 1) at z seat
        ∙ by (eqb (of_z w8 z) 1) ∙ ap (slips_of G m s) (sym told)
      where
        values : map m s.own.now ≡ block_of (plan.components * (plan.threshold - 1)) g (map m d.random.now)
        values = ap (map m) source.owned ∙ map_part m (plan.components * (plan.threshold - 1)) g d.random.now

        by : (t : Bool) → cond t (with_blocks G plan.components (plan.threshold - 1) (key_dealt G m d) (block_of (plan.components * (plan.threshold - 1)) g (map m d.random.now)))
            (block_of plan.components (ones (mask_of (masks_of (shape_of plan)) g / 2 ^ (h - 1 + 1))) (block_of (plan.components * (plan.threshold - 1)) g (map m d.random.now)))
            ≡ slips_of G m s (then_some (not t) (ones (mask / 2 ^ h)))
        by true =
            sym (ap₂ (λ k u. with_blocks G k u (key_of G m k s.key) (map m s.own.now)) source.sized (count g h at z s source seat)
            ∙ ap₂ (λ x y. with_blocks G plan.components (plan.threshold - 1) (key_of G m plan.components x) y) source.keyed values)
        by false = sym (ap₂ (λ k b. block_of k b (map m s.own.now)) source.sized (above g h mask is some) ∙ ap (block_of plan.components (ones (mask_of (masks_of (shape_of plan)) g / 2 ^ (h - 1 + 1)))) values)

    -- A member's slips of one more group are laid.
    pub card_grows : (g h at mask : ℕ) (z : ℤ) (s : Source E) (block : Option ℕ) (slips slips' : List E) → mask ≡ mask_of (masks_of (shape_of plan)) g → 1 ≤ h → Sourced g s
        → Seat plan g (h - 1) at z → block ≡ then_some (not (eqb (of_z w8 z) 1)) (ones (mask / 2 ^ h)) → LaidTo G m d (front (scheme_of plan) (h - 1) g) slips
        → take (at + s.size) (map m slips') ≡ take at (map m slips) ++ slips_of G m s block → LaidTo G m d (front (scheme_of plan) (h - 1) (g + 1)) slips'
    card_grows g h at mask z s block slips slips' is some source seat told so_far new =
        laid_more (scheme_of plan) G (key_dealt G m d) (map m d.random.now) (h - 1) g at s.size (map m slips) (slips_of G m s block) (map m slips')
        seat.in_it seat.ends source.sized so_far (slips_are g h at mask z s block is some source seat told) new

    -- When every group was asked, the card is whole.
    pub card_ends : (ms : List ℕ) (h g : ℕ) (slips : List E) → ms ≡ masks_of (shape_of plan) → g ≡ length ms → 1 ≤ h
        → LaidTo G m d (front (scheme_of plan) (h - 1) g) slips → LaidCards G m d h slips
    card_ends ms h g slips is all some so_far =
        laid_as (scheme_of plan) G (key_dealt G m d) (map m d.random.now) (front (scheme_of plan) (h - 1) g) (cards (scheme_of plan) h) (map m slips)
        (ap (front (scheme_of plan) (h - 1)) (all ∙ ap length is) ∙ front_all (scheme_of plan) (h - 1) ∙ ap (cards (scheme_of plan)) (back h some)) so_far
