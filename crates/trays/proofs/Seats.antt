-- What find tells of a group on a member's card: where its slips lie, and which they are. Assumes nothing.
use Rattle.std.proofs.Common.{◌≡◌, ℕ, ◌+◌, ◌-◌, ◌*◌, ◌/◌, ◌%◌, ◌^◌, ◌<◌, ◌≤◌, Bool, true, false, cond, ◌&&◌, eqb, List, [], ◌∷◌, ◌++◌, map, length, get_or, ℤ, pos, negsuc, sym, refl, ap, ◌∙◌, ap₂, ⊎_elim, mul_assoc, mul_comm, div-add-mod', arith, w8, of_z}
use lib.Count.{ones, ones_cat}
use Rattle.std.specs.List.{range_with_len}
use Rattle.std.proofs.Math.Nat.{mul-mod_right}
use Rattle.std.proofs.lemmas.Nat.{mod_below, mul-le, pow_pos}
use Rattle.std.proofs.lemmas.List.FromFn.{fill_by_all}
use Rattle.std.proofs.lemmas.List.{length_push}
use Rattle.std.proofs.lemmas.Bool.{cases_Bool, cases_eq, eq-eqb, eqb-true, lt-ltb, true≢false}
use Rattle.kinds.specs.Group.{Group}
use Rattle.plans.specs.Groups.{has, members, position, sign}
use Rattle.plans.specs.Layout.{Slot, mask_of, place, slots}
use Rattle.plans.specs.Numbering.{number_in}
use Rattle.plans.specs.Refusals as plan
use Rattle.plans.specs.Refusals.{find_refusal, mask_refusal, position_refusal}
use Rattle.plans.specs.Shape.{group_count, masks_of, shape_of}
use Rattle.plans.specs.declared.plan.Plan.{Plan}
use Rattle.plans.specs.declared.refusal.Refusal.{Refusal}
use Rattle.plans.specs.declared.refusal.Refusal.TheVariants.{Harbours, Threshold, Components, NoSuchGroup, NotAGroup, NotAMember, PastTheMatrix}
use Rattle.plans.proofs.Counting.{kept_more}
use Rattle.plans.proofs.Finding.{named, passed, undoes}
use Rattle.plans.proofs.Halves.{members_rest}
use Rattle.plans.proofs.Places.{lies}
use Rattle.matrix.specs.Matrix.{slip}
use Rattle.matrix.proofs.Numbered.{many}
use Rattle.sharing.specs.Calls.{random_count, tray_length}
use Rattle.sharing.specs.Dealing.{total}
use Rattle.sharing.specs.Threshold.{scheme_of}
use Rattle.sharing.proofs.Alike.{all_counting, map_all, map_map}
use Rattle.trays.specs.Laying.{block_of, front, slip_at, with_blocks}
use Rattle.trays.proofs.Direct.{first_slip, later_slip}
use Rattle.trays.proofs.Fronts.{front_long}
use Rattle.trays.proofs.Lengths.{random_long}
use Rattle.trays.proofs.Parts.{get_or_part, get_or_with_blocks, length_with_blocks, part_long, parts_fit}

pub some_number : (e : Refusal) → 1 ≤ plan.number_of e
some_number Harbours = omega arith
some_number Threshold = omega arith
some_number Components = omega arith
some_number NoSuchGroup = omega arith
some_number NotAGroup = omega arith
some_number NotAMember = omega arith
some_number PastTheMatrix = omega arith

module _ (p : Plan) where
  abbrev mask_at : ℕ → ℕ
  mask_at g = mask_of (masks_of (shape_of p)) g

  of_group : (g : ℕ) → g < group_count (shape_of p) → (mask_refusal p.harbours p.threshold (mask_at g) ≡ 0) × (number_in (shape_of p) (mask_at g) ≡ g)
  of_group g low = (undoes p).1 g low

  by_position : (g h : ℕ) → g < group_count (shape_of p) → find_refusal p.harbours p.threshold (mask_at g) h ≡ position_refusal (mask_at g) h
  by_position g h low = ap (λ b. cond b (position_refusal (mask_at g) h) 5) (eq-eqb (mask_refusal p.harbours p.threshold (mask_at g)) 0 (of_group g low).0)

  -- Where find answers, the harbour is a member.
  pub is_member : (g h : ℕ) → g < group_count (shape_of p) → find_refusal p.harbours p.threshold (mask_at g) h ≡ 0 → has (mask_at g) (h - 1) ≡ true
  is_member g h low none = (named (mask_at g) h (sym (by_position g h low) ∙ none)).1

  -- Where find refuses, the harbour is none.
  pub no_member : (g h n : ℕ) → g < group_count (shape_of p) → 1 ≤ h → 1 ≤ n → n ≡ find_refusal p.harbours p.threshold (mask_at g) h → has (mask_at g) (h - 1) ≡ false
  no_member g h n low some refused is = ⊎_elim there (λ out. out) (cases_Bool (has (mask_at g) (h - 1)))
    where
      there : has (mask_at g) (h - 1) ≡ true → has (mask_at g) (h - 1) ≡ false
      there in_it =
          let placed : position_refusal (mask_at g) h ≡ 0 = ap₂ (λ x y. cond (x && y) 0 6) (lt-ltb 0 h some) in_it in
          absurd (omega (arith, is, by_position g h low, placed))

  group_size : (g : ℕ) → g < group_count (shape_of p) → (ones (mask_at g) ≡ p.threshold) × (mask_at g < 2 ^ p.harbours)
  group_size g low = passed p.harbours p.threshold (mask_at g) (of_group g low).0

  -- What find tells of a group on the card of the harbour at a bit.
  pub record Seat (g b at : ℕ) (z : ℤ) : Type 0 where
    pub low : g < group_count (shape_of p)
    pub in_it : has (mask_of (masks_of (shape_of p)) g) b ≡ true
    pub ends : at ≡ length (front (scheme_of p) b g)
    pub room : at + p.components ≤ tray_length (scheme_of p)
    pub signed : z ≡ sign (position (mask_of (masks_of (shape_of p)) g) b)

  -- How many members stand above one.
  pub above : (g b : ℕ) → g < group_count (shape_of p) → has (mask_at g) b ≡ true → position (mask_at g) b + ones (mask_at g / 2 ^ (b + 1)) ≡ p.threshold
  above g b low in_it =
      let m : ℕ = mask_at g in
      let n : ℕ = b + 1 in
      let cat : ones (m / 2 ^ n * 2 ^ n + m % 2 ^ n) ≡ ones (m / 2 ^ n) + ones (m % 2 ^ n) = ones_cat n (m / 2 ^ n) (m % 2 ^ n) (mod_below m (2 ^ n) (pow_pos n)) in
      let whole : ones (m / 2 ^ n * 2 ^ n + m % 2 ^ n) ≡ ones m = ap ones (div-add-mod' m (2 ^ n)) in
      let one : length (members n m) ≡ length (members b m) + 1 =
      ap length (kept_more (has m) b) ∙ ap (λ t. length (members b m ++ cond t (b ∷ []) [])) in_it ∙ length_push (members b m) b in
      omega (arith, cat, whole, one, members_rest n m, (group_size g low).0)

  -- The place that find answers is where the front of the tray ends, and the slips fit behind it.
  pub at_front : (g b : ℕ) → g < group_count (shape_of p) → place (masks_of (shape_of p)) p.components (number_in (shape_of p) (mask_at g)) b ≡ length (front (scheme_of p) b g)
  at_front g b low =
      ap (λ j. place (masks_of (shape_of p)) p.components j b) (of_group g low).1 ∙ sym (front_long (scheme_of p) b g (omega (arith, many p)))

  pub fits_behind : (g b : ℕ) → g < group_count (shape_of p) → b < p.harbours → has (mask_at g) b ≡ true → length (front (scheme_of p) b g) + p.components ≤ tray_length (scheme_of p)
  fits_behind g b low within in_it =
      let x : Slot = record { group = g; bit = b; component = p.components - 1 } in
      let there = lies (masks_of (shape_of p)) p.components p.harbours x x (record { of_group = omega (arith, many p); of_harbour = within; of_member = in_it; of_component = omega (arith, p.keyed) }) in
      omega (arith, there.0, front_long (scheme_of p) b g (omega (arith, many p)), p.keyed)

  pub seated : (ms : List ℕ) (g h at : ℕ) (z : ℤ) → ms ≡ masks_of (shape_of p) → g < length ms → 1 ≤ h → h ≤ p.harbours
      → (find_refusal p.harbours p.threshold (get_or ms g 0) h ≡ 0) × (at ≡ place (masks_of (shape_of p)) p.components (number_in (shape_of p) (get_or ms g 0)) (h - 1)) × (z ≡ sign (position (get_or ms g 0) (h - 1)))
      → Seat g (h - 1) at z
  seated ms g h at z is low some few found =
      let same : get_or ms g 0 ≡ mask_at g = ap (λ xs. get_or xs g 0) is in
      let lower : g < group_count (shape_of p) = omega (arith, ap length is, many p) in
      let in_it : has (mask_at g) (h - 1) ≡ true = is_member g h lower (ap (λ m. find_refusal p.harbours p.threshold m h) (sym same) ∙ found.0) in
      let ends : at ≡ length (front (scheme_of p) (h - 1) g) = found.1 ∙ ap (λ m. place (masks_of (shape_of p)) p.components (number_in (shape_of p) m) (h - 1)) same ∙ at_front g (h - 1) lower in
      record {
        low = lower;
        in_it = in_it;
        ends = ends;
        room = omega (arith, ends, fits_behind g (h - 1) lower (omega arith) in_it);
        signed = found.2 ∙ ap (λ m. sign (position m (h - 1))) same;
      }

  pub unseated : (ms : List ℕ) (g h n : ℕ) → ms ≡ masks_of (shape_of p) → g < length ms → 1 ≤ h → 1 ≤ n → n ≡ find_refusal p.harbours p.threshold (get_or ms g 0) h
      → has (mask_of (masks_of (shape_of p)) g) (h - 1) ≡ false
  unseated ms g h n is low some refused found =
      no_member g h n (omega (arith, ap length is, many p)) some refused (found ∙ ap (λ m. find_refusal p.harbours p.threshold (get_or m g 0) h) is)

  -- The random elements of so many groups are there, if there are no fewer groups.
  pub own_room : (x k u l : ℕ) → x ≤ group_count (shape_of p) → k ≡ p.components → u ≡ p.threshold → l ≡ random_count (scheme_of p) → x * (k * (u - 1)) ≤ l
  own_room x k u l few ks us ls =
      parts_fit x (group_count (shape_of p)) (k * (u - 1)) l few
      (ls ∙ random_long p ∙ mul_assoc (group_count (shape_of p)) p.components (p.threshold - 1) ∙ ap₂ (λ x y. group_count (shape_of p) * (x * (y - 1))) (sym ks) (sym us))

  -- A group has as many random elements as its blocks.
  pub own_long : {X : Type 0} (g k u : ℕ) (random : List X) → g < group_count (shape_of p) → k ≡ p.components → u ≡ p.threshold → length random ≡ random_count (scheme_of p)
      → length (block_of (k * (u - 1)) g random) ≡ k * (u - 1)
  own_long g k u random low ks us ls = part_long (k * (u - 1)) g random (own_room (g + 1) k u (length random) (omega arith) ks us ls)

  pub own_whole : {X : Type 0} (g k u : ℕ) (random own : List X) → own ≡ block_of (k * (u - 1)) g random → g < group_count (shape_of p) → k ≡ p.components → u ≡ p.threshold
      → length random ≡ random_count (scheme_of p) → length own % k ≡ 0
  own_whole g k u random own is low ks us ls =
      let long : length own ≡ k * (u - 1) = ap length is ∙ own_long g k u random low ks us ls in
      ap (λ n. n % k) long ∙ mul-mod_right k (u - 1)

  module _ (G : Group) (key random : List G.Value) (long : length key ≡ p.components) (longer : length random ≡ random_count (scheme_of p)) where
    abbrev own : ℕ → List G.Value
    own g = block_of (p.components * (p.threshold - 1)) g random

    blocks_long : (g : ℕ) → g < group_count (shape_of p) → length (own g) ≡ (p.threshold - 1) * p.components
    blocks_long g low = own_long g p.components p.threshold random low refl refl longer ∙ mul_comm p.components (p.threshold - 1)

    -- a component of a block, in the group's own elements and in all
    of_own : (g b c : ℕ) → b < p.threshold - 1 → c < p.components
        → get_or (own g) (b * p.components + c) G.nil ≡ get_or random (g * p.components * (p.threshold - 1) + b * p.components + c) G.nil
    of_own g b c lb lc =
        let k : ℕ = p.components in
        let u : ℕ = p.threshold - 1 in
        get_or_part (k * u) g (b * k + c) random G.nil (omega (arith, mul-le (b + 1) k u k (omega arith) (omega arith), mul_comm k u))
        ∙ ap (λ j. get_or random j G.nil) (index k u)
      where
        index : (k u : ℕ) → g * (k * u) + (b * k + c) ≡ g * k * u + b * k + c
        index k u = omega (arith, mul_assoc g k u)

    abbrev slip_in : ℕ → ℕ → ℕ → G.Value
    slip_in g i c = slip G (masks_of (shape_of p)) p.components (key ++ random) (record { group = g; position = i; component = c })

    labelled : (g b : ℕ) → map (slip_at G (scheme_of p) key random) (slots p.components b g) ≡ map (slip_in g (position (mask_at g) b)) (range_with_len 0 p.components)
    labelled g b = map_map (slip_at G (scheme_of p) key random) (λ c. record { group = g; bit = b; component = c }) (range_with_len 0 p.components)

    -- The slips of a group's first member.
    pub first_slips : (g b : ℕ) → g < group_count (shape_of p) → position (mask_at g) b ≡ 1
        → map (slip_at G (scheme_of p) key random) (slots p.components b g) ≡ with_blocks G p.components (p.threshold - 1) key (own g)
    first_slips g b low first =
        let k : ℕ = p.components in
        let u : ℕ = p.threshold - 1 in
        let room : u * k ≤ length (own g) = omega (arith, blocks_long g low) in
        labelled g b ∙ sym (fill_by_all (slip_in g (position (mask_at g) b)) (with_blocks G k u key (own g)) k G.nil (length_with_blocks G k u key (own g) long room) (λ c below. at c below room))
      where
        at : (c : ℕ) → c < p.components → (p.threshold - 1) * p.components ≤ length (own g)
            → get_or (with_blocks G p.components (p.threshold - 1) key (own g)) c G.nil ≡ slip_in g (position (mask_at g) b) c
        at c below room =
            let k : ℕ = p.components in
            let u : ℕ = p.threshold - 1 in
            let alike : map (λ j. get_or (own g) (j * k + c) G.nil) (range_with_len 0 u) ≡ map (λ j. get_or random (g * k * u + j * k + c) G.nil) (range_with_len 0 u) =
            map_all (λ j. get_or (own g) (j * k + c) G.nil) (λ j. get_or random (g * k * u + j * k + c) G.nil) (range_with_len 0 u)
            (all_counting (λ j. get_or (own g) (j * k + c) G.nil ≡ get_or random (g * k * u + j * k + c) G.nil) 0 u (λ j l lt. of_own g j c (omega arith) below)) in
            get_or_with_blocks G k u c key (own g) long room below
            ∙ ap (λ vs. G.plus (get_or key c G.nil) (total G vs)) alike
            ∙ sym (first_slip G p key random g c long longer low below)
            ∙ ap (λ i. slip_in g i c) (sym first)

    -- The slips of any other member.
    pub later_slips : (g b x : ℕ) → g < group_count (shape_of p) → 2 ≤ position (mask_at g) b → position (mask_at g) b + x ≡ p.threshold
        → map (slip_at G (scheme_of p) key random) (slots p.components b g) ≡ block_of p.components x (own g)
    later_slips g b x low some sum =
        let k : ℕ = p.components in
        let u : ℕ = p.threshold - 1 in
        let block_fits : (x + 1) * k ≤ length (own g) = parts_fit (x + 1) u k (length (own g)) (omega arith) (blocks_long g low) in
        let is : p.threshold - position (mask_at g) b ≡ x = omega arith in
        labelled g b
        ∙ sym (fill_by_all (slip_in g (position (mask_at g) b)) (block_of k x (own g)) k G.nil (part_long k x (own g) block_fits)
        (λ c below. get_or_part k x c (own g) G.nil below ∙ of_own g x c (omega arith) below ∙ ap (λ j. get_or random (g * k * u + j * k + c) G.nil) (sym is)
        ∙ sym (later_slip G p key random g (position (mask_at g) b) c long longer low below some (omega arith))))

    -- Both, as they are told by the sign.
    pub slips_there : (g b at : ℕ) (z : ℤ) → Seat g b at z
        → map (slip_at G (scheme_of p) key random) (slots p.components b g)
        ≡ cond (eqb (of_z w8 z) 1) (with_blocks G p.components (p.threshold - 1) key (own g)) (block_of p.components (ones (mask_at g / 2 ^ (b + 1))) (own g))
    slips_there g b at z seat = by (eqb (position (mask_at g) b) 1) refl
      where
        signed : of_z w8 z ≡ of_z w8 (sign (position (mask_at g) b))
        signed = ap (of_z w8) seat.signed

        by : (t : Bool) → eqb (position (mask_at g) b) 1 ≡ t
            → map (slip_at G (scheme_of p) key random) (slots p.components b g)
            ≡ cond (eqb (of_z w8 z) 1) (with_blocks G p.components (p.threshold - 1) key (own g)) (block_of p.components (ones (mask_at g / 2 ^ (b + 1))) (own g))
        by true is =
            first_slips g b seat.low (eqb-true (position (mask_at g) b) 1 is)
            ∙ sym (ap (λ t. cond t (with_blocks G p.components (p.threshold - 1) key (own g)) (block_of p.components (ones (mask_at g / 2 ^ (b + 1))) (own g)))
            (ap (λ x. eqb x 1) signed ∙ ap (λ t. eqb (of_z w8 (cond t (pos 1) (negsuc 0))) 1) is))
        by false is =
            later_slips g b (ones (mask_at g / 2 ^ (b + 1))) seat.low (two (position (mask_at g) b) is (omega arith)) (above g b seat.low seat.in_it)
            ∙ sym (ap (λ t. cond t (with_blocks G p.components (p.threshold - 1) key (own g)) (block_of p.components (ones (mask_at g / 2 ^ (b + 1))) (own g)))
            (ap (λ x. eqb x 1) signed ∙ ap (λ t. eqb (of_z w8 (cond t (pos 1) (negsuc 0))) 1) is))
          where
            two : (x : ℕ) → eqb x 1 ≡ false → 1 ≤ x → 2 ≤ x
            two x apart some = ⊎_elim (λ e. absurd (true≢false (sym (eq-eqb x 1 e) ∙ apart))) (λ ne. omega arith) (cases_eq x 1)

  -- A member behind the first has one of the group's blocks.
  pub has_block : (g b at : ℕ) (z : ℤ) → Seat g b at z → eqb (of_z w8 z) 1 ≡ false → ones (mask_at g / 2 ^ (b + 1)) < p.threshold - 1
  has_block g b at z seat later = by (eqb (position (mask_at g) b) 1) refl
    where
      by : (t : Bool) → eqb (position (mask_at g) b) 1 ≡ t → ones (mask_at g / 2 ^ (b + 1)) < p.threshold - 1
      by true is = absurd (true≢false (sym (ap (λ x. eqb (of_z w8 x) 1) seat.signed ∙ ap (λ t. eqb (of_z w8 (cond t (pos 1) (negsuc 0))) 1) is) ∙ later))
      by false is = ⊎_elim (λ e. absurd (true≢false (sym (eq-eqb (position (mask_at g) b) 1 e) ∙ is))) (λ ne. omega (arith, above g b seat.low seat.in_it)) (cases_eq (position (mask_at g) b) 1)
