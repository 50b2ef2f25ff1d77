-- A difference of keys with its cover deals zeros to every harbour that is read; the cover's length and its opposite. Assumes nothing.
use Rattle.std.proofs.Common.{◌≡◌, ℕ, zero, suc, ◌+◌, ◌-◌, ◌^◌, ◌<◌, ◌≤◌, Bool, true, false, cond, ◌&&◌, ◌||◌, eqb, List, [], ◌∷◌, ◌++◌, map, length, get_or, take, drop, All, filter, sym, refl, ap, ◌∙◌, ap₂, ⊎_elim, not-suc-le-zero, arith}
use lib.Count.{ones}
use Rattle.std.specs.List.{range_with_len, flat_map, prefix_len}
use Rattle.std.proofs.lemmas.List.FromFn.{length-map-range_with_len, fill_by_all}
use Rattle.std.proofs.lemmas.List.Elements.{All-append, All-get_or, All-filter, All-head, All-nil, All-tail, filter_passes}
use Rattle.std.proofs.lemmas.List.{map-append, map-id, length-map, get_or_at, take_at, drop_at}
use Rattle.std.proofs.lemmas.Bool.{true≢false, cases_eq, eq-eqb, ne_eqb, and_from, and_left, and_right, cond-true, cond-false}
use Rattle.std.proofs.lemmas.Bool.Decides.{nat_tests}
use Rattle.kinds.specs.Group.{Group}
use Rattle.kinds.proofs.Groups.{minus_nil}
use Rattle.plans.specs.Groups.{has, members, position}
use Rattle.plans.specs.Layout.{Slot, mask_of, joined_by, slots, card, tray}
use Rattle.plans.proofs.Counting.{counting_around, around}
use Rattle.plans.proofs.Halves.{members_count}
use Rattle.plans.proofs.Joining.{joined_append}
use Rattle.matrix.specs.Matrix.{Column, key, block, columns, size_of, marked, sum_at, slip, row_of}
use Rattle.matrix.proofs.Joined.{all_map_counting}
use Rattle.sharing.specs.Cover.{Readers, first_unread, cover_at, cover, Unread, HoldNoGroup}
use Rattle.sharing.specs.Dealing.{Scheme, dealing, card_in, total, opposed, zeros}
use Rattle.sharing.proofs.Alike.{all_counting, map_map, map_same}
use Rattle.sharing.proofs.Linear.{sum_at_append}
use Rattle.sharing.proofs.Totals.{total_joined, total_none, total_one}

-- the first that fails, behind those that pass
pub stops : {X : Type 0} (p : X → Bool) (xs : List X) (d : X) → prefix_len p xs < length xs → p (get_or xs (prefix_len p xs) d) ≡ false
stops p [] d lt = absurd (not-suc-le-zero lt)
stops p (x ∷ xs) d lt = go (stops p xs d) (p x) refl lt
  where
    go : (prefix_len p xs < length xs → p (get_or xs (prefix_len p xs) d) ≡ false) → (b : Bool) → p x ≡ b
        → cond b (1 + prefix_len p xs) 0 < suc (length xs) → p (get_or (x ∷ xs) (cond b (1 + prefix_len p xs) 0) d) ≡ false
    go rest true e lt =
        let one : 1 + prefix_len p xs ≡ suc (prefix_len p xs) = omega arith in
        ap (λ n. p (get_or (x ∷ xs) n d)) one ∙ rest (omega arith)
    go rest false e lt = e

both : (x y : Bool) → y ≡ true → (x && y) ≡ x
both true y e = e
both false y e = refl

-- at its position among the members stands the member itself
pub member_at : (n mask b : ℕ) → b < n → has mask b ≡ true → get_or (members n mask) (length (members b mask)) 0 ≡ b
member_at n mask b lt there =
    ap (λ xs. get_or xs (length (members b mask)) 0) (around (has mask) n b lt there)
    ∙ get_or_at (members b mask) b (filter (has mask) (range_with_len (b + 1) (n - (b + 1)))) 0 (length (members b mask)) refl

-- what holds all along the part of each item, where two facts of each are known, holds all along the parts end to end
all_parts : {X Y : Type 0} (P : Y → Type 0) (f : X → List Y) (R S : X → Type 0) (xs : List X) → All R xs → All S xs
    → ((x : X) → R x → S x → All P (f x)) → All P (flat_map f xs)
all_parts P f R S [] r s h = All-nil P
all_parts P f R S (x ∷ xs) r s h = All-append P (f x) (flat_map f xs) (h x (All-head R x xs r) (All-head S x xs s)) (all_parts P f R S xs (All-tail R x xs r) (All-tail S x xs s) h)

-- What holds of a slip of any group that names a harbour holds all along its card.
pub all_on_card : (P : Slot → Type 0) (masks : List ℕ) (k b : ℕ)
    → ((g c : ℕ) → g < length masks → has (mask_of masks g) b ≡ true → c < k → P (record { group = g; bit = b; component = c })) → All P (card masks k b)
all_on_card P masks k b h =
    all_parts P (slots k b) (λ g. g < length masks) (λ g. has (mask_of masks g) b ≡ true) (joined_by masks b)
    (All-filter (λ g. has (mask_of masks g) b) (λ g. g < length masks) (range_with_len 0 (length masks)) (all_counting (λ g. g < length masks) 0 (length masks) (λ g l u. omega arith)))
    (filter_passes (λ g. has (mask_of masks g) b) (range_with_len 0 (length masks)))
    (λ g low there. all_map_counting P (λ c. record { group = g; bit = b; component = c }) 0 k (λ c l u. h g c low there (omega arith)))

-- The card in a tray that is filled slip by slip is filled so too.
pub card_of : {X : Type 0} (s : Scheme) (b : ℕ) (f : Slot → X) → b < s.harbours
    → card_in s b (map f (tray s.masks s.harbours s.components)) ≡ map f (card s.masks s.components b)
card_of s b f lt =
    let cards : ℕ → List Slot = card s.masks s.components in
    let front : List Slot = flat_map cards (range_with_len 0 b) in
    let rest : List ℕ = range_with_len (b + 1) (s.harbours - (b + 1)) in
    let back : List Slot = flat_map cards rest in
    let filled : map f (flat_map cards (range_with_len 0 s.harbours)) ≡ map f front ++ (map f (cards b) ++ map f back) =
    ap (λ bs. map f (flat_map cards bs)) (counting_around s.harbours b lt) ∙ ap (map f) (joined_append cards (range_with_len 0 b) (b ∷ rest))
    ∙ map-append f front (cards b ++ back) ∙ ap (λ ys. map f front ++ ys) (map-append f (cards b) back) in
    ap (card_in s b) filled
    ∙ ap (take (length (cards b))) (drop_at (map f front) (map f (cards b) ++ map f back) (length front) (length-map front f))
    ∙ take_at (map f (cards b)) (map f back) (length (cards b)) (length-map (cards b) f)

-- The blocks of the columns.
abbrev pub blocks : List ℕ → ℕ → List Column
blocks masks k = flat_map (λ g. flat_map (λ b. map (block g b) (range_with_len 0 k)) (range_with_len 0 (size_of masks g - 1))) (range_with_len 0 (length masks))

pub columns_blocks : (masks : List ℕ) (k : ℕ) → drop k (columns masks k) ≡ blocks masks k
columns_blocks masks k = drop_at (map key (range_with_len 0 k)) (blocks masks k) k (length-map-range_with_len key 0 k)

module _ (G : Group) where
  pub all_nil : {X : Type 0} (f : X → G.Value) (xs : List X) → All (λ x. f x ≡ G.nil) xs → map f xs ≡ zeros G (length xs)
  all_nil f [] h = refl
  all_nil f (x ∷ xs) h = ap₂ (λ y ys. y ∷ ys) (All-head (λ y. f y ≡ G.nil) x xs h) (all_nil f xs (All-tail (λ y. f y ≡ G.nil) x xs h))

  pub sum_at_map : {X : Type 0} (test : Column → Bool) (to : X → Column) (f : X → G.Value) (xs : List X)
      → sum_at G test (map to xs) (map f xs) ≡ total G (map (λ x. cond (test (to x)) (f x) G.nil) xs)
  sum_at_map test to f [] = refl
  sum_at_map test to f (x ∷ xs) = ap (G.plus (cond (test (to x)) (f x) G.nil)) (sum_at_map test to f xs)

  -- A sum over the blocks, to which only those of one group and one component add.
  pub blocks_total : (masks : List ℕ) (k g c : ℕ) (q : Column → G.Value) → g < length masks → c < k
      → ((h b j : ℕ) → (h ≡ g → ⊥) → q (block h b j) ≡ G.nil) → ((h b j : ℕ) → (j ≡ c → ⊥) → q (block h b j) ≡ G.nil)
      → total G (map q (blocks masks k)) ≡ total G (map (λ b. q (block g b c)) (range_with_len 0 (size_of masks g - 1)))
  blocks_total masks k g c q low lt off_group off_part =
      total_joined G q (λ h. flat_map (λ b. map (block h b) (range_with_len 0 k)) (range_with_len 0 (size_of masks h - 1))) (range_with_len 0 (length masks))
      ∙ total_one G (λ h. total G (map q (group h))) (sum g) g 0 (length masks) (omega arith) (omega arith) (here g)
      (λ h ne. here h ∙ total_none G (λ b. q (block h b c)) 0 (size_of masks h - 1) (λ b l u. off_group h b c ne))
    where
      group : ℕ → List Column
      group h = flat_map (λ b. map (block h b) (range_with_len 0 k)) (range_with_len 0 (size_of masks h - 1))

      sum : ℕ → G.Value
      sum h = total G (map (λ b. q (block h b c)) (range_with_len 0 (size_of masks h - 1)))

      one : (h b : ℕ) → total G (map q (map (block h b) (range_with_len 0 k))) ≡ q (block h b c)
      one h b =
          ap (total G) (map_map q (block h b) (range_with_len 0 k))
          ∙ total_one G (λ j. q (block h b j)) (q (block h b c)) c 0 k (omega arith) (omega arith) refl (λ j ne. off_part h b j ne)

      here : (h : ℕ) → total G (map q (group h)) ≡ sum h
      here h =
          total_joined G q (λ b. map (block h b) (range_with_len 0 k)) (range_with_len 0 (size_of masks h - 1))
          ∙ ap (total G) (map_same (λ b. total G (map q (map (block h b) (range_with_len 0 k)))) (λ b. q (block h b c)) (range_with_len 0 (size_of masks h - 1)) (one h))

  -- what the covered difference gives a slip: the key's component at position 1, and what the group's blocks take back
  left_over : ℕ → ℕ → ℕ → G.Value → G.Value
  left_over i first size v =
      G.plus (cond (eqb i 1) v G.nil)
      (total G (map (λ b. cond (eqb i 1 || eqb (b + i) size) (cond (eqb (b + first) size) (G.minus v) G.nil) G.nil) (range_with_len 0 (size - 1))))

  slip_is : (s : Scheme) (read : Readers) (d : List G.Value) (g i c : ℕ) → length d ≡ s.components → g < length s.masks → c < s.components
      → slip G s.masks s.components (d ++ cover G s read d) (record { group = g; position = i; component = c })
      ≡ left_over i (first_unread s read g) (size_of s.masks g) (get_or d c G.nil)
  unfolding left_over
  slip_is s read d g i c len low lt =
      ap (λ js. sum_at G test (columns masks k) (d ++ map cov js)) (columns_blocks masks k)
      ∙ sum_at_append G test (map key (range_with_len 0 k)) (blocks masks k) d (map cov (blocks masks k)) (len ∙ sym (length-map-range_with_len key 0 k))
      ∙ ap₂ G.plus keys_part blocks_part
    where
      masks : List ℕ
      masks = s.masks

      k : ℕ
      k = s.components

      size : ℕ
      size = size_of s.masks g

      test : Column → Bool
      test = marked s.masks (record { group = g; position = i; component = c })

      cov : Column → G.Value
      cov = cover_at G s read d

      keys_part : sum_at G test (map key (range_with_len 0 k)) d ≡ cond (eqb i 1) (get_or d c G.nil) G.nil
      keys_part =
          ap (sum_at G test (map key (range_with_len 0 k))) (fill_by_all (λ j. get_or d j G.nil) d k G.nil len (λ j l. refl))
          ∙ sum_at_map test key (λ j. get_or d j G.nil) (range_with_len 0 k)
          ∙ total_one G (λ j. cond (eqb i 1 && eqb c j) (get_or d j G.nil) G.nil) (cond (eqb i 1) (get_or d c G.nil) G.nil) c 0 k (omega arith) (omega arith)
          (ap (λ t. cond t (get_or d c G.nil) G.nil) (both (eqb i 1) (eqb c c) (eq-eqb c c refl)))
          (λ j ne. cond-false (eqb i 1 && eqb c j) (get_or d j G.nil) G.nil (and_right (eqb i 1) (eqb c j) (ne_eqb c j (λ e. ne (sym e)))))

      off : (h b j : ℕ) → (eqb g h && eqb c j) ≡ false → cond (test (block h b j)) (cov (block h b j)) G.nil ≡ G.nil
      off h b j e = cond-false (test (block h b j)) (cov (block h b j)) G.nil (and_right (eqb i 1 || eqb (b + i) size) (eqb g h && eqb c j) e)

      blocks_part : sum_at G test (blocks masks k) (map cov (blocks masks k))
          ≡ total G (map (λ b. cond (eqb i 1 || eqb (b + i) size) (cov (block g b c)) G.nil) (range_with_len 0 (size - 1)))
      blocks_part =
          ap (λ js. sum_at G test js (map cov (blocks masks k))) (sym (map-id (blocks masks k)))
          ∙ sum_at_map test (λ j. j) cov (blocks masks k)
          ∙ blocks_total masks k g c (λ j. cond (test j) (cov j) G.nil) low lt
          (λ h b j ne. off h b j (and_left (eqb g h) (eqb c j) (ne_eqb g h (λ e. ne (sym e)))))
          (λ h b j ne. off h b j (and_right (eqb g h) (eqb c j) (ne_eqb c j (λ e. ne (sym e)))))
          ∙ ap (total G) (map_same (λ b. cond (test (block g b c)) (cov (block g b c)) G.nil) (λ b. cond (eqb i 1 || eqb (b + i) size) (cov (block g b c)) G.nil) (range_with_len 0 (size - 1))
          (λ b. ap (λ t. cond t (cov (block g b c)) G.nil) (both (eqb i 1 || eqb (b + i) size) (eqb g g && eqb c c) (and_from (eqb g g) (eqb c c) (eq-eqb g g refl) (eq-eqb c c refl)))))

  -- Nothing is left over but at the position of the first unread member.
  nothing_left : (i first size : ℕ) (v : G.Value) → (first ≡ i → ⊥) → 1 ≤ first → first ≤ size → left_over i first size v ≡ G.nil
  unfolding left_over
  nothing_left i first size v ne some le = ⊎_elim lowest higher (cases_eq i 1)
    where
      term : ℕ → G.Value
      term b = cond (eqb i 1 || eqb (b + i) size) (cond (eqb (b + first) size) (G.minus v) G.nil) G.nil

      lowest : i ≡ 1 → G.plus (cond (eqb i 1) v G.nil) (total G (map term (range_with_len 0 (size - 1)))) ≡ G.nil
      lowest e =
          ap₂ G.plus (cond-true (eqb i 1) v G.nil (eq-eqb i 1 e))
          (total_one G term (G.minus v) (size - first) 0 (size - 1) (omega arith) (omega arith) (grind (arith, nat_tests)) (λ b off. grind (arith, nat_tests)))
          ∙ G.undone v

      higher : (i ≡ 1 → ⊥) → G.plus (cond (eqb i 1) v G.nil) (total G (map term (range_with_len 0 (size - 1)))) ≡ G.nil
      higher far =
          ap₂ G.plus (cond-false (eqb i 1) v G.nil (ne_eqb i 1 far))
          (total_none G term 0 (size - 1) (λ b l u. grind (arith, nat_tests)))
          ∙ G.unit G.nil

  pub get_or_opposed : (xs : List G.Value) (c : ℕ) → get_or (opposed G xs) c G.nil ≡ G.minus (get_or xs c G.nil)
  get_or_opposed [] c = sym (minus_nil G)
  get_or_opposed (x ∷ xs) zero = refl
  get_or_opposed (x ∷ xs) (suc c) = get_or_opposed xs c

module _ (G : Group) (s : Scheme) (read : Readers) (d : List G.Value) where
  -- Each slip on the card of a harbour that is read is zero.
  pub covered : (b : ℕ) → All (λ m. (1 ≤ ones m) × (m < 2 ^ s.harbours)) s.masks
      → length d ≡ s.components → HoldNoGroup s read → b < s.harbours → read b ≡ true
      → card_in s b (dealing G s d (cover G s read d)) ≡ zeros G (length (card s.masks s.components b))
  covered b groups len none low is_read =
      card_of s b slip_of low
      ∙ all_nil G slip_of (card s.masks s.components b)
      (all_on_card (λ x. slip_of x ≡ G.nil) s.masks s.components b
      (λ g c in_masks there lt. slip_is G s read d g (position (mask_of s.masks g) b) c len in_masks lt
      ∙ nothing_left G (position (mask_of s.masks g) b) (first_unread s read g) (size_of s.masks g) (get_or d c G.nil) (apart g there (none g in_masks)) (omega arith)
      (omega (arith, none g in_masks, members_count s.harbours (mask_of s.masks g) (All-get_or (λ m. (1 ≤ ones m) × (m < 2 ^ s.harbours)) s.masks g 0 in_masks groups).1))))
    where
      slip_of : Slot → G.Value
      slip_of x = slip G s.masks s.components (d ++ cover G s read d) (row_of s.masks x)

      apart : (g : ℕ) → has (mask_of s.masks g) b ≡ true → Unread s read g → first_unread s read g ≡ position (mask_of s.masks g) b → ⊥
      apart g there unread e =
          let same : prefix_len read (members s.harbours (mask_of s.masks g)) ≡ length (members b (mask_of s.masks g)) = omega arith in
          true≢false (sym is_read ∙ ap read (sym (member_at s.harbours (mask_of s.masks g) b low there))
          ∙ ap (λ n. read (get_or (members s.harbours (mask_of s.masks g)) n 0)) (sym same)
          ∙ stops read (members s.harbours (mask_of s.masks g)) 0 unread)

  pub cover_length : length (cover G s read d) ≡ length (drop s.components (columns s.masks s.components))
  cover_length = length-map (drop s.components (columns s.masks s.components)) (cover_at G s read d)

  cover_at_opposed : (j : Column) → cover_at G s read (opposed G d) j ≡ G.minus (cover_at G s read d j)
  cover_at_opposed (key c) = sym (minus_nil G)
  cover_at_opposed (block g b c) = go (eqb (b + first_unread s read g) (size_of s.masks g))
    where
      go : (t : Bool) → cond t (G.minus (get_or (opposed G d) c G.nil)) G.nil ≡ G.minus (cond t (G.minus (get_or d c G.nil)) G.nil)
      go true = ap G.minus (get_or_opposed G d c)
      go false = sym (minus_nil G)

  pub cover_opposed : cover G s read (opposed G d) ≡ opposed G (cover G s read d)
  cover_opposed =
      map_same (cover_at G s read (opposed G d)) (λ j. G.minus (cover_at G s read d j)) (drop s.components (columns s.masks s.components)) cover_at_opposed
      ∙ sym (map_map G.minus (cover_at G s read d) (drop s.components (columns s.masks s.components)))
