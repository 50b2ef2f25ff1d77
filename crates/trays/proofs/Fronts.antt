-- The tray is laid label by label: what lies before a group's slips on a card, and how it grows. Assumes nothing.
use Rattle.std.proofs.Common.{◌≡◌, ℕ, ◌+◌, ◌≤◌, Bool, true, false, cond, List, [], ◌∷◌, ◌++◌, map, length, take, filter, sym, refl, ap, ◌∙◌, ap₂, arith, length-append}
use Rattle.std.specs.List.{range_with_len, flat_map}
use Rattle.std.proofs.lemmas.List.FromFn.{length-map-range_with_len}
use Rattle.std.proofs.lemmas.List.{append_assoc, append-nil, map-append}
use Rattle.kinds.specs.Group.{Group}
use Rattle.plans.specs.Groups.{has}
use Rattle.plans.specs.Layout.{Slot, card, mask_of, place, slots}
use Rattle.plans.proofs.Counting.{counting_append, kept_more}
use Rattle.plans.proofs.Joining.{joined_append}
use Rattle.plans.proofs.Places.{length_before}
use Rattle.sharing.specs.Dealing.{Scheme}
use Rattle.trays.specs.Laying.{Laid, cards, front, slip_at}

module _ (s : Scheme) where
  abbrev named : ℕ → ℕ → Bool
  named b g = has (mask_of s.masks g) b

  more : (b g : ℕ) (t : Bool) → named b g ≡ t → front s b (g + 1) ≡ front s b g ++ cond t (slots s.components b g) []
  more b g t is =
      let k : ℕ = s.components in
      let so_far : List ℕ = filter (named b) (range_with_len 0 g) in
      ap (λ gs. cards s b ++ flat_map (slots k b) gs) (kept_more (named b) g)
      ∙ ap (λ gs. cards s b ++ gs) (joined_append (slots k b) so_far (cond (named b g) (g ∷ []) []))
      ∙ ap (λ u. cards s b ++ (flat_map (slots k b) so_far ++ flat_map (slots k b) (cond u (g ∷ []) []))) is
      ∙ ap (λ xs. cards s b ++ (flat_map (slots k b) so_far ++ xs)) (last t)
      ∙ sym (append_assoc (cards s b) (flat_map (slots k b) so_far) (cond t (slots k b g) []))
    where
      last : (u : Bool) → flat_map (slots s.components b) (cond u (g ∷ []) []) ≡ cond u (slots s.components b g) []
      last true = append-nil (slots s.components b g)
      last false = refl

  pub front_in : (b g : ℕ) → has (mask_of s.masks g) b ≡ true → front s b (g + 1) ≡ front s b g ++ slots s.components b g
  front_in b g in_it = more b g true in_it

  pub front_out : (b g : ℕ) → has (mask_of s.masks g) b ≡ false → front s b (g + 1) ≡ front s b g
  front_out b g out = more b g false out ∙ append-nil (front s b g)

  pub front_all : (b : ℕ) → front s b (length s.masks) ≡ cards s (b + 1)
  front_all b =
      let k : ℕ = s.components in
      sym (ap (flat_map (card s.masks k)) (counting_append 0 b 1) ∙ joined_append (card s.masks k) (range_with_len 0 b) (range_with_len (0 + b) 1)
      ∙ ap (λ j. cards s b ++ flat_map (card s.masks k) (range_with_len j 1)) (zero_plus b)
      ∙ ap (λ xs. cards s b ++ xs) (append-nil (card s.masks k b)))
    where
      zero_plus : (x : ℕ) → 0 + x ≡ x
      zero_plus x = omega arith

  pub front_long : (b g : ℕ) → g ≤ length s.masks → length (front s b g) ≡ place s.masks s.components g b
  front_long b g le = length_before s.masks s.components b g le

  module _ (G : Group) (key random : List G.Value) where
    -- With the slips of one more group written behind what is laid, that much is laid.
    pub laid_more : (b g at k : ℕ) (xs ys zs : List G.Value) → has (mask_of s.masks g) b ≡ true → at ≡ length (front s b g) → k ≡ s.components
        → Laid G s key random (front s b g) xs → map (slip_at G s key random) (slots s.components b g) ≡ ys → take (at + k) zs ≡ take at xs ++ ys
        → Laid G s key random (front s b (g + 1)) zs
    laid_more b g at k xs ys zs in_it ends size so_far new whole =
        let f : Slot → G.Value = slip_at G s key random in
        let all : List Slot = front s b g ++ slots s.components b g in
        let long : length all ≡ at + k = length-append (front s b g) (slots s.components b g)
        ∙ ap₂ ◌+◌ (sym ends) (length-map-range_with_len (λ c. record { group = g; bit = b; component = c }) 0 s.components ∙ sym size) in
        ap (λ ls. take (length ls) zs) (front_in b g in_it) ∙ ap (λ n. take n zs) long ∙ whole
        ∙ ap₂ ◌++◌ (ap (λ n. take n xs) ends ∙ so_far) (sym new) ∙ sym (map-append f (front s b g) (slots s.components b g)) ∙ ap (map f) (sym (front_in b g in_it))

    pub laid_still : (b g : ℕ) (xs : List G.Value) → has (mask_of s.masks g) b ≡ false → Laid G s key random (front s b g) xs → Laid G s key random (front s b (g + 1)) xs
    laid_still b g xs out so_far =
        ap (λ ls. take (length ls) xs) (front_out b g out) ∙ so_far ∙ ap (map (slip_at G s key random)) (sym (front_out b g out))

    -- Labels that are the same are laid alike.
    pub laid_as : (ls ms : List Slot) (xs : List G.Value) → ls ≡ ms → Laid G s key random ls xs → Laid G s key random ms xs
    laid_as ls ms xs same so_far = ap (λ l. take (length l) xs) (sym same) ∙ so_far ∙ ap (map (slip_at G s key random)) same
