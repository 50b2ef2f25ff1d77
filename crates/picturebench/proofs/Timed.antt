-- What load answers, as the benchmark's functions tell it. Assumes nothing.
use Rattle.std.proofs.Common.{◌≡◌, ℕ, ◌<◌, ◌≤◌, List, Option, None, Some, MatchOption, Bor, map, length, get_or, sym, ap, ◌∙◌, inl, ltb-false, ltb-true}
use Rattle.std.specs.Slice.{IsItemAt}
use Rattle.std.proofs.lemmas.List.{get_or-map, get_or_past, length-map}
use Rattle.pictures.specs.Reading.{Coded, Verdict, codes_in}
use Rattle.picturebench.specs.Work.{Reads}

-- The code of the slip at a place, and 0 past the last, where the slip that is looked up is given its code.
pub slip_code : {C : Type 0} (coded : C → ℕ) (slips : List C) (at code : ℕ) (found : Option (Bor C)) (Told : Bor C → Type 0) → IsItemAt slips at found → MatchOption found (code ≡ 0) Told → ((x : Bor C) → Told x → code ≡ coded x.now) → code ≡ get_or (map coded slips) at 0
slip_code coded slips at code (Some x) Told item is told =
    let inside : at < length slips = ltb-true at (length slips) (sym item.0) in
    told x is ∙ ap coded item.1 ∙ sym (get_or-map coded slips at x.now 0 inside)
slip_code coded slips at code None Told item is told =
    let outside : length slips ≤ at = ltb-false at (length slips) (sym item.0) in
    is ∙ sym (get_or_past (map coded slips) at 0 (simp length-map outside))

module _ {C : Type 0} (coded : C → ℕ) (kind width : ℕ) (bytes : List ℕ) (count at : ℕ) where
  pub reads_code : (slips : List C) (code : ℕ) → Verdict (Coded coded) kind width bytes 0 0 → map coded slips ≡ codes_in width bytes → code ≡ get_or (map coded slips) at 0 → Reads coded kind width bytes count at code
  reads_code slips code sound codes is = inl ((0, sound), is ∙ ap (λ xs. get_or xs at 0) codes)
