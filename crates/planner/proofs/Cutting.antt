-- What `split_whitespace` says of the words of a text. Assumes nothing.
use Rattle.std.proofs.Common.{◌≡◌, ℕ, ◌<◌, List, [], ◌∷◌, ◌++◌, length, sym, refl, ◌∙◌, arith}
use Rattle.std.specs.Char.{is_whitespace, is_not_whitespace}
use Rattle.std.specs.Str.{NoCharPasses, EmptyOrStartsWithPassing}
use Rattle.planner.specs.Lines.{First, Words, Fewer, More}

pub first_of : {bs text w rest : List ℕ} → bs ≡ text → (gap : List ℕ) × (bs ≡ gap ++ (w ++ rest)) × (0 < length w) × NoCharPasses is_not_whitespace gap × NoCharPasses is_whitespace w × ((more : List ℕ) × EmptyOrStartsWithPassing is_whitespace rest more) → First text w rest
first_of same cut = record { gap = cut.0; cut = sym same ∙ cut.1; some = cut.2; blank = cut.3; solid = cut.4; ends = cut.5 }

module _ {text a after_a : List ℕ} (one : First text a after_a) where
  pub one_word : NoCharPasses is_not_whitespace after_a → Fewer text
  one_word blank = (a ∷ [], (after_a, (after_a, one, refl), blank), omega arith)

  module _ {b after_b : List ℕ} (two : First after_a b after_b) where
    pub two_words : NoCharPasses is_not_whitespace after_b → Fewer text
    two_words blank = (a ∷ b ∷ [], (after_b, (after_a, one, (after_b, two, refl)), blank), omega arith)

    module _ {c after_c : List ℕ} (three : First after_b c after_c) where
      pub just_three : NoCharPasses is_not_whitespace after_c → Words text (a ∷ b ∷ c ∷ [])
      just_three blank = (after_c, (after_a, one, (after_b, two, (after_c, three, refl))), blank)

      pub four_words : {d after_d : List ℕ} → First after_c d after_d → More text
      four_words {d} {after_d} four = (a, b, c, d, after_d, (after_a, one, (after_b, two, (after_c, three, (after_d, four, refl)))))
