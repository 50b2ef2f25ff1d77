-- Reading a text of hexadecimal bytes from the front. Assumes nothing.
use Rattle.std.proofs.Common.{◌≡◌, ℕ, ◌+◌, ◌*◌, ◌≤◌, cond, List, [], ◌∷◌, ◌++◌, length, get_or, drop, Some, None, Option, sym, refl, ap, ◌∙◌, ap₂, append_assoc, arith}
use Rattle.std.proofs.lemmas.Bool.{eq-eqb, ne_eqb}
use Rattle.cardcheck.specs.Lines.{bytes_by, joined, value_of}

-- Bytes that are read, in front of those that are still to be read.
abbrev pub before : List ℕ → Option (List ℕ) → Option (List ℕ)
before read None = None
before read (Some rest) = Some (read ++ rest)

-- A byte that is read moves to those before.
moved : (read : List ℕ) (high low : ℕ) (rest : Option (List ℕ)) → before read (joined (Some high) (Some low) rest) ≡ before (read ++ (high * 16 + low) ∷ []) rest
moved read high low None = refl
moved read high low (Some rest) = ap Some (sym (append_assoc read ((high * 16 + low) ∷ []) rest))

-- A space is passed over.
pub past_space : (text read rest : List ℕ) → 1 ≤ length rest → get_or rest 0 0 ≡ 32 → bytes_by text ≡ before read (bytes_by rest) → bytes_by text ≡ before read (bytes_by (drop 1 rest))
past_space text read [] some is inv = absurd (omega arith)
past_space text read (c ∷ []) some is inv = inv ∙ ap (λ b. before read (cond b (Some []) None)) (eq-eqb c 32 is)
past_space text read (c ∷ (d ∷ rest)) some is inv = inv ∙ ap (λ b. before read (cond b (bytes_by (d ∷ rest)) (joined (value_of c) (value_of d) (bytes_by rest)))) (eq-eqb c 32 is)

-- Two digits are a byte, which is then among those that are read.
pub past_byte : (text read more rest : List ℕ) (high low : ℕ) → more ≡ read ++ (high * 16 + low) ∷ [] → 2 ≤ length rest → (get_or rest 0 0 ≡ 32 → ⊥) → value_of (get_or rest 0 0) ≡ Some high → value_of (get_or rest 1 0) ≡ Some low
    → bytes_by text ≡ before read (bytes_by rest) → bytes_by text ≡ before more (bytes_by (drop 2 rest))
past_byte text read more [] high low is some not upper lower inv = absurd (omega arith)
past_byte text read more (c ∷ []) high low is some not upper lower inv = absurd (omega arith)
past_byte text read more (c ∷ (d ∷ rest)) high low is some not upper lower inv =
    inv ∙ ap (λ b. before read (cond b (bytes_by (d ∷ rest)) (joined (value_of c) (value_of d) (bytes_by rest)))) (ne_eqb c 32 not)
    ∙ ap₂ (λ x y. before read (joined x y (bytes_by rest))) upper lower ∙ moved read high low (bytes_by rest) ∙ ap (λ xs. before xs (bytes_by rest)) (sym is)
