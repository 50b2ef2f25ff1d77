-- Two lists that are compared pair by pair. Assumes nothing.
use Rattle.std.proofs.Common.{◌≡◌, ℕ, zero, suc, ◌<◌, Bool, true, false, T, ◌↔◌, MatchBool, List, [], ◌∷◌, map, length, refl, ap₂, arith}
use Rattle.std.specs.List.{AllWithin, HoldsAt, zip}

module _ {E V : Type 0} (m : E → V) where
  alike : (xs ys : List E) → length xs ≡ length ys → AllWithin (λ p. m p.0 ≡ m p.1) (zip xs ys) 0 (length (zip xs ys)) → map m xs ≡ map m ys
  alike [] [] same all = refl
  alike [] (y ∷ ys) same all = absurd (omega arith)
  alike (x ∷ xs) [] same all = absurd (omega arith)
  alike (x ∷ xs) (y ∷ ys) same all =
      ap₂ ◌∷◌ (all 0 (x, y) (omega arith) (omega arith)) (alike xs ys (omega arith) (λ k d low high. all (suc k) d (omega arith) (omega arith)))

  apart : (xs ys : List E) (k : ℕ) → k < length (zip xs ys) → HoldsAt (λ p. m p.0 ≡ m p.1 → ⊥) (zip xs ys) k → map m xs ≡ map m ys → ⊥
  apart [] ys k low holds same = omega arith
  apart (x ∷ xs) [] k low holds same = omega arith
  apart (x ∷ xs) (y ∷ ys) zero low holds same = holds (x, y) (cc)
  apart (x ∷ xs) (y ∷ ys) (suc k) low holds same = apart xs ys k (omega arith) holds (cc)

  -- What a test of every pair tells of the two lists.
  pub decided : (xs ys : List E) → length xs ≡ length ys → (r : Bool)
      → MatchBool r (AllWithin (λ p. m p.0 ≡ m p.1) (zip xs ys) 0 (length (zip xs ys))) ((k : ℕ) × (k < length (zip xs ys)) × HoldsAt (λ p. m p.0 ≡ m p.1 → ⊥) (zip xs ys) k)
      → T r ↔ (map m xs ≡ map m ys)
  decided xs ys same true all = (λ _. alike xs ys same all, λ _. tt)
  decided xs ys same false one = (λ none. absurd none, λ is. absurd (apart xs ys one.0 one.1 one.2 is))
