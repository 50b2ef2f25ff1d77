-- When two numbers leave the same residue, at any limit. Assumes nothing.
use Rattle.std.proofs.Common.{◌≡◌, ℕ, zero, ◌%◌, ◌<◌, Bool, T, ◌↔◌, ap}
use Rattle.kinds.specs.Residue.{same_residue, residue}

module _ (limit : ℕ) (some : zero < limit) where
  -- The residues are equal exactly if what is left on division is.
  pub means : (m n : ℕ) → (m % limit ≡ n % limit) ↔ (residue limit some m ≡ residue limit some n)
  means m n = (same_residue (residue limit some m) (residue limit some n), ap (λ r. r.number))

  -- A test whether what is left on division is equal is a test whether the residues are.
  pub tells : (m n : ℕ) (test : Bool) → (T test → m % limit ≡ n % limit) → (m % limit ≡ n % limit → T test) → T test ↔ (residue limit some m ≡ residue limit some n)
  tells m n test sound full = (λ t. (means m n).0 (sound t), λ e. full ((means m n).1 e))
