-- The groups of the three kinds: numbers below a limit, added modulo the limit or digit by digit. Assumes nothing.
use Rattle.std.specs.Prelude.{◌≡◌, ℕ, zero, ◌+◌, ◌-◌, ◌%◌, ◌^◌, ◌<◌, bit_xor}
use Rattle.std.proofs.Common.{sym, ap, ◌∙◌, mod-lt, mod-eq_of_lt, add_assoc, add_comm, add-zero, arith, pow_pos}
use mathlib.Core.HLevel.{is_prop→PathP}
use Rattle.std.proofs.Math.Bridge.{le_prop}
use Rattle.std.proofs.Math.Nat.{mod_self, mod-add-mod, add-mod-mod}
use Rattle.std.proofs.lemmas.Nat.{xor_lt, xor_comm}
use Rattle.std.specs.Int.Bits.{xor_assoc, xor_self, xor_zero_r}
use Rattle.kinds.specs.Group.{Group}

-- A number below the limit.
pub record Residue (limit : ℕ) : Type 0 where
  pub number : ℕ
  pub below : number < limit

-- Two residues are equal where their numbers are.
pub same_residue : {limit : ℕ} (a b : Residue limit) → a.number ≡ b.number → a ≡ b
same_residue {limit} a b e =
    λ i. record { number = e i; below = is_prop→PathP (λ j. e j < limit) (λ j. le_prop) a.below b.below i }

-- What is left of n on division by the limit.
abbrev pub residue : (limit : ℕ) → zero < limit → ℕ → Residue limit
residue limit some n = record { number = n % limit; below = mod-lt n some }

-- The numbers below the limit, with the sum modulo the limit.
abbrev pub modulo : (limit : ℕ) → zero < limit → Group
modulo limit some = record {
  Value = Residue limit;
  nil = residue limit some 0;
  plus = λ a b. residue limit some (a.number + b.number);
  minus = λ a. residue limit some (limit - a.number);
  assoc = λ a b c. same_residue _ _ (mod-add-mod (a.number + b.number) limit c.number ∙ ap (λ n. n % limit) (add_assoc a.number b.number c.number) ∙ sym (add-mod-mod a.number (b.number + c.number) limit));
  comm = λ a b. same_residue _ _ (ap (λ n. n % limit) (add_comm a.number b.number));
  unit = λ a. same_residue _ _ (add-mod-mod a.number 0 limit ∙ ap (λ n. n % limit) (add-zero a.number) ∙ mod-eq_of_lt a.below);
  undone = λ a. same_residue _ _ (add-mod-mod a.number (limit - a.number) limit ∙ ap (λ n. n % limit) (whole a) ∙ mod_self limit ∙ sym (mod-eq_of_lt some));
}
  where
    whole : (a : Residue limit) → a.number + (limit - a.number) ≡ limit
    whole a = omega (arith, a.below)

-- The numbers of so many binary digits, with the exclusive or: each is its own opposite.
abbrev pub digitwise : ℕ → Group
digitwise width = record {
  Value = Residue (2 ^ width);
  nil = record { number = 0; below = pow_pos width };
  plus = λ a b. record { number = bit_xor a.number b.number; below = xor_lt width a.number b.number a.below b.below };
  minus = λ a. a;
  assoc = λ a b c. same_residue _ _ (xor_assoc a.number b.number c.number);
  comm = λ a b. same_residue _ _ (xor_comm a.number b.number);
  unit = λ a. same_residue _ _ (xor_zero_r a.number);
  undone = λ a. same_residue _ _ (xor_self a.number);
}
