-- The digits of a number in a base: how many, how large, what number they make, and that no others make it. Assumes nothing.
use Rattle.std.proofs.Common.{◌≡◌, ℕ, zero, suc, ◌+◌, ◌*◌, ◌/◌, ◌%◌, ◌^◌, ◌<◌, ◌≤◌, List, [], ◌∷◌, ◌++◌, length, get_or, take, drop, sym, refl, ap, ◌∙◌, subst, ap₂, mod-lt, mul_assoc, mul_comm, add-mul, suc-add, mul-zero, zero-add, zero-mul, mul-one, arith, pow-add, w8, Fits}
use native.Mathlib.Nat.{div-div-eq-div-mul, mod-one, one-le-pow, pow-succ', pow-zero}
use lib.Arith.{mod-mul}
use Rattle.std.specs.Int.Digits.{AllBelowBase, number_from_digits, number_from_digits_after}
use Rattle.std.proofs.lemmas.Nat.{div-mul-add, mod-mul-add}
use Rattle.std.proofs.lemmas.Int.Digits.{number_lt, number_push, number_after_append}
use Rattle.std.proofs.lemmas.List.Elements.{All-append, All-drop, All-from_get_or, All-from_recursion, All-take, recursion_from_All}
use Rattle.sharing.specs.Format.{bytes_of, digits, packed}

pub packed_is : (width x : ℕ) (cs : List ℕ) → packed width x cs ≡ number_from_digits_after (2 ^ width) x cs
packed_is width x [] = refl
packed_is width x (c ∷ cs) = packed_is width (x * 2 ^ width + c) cs

-- one code more
pub packed_push : (width : ℕ) (cs : List ℕ) (c : ℕ) → packed width 0 (cs ++ (c ∷ [])) ≡ packed width 0 cs * 2 ^ width + c
packed_push width cs c =
    packed_is width 0 (cs ++ (c ∷ [])) ∙ number_push (2 ^ width) cs c ∙ ap (λ x. x * 2 ^ width + c) (sym (packed_is width 0 cs))

-- each byte of a slice is below 256
pub bytes_under : (bytes : List ℕ) → ((i : ℕ) → Fits w8 (get_or bytes i 0)) → AllBelowBase 256 bytes
bytes_under bytes typed = recursion_from_All (λ d. d < 256) bytes (All-from_get_or (λ d. d < 256) bytes 0 (λ i _. (typed i).fits))

-- what holds of digits holds of some of them, and of two lists of them end to end
pub below_take : (b n : ℕ) (ds : List ℕ) → AllBelowBase b ds → AllBelowBase b (take n ds)
below_take b n ds under = recursion_from_All (λ d. d < b) (take n ds) (All-take (λ d. d < b) n ds (All-from_recursion (λ d. d < b) ds under))

pub below_drop : (b n : ℕ) (ds : List ℕ) → AllBelowBase b ds → AllBelowBase b (drop n ds)
below_drop b n ds under = recursion_from_All (λ d. d < b) (drop n ds) (All-drop (λ d. d < b) n ds (All-from_recursion (λ d. d < b) ds under))

pub below_append : (b : ℕ) (ds es : List ℕ) → AllBelowBase b ds → AllBelowBase b es → AllBelowBase b (ds ++ es)
below_append b ds es u v =
    recursion_from_All (λ d. d < b) (ds ++ es) (All-append (λ d. d < b) ds es (All-from_recursion (λ d. d < b) ds u) (All-from_recursion (λ d. d < b) es v))

pub digits_length : (b n x : ℕ) → length (digits b n x) ≡ n
digits_length b zero x = refl
digits_length b (suc n) x = ap suc (digits_length b n x)

pub digits_under : (b n x : ℕ) → 1 ≤ b → AllBelowBase b (digits b n x)
digits_under b zero x pos = tt
digits_under b (suc n) x pos = (mod-lt (x / b ^ n) pos, digits_under b n x pos)

-- digits behind a number that is there
pub after_digits : (b n m x : ℕ) → 1 ≤ b → number_from_digits_after b m (digits b n x) ≡ m * b ^ n + x % b ^ n
after_digits b zero m x pos = omega (arith, ap (λ p. m * p) (pow-zero b), ap (λ p. x % p) (pow-zero b), mod-one x, mul-one m)
after_digits b (suc n) m x pos =
    let split : x % (b * b ^ n) ≡ (x / b ^ n % b) * b ^ n + x % b ^ n = mod-mul x {m = b} {c = b ^ n} pos (one-le-pow n b pos) in
    omega (arith, after_digits b n (m * b + x / b ^ n % b) x pos, add-mul (m * b) (x / b ^ n % b) (b ^ n), mul_assoc m b (b ^ n), ap (λ p. m * p) (pow-succ' b n), ap (λ p. x % p) (pow-succ' b n), split)

pub number_digits : (b n x : ℕ) → 1 ≤ b → number_from_digits b (digits b n x) ≡ x % b ^ n
number_digits b n x pos = after_digits b n 0 x pos ∙ omega (arith, zero-mul (b ^ n))

-- what digits write behind a number: the number, moved up, and what they write alone
pub number_after_is : (b m : ℕ) (ds : List ℕ) → number_from_digits_after b m ds ≡ m * b ^ length ds + number_from_digits b ds
number_after_is b m [] = omega (arith, ap (λ p. m * p) (pow-zero b), mul-one m)
number_after_is b m (d ∷ ds) =
    let z : 0 * b + d ≡ d = omega (arith, zero-mul b) in
    omega (arith, number_after_is b (m * b + d) ds, number_after_is b (0 * b + d) ds, ap (λ y. y * b ^ length ds) z, add-mul (m * b) d (b ^ length ds), mul_assoc m b (b ^ length ds), ap (λ p. m * p) (pow-succ' b (length ds)))

pub number_append : (b : ℕ) (xs ys : List ℕ) → number_from_digits b (xs ++ ys) ≡ number_from_digits b xs * b ^ length ys + number_from_digits b ys
number_append b xs ys = number_after_append b 0 xs ys ∙ number_after_is b (number_from_digits b xs) ys

-- digits are those of the number that they make
digits_after : (b m : ℕ) (ds : List ℕ) → AllBelowBase b ds → digits b (length ds) (number_from_digits_after b m ds) ≡ ds
digits_after b m [] under = refl
digits_after b m (d ∷ ds) under =
    let top : number_from_digits_after b (m * b + d) ds / b ^ length ds ≡ m * b + d =
    ap (λ x. x / b ^ length ds) (number_after_is b (m * b + d) ds) ∙ div-mul-add (m * b + d) (b ^ length ds) (number_from_digits b ds) (number_lt b ds under.1) in
    ap₂ (λ x xs. x ∷ xs) (ap (λ x. x % b) top ∙ mod-mul-add m b d under.0) (digits_after b (m * b + d) ds under.1)

pub digits_number : (b n : ℕ) (ds : List ℕ) → AllBelowBase b ds → length ds ≡ n → digits b n (number_from_digits b ds) ≡ ds
digits_number b n ds under long = ap (λ k. digits b k (number_from_digits b ds)) (sym long) ∙ digits_after b 0 ds under

-- the lowest digits hang only on what is left on division by a power
pub digits_mod : (b n x : ℕ) → 1 ≤ b → digits b n x ≡ digits b n (x % b ^ n)
digits_mod b n x pos =
    sym (digits_number b n (digits b n x) (digits_under b n x pos) (digits_length b n x)) ∙ ap (digits b n) (number_digits b n x pos)

-- digits of one number and one length are the same
pub same_from_number : (b : ℕ) (xs ys : List ℕ) → AllBelowBase b xs → AllBelowBase b ys → length xs ≡ length ys → number_from_digits b xs ≡ number_from_digits b ys → xs ≡ ys
same_from_number b xs ys u v long same =
    sym (digits_number b (length ys) xs u long) ∙ ap (digits b (length ys)) same ∙ digits_number b (length ys) ys v refl

-- the upper digits, and the lower ones
pub digits_append : (b n k x : ℕ) → digits b (n + k) x ≡ digits b n (x / b ^ k) ++ digits b k x
digits_append b zero k x = ap (λ m. digits b m x) (zero-add k)
digits_append b (suc n) k x =
    let top : x / b ^ (n + k) ≡ x / b ^ k / b ^ n =
    ap (λ p. x / p) (pow-add b n k ∙ mul_comm (b ^ n) (b ^ k)) ∙ sym (div-div-eq-div-mul x (b ^ k) (b ^ n)) in
    ap (λ m. digits b m x) (suc-add n k) ∙ ap₂ (λ y ys. y % b ∷ ys) top (digits_append b n k x)

-- the bytes of a picture are digits in base 256
bytes_digits : (n x : ℕ) → bytes_of n x ≡ digits 256 n x
bytes_digits zero x = refl
bytes_digits (suc n) x = ap (λ ys. x / 256 ^ n % 256 ∷ ys) (bytes_digits n x)

pub bytes_length : (n x : ℕ) → length (bytes_of n x) ≡ n
bytes_length n x = ap length (bytes_digits n x) ∙ digits_length 256 n x

pub bytes_below : (n x : ℕ) → AllBelowBase 256 (bytes_of n x)
bytes_below n x = subst (AllBelowBase 256) (sym (bytes_digits n x)) (digits_under 256 n x (omega arith))

pub number_bytes : (n x : ℕ) → number_from_digits 256 (bytes_of n x) ≡ x % 256 ^ n
number_bytes n x = ap (number_from_digits 256) (bytes_digits n x) ∙ number_digits 256 n x (omega arith)

pub bytes_number : (n : ℕ) (ds : List ℕ) → AllBelowBase 256 ds → length ds ≡ n → bytes_of n (number_from_digits 256 ds) ≡ ds
bytes_number n ds under long = bytes_digits n (number_from_digits 256 ds) ∙ digits_number 256 n ds under long

pub bytes_append : (n k x : ℕ) → bytes_of (n + k) x ≡ bytes_of n (x / 256 ^ k) ++ bytes_of k x
bytes_append n k x =
    bytes_digits (n + k) x ∙ digits_append 256 n k x ∙ ap₂ ◌++◌ (sym (bytes_digits n (x / 256 ^ k))) (sym (bytes_digits k x))

-- a power of a power
pub pow_mul : (b m n : ℕ) → (b ^ m) ^ n ≡ b ^ (m * n)
pow_mul b m zero = pow-zero (b ^ m) ∙ sym (ap (λ k. b ^ k) (mul-zero m) ∙ pow-zero b)
pow_mul b m (suc n) =
    let more : m + m * n ≡ m * suc n = omega arith in
    pow-succ' (b ^ m) n ∙ ap (λ p. b ^ m * p) (pow_mul b m n) ∙ sym (pow-add b m (m * n)) ∙ ap (λ k. b ^ k) more
