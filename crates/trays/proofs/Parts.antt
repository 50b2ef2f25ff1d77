-- Parts of one size, and blocks added one after the other. Assumes nothing.
use Rattle.std.proofs.Common.{◌≡◌, ℕ, zero, suc, ◌+◌, ◌-◌, ◌*◌, ◌/◌, ◌%◌, ◌<◌, ◌≤◌, min, List, [], ◌∷◌, ◌++◌, map, length, get_or, take, drop, Option, None, Some, Bor, sym, refl, ap, ◌∙◌, ap₂, ⊎_elim, add-one, arith}
use Rattle.std.specs.List.{range_with_len}
use Rattle.std.proofs.Math.Nat.{mul-div_cancel}
use Rattle.std.proofs.lemmas.Nat.{div-add-mod', mul-le}
use Rattle.std.proofs.lemmas.List.FromFn.{map-range_with_len_more}
use Rattle.std.proofs.lemmas.List.{drop-drop, drop-map, drop_at, get_or-drop, get_or-take, length-drop, length-map, length-replicate, length-take-le, map-append, take-map, take_at}
use Rattle.std.proofs.lemmas.Slice.{take-put_mid}
use Rattle.std.proofs.lemmas.Bool.{cases_lt}
use borrow.Rule.Slice.PartMut.{put_mid}
use Rattle.kinds.specs.Group.{Group}
use Rattle.sharing.specs.Dealing.{added, total}
use Rattle.sharing.proofs.Linear.{length_added}
use Rattle.sharing.proofs.Totals.{total_append}
use Rattle.trays.specs.Laying.{OfSize, block_of, key_of, with_blocks}
use Rattle.trays.proofs.Places.{get_or_added}

-- So many parts fit, if there are no fewer.
pub parts_fit : (x n k l : ℕ) → x ≤ n → l ≡ n * k → x * k ≤ l
parts_fit x n k l few long = omega (arith, mul-le x k n k few (omega arith))

starts : (b k : ℕ) → (b + 1) * k ≡ b * k + k
starts b k = omega arith

pub part_long : {X : Type 0} (k b : ℕ) (xs : List X) → (b + 1) * k ≤ length xs → length (block_of k b xs) ≡ k
part_long k b xs fits = length-take-le k (drop (b * k) xs) (omega (arith, length-drop (b * k) xs, starts b k))

pub map_part : {X Y : Type 0} (m : X → Y) (k b : ℕ) (xs : List X) → map m (block_of k b xs) ≡ block_of k b (map m xs)
map_part m k b xs = sym (take-map m k (drop (b * k) xs)) ∙ ap (take k) (sym (drop-map m (b * k) xs))

pub get_or_part : {X : Type 0} (k b c : ℕ) (xs : List X) (d : X) → c < k → get_or (block_of k b xs) c d ≡ get_or xs (b * k + c) d
get_or_part k b c xs d below = get_or-take k (drop (b * k) xs) c d below ∙ get_or-drop (b * k) xs c d

-- Where something is left of whole parts, one more fits.
room : (k n l left : ℕ) → 1 ≤ k → l % k ≡ 0 → left ≡ l - n * k → 0 < left → (n + 1) * k ≤ l
room k n l left some whole is more = ⊎_elim
    (λ fewer. omega (arith, starts n k, mul-le (n + 1) k (l / k) k (omega arith) (omega arith), div-add-mod' l k))
    (λ all. absurd (omega (arith, mul-le (l / k) k n k all (omega arith), div-add-mod' l k)))
    (cases_lt n (l / k))

module _ (G : Group) where
  pub length_with_blocks : (k n : ℕ) (xs ys : List G.Value) → length xs ≡ k → n * k ≤ length ys → length (with_blocks G k n xs ys) ≡ k
  length_with_blocks k zero xs ys long fits = long
  length_with_blocks k (suc n) xs ys long fits =
      let so_far : length (with_blocks G k n xs ys) ≡ k = length_with_blocks k n xs ys long (omega (arith, starts n k)) in
      length_added G (with_blocks G k n xs ys) (block_of k n ys) (so_far ∙ sym (part_long k n ys (omega (arith, starts n k)))) ∙ so_far

  -- What stands at a component: the value, and that component of each block.
  pub get_or_with_blocks : (k n c : ℕ) (xs ys : List G.Value) → length xs ≡ k → n * k ≤ length ys → c < k
      → get_or (with_blocks G k n xs ys) c G.nil ≡ G.plus (get_or xs c G.nil) (total G (map (λ b. get_or ys (b * k + c) G.nil) (range_with_len 0 n)))
  get_or_with_blocks k zero c xs ys long fits below = sym (G.unit (get_or xs c G.nil))
  get_or_with_blocks k (suc n) c xs ys long fits below =
      let f : ℕ → G.Value = λ b. get_or ys (b * k + c) G.nil in
      let less : n * k ≤ length ys = omega (arith, starts n k) in
      let so_far : length (with_blocks G k n xs ys) ≡ k = length_with_blocks k n xs ys long less in
      let one : length (block_of k n ys) ≡ k = part_long k n ys (omega (arith, starts n k)) in
      let all : total G (map f (range_with_len 0 (suc n))) ≡ G.plus (total G (map f (range_with_len 0 n))) (f n) =
      ap (λ j. total G (map f (range_with_len 0 j))) (sym (add-one n)) ∙ ap (total G) (map-range_with_len_more f 0 n n (omega arith))
      ∙ total_append G (map f (range_with_len 0 n)) (f n ∷ []) ∙ ap (G.plus (total G (map f (range_with_len 0 n)))) (G.unit (f n)) in
      get_or_added G (with_blocks G k n xs ys) (block_of k n ys) c G.nil (omega (arith, so_far)) (so_far ∙ sym one)
      ∙ ap₂ G.plus (get_or_with_blocks k n c xs ys long less below) (get_or_part k n c ys G.nil below)
      ∙ G.assoc (get_or xs c G.nil) (total G (map f (range_with_len 0 n))) (f n)
      ∙ ap (G.plus (get_or xs c G.nil)) (sym all)

  module _ {E : Type 0} (m : E → G.Value) where
    -- A key that is lent, or the all-zero key, is of its size.
    pub length_key : (k : ℕ) (key : Option (Bor (List E))) → OfSize key k → length (key_of G m k key) ≡ k
    length_key k None size = length-replicate k G.nil
    length_key k (Some key) size = length-map key.now m ∙ size key refl

    -- One block more is added.
    pub blocks_more : (k b : ℕ) (key : List G.Value) (blocks to to' one : List E) → map m to ≡ with_blocks G k b key (map m blocks) → one ≡ block_of k b blocks
        → map m to' ≡ added G (map m to) (map m one) → map m to' ≡ with_blocks G k (b + 1) key (map m blocks)
    blocks_more k b key blocks to to' one so_far is sum =
        rw add-one (sum ∙ ap₂ (added G) so_far (ap (map m) is ∙ map_part m k b blocks))

    -- Adding keeps the length.
    pub as_long : (to to' one : List E) → map m to' ≡ added G (map m to) (map m one) → length to ≡ length one → length to' ≡ length to
    as_long to to' one sum same =
        sym (length-map to' m) ∙ ap length sum ∙ length_added G (map m to) (map m one) (length-map to m ∙ same ∙ sym (length-map one m)) ∙ length-map to m

    -- What a loop over the blocks has done: it added the first so many, and the others are left.
    pub record Chunked (k : ℕ) (key : List G.Value) (blocks to : List E) (n size : ℕ) (rest : List E) : Type 0 where
      pub value : map m to ≡ with_blocks G k n key (map m blocks)
      pub long : length to ≡ k
      pub sized : size ≡ k
      pub left : rest ≡ drop (n * k) blocks
      pub within : n * k ≤ length blocks

    -- The next block is whole.
    pub chunk_long : (k : ℕ) (key : List G.Value) (blocks to one : List E) (n size : ℕ) (rest : List E) → 1 ≤ k → length blocks % k ≡ 0 → Chunked k key blocks to n size rest
        → length one ≡ min size (length rest) → 0 < length rest → length one ≡ k
    chunk_long k key blocks to one n size rest some whole so_far long more =
        let fits : (n + 1) * k ≤ length blocks = room k n (length blocks) (length rest) some whole (ap length so_far.left ∙ length-drop (n * k) blocks) more in
        omega (arith, long, so_far.sized, fits, starts n k, ap length so_far.left, length-drop (n * k) blocks)

    -- The next block is added.
    pub chunk_step : (k : ℕ) (key : List G.Value) (blocks to to' one : List E) (n size size' : ℕ) (rest rest' : List E) → 1 ≤ k → length blocks % k ≡ 0 → Chunked k key blocks to n size rest
        → size' ≡ size → rest ≡ one ++ rest' → length one ≡ min size (length rest) → 0 < length rest → map m to' ≡ added G (map m to) (map m one) → Chunked k key blocks to' (n + 1) size' rest'
    chunk_step k key blocks to to' one n size size' rest rest' some whole so_far same parts long more sum =
        let fits : (n + 1) * k ≤ length blocks = room k n (length blocks) (length rest) some whole (ap length so_far.left ∙ length-drop (n * k) blocks) more in
        let one_long : length one ≡ k = chunk_long k key blocks to one n size rest some whole so_far long more in
        let start : take (length one) rest ≡ one = ap (take (length one)) parts ∙ take_at one rest' (length one) refl in
        let is : one ≡ block_of k n blocks = sym start ∙ ap₂ take one_long so_far.left in
        record {
          value = blocks_more k n key blocks to to' one so_far.value is sum;
          long = as_long to to' one sum (so_far.long ∙ sym one_long) ∙ so_far.long;
          sized = same ∙ so_far.sized;
          left = sym (drop_at one rest' (length one) refl) ∙ ap (drop (length one)) (sym parts) ∙ ap₂ drop one_long so_far.left ∙ drop-drop k (n * k) blocks ∙ ap (λ j. drop j blocks) (sym (starts n k));
          within = fits;
        }

    -- Where no block is left, all are added.
    pub chunk_end : (k : ℕ) (key : List G.Value) (blocks to : List E) (n size : ℕ) (rest : List E) → 1 ≤ k → Chunked k key blocks to n size rest → length rest ≡ 0
        → map m to ≡ with_blocks G k (length blocks / k) key (map m blocks)
    chunk_end k key blocks to n size rest some so_far none =
        let all : length blocks ≡ n * k = omega (arith, none, ap length so_far.left, length-drop (n * k) blocks, so_far.within) in
        so_far.value ∙ ap (λ j. with_blocks G k j key (map m blocks)) (sym (ap (λ l. l / k) all ∙ mul-div_cancel n some))

-- What a write to a part of a list leaves in front.
pub front_written : {X Y : Type 0} (m : X → Y) (a k j : ℕ) (xs ys : List X) (vs : List Y) → a + k ≤ length xs → map m ys ≡ vs → length ys ≡ k
    → take (a + k) (map m (put_mid a j xs ys)) ≡ take a (map m xs) ++ vs
front_written m a k j xs ys vs room value long =
    take-map m (a + k) (put_mid a j xs ys) ∙ ap (map m) (take-put_mid a j xs ys (a + k) (omega (arith, long)) (omega arith))
    ∙ map-append m (take a xs) ys ∙ ap₂ ◌++◌ (sym (take-map m a xs)) value
