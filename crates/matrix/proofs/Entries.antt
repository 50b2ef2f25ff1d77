-- What the code's labels come to: the rows, the columns and the entries of a plan's matrix by number. Assumes nothing.
use Rattle.std.proofs.Common.{◌≡◌, ℕ, ◌+◌, ◌-◌, ◌*◌, ◌<◌, Bool, true, false, cond, eqb, length, get_or, pos, sym, refl, ap, ◌∙◌, ap₂, ⊎_elim, le_refl, arith}
use mir.Val.{bool_byte}
use Rattle.std.proofs.lemmas.Nat.{mul-le}
use Rattle.std.proofs.lemmas.Bool.{cases_lt}
use Rattle.std.proofs.lemmas.Bool.Decides.{nat_tests}
use Rattle.plans.specs.Shape.{Shape, shape_of, masks_of, group_count}
use Rattle.plans.specs.declared.plan.Plan.{Plan}
use Rattle.matrix.specs.Labels.{row_named, column_named, RowAt, ColumnAt, BlockIn}
use Rattle.matrix.specs.Matrix.{Row, Column, key, rows, columns, entry, marked_in, signed_sum}
use Rattle.matrix.specs.Numbers.{row_count, column_count, entry_at, entry_refusal, sum_refusal}
use Rattle.matrix.specs.Restores.{key_only, sum_in}
use Rattle.matrix.specs.declared.labels.RowLabel.{RowLabel}
use Rattle.matrix.specs.declared.labels.ColumnLabel.{ColumnLabel}
use Rattle.matrix.specs.declared.labels.ColumnLabel.TheVariants.{Key, Block}
use Rattle.matrix.proofs.Numbered.{many, sized, row_at, key_at, block_at}
use Rattle.matrix.proofs.Restores.{Had}

-- a place within n groups is in one of them
group_below : (n g w j k c m : ℕ) → m < n * k * w → m ≡ (g * w + j) * k + c → g < n
group_below n g w j k c m l e =
    ⊎_elim {C = g < n} (λ lt. lt) (λ le. absurd (omega (arith, mul-le n (w * k) g (w * k) le (le_refl (w * k))))) (cases_lt g n)

row_group : (p : Plan) (m : ℕ) (r : RowLabel) → m < row_count (shape_of p) → RowAt (shape_of p) m r → r.group < length (masks_of (shape_of p))
row_group p m r l at =
    omega (arith, many p, group_below (group_count (shape_of p)) r.group p.threshold (r.position - 1) p.components r.component m l at.0)

row_named_lem : (p : Plan) (m : ℕ) (r : RowLabel) (d : Row) → m < row_count (shape_of p) → RowAt (shape_of p) m r → get_or (rows (masks_of (shape_of p)) p.components) m d ≡ row_named r
row_named_lem p m r d l at =
    row_at (masks_of (shape_of p)) p.components p.threshold (sized p) r.group r.position r.component m d (row_group p m r l at) at.1 at.2 at.3 at.0

column_named_lem : (p : Plan) (m : ℕ) (j : ColumnLabel) (d : Column) → m < column_count (shape_of p) → ColumnAt (shape_of p) m j → get_or (columns (masks_of (shape_of p)) p.components) m d ≡ column_named j
column_named_lem p m (Key c) d l at =
    ap (λ n. get_or (columns (masks_of (shape_of p)) p.components) n d) at.0 ∙ key_at (masks_of (shape_of p)) p.components p.threshold (sized p) c d at.1
column_named_lem p m (Block g b c) d l at =
    let in_n : g < group_count (shape_of p) = group_below (group_count (shape_of p)) g (p.threshold - 1) b p.components c (m - p.components) (omega arith) (omega (arith, at.0)) in
    block_at (masks_of (shape_of p)) p.components p.threshold (sized p) g b c m d (omega (arith, many p)) at.1 at.2 at.0

entry_is : (p : Plan) (m n : ℕ) (r : RowLabel) (j : ColumnLabel) → m < row_count (shape_of p) → n < column_count (shape_of p) → RowAt (shape_of p) m r → ColumnAt (shape_of p) n j
    → entry_at (shape_of p) m n ≡ cond (marked_in p.threshold (row_named r) (column_named j)) 1 0
entry_is p m n r j l k row column =
    ap₂ (entry (masks_of (shape_of p))) (row_named_lem p m r (record { group = 0; position = 0; component = 0 }) l row) (column_named_lem p n j (key 0) k column)
    ∙ ap {B = ℕ} (λ s. cond (marked_in s (row_named r) (column_named j)) 1 0) (sized p r.group (row_group p m r l row))

byte_is : (b : Bool) → bool_byte b ≡ cond b 1 0
byte_is true = refl
byte_is false = refl

-- the byte that the code makes of it
pub entry_byte : (p : Plan) (m n t : ℕ) (r : RowLabel) (j : ColumnLabel) (b : Bool) (v : ℕ) → m < row_count (shape_of p) → n < column_count (shape_of p) → RowAt (shape_of p) m r → ColumnAt (shape_of p) n j
    → t ≡ p.threshold → b ≡ marked_in t (row_named r) (column_named j) → v ≡ bool_byte b → v ≡ entry_at (shape_of p) m n
entry_byte p m n t r j b v l k row column e f h =
    h ∙ byte_is b ∙ ap {B = ℕ} (λ x. cond x 1 0) (f ∙ ap (λ s. marked_in s (row_named r) (column_named j)) e) ∙ sym (entry_is p m n r j l k row column)

-- the signed sum at a column by its number
pub signed_is : (p : Plan) (g c n t : ℕ) (j : ColumnLabel) → g < group_count (shape_of p) → n < column_count (shape_of p) → ColumnAt (shape_of p) n j → t ≡ p.threshold
    → sum_in t t g c (column_named j) ≡ signed_sum (masks_of (shape_of p)) g c (get_or (columns (masks_of (shape_of p)) p.components) n (key 0))
signed_is p g c n t j l k column e =
    ap (λ s. sum_in s s g c (column_named j)) (e ∙ sym (sized p g (omega (arith, many p))))
    ∙ sym (ap (signed_sum (masks_of (shape_of p)) g c) (column_named_lem p n j (key 0) k column))

-- 1 at the column of the component's own number, and 0 at every other
pub key_only_lem : (s : Shape) (c n : ℕ) (j : ColumnLabel) → c < s.components → ColumnAt s n j → key_only c (column_named j) ≡ cond (eqb n c) (pos 1) (pos 0)
key_only_lem s c n (Key j) l at = ap (λ m. cond (eqb m c) (pos 1) (pos 0)) (sym at.0)
key_only_lem s c n (Block g b j) l at = grind (arith, nat_tests)

pub had : (size g : ℕ) (j : ColumnLabel) → BlockIn size j → Had size g (column_named j)
had size g (Key c) h = tt
had size g (Block g' b c) h = λ _. h

-- what an entry and a sum that are not refused are asked for
pub inside : (s : Shape) (m n : ℕ) → entry_refusal s m n ≡ 0 → (m < row_count s) × (n < column_count s)
inside s m n e = grind (arith, nat_tests)

pub summable : (s : Shape) (g c n : ℕ) → sum_refusal s g c n ≡ 0 → (g < group_count s) × (c < s.components) × (n < column_count s)
summable s g c n e = grind (arith, nat_tests)
