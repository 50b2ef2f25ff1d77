-- What the benchmark's functions answer. Assumes nothing.
use Rattle.std.specs.Prelude.{◌≡◌, ℕ, ◌*◌, ◌^◌, ◌<◌, ◌≤◌, ◌⊎◌, List, ◌≢◌, slice_index}
use Rattle.std.specs.Borrow.{RattleType}
use denote.Param.{layout}
use prog.Memory.{size}
use Rattle.pictures.specs.Reading.{Judges, codes_in, head_in, slips_of}

-- So many elements fit in memory.
abbrev pub PlaceFits : ℕ → RattleType → Type 0
PlaceFits count R = count * size (layout R) < 2 ^ 63

module _ {C : Type 0} (coded : C → ℕ) (kind width : ℕ) (bytes : List ℕ) where
  -- The picture is not loaded into a place of so many elements.
  abbrev pub NotLoaded : ℕ → Type 0
  NotLoaded count = ((n : ℕ) × (0 < n) × Judges coded kind width bytes n) ⊎ (slips_of (head_in bytes) ≢ count)

  -- The code of a slip, and 0 where the picture is not loaded.
  abbrev pub Reads : ℕ → ℕ → ℕ → Type 0
  Reads count at code = (Judges coded kind width bytes 0 × (code ≡ slice_index (codes_in width bytes) at)) ⊎ (NotLoaded count × (code ≡ 0))

-- Written so many times, or not at all; where it was written, the place holds the picture.
pub record Copies (bytes after : List ℕ) (times count : ℕ) : Type 0 where
  pub counted : (count ≡ times) ⊎ (count ≡ 0)
  pub same : 1 ≤ count → after ≡ bytes
