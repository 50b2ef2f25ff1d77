-- The codes by which pictures tell the kinds. Assumes nothing.
use Rattle.std.specs.Prelude.{◌≡◌, ℕ, Result, MatchResult, ◌≢◌}
use Rattle.kinds.specs.declared.kind.Kind.{Kind}
use Rattle.kinds.specs.declared.kind.Kind.TheVariants.{KeyWord, MaskByte, DialNumber}
use Rattle.kinds.specs.declared.kind.UnknownKind.{UnknownKind}

-- The code of each kind.
abbrev pub code_of : Kind → ℕ
code_of KeyWord = 1
code_of MaskByte = 2
code_of DialNumber = 3

-- The kind with a code, or that code where no kind has it.
abbrev pub Decodes : ℕ → Result Kind UnknownKind → Type 0
Decodes code r = MatchResult r (λ kind. code_of kind ≡ code) (λ e. (e.0 ≡ code) × ((kind : Kind) → code_of kind ≢ code))
