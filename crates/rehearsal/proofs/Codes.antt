-- A decision, said of the Bool itself. Assumes nothing.
use Rattle.std.proofs.Common.{Bool, true, false, T, ◌↔◌, refl, sym}
use Rattle.std.proofs.lemmas.Bool.{true≢false}
use Rattle.std.specs.Bool.{Decides}

pub decided : {P : Type 0} (r : Bool) → Decides r P → T r ↔ P
decided true d = (λ _. d.0 refl, λ _. tt)
decided false d = (λ none. absurd none, λ p. absurd (true≢false (sym (d.1 p))))
