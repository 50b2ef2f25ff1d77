-- The numbers of a range that pass a test, each with how many passed before it, as a chain gives them. Assumes nothing.
use Rattle.std.proofs.Common.{◌≡◌, ℕ, ◌-◌, Bool, Bor, filter}
use denote.Param.Members.{Mut}
use Rattle.std.specs.Fn.{CalledAt}
use Rattle.std.specs.List.{range_with_len, enumerate_from}
use Rattle.std.specs.Iterator.Adapters.{enumerate_source, enumerate_count, enumerate_steps, filter_source, filter_callee, filter_steps}
use Rattle.std.specs.declared.iter.Enumerate.{Enumerate}
use Rattle.std.specs.declared.iter.Filter.{Filter}
use Rattle.std.specs.declared.ops.Range.{Range}
use Rattle.std.proofs.iter.Yields.{nat_range_steps}
use Rattle.std.proofs.lemmas.Iterator.{YieldsList, YieldsList-from_range}
use Rattle.std.proofs.lemmas.Iterator.Consumers.{YieldsList-at, YieldsList-from_filter, YieldsList-from_enumerate}

pub numbered : {F : Type 0} {g : Mut F (Bor ℕ × Unit {0}) Bool} {f : F} {kept : Filter (Range ℕ) F} {s t : Enumerate (Filter (Range ℕ) F)} {end : ℕ} (q : ℕ → Bool) (n : ℕ)
    → s ≡ t → enumerate_source t ≡ kept → enumerate_count t ≡ 0 → filter_source kept ≡ record { start = 0; end = end } → end - 0 ≡ n → filter_callee kept ≡ f
    → ((x : ℕ) (b : Bool) (r : F) → CalledAt g f x b r → (r ≡ f) × (b ≡ q x))
    → YieldsList (enumerate_steps (filter_steps nat_range_steps g)) (λ p. (p.0, p.1)) s (enumerate_from 0 (filter q (range_with_len 0 n)))
numbered {g = g} {end = end} q n is from first range size callee calls =
    YieldsList-at is (YieldsList-from_enumerate (YieldsList-at from (YieldsList-from_filter g q (YieldsList-from_range 0 end n range size) callee calls)) first)
