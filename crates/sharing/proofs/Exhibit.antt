-- The worked example of secrecy, by computing. Assumes nothing.
use Rattle.std.proofs.Common.{◌≡◌, ℕ, zero, suc, ◌+◌, ◌<◌, ◌≤◌, ◌^◌, true, false, cond, List, [], ◌∷◌, map, get_or, sym, refl, ap, subst, ap₂, arith, lit<, lit≤}
use lib.Count.{ones, ones_in}
use Rattle.std.specs.List.{prefix_len}
use Rattle.std.proofs.lemmas.List.Elements.{All-from_recursion}
use Rattle.std.proofs.lemmas.Bool.{ne_eqb}
use Rattle.kinds.specs.Kinds.{dial}
use Rattle.kinds.specs.Residue.{Residue, same_residue}
use Rattle.sharing.specs.Cover.{Readers, HoldNoGroup}
use Rattle.sharing.specs.Example.{dial_kind, two_of_three, turns, seen, key₁, dealt₁, drawn₁, start₁, end₁, key₂, dealt₂, drawn₂, start₂, end₂, RunsExist}
use Rattle.sharing.specs.Secrecy.{read_in}
use Rattle.sharing.specs.Steps.{State, Run, Dealt}

-- residues whose numbers are the same, one by one
alike : (xs ys : List (Residue 10000)) → map (λ r. r.number) xs ≡ map (λ r. r.number) ys → xs ≡ ys
alike [] [] e = refl
alike [] (y ∷ ys) e = absurd (let z : ◌≡◌ {A = ℕ} 0 1 = cc in omega arith)
alike (x ∷ xs) [] e = absurd (let z : ◌≡◌ {A = ℕ} 0 1 = cc in omega arith)
alike (x ∷ xs) (y ∷ ys) e =
    let first : x.number ≡ y.number = cc in
    let rest : map (λ r. r.number) xs ≡ map (λ r. r.number) ys = cc in
    ap₂ ◌∷◌ (same_residue x y first) (alike xs ys rest)

-- no group is whole where the lowest member of each is not read
lowest_unread : (read : Readers) → read 0 ≡ false → read 1 ≡ false → HoldNoGroup two_of_three read
lowest_unread read first second zero lt = subst (λ b. cond b (1 + prefix_len read (1 ∷ [])) 0 < 2) (sym first) (lit< tt)
lowest_unread read first second (suc zero) lt = subst (λ b. cond b (1 + prefix_len read (2 ∷ [])) 0 < 2) (sym first) (lit< tt)
lowest_unread read first second (suc (suc zero)) lt = subst (λ b. cond b (1 + prefix_len read (2 ∷ [])) 0 < 2) (sym second) (lit< tt)
lowest_unread read first second (suc (suc (suc g))) lt = absurd (omega arith)

-- no harbour is read in a round that never comes
never : (round b : ℕ) → read_in 14 two_of_three 7 turns (suc (suc round)) b ≡ false
unfolding ones ones_in
never round b = rw (ne_eqb 0 (suc (suc round)) (omega arith), ne_eqb 1 (suc (suc round)) (omega arith))

hidden : (round : ℕ) → HoldNoGroup two_of_three (read_in 14 two_of_three 7 turns round)
unfolding ones ones_in
hidden zero zero lt = lit< tt
hidden zero (suc zero) lt = lit< tt
hidden zero (suc (suc zero)) lt = lit< tt
hidden zero (suc (suc (suc g))) lt = absurd (omega arith)
hidden (suc zero) zero lt = lit< tt
hidden (suc zero) (suc zero) lt = lit< tt
hidden (suc zero) (suc (suc zero)) lt = lit< tt
hidden (suc zero) (suc (suc (suc g))) lt = absurd (omega arith)
hidden (suc (suc round)) g lt = lowest_unread (read_in 14 two_of_three 7 turns (suc (suc round))) (never round 0) (never round 1) g lt

-- the record with a draw open
drawing : List (Residue 10000) → List (Residue 10000) → State (Residue 10000)
drawing tray sheet = record { told = record { scheme = two_of_three; issue = 7; round = 0; drawn = true }; tray = tray; sheet = sheet }

sheet₁ : List (Residue 10000)
sheet₁ = dial 1 ∷ dial 2 ∷ dial 1 ∷ dial 3 ∷ dial 2 ∷ dial 3 ∷ []

sheet₂ : List (Residue 10000)
sheet₂ = dial 3088 ∷ dial 3089 ∷ dial 3088 ∷ dial 6916 ∷ dial 3089 ∷ dial 6916 ∷ []

first_run : Dealt dial_kind two_of_three 7 key₁ dealt₁ start₁ × Run dial_kind start₁ turns drawn₁ seen end₁
unfolding ones ones_in drawing sheet₁
first_run = (
  (refl, refl, alike _ _ refl),
  (
    _,
    _,
    start₁,
    refl,
    (refl, (λ e. (refl, refl, refl)), (λ n. absurd (n refl))),
    (
      _,
      _,
      start₁,
      refl,
      (refl, (λ e. absurd (omega arith)), (λ n. (refl, refl, refl))),
      (
        _,
        _,
        drawing start₁.tray sheet₁,
        refl,
        (refl, (λ e. (refl, (alike _ _ refl, refl), refl)), (λ n. absurd (n refl))),
        (
          _,
          _,
          end₁,
          refl,
          (refl, (λ e. (alike _ _ refl, alike _ _ refl, refl)), (λ n. absurd (n refl))),
          (
            _,
            _,
            end₁,
            refl,
            (refl, (λ e. (refl, refl, refl)), (λ n. absurd (n refl))),
            (_, _, end₁, refl, (refl, (λ e. ((_, refl, refl), refl, refl)), (λ n. absurd (n refl))), (refl, refl, refl)),
          ),
        ),
      ),
    ),
  ),
)

second_run : Dealt dial_kind two_of_three 7 key₂ dealt₂ start₂ × Run dial_kind start₂ turns drawn₂ seen end₂
unfolding ones ones_in drawing sheet₂
second_run = (
  (refl, refl, alike _ _ refl),
  (
    _,
    _,
    start₂,
    refl,
    (refl, (λ e. (refl, refl, refl)), (λ n. absurd (n refl))),
    (
      _,
      _,
      start₂,
      refl,
      (refl, (λ e. absurd (omega arith)), (λ n. (refl, refl, refl))),
      (
        _,
        _,
        drawing start₂.tray sheet₂,
        refl,
        (refl, (λ e. (refl, (alike _ _ refl, refl), refl)), (λ n. absurd (n refl))),
        (
          _,
          _,
          end₂,
          refl,
          (refl, (λ e. (alike _ _ refl, alike _ _ refl, refl)), (λ n. absurd (n refl))),
          (
            _,
            _,
            end₂,
            refl,
            (refl, (λ e. (refl, refl, refl)), (λ n. absurd (n refl))),
            (_, _, end₂, refl, (refl, (λ e. ((_, refl, refl), refl, refl)), (λ n. absurd (n refl))), (refl, refl, refl)),
          ),
        ),
      ),
    ),
  ),
)

-- lists that differ in the first number
unlike : (xs ys : List (Residue 10000)) → ((get_or xs 0 (dial 0)).number ≡ (get_or ys 0 (dial 0)).number → ⊥) → xs ≡ ys → ⊥
unlike xs ys differ e = differ (ap (λ zs. (get_or zs 0 (dial 0)).number) e)

pub runs_exist : RunsExist
unfolding ones ones_in
runs_exist = (
  (λ a b. (same_residue a b, ap (λ r. r.number))),
  All-from_recursion (λ m. (1 ≤ ones m) × (m < 2 ^ 3)) (3 ∷ 5 ∷ 6 ∷ []) ((lit≤ tt, lit< tt), ((lit≤ tt, lit< tt), ((lit≤ tt, lit< tt), tt))),
  refl,
  hidden,
  first_run,
  second_run,
  alike _ _ refl,
  alike _ _ refl,
  alike _ _ refl,
  refl,
  refl,
  unlike _ _ (λ e. omega arith),
  unlike _ _ (λ e. omega arith),
  unlike _ _ (λ e. omega arith),
)
