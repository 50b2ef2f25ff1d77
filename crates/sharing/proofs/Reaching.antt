-- The shift is one of elements. Assumes nothing.
use Rattle.std.proofs.Common.{◌≡◌, ℕ, zero, suc, ◌+◌, Bool, true, false, cond, eqb, List, [], ◌∷◌, get_or, drop, All, refl, ap, ◌∙◌, ap₂}
use Rattle.std.proofs.lemmas.List.Elements.{All-append, All-cons, All-head, All-map, All-nil, All-tail}
use Rattle.matrix.specs.Matrix.{Column, key, block, columns, size_of}
use Rattle.sharing.specs.Calls.{fresh, Told, draw, apply, discard, read, picture, reissue, audit, refusal, Turn, own, other, after_turn}
use Rattle.sharing.specs.Cover.{Readers, cover_at, cover, first_unread}
use Rattle.sharing.specs.Dealing.{Scheme, added, opposed}
use Rattle.sharing.specs.Elements.{Makes, ShiftIsOfElements}
use Rattle.sharing.specs.Secrecy.{turn_shift, shifts, read_in}
use Rattle.sharing.specs.Steps.{Kind, values}
use Rattle.sharing.proofs.Alike.{all_of}

module _ {E : Type 0} (K : Kind E) (m : Makes K) where
  -- a value that some element means
  Reached : K.group.Value → Type 0
  Reached v = (e : E) × (K.meaning e ≡ v)

  nil_reached : Reached K.group.nil
  unfolding Reached
  nil_reached = (m.zero, m.zero_means)

  plus_reached : (v w : K.group.Value) → Reached v → Reached w → Reached (K.group.plus v w)
  unfolding Reached
  plus_reached v w a b = (m.sum a.0 b.0, m.sum_means a.0 b.0 ∙ ap₂ K.group.plus a.1 b.1)

  minus_reached : (v : K.group.Value) → Reached v → Reached (K.group.minus v)
  unfolding Reached
  minus_reached v a = (m.opposite a.0, m.opposite_means a.0 ∙ ap K.group.minus a.1)

  -- elements for a list of values that are all reached
  gathered : (vs : List K.group.Value) → All Reached vs → (xs : List E) × (values K xs ≡ vs)
  unfolding Reached
  gathered [] a = ([], refl)
  gathered (v ∷ vs) a =
      let first = All-head Reached v vs a in
      let rest = gathered vs (All-tail Reached v vs a) in
      (first.0 ∷ rest.0, ap₂ ◌∷◌ first.1 rest.1)

  given_reached : (d : List E) (c : ℕ) → Reached (get_or (values K d) c K.group.nil)
  unfolding Reached
  given_reached [] c = nil_reached
  given_reached (x ∷ d) zero = (x, refl)
  given_reached (x ∷ d) (suc c) = given_reached d c

  added_reached : (vs ws : List K.group.Value) → All Reached vs → All Reached ws → All Reached (added K.group vs ws)
  added_reached [] ws a b = All-nil Reached
  added_reached (v ∷ vs) [] a b = All-nil Reached
  added_reached (v ∷ vs) (w ∷ ws) a b =
      All-cons Reached (K.group.plus v w) (added K.group vs ws) (plus_reached v w (All-head Reached v vs a) (All-head Reached w ws b))
      (added_reached vs ws (All-tail Reached v vs a) (All-tail Reached w ws b))

  opposed_reached : (vs : List K.group.Value) → All Reached vs → All Reached (opposed K.group vs)
  opposed_reached [] a = All-nil Reached
  opposed_reached (v ∷ vs) a =
      All-cons Reached (K.group.minus v) (opposed K.group vs) (minus_reached v (All-head Reached v vs a)) (opposed_reached vs (All-tail Reached v vs a))

  cover_reached : (s : Scheme) (by : Readers) (d : List E) → All Reached (cover K.group s by (values K d))
  cover_reached s by d =
      All-map Reached (cover_at K.group s by (values K d)) (drop s.components (columns s.masks s.components))
      (all_of (λ j. Reached (cover_at K.group s by (values K d) j)) each (drop s.components (columns s.masks s.components)))
    where
      either : (b : Bool) (v : K.group.Value) → Reached v → Reached (cond b (K.group.minus v) K.group.nil)
      either true v a = minus_reached v a
      either false v a = nil_reached

      each : (j : Column) → Reached (cover_at K.group s by (values K d) j)
      each (key c) = nil_reached
      each (block g b c) = either (eqb (b + first_unread s by g) (size_of s.masks g)) (get_or (values K d) c K.group.nil) (given_reached d c)

  turn_reached : (by : ℕ → Readers) (d : List E) (t : Told) (x : Turn) → All Reached (turn_shift K.group K.width by (values K d) t x)
  turn_reached by d t (own (draw randoms sheet)) = go (eqb (refusal K.width t (draw randoms sheet)) 0)
    where
      go : (b : Bool) → All Reached (cond b (added K.group (cover K.group t.scheme (by (t.round + 1)) (values K d)) (opposed K.group (cover K.group t.scheme (by t.round) (values K d)))) [])
      go true = added_reached (cover K.group t.scheme (by (t.round + 1)) (values K d)) (opposed K.group (cover K.group t.scheme (by t.round) (values K d))) (cover_reached t.scheme (by (t.round + 1)) d) (opposed_reached (cover K.group t.scheme (by t.round) (values K d)) (cover_reached t.scheme (by t.round) d))
      go false = All-nil Reached
  turn_reached by d t (own (apply note tray sheet)) = All-nil Reached
  turn_reached by d t (own (discard note sheet)) = All-nil Reached
  turn_reached by d t (own (read harbour tray)) = All-nil Reached
  turn_reached by d t (own (picture harbour tray place)) = All-nil Reached
  turn_reached by d t (own (reissue harbour tray working)) = All-nil Reached
  turn_reached by d t (own (audit tray)) = All-nil Reached
  turn_reached by d t (other u c) = All-nil Reached

  shifts_reached : (by : ℕ → Readers) (d : List E) (t : Told) (turns : List Turn) → All Reached (shifts K.group K.width by (values K d) t turns)
  shifts_reached by d t [] = All-nil Reached
  shifts_reached by d t (x ∷ xs) =
      All-append Reached (turn_shift K.group K.width by (values K d) t x) (shifts K.group K.width by (values K d) (after_turn K.width t x) xs)
      (turn_reached by d t x) (shifts_reached by d (after_turn K.width t x) xs)

pub shift_is_of_elements : {E : Type 0} (K : Kind E) → ShiftIsOfElements K
shift_is_of_elements K m scheme issue turns d =
    let by : ℕ → Readers = read_in K.width scheme issue turns in (
      gathered K m _ (cover_reached K m scheme (by 0) d),
      gathered K m _ (shifts_reached K m by d (fresh scheme issue) turns),
    )
