-- Loops over places: the first so many hold what is wanted, and the others what was there. Assumes nothing.
use Rattle.std.proofs.Common.{◌≡◌, ℕ, zero, suc, ◌+◌, ◌<◌, List, [], ◌∷◌, map, length, get_or, set, sym, refl, ap, ◌∙◌, ap₂, add-one, arith}
use Rattle.std.proofs.lemmas.List.{get_or-map, get_or-replicate, length-map, length-replicate, map-set}
use Rattle.kinds.specs.Group.{Group}
use Rattle.kinds.proofs.Groups.{left_unit}
use Rattle.sharing.specs.Dealing.{added, zeros}
use Rattle.sharing.proofs.Linear.{length_added}

abbrev pub over : {V : Type 0} → ℕ → List V → List V → List V
over zero wanted old = old
over (suc i) [] old = old
over (suc i) (w ∷ ws) [] = []
over (suc i) (w ∷ ws) (o ∷ os) = w ∷ over i ws os

over_more : {V : Type 0} (wanted old : List V) (i : ℕ) (z : V) → i < length old → length wanted ≡ length old
    → set (over i wanted old) i (get_or wanted i z) ≡ over (suc i) wanted old
over_more [] [] i z below same = absurd (omega arith)
over_more [] (o ∷ os) i z below same = absurd (omega arith)
over_more (w ∷ ws) [] i z below same = absurd (omega arith)
over_more (w ∷ ws) (o ∷ os) zero z below same = refl
over_more (w ∷ ws) (o ∷ os) (suc i) z below same = ap (λ xs. w ∷ xs) (over_more ws os i z (omega arith) (omega arith))

over_at : {V : Type 0} (wanted old : List V) (i : ℕ) (z : V) → i < length old → length wanted ≡ length old → get_or (over i wanted old) i z ≡ get_or old i z
over_at [] [] i z below same = absurd (omega arith)
over_at [] (o ∷ os) i z below same = absurd (omega arith)
over_at (w ∷ ws) [] i z below same = absurd (omega arith)
over_at (w ∷ ws) (o ∷ os) zero z below same = refl
over_at (w ∷ ws) (o ∷ os) (suc i) z below same = over_at ws os i z (omega arith) (omega arith)

pub over_all : {V : Type 0} (wanted old : List V) (i : ℕ) → i ≡ length old → length wanted ≡ length old → over i wanted old ≡ wanted
over_all [] [] zero all same = refl
over_all [] [] (suc i) all same = refl
over_all [] (o ∷ os) i all same = absurd (omega arith)
over_all (w ∷ ws) [] i all same = absurd (omega arith)
over_all (w ∷ ws) (o ∷ os) zero all same = absurd (omega arith)
over_all (w ∷ ws) (o ∷ os) (suc i) all same = ap (λ xs. w ∷ xs) (over_all ws os i (omega arith) (omega arith))

-- One more place is written.
pub writes : {E V : Type 0} (m : E → V) (xs : List E) (wanted old : List V) (i : ℕ) (x : E) (z : V) → map m xs ≡ over i wanted old → i < length old
    → length wanted ≡ length old → m x ≡ get_or wanted i z → map m (set xs i x) ≡ over (i + 1) wanted old
writes m xs wanted old i x z is below same value =
    let put : map m (set xs i x) ≡ set (map m xs) i (m x) = map-set m xs i x in
    let there : set (map m xs) i (m x) ≡ set (over i wanted old) i (get_or wanted i z) = ap₂ (λ ys y. set ys i y) is value in
    rw add-one (put ∙ there ∙ over_more wanted old i z below same)

-- What a place means, as it was read.
pub reads_it : {E V : Type 0} (m : E → V) (xs : List E) (i : ℕ) (x : E) (z : V) → x ≡ get_or xs i x → i < length xs → m x ≡ get_or (map m xs) i z
reads_it m xs i x z is below = ap m is ∙ sym (get_or-map m xs i x z below)

pub reads : {E V : Type 0} (m : E → V) (xs : List E) (ys : List V) (i : ℕ) (d : E) (z : V) → map m xs ≡ ys → i < length ys → m (get_or xs i d) ≡ get_or ys i z
reads m xs ys i d z is below =
    let long : length (map m xs) ≡ length xs = length-map xs m in
    let same : length (map m xs) ≡ length ys = ap length is in
    sym (get_or-map m xs i d z (omega (arith, long, same))) ∙ ap (λ l. get_or l i z) is

module _ (G : Group) where
  pub get_or_added : (xs ys : List G.Value) (i : ℕ) (z : G.Value) → i < length xs → length xs ≡ length ys → get_or (added G xs ys) i z ≡ G.plus (get_or xs i z) (get_or ys i z)
  get_or_added [] ys i z below same = absurd (omega arith)
  get_or_added (x ∷ xs) [] i z below same = absurd (omega arith)
  get_or_added (x ∷ xs) (y ∷ ys) zero z below same = refl
  get_or_added (x ∷ xs) (y ∷ ys) (suc i) z below same = get_or_added xs ys i z (omega arith) (omega arith)

  module _ {E : Type 0} (m : E → G.Value) where
    -- What a loop has done that copies, adds, takes away or wipes.
    abbrev pub Copied : List E → List E → ℕ → List E → Type 0
    Copied to from i xs = map m xs ≡ over i (map m from) (map m to)

    abbrev pub Added : List E → List G.Value → ℕ → List E → Type 0
    Added to from i xs = map m xs ≡ over i (added G (map m to) from) (map m to)

    abbrev pub Wiped : List E → ℕ → List E → Type 0
    Wiped to i xs = map m xs ≡ over i (zeros G (length to)) (map m to)

    pub copies : (to from xs : List E) (i : ℕ) (zero' x d : E) → Copied to from i xs → length to ≡ length from → i < length to → m zero' ≡ G.nil
        → d ≡ get_or from i d → m x ≡ G.plus (m zero') (m d) → Copied to from (i + 1) (set xs i x)
    copies to from xs i zero' x d done same below none is value =
        let long : length (map m to) ≡ length to = length-map to m in
        let longer : length (map m from) ≡ length from = length-map from m in
        let read : m d ≡ get_or (map m from) i G.nil = reads_it m from i d G.nil is (omega arith) in
        let just : m x ≡ get_or (map m from) i G.nil = value ∙ ap₂ G.plus none read ∙ left_unit G (get_or (map m from) i G.nil) in
        writes m xs (map m from) (map m to) i x G.nil done (omega (arith, long)) (omega (arith, long, longer)) just

    pub adds : (to xs : List E) (from : List G.Value) (i : ℕ) (x d : E) → Added to from i xs → length to ≡ length from → i < length to
        → m x ≡ G.plus (m (get_or xs i d)) (get_or from i G.nil) → Added to from (i + 1) (set xs i x)
    adds to xs from i x d done same below value =
        let long : length (map m to) ≡ length to = length-map to m in
        let sums : length (added G (map m to) from) ≡ length (map m to) = length_added G (map m to) from (omega (arith, long)) in
        let old : get_or (over i (added G (map m to) from) (map m to)) i G.nil ≡ get_or (map m to) i G.nil = over_at (added G (map m to) from) (map m to) i G.nil (omega (arith, long)) (omega (arith, sums)) in
        let read : m (get_or xs i d) ≡ get_or (over i (added G (map m to) from) (map m to)) i G.nil = reads_over xs (added G (map m to) from) (map m to) i d done (omega (arith, long)) (omega (arith, sums)) in
        let sum : get_or (added G (map m to) from) i G.nil ≡ G.plus (get_or (map m to) i G.nil) (get_or from i G.nil) = get_or_added (map m to) from i G.nil (omega (arith, long)) (omega (arith, long)) in
        let just : m x ≡ get_or (added G (map m to) from) i G.nil = value ∙ ap (λ v. G.plus v (get_or from i G.nil)) (read ∙ old) ∙ sym sum in
        writes m xs (added G (map m to) from) (map m to) i x G.nil done (omega (arith, long)) (omega (arith, sums)) just
      where
        length_over : (wanted old : List G.Value) (j : ℕ) → length wanted ≡ length old → length (over j wanted old) ≡ length old
        length_over wanted old zero e = refl
        length_over [] old (suc j) e = refl
        length_over (w ∷ ws) [] (suc j) e = refl
        length_over (w ∷ ws) (o ∷ os) (suc j) e = ap suc (length_over ws os j (omega arith))

        reads_over : (ys : List E) (wanted old : List G.Value) (j : ℕ) (e : E) → map m ys ≡ over j wanted old → j < length old → length wanted ≡ length old
            → m (get_or ys j e) ≡ get_or (over j wanted old) j G.nil
        reads_over ys wanted old j e is below' same' =
            reads m ys (over j wanted old) j e G.nil is (omega (arith, length_over wanted old j same'))

    pub wipes : (to xs : List E) (i : ℕ) (x : E) → Wiped to i xs → i < length to → m x ≡ G.nil → Wiped to (i + 1) (set xs i x)
    wipes to xs i x done below value =
        let long : length (map m to) ≡ length to = length-map to m in
        let many : length (zeros G (length to)) ≡ length to = length-replicate (length to) G.nil in
        writes m xs (zeros G (length to)) (map m to) i x G.nil done (omega (arith, long)) (omega (arith, long, many)) (value ∙ sym (get_or-replicate (length to) i G.nil G.nil below))

    pub copied : (to from xs : List E) (i : ℕ) → Copied to from i xs → length to ≡ length from → i ≡ length to → map m xs ≡ map m from
    copied to from xs i done same all =
        done ∙ over_all (map m from) (map m to) i (omega (arith, length-map to m)) (omega (arith, length-map to m, length-map from m))

    pub all_added : (to xs : List E) (from : List G.Value) (i : ℕ) → Added to from i xs → length to ≡ length from → i ≡ length to → map m xs ≡ added G (map m to) from
    all_added to xs from i done same all =
        let long : length (map m to) ≡ length to = length-map to m in
        done ∙ over_all (added G (map m to) from) (map m to) i (omega (arith, long)) (length_added G (map m to) from (omega (arith, long)))

    pub wiped : (to xs : List E) (i : ℕ) → Wiped to i xs → i ≡ length to → map m xs ≡ zeros G (length to)
    wiped to xs i done all =
        done ∙ over_all (zeros G (length to)) (map m to) i (omega (arith, length-map to m)) (omega (arith, length-map to m, length-replicate (length to) G.nil))

    -- What adding an element does at one place.
    pub adds_element : (to from xs : List E) (i : ℕ) (x d e : E) → Added to (map m from) i xs → length to ≡ length from → i < length to
        → e ≡ get_or from i e → m x ≡ G.plus (m (get_or xs i d)) (m e) → Added to (map m from) (i + 1) (set xs i x)
    adds_element to from xs i x d e done same below is value =
        let long : length (map m from) ≡ length from = length-map from m in
        let read : m e ≡ get_or (map m from) i G.nil = reads_it m from i e G.nil is (omega arith) in
        adds to xs (map m from) i x d done (omega (arith, long)) below (value ∙ ap (G.plus (m (get_or xs i d))) read)
