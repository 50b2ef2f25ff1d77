-- Two pictures of one head are equal exactly if their slips mean the same. Assumes nothing.
use Rattle.std.proofs.Common.{◌≡◌, ℕ, ◌^◌, ◌<◌, ◌↔◌, List, [], ◌∷◌, map, length, drop, sym, refl, ap, ◌∙◌, ap₂, arith}
use Rattle.std.proofs.lemmas.List.{length-map}
use Rattle.sharing.specs.Format.{picture}
use Rattle.pictures.specs.Reading.{codes_of, slips_of}
use Rattle.pictures.specs.Writing.{OneToOne}
use Rattle.pictures.proofs.ReadsBack.{codes_back, codes_under}

-- lists that one function does not tell apart are not told apart by another
map_alike : {C X Y : Type 0} (f : C → X) (k : C → Y) → ((a b : C) → f a ≡ f b → k a ≡ k b) → (xs ys : List C) → map f xs ≡ map f ys → map k xs ≡ map k ys
map_alike f k alike [] [] e = refl
map_alike f k alike [] (y ∷ ys) e = absurd (omega (arith, ap length e))
map_alike f k alike (x ∷ xs) [] e = absurd (omega (arith, ap length e))
map_alike f k alike (x ∷ xs) (y ∷ ys) e =
    let first : f x ≡ f y = cc in
    let rest : map f xs ≡ map f ys = cc in
    ap₂ (λ z zs. z ∷ zs) (alike x y first) (map_alike f k alike xs ys rest)

pub one_to_one : {C V : Type 0} (coded : C → ℕ) (meaning : C → V) (width : ℕ) → ((e : C) → coded e < 2 ^ width) → ((a b : C) → (coded a ≡ coded b) ↔ (meaning a ≡ meaning b)) → OneToOne coded meaning width
one_to_one coded meaning width fits means h a b a_long b_long = (
  λ same. map_alike coded meaning (λ x y. (means x y).0) a b
      (sym (back a a_long) ∙ ap (λ bytes. codes_of width (slips_of h) (drop 9 bytes)) same ∙ back b b_long),
  λ same. ap (picture width h) (map_alike meaning coded (λ x y. (means x y).1) a b same),
)
  where
    back : (slips : List _) → length slips ≡ slips_of h → codes_of width (slips_of h) (drop 9 (picture width h (map coded slips))) ≡ map coded slips
    back slips long = codes_back width (map coded slips) (codes_under coded width fits slips) (slips_of h) (length-map slips coded ∙ long)
