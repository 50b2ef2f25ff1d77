-- What follows from the laws in any commutative group. Assumes nothing.
use Rattle.std.proofs.Common.{◌≡◌, sym, ap, ◌∙◌}
use Rattle.kinds.specs.Group.{Group}

module _ (G : Group) where
  pub left_unit : (a : G.Value) → G.plus G.nil a ≡ a
  left_unit a = G.comm G.nil a ∙ G.unit a

  pub left_undone : (a : G.Value) → G.plus (G.minus a) a ≡ G.nil
  left_undone a = G.comm (G.minus a) a ∙ G.undone a

  pub left_comm : (a b c : G.Value) → G.plus a (G.plus b c) ≡ G.plus b (G.plus a c)
  left_comm a b c = sym (G.assoc a b c) ∙ ap (λ v. G.plus v c) (G.comm a b) ∙ G.assoc b a c

  pub middle_four : (a b c d : G.Value) → G.plus (G.plus a b) (G.plus c d) ≡ G.plus (G.plus a c) (G.plus b d)
  middle_four a b c d = G.assoc a b (G.plus c d) ∙ ap (G.plus a) (left_comm b c d) ∙ sym (G.assoc a c (G.plus b d))

  -- An opposite takes its own element away again.
  pub back : (a b : G.Value) → G.plus (G.minus a) (G.plus a b) ≡ b
  back a b = sym (G.assoc (G.minus a) a b) ∙ ap (λ v. G.plus v b) (left_undone a) ∙ left_unit b

  pub cancel_left : (a b c : G.Value) → G.plus a b ≡ G.plus a c → b ≡ c
  cancel_left a b c e = sym (back a b) ∙ ap (G.plus (G.minus a)) e ∙ back a c

  -- What sums to zero with an element is its opposite.
  pub opposite_is : (a b : G.Value) → G.plus a b ≡ G.nil → b ≡ G.minus a
  opposite_is a b e = cancel_left a b (G.minus a) (e ∙ sym (G.undone a))

  pub minus_nil : G.minus G.nil ≡ G.nil
  minus_nil = sym (opposite_is G.nil G.nil (G.unit G.nil))

  pub minus_minus : (a : G.Value) → G.minus (G.minus a) ≡ a
  minus_minus a = sym (opposite_is (G.minus a) a (left_undone a))

  pub minus_plus : (a b : G.Value) → G.minus (G.plus a b) ≡ G.plus (G.minus a) (G.minus b)
  minus_plus a b = sym (opposite_is (G.plus a b) (G.plus (G.minus a) (G.minus b)) whole)
    where
      whole : G.plus (G.plus a b) (G.plus (G.minus a) (G.minus b)) ≡ G.nil
      whole = middle_four a b (G.minus a) (G.minus b) ∙ ap (λ v. G.plus v (G.plus b (G.minus b))) (G.undone a) ∙ left_unit (G.plus b (G.minus b)) ∙ G.undone b
