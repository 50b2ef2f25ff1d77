-- The codes of slips, one behind the other in a writer of bits, from none to all. Assumes nothing.
use Rattle.std.proofs.Common.{◌≡◌, ℕ, ◌+◌, ◌*◌, ◌^◌, ◌<◌, List, [], ◌∷◌, ◌++◌, map, length, get_or, take, sym, ap, ◌∙◌, ap₂, mul-suc, add-one, arith}
use Rattle.std.proofs.lemmas.List.{map_more}
use Rattle.sharing.specs.Format.{body_length, packed}
use Rattle.pictures.specs.Packing.{HasRoom, Pushed, bits_made, made}
use Rattle.pictures.specs.declared.writer.BitWriter.{BitWriter}
use Rattle.pictures.proofs.Digits.{packed_push}

module _ {C : Type 0} (coded : C → ℕ) (width : ℕ) (slips : List C) where
  -- the writer has the codes of the first slips behind it
  pub record SoFar (i : ℕ) (w : BitWriter) : Type 0 where
    pub same : w.width ≡ width
    pub long : length w.body.now ≡ body_length width (length slips)
    pub room : HasRoom w
    pub packs : made w ≡ packed width 0 (map coded (take i slips))
    pub counts : bits_made w ≡ width * i

  pub so_far_more : (i code : ℕ) (slip : C) {w next : BitWriter} → SoFar i w → i < length slips → slip ≡ get_or slips i slip
      → code ≡ coded slip → Pushed w next code → SoFar (i + 1) next
  so_far_more i code slip s below is value p =
      let more : map coded (take (i + 1) slips) ≡ map coded (take i slips) ++ (code ∷ []) =
      map_more coded slips i slip below ∙ ap (λ c. map coded (take i slips) ++ (c ∷ [])) (ap coded (sym is) ∙ sym value) in
      record {
        same = p.width ∙ s.same;
        long = p.long ∙ s.long;
        room = p.room;
        packs = p.number ∙ ap₂ (λ x k. x * 2 ^ k + code) s.packs s.same ∙ sym (packed_push width (map coded (take i slips)) code) ∙ ap (packed width 0) (sym more);
        counts = omega (arith, p.bits, s.same, s.counts, mul-suc width i, ap (λ k. width * k) (add-one i));
      }
