-- Lines are answered one at a time. Assumes nothing.
use Rattle.std.proofs.Common.{◌≡◌, ℕ, ◌^◌, ◌<◌, false, List, [], ◌∷◌, Option, Some, None, Ok, Result, IfSome, refl, subst, arith}
use Rattle.std.specs.declared.alloc.Global.{Global}
use Rattle.std.specs.declared.iter.Chain.{Chain}
use Rattle.std.specs.declared.iter.Repeat.{Repeat}
use Rattle.std.specs.declared.iter.Zip.{Zip}
use Rattle.std.specs.declared.ops.RangeFrom.{RangeFrom}
use Rattle.std.specs.declared.io.traits.Lines.{Lines}
use Rattle.std.specs.Io.BufRead.{drop_through, first_line}
use Rattle.std.specs.Io.KnownBytes.{IsAtEnd}
use Rattle.std.specs.Io.Iter.{lines_known_bytes, YieldsKnownPiece}
use Rattle.std.specs.Iterator.Adapters.{chain_first, chain_first_done, chain_second, chain_second_done, chain_steps, repeat_item, zip_first, zip_second}
use Rattle.lines.specs.Lines.{AnswersText, LinesOf, Turn, Turns}
use Rattle.lines.proofs.Counting.{rises, stays, Behind, counted}

module _ {F B : Type 0} (answered : F → ℕ → List ℕ → F → Type 0) (remaining : B → Option (List ℕ)) (text : List ℕ) (first : F) where
  -- How a text is answered, once the lines that are left are.
  pub record Going (it : Zip (Chain (RangeFrom ℕ) (Repeat ℕ)) (Lines B Global)) (f : F) : Type 0 where
    pub before : ℕ
    pub behind : Behind before (zip_first it)
    pub rest : List ℕ
    pub known : lines_known_bytes remaining (zip_second it) ≡ Some rest
    pub onward : (lines : List (List ℕ)) (last : F) → LinesOf rest lines → Turns answered f before lines last → AnswersText answered first text

  -- Once nothing is left, the text is answered.
  pub done : (it : Zip (Chain (RangeFrom ℕ) (Repeat ℕ)) (Lines B Global)) (f : F) → Going it f → IsAtEnd (lines_known_bytes remaining (zip_second it)) → AnswersText answered first text
  done it f g end = g.onward [] f (subst IsAtEnd g.known end) refl

  -- A line that is read and has its turn is one less.
  pub read : {X E : Type 0} (bytes : X → List ℕ) (it more : Zip (Chain (RangeFrom ℕ) (Repeat ℕ)) (Lines B Global)) (n : ℕ) (item : Result X E) (line : X) (f h : F) → item ≡ Ok line → n < 2 ^ 64 → Going it f → chain_steps rises stays (zip_first it) (Some n) (zip_first more)
      → YieldsKnownPiece bytes first_line 10 (lines_known_bytes remaining (zip_second it)) (Some item) (lines_known_bytes remaining (zip_second more)) → Turn answered f n (bytes line) h → Going more h
  read {X} {E} bytes it more n item line f h came fits g counts yields turn =
      let next = counted g.before n (zip_first it) (zip_first more) fits g.behind counts in
      let piece : YieldsKnownPiece {E = E} bytes first_line 10 (Some g.rest) (Some (Ok line)) (lines_known_bytes remaining (zip_second more)) =
      subst (λ i. YieldsKnownPiece bytes first_line 10 (Some g.rest) (Some i) (lines_known_bytes remaining (zip_second more))) came
      (subst (λ k. YieldsKnownPiece bytes first_line 10 k (Some item) (lines_known_bytes remaining (zip_second more))) g.known yields) in
      record {
        before = n;
        behind = next.1;
        rest = drop_through 10 g.rest;
        known = piece.1;
        onward = λ lines last cut turns. g.onward (bytes line ∷ lines) last (piece.0.0, piece.0.1, cut)
            (h, subst (λ k. Turn answered f k (bytes line) h) next.0 turn, subst (λ k. Turns answered h k lines last) next.0 turns);
      }

  -- At first all of the text is left.
  pub begun : (it : Zip (Chain (RangeFrom ℕ) (Repeat ℕ)) (Lines B Global)) → (chain_first (zip_first it)).start ≡ 1 → repeat_item (chain_second (zip_first it)) ≡ 18446744073709551615 → chain_first_done (zip_first it) ≡ false
      → chain_second_done (zip_first it) ≡ false → lines_known_bytes remaining (zip_second it) ≡ Some text → Going it first
  begun it one top not_first not_second known =
      record {
        before = 0;
        behind = record { low = omega arith; top = top; open_still = not_second; rising = λ e. one; risen = λ e. grind arith };
        rest = text;
        known = known;
        onward = λ lines last cut turns. record { lines = lines; cut = cut; last = last; turns = turns };
      }

-- A fact of what is there, where it is.
pub where_known : {A : Type 0} (o : Option A) (P : A → Type 0) → ((x : A) → o ≡ Some x → P x) → IfSome o P
where_known None P h = tt
where_known (Some x) P h = h x refl
