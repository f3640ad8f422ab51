-- A row's line among the lines of a text. Assumes nothing.
--     small_row     a row's fields are numbers below 2^64
--     PlainLine     a line that says neither `thread` nor `finally`, and the next line follows it
--     RowLine       one that is a row
--     row_line      a row that document 01 accepts is written as one
use Prim.Native.Nat.{ℕ, zero, suc, ◌+◌, ◌≤◌}
use mathlib.Core.List.{List, [], ◌∷◌, ◌++◌, map, append_assoc}
use mathlib.Core.Bool.{Bool, true, false, not, ◌&&◌, ◌||◌, true≢false}
use mathlib.Core.Path.{◌≡◌, refl, ap, sym, ◌∙◌}
use native.Mathlib.Omega.{arith}
use lib.Dec.{eqb}
use lib.ListN.{length}
use borrow.Author.Tests.{not-true}
use Rattle.rules.specs.Vector.{equal}
use Rattle.rules.specs.ConditionTree.{FineAll, AllBytes}
use Rattle.rules.specs.Table.{Room, Row, row_from}
use Rattle.rules.specs.Token.{bytes_of, space, line_feed, run_length, token_length, is_empty, ends_line, past_blanks, token, next_line}
use Rattle.rules.specs.Form.{Form, forms, field_of, is_field, fits, row_in}
use Rattle.rules.specs.Text.{says}
use Rattle.rules.specs.Writer.{letter_shown, fields_of, row_shown}
use Rattle.rules.proofs.VectorLaws.{equal-true}
use Rattle.rules.proofs.MeasureRows.{both_left, both_right}
use Rattle.returns.proofs.TokenLaws.{either, all_append, Stands, word_stands, stands-skip, stands_on, stands-some, stands-token, no_feed, word-no-feed, line-past}
use Rattle.returns.proofs.PieceLaws.{spaced, pieces_in, piece_shown, PieceBack, parted-row}
use Rattle.returns.proofs.FormLaws.{pieces_of, every_form, form-has}
use Rattle.returns.proofs.RowBack.{Small, form_for, Known, row-text, row_back}
use Rattle.returns.proofs.ByteLaws.{byte-below, u16-below, u64-below}

pub small_row : (t : List ℕ) → AllBytes t → (at : ℕ) → Small (fields_of (row_from t at))
unfolding row_from
small_row t h at zero = omega (arith, byte-below t h at)
small_row t h at (suc zero) = omega (arith, byte-below t h (at + 1))
small_row t h at (suc (suc zero)) = omega (arith, byte-below t h (at + 2))
small_row t h at (suc (suc (suc zero))) = omega (arith, byte-below t h (at + 3))
small_row t h at (suc (suc (suc (suc zero)))) = omega (arith, byte-below t h (at + 4))
small_row t h at (suc (suc (suc (suc (suc zero))))) = omega (arith, byte-below t h (at + 5))
small_row t h at (suc (suc (suc (suc (suc (suc zero)))))) = omega (arith, u16-below t h (at + 6))
small_row t h at (suc (suc (suc (suc (suc (suc (suc zero))))))) = u64-below t h (at + 8)
small_row t h at (suc (suc (suc (suc (suc (suc (suc (suc zero)))))))) = u64-below t h (at + 16)
small_row t h at (suc (suc (suc (suc (suc (suc (suc (suc (suc i))))))))) = omega arith

-- A row's line

-- a line that says something, but neither `thread` nor `finally`
pub record PlainLine (line : List ℕ) : Type 0 where
  pub some : (rest : List ℕ) → is_empty (past_blanks (line ++ rest)) ≡ false
  pub full : (rest : List ℕ) → ends_line (past_blanks (line ++ rest)) ≡ false
  pub no_thread : (rest : List ℕ) → says "thread" (line ++ rest) ≡ false
  pub no_finally : (rest : List ℕ) → says "finally" (line ++ rest) ≡ false
  pub next : (rest : List ℕ) → next_line (past_blanks (line ++ rest)) ≡ rest
  pub long : 1 ≤ length line

pub record RowLine (room : Room) (fields line : List ℕ) : Type 0 where
  pub plain : PlainLine line
  pub read : (rest : List ℕ) → row_in room (line ++ rest) ≡ fits fields rest

abbrev pub Other : List ℕ → Type 0
Other w = (equal w (bytes_of "thread") ≡ false) × (equal w (bytes_of "finally") ≡ false)

-- where its first word stands, and what follows that
pub record Begins (line : List ℕ) : Type 0 where
  pub word : List ℕ
  pub behind : List ℕ
  pub stands : (rest : List ℕ) → Stands word (behind ++ (line_feed ∷ rest))
  pub other : Other word
  pub skips : (rest : List ℕ) → past_blanks (line ++ rest) ≡ word ++ (behind ++ (line_feed ∷ rest))
  pub one_line : no_feed (word ++ behind) ≡ true
  pub long : 1 ≤ length line

pub plain-line : (line : List ℕ) → Begins line → PlainLine line
plain-line line b = record {
  some = λ rest. ap is_empty (b.skips rest) ∙ stands-some (b.stands rest);
  full = λ rest. ap ends_line (b.skips rest) ∙ stands_on (b.stands rest);
  no_thread = λ rest. ap (λ (l : List ℕ). equal l (bytes_of "thread")) (ap token (b.skips rest) ∙ stands-token (b.stands rest)) ∙ b.other.0;
  no_finally = λ rest. ap (λ (l : List ℕ). equal l (bytes_of "finally")) (ap token (b.skips rest) ∙ stands-token (b.stands rest)) ∙ b.other.1;
  next = λ rest.
      ap next_line (b.skips rest ∙ sym (append_assoc b.word b.behind (line_feed ∷ rest))) ∙ line-past (b.word ++ b.behind) rest b.one_line;
  long = b.long;
}

-- The first word of a row

starts : List (List ℕ) → Bool
starts [] = false
starts (p ∷ ps) = equal p (82 ∷ []) || (not (is_field p) && (not (equal p (bytes_of "thread")) && not (equal p (bytes_of "finally"))))

forms-start : every_form (λ (f : Form). starts (pieces_of f)) forms ≡ true
unfolding starts forms bytes_of pieces_in run_length token_length ends_line equal field_of
forms-start = refl

register-other : (p fields : List ℕ) → p ≡ 82 ∷ [] → Other (piece_shown fields p)
unfolding piece_shown letter_shown field_of bytes_of equal
register-other p fields e = rw e (refl, refl)

plain_other : (p fields : List ℕ) → is_field p ≡ false → Other p → Other (piece_shown fields p)
unfolding piece_shown
plain_other p fields e h = rw e h

starts_other : (p : List ℕ) (ps : List (List ℕ)) (fields : List ℕ) → starts (p ∷ ps) ≡ true → Other (piece_shown fields p)
unfolding starts
starts_other p ps fields h =
    either (equal p (82 ∷ [])) _ h (λ e. register-other p fields (equal-true p (82 ∷ []) e))
    (λ e.
    let k = both_right (not (is_field p)) _ e in
    plain_other p fields (not-true (is_field p) (both_left (not (is_field p)) _ e))
    (not-true (equal p (bytes_of "thread")) (both_left (not (equal p (bytes_of "thread"))) _ k), not-true (equal p (bytes_of "finally")) (both_right (not (equal p (bytes_of "thread"))) _ k)))

spaced-no-feed : (room : Room) (fields : List ℕ) (ps : List (List ℕ)) → FineAll (PieceBack room fields) ps → no_feed (spaced (map (piece_shown fields) ps)) ≡ true
spaced-no-feed room fields [] h = refl
spaced-no-feed room fields (p ∷ ps) h =
    all_append (λ (b : ℕ). not (eqb b line_feed)) (piece_shown fields p) (spaced (map (piece_shown fields) ps)) (word-no-feed (piece_shown fields p) h.0.written) (spaced-no-feed room fields ps h.1)

row-long : (r : Row) → 1 ≤ length (row_shown r)
unfolding row_shown
row-long r = omega arith

begins : (room : Room) (r : Row) → Known room r → Begins (row_shown r)
unfolding run_length starts
begins room r k = by (pieces_of (form_for r)) (form-has (λ (f : Form). starts (pieces_of f)) r.opcode r.kind forms forms-start k.real) k.back (λ rest. row-text r rest k.pieces)
  where
    fields : List ℕ
    fields = fields_of r

    by : (ps : List (List ℕ)) → starts ps ≡ true → FineAll (PieceBack room fields) ps →
        ((rest : List ℕ) → row_shown r ++ rest ≡ space ∷ (spaced (map (piece_shown fields) ps) ++ (line_feed ∷ rest))) → Begins (row_shown r)
    by [] s h e = absurd (true≢false (sym s))
    by (p ∷ ps) s h e =
        let w = piece_shown fields p in
        let behind = spaced (map (piece_shown fields) ps) in
        let stands : (rest : List ℕ) → Stands w (behind ++ (line_feed ∷ rest)) = λ rest. word_stands w (behind ++ (line_feed ∷ rest)) h.0.written (parted-row (map (piece_shown fields) ps) rest) in
        record {
          word = w;
          behind = behind;
          stands = stands;
          other = starts_other p ps fields s;
          skips = λ rest. ap past_blanks (e rest ∙ ap (λ (l : List ℕ). space ∷ space ∷ l) (append_assoc w behind (line_feed ∷ rest))) ∙ stands-skip (stands rest);
          one_line = spaced-no-feed room fields (p ∷ ps) h;
          long = row-long r;
        }

pub row_line : (room : Room) (r : Row) → Known room r → RowLine room (fields_of r) (row_shown r)
row_line room r k = record { plain = plain-line (row_shown r) (begins room r k); read = λ rest. row_back room r rest k }
