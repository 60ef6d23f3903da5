-- The pieces of a text, put together again, are the text, and there is no other way to part it. Assumes nothing.
use Rattle.std.proofs.Common.{◌≡◌, ℕ, ◌+◌, ◌<◌, ◌≤◌, Bool, true, false, cond, not, eqb, ◌⊎◌, List, [], ◌∷◌, ◌++◌, length, sym, refl, ap, ◌∙◌, inl, inr, ⊎_elim, append_assoc, arith, eq-eqb, ne_eqb}
use borrow.Author.Tests.{eqb-false}
use Rattle.std.specs.List.{AllByRecursion, onto_first, position_or_len}
use Rattle.std.proofs.lemmas.List.{take_all, drop_all}
use Rattle.std.proofs.lemmas.List.Sums.{fails_before_first}
use Rattle.std.proofs.lemmas.List.Folds.{length-prefix_len}
use Rattle.std.proofs.lemmas.List.Splits.{slice_split-cons_yes, slice_split-cons_no, slice_split_first, slice_split_none, length-slice_split, join_with_byte-slice_split}
use Rattle.fields.specs.Text.{upto, past, pieces}
use Rattle.listing.specs.Text.{parted_by, ended, line_feed, lines, Without, closed, TextLaws}

-- a piece, then the cut, then the rest
cut_after : (cut : ℕ) (p rest : List ℕ) → Without cut p → pieces cut (p ++ cut ∷ rest) ≡ p ∷ pieces cut rest
cut_after cut [] rest h = slice_split-cons_yes (λ b. eqb b cut) cut rest (eq-eqb cut cut refl)
cut_after cut (b ∷ p) rest h = slice_split-cons_no (λ x. eqb x cut) b (p ++ cut ∷ rest) (ne_eqb b cut h.0) ∙ ap (onto_first b) (cut_after cut p rest h.1)

uncut : (cut : ℕ) (p : List ℕ) → Without cut p → pieces cut p ≡ p ∷ []
uncut cut [] h = refl
uncut cut (b ∷ p) h = slice_split-cons_no (λ x. eqb x cut) b p (ne_eqb b cut h.0) ∙ ap (onto_first b) (uncut cut p h.1)

pub pieces_parted : (cut : ℕ) (p : List ℕ) (ps : List (List ℕ)) → AllByRecursion (Without cut) (p ∷ ps) → pieces cut (parted_by cut (p ∷ ps)) ≡ p ∷ ps
pieces_parted cut p [] h = uncut cut p h.0
pieces_parted cut p (q ∷ ps) h = cut_after cut p (parted_by cut (q ∷ ps)) h.0 ∙ ap (λ l. p ∷ l) (pieces_parted cut q ps h.1)

-- the first piece, and the others
module _ (cut : ℕ) (bs : List ℕ) where
  reached : length (upto cut bs) ≡ position_or_len (λ b. eqb b cut) bs
  reached = length-prefix_len (λ b. not (eqb b cut)) bs

  pub pieces_cut : length (upto cut bs) < length bs → pieces cut bs ≡ upto cut bs ∷ pieces cut (past cut bs)
  pieces_cut h = slice_split_first (λ b. eqb b cut) bs 0 (omega (arith, reached))

  pub pieces_only : length bs ≤ length (upto cut bs) → pieces cut bs ≡ upto cut bs ∷ []
  pieces_only h =
      let end : length bs ≤ position_or_len (λ b. eqb b cut) bs = omega (arith, reached) in
      slice_split_none (λ b. eqb b cut) bs (λ k d i. fails_before_first (λ b. eqb b cut) bs k d (omega arith))
      ∙ ap (λ l. l ∷ []) (sym (take_all (position_or_len (λ b. eqb b cut) bs) bs end))

  pub past_none : length bs ≤ length (upto cut bs) → past cut bs ≡ []
  past_none h = drop_all (position_or_len (λ b. eqb b cut) bs + 1) bs (omega (arith, reached))

apart_by : (t : Bool) (cut b : ℕ) (ps : List (List ℕ)) → eqb b cut ≡ t → AllByRecursion (Without cut) ps → AllByRecursion (Without cut) (cond t ([] ∷ ps) (onto_first b ps))
apart_by true cut b ps e h = (tt, h)
apart_by false cut b [] e h = ((eqb-false b cut e, tt), tt)
apart_by false cut b (p ∷ ps) e h = ((eqb-false b cut e, h.0), h.1)

pieces_apart : (cut : ℕ) (bs : List ℕ) → AllByRecursion (Without cut) (pieces cut bs)
pieces_apart cut [] = (tt, tt)
pieces_apart cut (b ∷ bs) = apart_by (eqb b cut) cut b (pieces cut bs) refl (pieces_apart cut bs)

-- there is a first piece
some_piece : (cut : ℕ) (bs : List ℕ) → 0 < length (pieces cut bs)
some_piece cut bs = omega (arith, length-slice_split (λ b. eqb b cut) bs)

closes_by : (ps : List (List ℕ)) → 0 < length ps → (closed (ended ps) ≡ parted_by line_feed ps) ⊎ (closed (ended ps) ≡ parted_by line_feed ps ++ line_feed ∷ [])
closes_by [] h = absurd (omega arith)
closes_by ([] ∷ []) h = inl refl
closes_by ((b ∷ bs) ∷ []) h = inr refl
closes_by (p ∷ q ∷ ps) h =
    ⊎_elim
    (λ e. inl (ap (λ l. p ++ line_feed ∷ l) e))
    (λ e. inr (ap (λ l. p ++ line_feed ∷ l) e ∙ sym (append_assoc p (line_feed ∷ parted_by line_feed (q ∷ ps)) (line_feed ∷ []))))
    (closes_by (q ∷ ps) (omega arith))

closes : (text : List ℕ) → (closed (lines text) ≡ text) ⊎ (closed (lines text) ≡ text ++ line_feed ∷ [])
closes text =
    let whole = join_with_byte-slice_split line_feed text in
    ⊎_elim (λ e. inl (e ∙ whole)) (λ e. inr (e ∙ ap (λ l. l ++ line_feed ∷ []) whole)) (closes_by (pieces line_feed text) (some_piece line_feed text))

ended_by : (l : List ℕ) (ps : List (List ℕ)) → 0 < length ps → ended (l ∷ ps) ≡ l ∷ ended ps
ended_by l [] h = absurd (omega arith)
ended_by l (p ∷ ps) h = refl

-- a line, and then the lines of the rest
pub ended_more : (l bs : List ℕ) → ended (l ∷ pieces line_feed bs) ≡ l ∷ lines bs
ended_more l bs = ended_by l (pieces line_feed bs) (some_piece line_feed bs)

lines_back : (ls : List (List ℕ)) → AllByRecursion (Without line_feed) ls → lines (closed ls) ≡ ls
lines_back [] h = refl
lines_back (l ∷ ls) h = ap ended (cut_after line_feed l (closed ls) h.0) ∙ ended_more l (closed ls) ∙ ap (λ r. l ∷ r) (lines_back ls h.1)

pub text_laws : TextLaws
text_laws = record { joined = join_with_byte-slice_split; apart = pieces_apart; only = pieces_parted; closes = closes; lines_back = lines_back }
