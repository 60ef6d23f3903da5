-- A listing is read line by line. Assumes nothing.
use Rattle.std.proofs.Common.{◌≡◌, ℕ, ◌+◌, ◌<◌, ◌≤◌, leb, List, [], ◌∷◌, length, drop, Some, Ok, Err, Option, Result, sym, ⊎_elim, refl, ap, ◌∙◌, subst, arith, le-leb}
use Rattle.std.proofs.lemmas.List.{drop-drop}
use Rattle.std.proofs.lemmas.Bool.{cond-true}
use Rattle.fields.specs.declared.faults.LineFault.{LineFault}
use Rattle.fields.specs.declared.faults.ListingFault.TheVariants.{TooLarge, Line}
use Rattle.fields.specs.Text.{upto, past}
use Rattle.std.proofs.lemmas.Bool.{cases_lt}
use Rattle.listing.specs.declared.commands.Opening.{Opening}
use Rattle.listing.specs.declared.lines.Line.{Line as LineText}
use Rattle.listing.specs.declared.reader.Reader.{Reader}
use Rattle.listing.specs.Text.{ended, line_feed, lines}
use Rattle.listing.specs.Lines.{text_of}
use Rattle.listing.specs.Reading.{opening_reply}
use Rattle.listing.specs.Entries.{EntryForm}
use Rattle.listing.specs.declared.commands.Command.{Command}
use Rattle.fields.specs.declared.faults.ListingFault.{ListingFault}
use Rattle.listing.specs.Listings.{NextCommandBy, NextCommand, listing_limit, left, Stands, NextLineBy, NextLine, in_listing, first_reply, listing_opening, Opened}
use Rattle.listing.proofs.Splitting.{pieces_cut, pieces_only, past_none, ended_more}

-- the first line of a text that is not empty, and the others
ended_one : (bs : List ℕ) → 0 < length bs → ended (bs ∷ []) ≡ bs ∷ []
ended_one [] h = absurd (omega arith)
ended_one (b ∷ bs) h = refl

lines_next : (bs : List ℕ) → 0 < length bs → lines bs ≡ upto line_feed bs ∷ lines (past line_feed bs)
lines_next bs h =
    ⊎_elim
    (λ cut. ap ended (pieces_cut line_feed bs cut) ∙ ended_more (upto line_feed bs) (past line_feed bs))
    (λ none. ap ended (pieces_only line_feed bs none) ∙ ended_one (upto line_feed bs) (omega arith) ∙ ap (λ l. upto line_feed bs ∷ lines l) (sym (past_none line_feed bs none)))
    (cases_lt (length (upto line_feed bs)) (length bs))

pub next_some : (s s' : Reader) (x : LineText) → 0 < length s.rest.now → text_of x ≡ upto line_feed s.rest.now → x.number ≡ s.line + 1 → s'.rest.now ≡ past line_feed s.rest.now → s'.line ≡ s.line + 1 → NextLine s s' (Some x)
next_some s s' x more is_text numbered is_rest counted =
    subst (λ ls. NextLineBy ls s s' (Some x)) (sym (lines_next s.rest.now more)) ((is_text, numbered), ap lines is_rest, counted)

record Taken (s s' : Reader) (x : LineText) : Type 0 where
  others : List (List ℕ)
  split : left s ≡ text_of x ∷ others
  numbered : x.number ≡ s.line + 1
  rest : left s' ≡ others
  counted : s'.line ≡ s.line + 1

taken : (s s' : Reader) (x : LineText) → NextLine s s' (Some x) → Taken s s' x
taken s s' x h = go (left s) refl h
  where
    go : (ls : List (List ℕ)) → left s ≡ ls → NextLineBy ls s s' (Some x) → Taken s s' x
    go [] e n = let z : ◌≡◌ {A = ℕ} 0 1 = (let k = n.0 in cc) in absurd (omega arith)
    go (l ∷ ls) e n = record { others = ls; split = e ∙ ap (λ t. t ∷ ls) (sym n.0.0); numbered = n.0.1; rest = n.1; counted = n.2 }

-- opening a listing, with a reader that has read no line
module _ (text : List ℕ) (s s' : Reader) (x : LineText) (start : s.line ≡ 0) (whole : s.rest.now ≡ text) (few : length text ≤ listing_limit) (next : NextLine s s' (Some x)) where
  all_lines : (t : Taken s s' x) → lines text ≡ text_of x ∷ t.others
  all_lines t = ap lines (sym whole) ∙ t.split

  first_is : listing_opening text ≡ in_listing (opening_reply x.number (text_of x))
  first_is =
      let t = taken s s' x next in
      let one : x.number ≡ 1 = omega (arith, t.numbered) in
      cond-true (leb (length text) listing_limit) (first_reply (lines text)) (Err TooLarge) (le-leb _ _ few) ∙ ap first_reply (all_lines t) ∙ ap (λ n. in_listing (opening_reply n (text_of x))) (sym one)

  pub opened_no : (f : LineFault) → Err f ≡ opening_reply x.number (text_of x) → Opened text (Err (Line f))
  opened_no f e = record { reply = ap in_listing e ∙ sym first_is; stands = tt }

  pub opened_yes : (o : Opening) → Ok o ≡ opening_reply x.number (text_of x) → Opened text (Ok (Some (o, s')))
  opened_yes o e =
      let t = taken s s' x next in
      let one : s'.line ≡ 1 = omega (arith, t.counted) in
      let rest : left s' ≡ drop s'.line (lines text) = t.rest ∙ ap (drop 1) (sym (all_lines t)) ∙ ap (λ k. drop k (lines text)) (sym one) in
      record { reply = ap in_listing e ∙ sym first_is; stands = (record { rest = rest }, one) }

dropped : (k : ℕ) (xs : List (List ℕ)) (y : List ℕ) (ys : List (List ℕ)) → drop k xs ≡ y ∷ ys → drop (k + 1) xs ≡ ys
dropped k xs y ys e = sym (drop-drop 1 k xs) ∙ ap (drop 1) e

-- A reader that stands in a listing reads that listing's next line, and stands in it afterwards.
module _ {E : Type 0} (M : EntryForm E) (text : List ℕ) (s s' : Reader) (r : Result (Option (Command E)) ListingFault) (st : Stands text s) where
  stands_by : (ls : List (List ℕ)) → drop s.line (lines text) ≡ ls → NextCommandBy M ls s s' r → Stands text s'
  stands_by [] e n = record { rest = n.1 ∙ sym e ∙ ap (λ k. drop k (lines text)) (sym n.2) }
  stands_by (l ∷ ls) e n = record { rest = n.1 ∙ sym (dropped s.line (lines text) l ls e) ∙ ap (λ k. drop k (lines text)) (sym n.2) }

  -- said of the next line for callers: nothing here cites it
  pub reads_on : NextCommand M s s' r → NextCommandBy M (drop s.line (lines text)) s s' r × Stands text s'
  reads_on next =
      let n : NextCommandBy M (drop s.line (lines text)) s s' r = subst (λ ls. NextCommandBy M ls s s' r) st.rest next in
      (n, stands_by (drop s.line (lines text)) refl n)
