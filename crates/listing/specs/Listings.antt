-- What a listing means, line by line. Assumes nothing.
use Rattle.std.specs.Prelude.{◌≡◌, ℕ, ◌+◌, cond, List, [], ◌∷◌, length, drop, IfSome, IfOk, Some, None, Ok, Err, Option, Result, nat_le}
use Rattle.std.specs.Option.{option_map}
use Rattle.std.specs.Option as options
use Rattle.std.specs.Result as results
use Rattle.fields.specs.declared.faults.LineFault.{LineFault}
use Rattle.fields.specs.declared.faults.ListingFault.{ListingFault}
use Rattle.fields.specs.declared.faults.ListingFault.TheVariants.{TooLarge, Line}
use Rattle.fields.specs.Questions.{first_no}
use Rattle.listing.specs.declared.commands.Command.{Command}
use Rattle.listing.specs.declared.commands.Opening.{Opening}
use Rattle.listing.specs.declared.lines.Line.{Line as LineText}
use Rattle.listing.specs.declared.reader.Reader.{Reader}
use Rattle.listing.specs.Text.{lines}
use Rattle.listing.specs.Lines.{text_of}
use Rattle.listing.specs.Entries.{EntryForm}
use Rattle.listing.specs.Commands.{says}
use Rattle.listing.specs.Reading.{opening_reply, command_questions, command_of}

-- the most bytes of a listing
abbrev pub listing_limit : ℕ
listing_limit = 65536

-- the lines that a reader has yet to read
abbrev pub left : Reader → List (List ℕ)
left s = lines s.rest.now

-- the reader has read the first lines of this listing, and no others
pub record Stands (text : List ℕ) (s : Reader) : Type 0 where
  pub rest : left s ≡ drop s.line (lines text)

abbrev pub NextLineBy : List (List ℕ) → Reader → Reader → Option LineText → Type 0
NextLineBy [] s s' r = (r ≡ None) × (left s' ≡ []) × (s'.line ≡ s.line)
NextLineBy (l ∷ ls) s s' r = options.MatchOption r ⊥ (λ x. (text_of x ≡ l) × (x.number ≡ s.line + 1)) × (left s' ≡ ls) × (s'.line ≡ s.line + 1)

-- the next line of the listing with its number, or none where all were read
abbrev pub NextLine : Reader → Reader → Option LineText → Type 0
NextLine s s' r = NextLineBy (left s) s s' r

-- a line's fault inside the listing's
abbrev pub in_listing : {A : Type 0} → Result A LineFault → Result (Option A) ListingFault
in_listing (Ok a) = Ok (Some a)
in_listing (Err f) = Err (Line f)

abbrev pub first_reply : List (List ℕ) → Result (Option Opening) ListingFault
first_reply [] = Ok None
first_reply (l ∷ ls) = in_listing (opening_reply 1 l)

-- the reply to a listing and its first line
abbrev pub listing_opening : List ℕ → Result (Option Opening) ListingFault
listing_opening text = cond (nat_le (length text) listing_limit) (first_reply (lines text)) (Err TooLarge)

-- what is opened, without the reader
abbrev pub opened : Result (Option (Opening × Reader)) ListingFault → Result (Option Opening) ListingFault
opened (Ok o) = Ok (option_map (λ p. p.0) o)
opened (Err f) = Err f

-- the reader that is handed out has read the first line
abbrev pub StandsFirst : List ℕ → Result (Option (Opening × Reader)) ListingFault → Type 0
StandsFirst text r = IfOk r (λ o. IfSome o (λ p. Stands text p.1 × (p.1.line ≡ 1)))

pub record Opened (text : List ℕ) (r : Result (Option (Opening × Reader)) ListingFault) : Type 0 where
  pub reply : opened r ≡ listing_opening text
  pub stands : StandsFirst text r

module _ {E : Type 0} (M : EntryForm E) where
  -- the reply to a line with this number: its command where every answer is yes, and else the fault of the first no
  abbrev pub LineReply : ℕ → List ℕ → Result (Option (Command E)) ListingFault → Type 0
  LineReply number l r =
      results.MatchResult r
      (λ o. (first_no (command_questions M number l) ≡ None) × (command_of M l ≡ option_map says o))
      (λ f. option_map Line (first_no (command_questions M number l)) ≡ Some f)

  abbrev pub NextCommandBy : List (List ℕ) → Reader → Reader → Result (Option (Command E)) ListingFault → Type 0
  NextCommandBy [] s s' r = (r ≡ Ok None) × (left s' ≡ []) × (s'.line ≡ s.line)
  NextCommandBy (l ∷ ls) s s' r = LineReply (s.line + 1) l r × (left s' ≡ ls) × (s'.line ≡ s.line + 1)

  -- the reply to the next line of the listing, or none where all were read
  abbrev pub NextCommand : Reader → Reader → Result (Option (Command E)) ListingFault → Type 0
  NextCommand s s' r = NextCommandBy (left s) s s' r
