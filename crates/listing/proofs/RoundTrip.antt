-- A command that is written out as a line is read back as itself. Assumes nothing.
use Rattle.std.proofs.Common.{◌≡◌, ℕ, suc, ◌+◌, ◌≤◌, Bool, true, not, ◌&&◌, eqb, List, [], ◌∷◌, ◌++◌, length, get_or, drop, is_some, Some, None, Ok, Err, decimal, Result, refl, ap, ◌∙◌, arith, length-append, le-leb, MatchResult}
use borrow.Author.Tests.{eqb-false, not-true}
use Rattle.std.specs.Option.{option_map}
use Rattle.std.specs.List.{AllByRecursion}
use Rattle.std.specs.Str.{all_ascii_digits}
use Rattle.std.proofs.lemmas.Bool.{and_parts}
use Rattle.fields.specs.declared.faults.LineFault.{LineFault}
use Rattle.fields.specs.declared.faults.LineFault.TheVariants.{Field}
use Rattle.fields.specs.declared.parts.BoardKind.{BoardKind}
use Rattle.fields.specs.declared.parts.BoardKind.TheVariants.{Total, Worst, TieredTotal, TieredWorst}
use Rattle.fields.specs.declared.words.Call.{Call as CallWord}
use Rattle.fields.specs.declared.words.Call.TheVariants.{One, Pair, Pin, Free, Back, Score}
use Rattle.fields.specs.declared.words.Word.{Word}
use Rattle.fields.specs.declared.words.Word.TheVariants.{Board, Call}
use Rattle.fields.specs.Values.{natural_range}
use Rattle.fields.specs.Questions.{first_no, replied}
use Rattle.fields.specs.Forms.{Form, natural, layout, kind, some, letter, kind_of, named_kind, asked}
use Rattle.fields.specs.Words.{spelling, word_of}
use Rattle.listing.specs.declared.commands.Command.{Command}
use Rattle.listing.specs.declared.commands.Opening.{Opening}
use Rattle.listing.specs.Text.{comma, fields, parted_by, Without}
use Rattle.fields.specs.declared.faults.Place.{Place}
use Rattle.listing.specs.Lines.{place_at, next_place, questions_from}
use Rattle.listing.specs.Entries.{EntryForm, by_value_form}
use Rattle.listing.specs.Commands.{Said, one, pair, pin, free, back, score, says, said, call_forms}
use Rattle.listing.specs.Reading.{line_limit, word_at, word_questions, opening_forms, opening_of, opening_questions, opening_reply, command_questions, command_of, CommandReply}
use Rattle.listing.specs.RoundTrip.{opening_fields, OpeningBack, CommandBack}
use Rattle.listing.specs.Written.{ReadsBack}
use Rattle.listing.specs.Asked.{all_yes}
use Rattle.listing.specs.EntryWriting.{passes_field, passes_last, same_last, by_value_back}
use Rattle.listing.proofs.LineReading.{opening_yes, command_yes, command_is}
use Rattle.listing.specs.NumberWriting.{natural_passes, natural_is, natural_plain, natural_short, digits_plain}
use Rattle.listing.proofs.Splitting.{pieces_parted}

-- the word of a line that is written out
word_known : (w : Word) → word_of (spelling w) ≡ Some w
word_known Board = refl
word_known (Call One) = refl
word_known (Call Pair) = refl
word_known (Call Pin) = refl
word_known (Call Free) = refl
word_known (Call Back) = refl
word_known (Call Score) = refl

-- the byte is not among these
absent : ℕ → List ℕ → Bool
absent cut [] = true
absent cut (b ∷ bs) = not (eqb b cut) && absent cut bs

plain_by : (cut : ℕ) (bs : List ℕ) → absent cut bs ≡ true → Without cut bs
unfolding absent
plain_by cut [] h = tt
plain_by cut (b ∷ bs) h = let p = and_parts (not (eqb b cut)) (absent cut bs) h in (eqb-false b cut (not-true (eqb b cut) p.0), plain_by cut bs p.1)

word_plain : (w : Word) → Without comma (spelling w)
unfolding absent
word_plain Board = plain_by comma (spelling Board) refl
word_plain (Call One) = plain_by comma (spelling (Call One)) refl
word_plain (Call Pair) = plain_by comma (spelling (Call Pair)) refl
word_plain (Call Pin) = plain_by comma (spelling (Call Pin)) refl
word_plain (Call Free) = plain_by comma (spelling (Call Free)) refl
word_plain (Call Back) = plain_by comma (spelling (Call Back)) refl
word_plain (Call Score) = plain_by comma (spelling (Call Score)) refl

reply_is : {E : Type 0} (M : EntryForm E) (number : ℕ) (line : List ℕ) (c : Said E) → first_no (command_questions M number line) ≡ None → command_of M line ≡ Some c → (r : Result (Command E) LineFault) → CommandReply M number line r → MatchResult r (λ x. says x ≡ c) (λ f. ⊥)
reply_is M number line c all is (Ok x) h = let k = h.1 in cc
reply_is M number line c all is (Err f) h = cc

-- a line whose fields are a word and the fields that it asks for
module _ {E : Type 0} (M : EntryForm E) (number : ℕ) (line : List ℕ) (short : length line ≤ line_limit) (call : CallWord) (ws : List (List ℕ)) (plain : AllByRecursion (Without comma) ws) (is_line : line ≡ parted_by comma (spelling (Call call) ∷ ws)) (count : length ws ≡ length (call_forms M call)) (passes : first_no (questions_from (place_at number 1) (call_forms M call) ws) ≡ None) where
  parts : fields line ≡ spelling (Call call) ∷ ws
  parts = ap fields is_line ∙ pieces_parted comma (spelling (Call call)) ws (word_plain (Call call), plain)

  word : word_at line ≡ Some (Call call)
  word = ap (λ fs. word_of (get_or fs 0 [])) parts ∙ word_known (Call call)

  back_by : (c : Said E) → said M call ws ≡ c → (r : Result (Command E) LineFault) → CommandReply M number line r → MatchResult r (λ x. says x ≡ c) (λ f. ⊥)
  back_by c e =
      reply_is M number line c
      (command_yes number line M call word (all_yes (word_questions number line) (le-leb _ _ short, (ap is_some word, tt))) (ap length parts ∙ ap suc count) ∙ ap (option_map Field) (ap (λ fs. first_no (questions_from (place_at number 1) (call_forms M call) (drop 1 fs))) parts ∙ passes))
      (command_is number line M call word ∙ ap (λ fs. Some (said M call (drop 1 fs))) parts ∙ ap Some e)

-- a number or two, and the entries after them
natural_first : (p : Place) (v : ℕ) (forms : List Form) (ws : List (List ℕ)) → natural_range v ≡ true → first_no (questions_from (next_place p) forms ws) ≡ None → first_no (questions_from p (natural ∷ forms) (decimal v ∷ ws)) ≡ None
natural_first p v forms ws h k = passes_field natural forms p (decimal v) ws (natural_passes v _ h) k

module _ {E : Type 0} (M : EntryForm E) (law : ReadsBack M) (number : ℕ) (line : List ℕ) (r : Result (Command E) LineFault) (reply : CommandReply M number line r) where
  pub command_back : CommandBack M line r
  command_back (one v es) h short e =
      let p = and_parts (natural_range v) ((by_value_form M).fits es) h in
      let two = by_value_back M law in
      back_by M number line short One (decimal v ∷ (by_value_form M).written es) (natural_plain v p.0, two.plain es p.1) e (ap suc (two.count es))
      (natural_first (place_at number 1) v (by_value_form M).forms _ p.0 (passes_last (by_value_form M) two es p.1 _))
      (one v es) (λ i. one (natural_is v p.0 i) (same_last (by_value_form M) two es p.1 i)) r reply
  command_back (pair a b es) h short e =
      let p = and_parts (natural_range a) (natural_range b && (by_value_form (by_value_form M)).fits es) h in
      let q = and_parts (natural_range b) ((by_value_form (by_value_form M)).fits es) p.1 in
      let four = by_value_back (by_value_form M) (by_value_back M law) in
      let forms = (by_value_form (by_value_form M)).forms in
      back_by M number line short Pair (decimal a ∷ decimal b ∷ (by_value_form (by_value_form M)).written es) (natural_plain a p.0, (natural_plain b q.0, four.plain es q.1)) e (ap (λ n. suc (suc n)) (four.count es))
      (natural_first (place_at number 1) a (natural ∷ forms) (decimal b ∷ (by_value_form (by_value_form M)).written es) p.0 (natural_first (next_place (place_at number 1)) b forms ((by_value_form (by_value_form M)).written es) q.0 (passes_last (by_value_form (by_value_form M)) four es q.1 _)))
      (pair a b es) (λ i. pair (natural_is a p.0 i) (natural_is b q.0 i) (same_last (by_value_form (by_value_form M)) four es q.1 i)) r reply
  command_back (pin v x) h short e =
      let p = and_parts (natural_range v) (natural_range x) h in
      back_by M number line short Pin (decimal v ∷ decimal x ∷ []) (natural_plain v p.0, (natural_plain x p.1, tt)) e refl
      (natural_first (place_at number 1) v (natural ∷ []) (decimal x ∷ []) p.0 (natural_first (next_place (place_at number 1)) x [] [] p.1 refl))
      (pin v x) (λ i. pin (natural_is v p.0 i) (natural_is x p.1 i)) r reply
  command_back (free v) h short e =
      back_by M number line short Free (decimal v ∷ []) (natural_plain v h, tt) e refl
      (natural_first (place_at number 1) v [] [] h refl)
      (free v) (ap free (natural_is v h)) r reply
  command_back back h short e = back_by M number line short Back [] tt e refl refl back refl r reply
  command_back (score ds) h short e =
      let p = and_parts (some ds) (all_ascii_digits ds) h in
      back_by M number line short Score (ds ∷ []) (digits_plain ds p.1, tt) e refl
      (passes_field layout [] (place_at number 1) ds [] (all_yes (asked layout (place_at number 1) ds) (p.0, (p.1, tt))) refl)
      (score ds) refl r reply

letter_known : (k : BoardKind) → is_some (kind_of (letter k)) ≡ true
letter_known Total = refl
letter_known Worst = refl
letter_known TieredTotal = refl
letter_known TieredWorst = refl

letter_is : (k : BoardKind) → named_kind (letter k) ≡ k
letter_is Total = refl
letter_is Worst = refl
letter_is TieredTotal = refl
letter_is TieredWorst = refl

letter_plain : (k : BoardKind) → Without comma (letter k)
unfolding absent
letter_plain Total = plain_by comma (letter Total) refl
letter_plain Worst = plain_by comma (letter Worst) refl
letter_plain TieredTotal = plain_by comma (letter TieredTotal) refl
letter_plain TieredWorst = plain_by comma (letter TieredWorst) refl

letter_length : (k : BoardKind) → length (letter k) ≡ 1
letter_length Total = refl
letter_length Worst = refl
letter_length TieredTotal = refl
letter_length TieredWorst = refl

pub opening_back : (number : ℕ) (line : List ℕ) (r : Result Opening LineFault) → r ≡ opening_reply number line → OpeningBack line r
opening_back number line r reply o h e =
    let n = decimal o.variables in
    let l = letter o.kind in
    let parts : fields line ≡ opening_fields o = ap fields e ∙ pieces_parted comma (spelling Board) (n ∷ l ∷ []) (word_plain Board, (natural_plain o.variables h, (letter_plain o.kind, tt))) in
    let word : word_at line ≡ Some Board = ap (λ fs. word_of (get_or fs 0 [])) parts in
    let long : length (n ++ comma ∷ l) ≡ length n + suc (length l) = length-append n (comma ∷ l) in
    let short : length line ≤ line_limit = omega (arith, ap length e, long, natural_short o.variables h, letter_length o.kind) in
    let passes : first_no (questions_from (place_at number 1) opening_forms (n ∷ l ∷ [])) ≡ None =
    natural_first (place_at number 1) o.variables (kind ∷ []) (l ∷ []) h
    (passes_field kind [] (next_place (place_at number 1)) l [] (all_yes (asked kind (next_place (place_at number 1)) l) (letter_known o.kind, tt)) refl) in
    let yes : first_no (opening_questions number line) ≡ None =
    opening_yes number line (all_yes (word_questions number line) (le-leb _ _ short, (ap is_some word, tt))) word (ap length parts)
    ∙ ap (option_map Field) (ap (λ fs. first_no (questions_from (place_at number 1) opening_forms (drop 1 fs))) parts ∙ passes) in
    reply ∙ ap (λ q. replied q (opening_of (drop 1 (fields line)))) yes ∙ ap Ok (ap (λ fs. opening_of (drop 1 fs)) parts ∙ (λ i. record { variables = natural_is o.variables h i; kind = letter_is o.kind i }))
