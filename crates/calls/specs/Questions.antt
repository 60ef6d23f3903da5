-- The questions that are put before a call; the first "no" turns it down. Assumes nothing.
use Rattle.std.specs.Prelude.{ℕ, suc, Bool, true, false, cond, not, ◌&&◌, ◌||◌, List, [], ◌∷◌, length, is_some, Some, None, Ok, Err, Option, Result, ◌==◌, nat_le, nat_lt}
use Rattle.std.specs.List.{list_all}
use Rattle.score.specs.Model.{Model}
use Rattle.calls.specs.declared.changes.Change.{Change}
use Rattle.calls.specs.declared.changes.Change.TheVariants.{One, Pair, Pin, Free}
use Rattle.score.specs.declared.values.Four.{Four}
use Rattle.score.specs.declared.values.Two.{Two}
use Rattle.calls.specs.declared.refusals.Refusal.{Refusal}
use Rattle.calls.specs.declared.refusals.Refusal.TheVariants.{Variables, Memory, LayoutLength, NoVariable, SameVariable, Value, Entry, Pinned, NotPinned, NoChange, PinBroken, HistoryFull, PairsFull}
use Rattle.calls.specs.Standing.{Standing, count, kept_pairs, pin_of, key, has_key}

abbrev pub most_variables : ℕ
most_variables = 64

abbrev pub most_pairs : ℕ
most_pairs = 256

abbrev pub most_changes : ℕ
most_changes = 1024

-- what the questions look at
pub record View : Type 0 where
  pub n : ℕ
  pub standing : ℕ
  pub kept : ℕ
  pub keys : List (ℕ × ℕ)
  pub pin : ℕ → Option Bool

-- what a board of n variables shows at a list of standing changes
abbrev pub view_of : {E : Type 0} → ℕ → Standing E → View
view_of n cs = record { n = n; standing = count cs; kept = length (kept_pairs cs); keys = kept_pairs cs; pin = pin_of cs }

-- a question: is it so, and else this refusal
abbrev pub Question : Type 0
Question = Bool × Refusal

abbrev pub first_no : List Question → Option Refusal
first_no [] = None
first_no (q ∷ qs) = cond q.0 (first_no qs) (Some q.1)

abbrev pub refusal_in : {T : Type 0} → Result T Refusal → Option Refusal
refusal_in (Ok x) = None
refusal_in (Err f) = Some f

abbrev pub takes : {E S : Type 0} → Model E S → E → Bool
takes M e = is_some (M.score e)

abbrev pub takes_two : {E S : Type 0} → Model E S → Two E → Bool
takes_two M es = takes M es.zero && takes M es.one

abbrev pub takes_four : {E S : Type 0} → Model E S → Four E → Bool
takes_four M es = takes M es.at00 && (takes M es.at01 && (takes M es.at10 && takes M es.at11))

-- opening: n, and how many variable, pair and history records there are
abbrev pub opening_questions : ℕ → ℕ → ℕ → ℕ → List Question
opening_questions n vars pairs history =
    (nat_le 1 n && nat_le n most_variables, Variables)
    ∷ (nat_le most_variables vars && (nat_le most_pairs pairs && nat_le most_changes history), Memory)
    ∷ []

-- one: the variables, the standing changes, the variable, and whether both entries are taken
abbrev pub one_questions : ℕ → ℕ → ℕ → Bool → List Question
one_questions n standing v taken =
    (nat_lt v n, NoVariable)
    ∷ (taken, Entry)
    ∷ (nat_lt standing most_changes, HistoryFull)
    ∷ []

-- pair: the variables, the standing changes, the kept pairs, the two variables, whether all entries are taken, and whether the pair is kept
abbrev pub pair_questions : ℕ → ℕ → ℕ → ℕ → ℕ → Bool → Bool → List Question
pair_questions n standing kept a b taken found =
    (nat_lt a n && nat_lt b n, NoVariable)
    ∷ (not (a == b), SameVariable)
    ∷ (taken, Entry)
    ∷ (nat_lt standing most_changes, HistoryFull)
    ∷ (found || nat_lt kept most_pairs, PairsFull)
    ∷ []

-- pin: the variables, the standing changes, the variable, the value, and the variable's pin
abbrev pub pin_questions : ℕ → ℕ → ℕ → ℕ → Option Bool → List Question
pin_questions n standing v x pin =
    (nat_lt v n, NoVariable)
    ∷ (nat_lt x 2, Value)
    ∷ (not (is_some pin), Pinned)
    ∷ (nat_lt standing most_changes, HistoryFull)
    ∷ []

-- free: the variables, the standing changes, the variable and its pin
abbrev pub free_questions : ℕ → ℕ → ℕ → Option Bool → List Question
free_questions n standing v pin =
    (nat_lt v n, NoVariable)
    ∷ (is_some pin, NotPinned)
    ∷ (nat_lt standing most_changes, HistoryFull)
    ∷ []

abbrev pub change_questions : {E S : Type 0} → Model E S → View → Change E → List Question
change_questions M w (One v es) = one_questions w.n w.standing v (takes_two M es)
change_questions M w (Pair a b es) = pair_questions w.n w.standing w.kept a b (takes_four M es) (has_key (key a b) w.keys)
change_questions M w (Pin v x) = pin_questions w.n w.standing v x (w.pin v)
change_questions M w (Free v) = free_questions w.n w.standing v (w.pin v)

-- back: the standing changes
abbrev pub taking_back_questions : ℕ → List Question
taking_back_questions standing = (nat_lt 0 standing, NoChange) ∷ []

abbrev pub back_questions : View → List Question
back_questions w = taking_back_questions w.standing

-- each byte of a layout is 0 or 1
abbrev pub all_values : List ℕ → Bool
all_values layout = list_all (λ x. nat_lt x 2) layout

-- a byte keeps a pin if there is none, or if it is the pin's value
abbrev pub keeps_pin : Option Bool → ℕ → Bool
keeps_pin None x = true
keeps_pin (Some true) x = x == 1
keeps_pin (Some false) x = x == 0

-- a layout from variable v on keeps every pin
abbrev pub keeps_pins : (ℕ → Option Bool) → ℕ → List ℕ → Bool
keeps_pins pin v [] = true
keeps_pins pin v (x ∷ xs) = keeps_pin (pin v) x && keeps_pins pin (suc v) xs

-- score: the variables, the layout, and whether it keeps every pin
abbrev pub layout_questions : ℕ → List ℕ → Bool → List Question
layout_questions n layout kept =
    ((length layout == n), LayoutLength)
    ∷ (all_values layout, Value)
    ∷ (kept, PinBroken)
    ∷ []

abbrev pub score_questions : View → List ℕ → List Question
score_questions w layout = layout_questions w.n layout (keeps_pins w.pin 0 layout)
