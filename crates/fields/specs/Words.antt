-- The words that lines begin with. Assumes nothing.
use Rattle.std.specs.Prelude.{ℕ, cond, List, [], ◌∷◌, Some, None, codes, Option}
use Rattle.std.specs.Option.{option_map}
use Rattle.std.specs.Str.{bytes_eq}
use Rattle.fields.specs.declared.words.Call.{Call as CallWord}
use Rattle.fields.specs.declared.words.Call.TheVariants.{One, Pair, Pin, Free, Back, Score}
use Rattle.fields.specs.declared.words.Word.{Word}
use Rattle.fields.specs.declared.words.Word.TheVariants.{Board, Call}

abbrev pub call_spelling : CallWord → List ℕ
call_spelling One = codes "one"
call_spelling Pair = codes "pair"
call_spelling Pin = codes "pin"
call_spelling Free = codes "free"
call_spelling Back = codes "back"
call_spelling Score = codes "score"

abbrev pub spelling : Word → List ℕ
spelling Board = codes "board"
spelling (Call c) = call_spelling c

-- the first of these that is spelled so
abbrev pub found : List ℕ → List CallWord → Option CallWord
found bs [] = None
found bs (c ∷ cs) = cond (bytes_eq bs (call_spelling c)) (Some c) (found bs cs)

abbrev pub calls : List CallWord
calls = One ∷ Pair ∷ Pin ∷ Free ∷ Back ∷ Score ∷ []

abbrev pub call_of : List ℕ → Option CallWord
call_of bs = found bs calls

abbrev pub word_of : List ℕ → Option Word
word_of bs = cond (bytes_eq bs (spelling Board)) (Some Board) (option_map Call (call_of bs))
