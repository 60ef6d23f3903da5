-- The lines and fields of a listing, and the pieces of a text put together again. Assumes nothing.
use Rattle.std.specs.Prelude.{◌≡◌, ℕ, ◌⊎◌, List, [], ◌∷◌, ◌++◌, ◌≢◌}
use Rattle.std.specs.List.{AllByRecursion, join_with_byte}
use Rattle.fields.specs.Text.{pieces}

-- the pieces put together again
abbrev pub parted_by : ℕ → List (List ℕ) → List ℕ
parted_by cut ps = join_with_byte cut ps

-- without a last piece that is empty
abbrev pub ended : List (List ℕ) → List (List ℕ)
ended [] = []
ended ([] ∷ []) = []
ended ((b ∷ bs) ∷ []) = (b ∷ bs) ∷ []
ended (p ∷ q ∷ ps) = p ∷ ended (q ∷ ps)

abbrev pub line_feed : ℕ
line_feed = 10

abbrev pub comma : ℕ
comma = 44

-- The lines of a listing. The last may lack its line feed, and a final line feed makes no further line.
abbrev pub lines : List ℕ → List (List ℕ)
lines text = ended (pieces line_feed text)

-- the fields of a line
abbrev pub fields : List ℕ → List (List ℕ)
fields line = pieces comma line

-- the byte is not in the text
abbrev pub Without : ℕ → List ℕ → Type 0
Without cut bs = AllByRecursion (λ b. b ≢ cut) bs

-- each line with its line feed
abbrev pub closed : List (List ℕ) → List ℕ
closed [] = []
closed (l ∷ ls) = l ++ line_feed ∷ closed ls

pub record TextLaws : Type 0 where
  -- the pieces put together again are the text, and none has the byte that parts them
  pub joined : (cut : ℕ) (bs : List ℕ) → parted_by cut (pieces cut bs) ≡ bs
  pub apart : (cut : ℕ) (bs : List ℕ) → AllByRecursion (Without cut) (pieces cut bs)
  -- no other pieces give that text
  pub only : (cut : ℕ) (p : List ℕ) (ps : List (List ℕ)) → AllByRecursion (Without cut) (p ∷ ps) → pieces cut (parted_by cut (p ∷ ps)) ≡ p ∷ ps
  -- the lines with their line feeds are the text, or the text and the line feed that its last line lacks
  pub closes : (text : List ℕ) → (closed (lines text) ≡ text) ⊎ (closed (lines text) ≡ text ++ line_feed ∷ [])
  -- lines that are written out are the lines of that text
  pub lines_back : (ls : List (List ℕ)) → AllByRecursion (Without line_feed) ls → lines (closed ls) ≡ ls
