-- What records that are in order say, as statements. Assumes nothing.
use Rattle.std.specs.Prelude.{◌≡◌, List}
use Rattle.steps.specs.Change.{Among}
use Rattle.steps.specs.Sheet.{Sound}
use Rattle.records.specs.declared.pairs.Pair.{Pair}
use Rattle.sheets.specs.declared.variables.Var.{Var}
use Rattle.worksheet.specs.Records.{contents, Arranged}

-- The contents of records in order are sound: a pair is between two variables that remain, the lower first.
abbrev pub ContentsSound : {K S : Type 0} → (K → S) → Type 0
ContentsSound {K} means = (b : K) (vs : List (Var K)) (ps : List (Pair K)) → Arranged vs ps → Sound (contents means b vs ps)

-- Records with the same pairs, in whatever order, have the same contents.
abbrev pub OrderFree : {K S : Type 0} → (K → S) → Type 0
OrderFree {K} means =
    (b : K) (vs : List (Var K)) (ps qs : List (Pair K)) → Arranged vs ps → Arranged vs qs
    → ((p : Pair K) → Among p ps → Among p qs) → ((p : Pair K) → Among p qs → Among p ps)
    → contents means b vs ps ≡ contents means b vs qs
