-- The pairs of one variable. Assumes nothing.
use Rattle.std.specs.Prelude.{ℕ, cond, List, [], ◌∷◌, Some, None, Option, ◌==◌, nat_lt}
use Rattle.std.specs.List.{fold, slice_get}
use Rattle.partners.specs.declared.links.ByOne.{ByOne}
use Rattle.partners.specs.declared.links.ByTwo.{ByTwo}
use Rattle.partners.specs.declared.links.Links.{Links}
use Rattle.partners.specs.declared.links.Links.TheVariants.{Alone, One, Two, More}
use Rattle.records.specs.declared.pairs.Link.{Link}
use Rattle.records.specs.declared.pairs.Pair.{Pair}
use Rattle.records.specs.Pairs.{link_of}
use Rattle.sheets.specs.declared.variables.Var.{Var}
use Rattle.sheets.specs.Variables.{remaining}
use Rattle.score.specs.declared.values.Two.{Two as Scores}

module _ {K : Type 0} where
  abbrev pub front : Option (Link K) → List (Link K) → List (Link K)
  front None ls = ls
  front (Some l) ls = l ∷ ls

  -- what the pairs say of y, in their order
  abbrev pub links : ℕ → List (Pair K) → List (Link K)
  links y [] = []
  links y (p ∷ ps) = front (link_of y p) (links y ps)

  -- the first of these with the partner v
  abbrev pub first_link : ℕ → List (Link K) → Option (Link K)
  first_link v [] = None
  first_link v (l ∷ ls) = cond (v == l.partner) (Some l) (first_link v ls)

  abbrev pub with_link : Links K → Link K → Links K
  with_link Alone l = One l
  with_link (One m) l = cond (nat_lt l.partner m.partner) (Two l m) (Two m l)
  with_link (Two m n) l = More
  with_link More l = More

  abbrev pub add_link : Links K → Option (Link K) → Links K
  add_link k None = k
  add_link k (Some l) = with_link k l

  abbrev pub gather : ℕ → Links K → List (Pair K) → Links K
  gather y k ps = fold (λ ls p. add_link ls (link_of y p)) k ps

  -- the scores of y, if y remains
  abbrev pub present_at : List (Var K) → ℕ → Option (Scores K)
  present_at vs y = elim (slice_get vs y) [ None ↦ None | Some r ↦ remaining r ]

  abbrev pub with_no_link : Links K → Scores K → Option (Scores K)
  with_no_link Alone r = Some r
  with_no_link (One l) r = None
  with_no_link (Two l m) r = None
  with_no_link More r = None

  abbrev pub with_one_link : Links K → Scores K → Option (ByOne K)
  with_one_link Alone r = None
  with_one_link (One l) r = Some (record { var = r; link = l })
  with_one_link (Two l m) r = None
  with_one_link More r = None

  abbrev pub with_two_links : Links K → Scores K → Option (ByTwo K)
  with_two_links Alone r = None
  with_two_links (One l) r = None
  with_two_links (Two l m) r = Some (record { var = r; low = l; high = m })
  with_two_links More r = None

  abbrev pub alone_at : List (Var K) → List (Pair K) → ℕ → Option (Scores K)
  alone_at vs ps y = elim (present_at vs y) [ None ↦ None | Some r ↦ with_no_link (gather y Alone ps) r ]

  abbrev pub one_at : List (Var K) → List (Pair K) → ℕ → Option (ByOne K)
  one_at vs ps y = elim (present_at vs y) [ None ↦ None | Some r ↦ with_one_link (gather y Alone ps) r ]

  abbrev pub two_at : List (Var K) → List (Pair K) → ℕ → Option (ByTwo K)
  two_at vs ps y = elim (present_at vs y) [ None ↦ None | Some r ↦ with_two_links (gather y Alone ps) r ]
