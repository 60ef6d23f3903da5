-- A number that is written in decimal digits is read back. Assumes nothing.
use Rattle.std.proofs.Common.{◌≡◌, ℕ, suc, ◌^◌, ◌<◌, ◌≤◌, true, false, cond, ltb, leb, List, [], ◌∷◌, length, get_or, ℤ, pos, negsuc, neg_ℤ, nat_abs, None, decimal, sym, refl, ap, ◌∙◌, subst, arith, rules, lt-ltb, ne_eqb, le-leb, leb-true}
use Rattle.std.specs.Char.{is_ascii_digit}
use Rattle.std.specs.Fmt.{signed_decimal}
use Rattle.std.specs.Str.{all_ascii_digits}
use Rattle.std.proofs.lemmas.Fmt.{digits_decimal, digits_value-decimal, length-decimal-le, decimal_nonempty}
use Rattle.std.proofs.lemmas.Str.Parse.{IsNumeralModel, numerals_by_fold, not_in_digits, tells_all_ascii_digits}
use Rattle.std.proofs.lemmas.Int.{ints}
use Rattle.std.proofs.lemmas.Bool.{and_parts, and_from, false≢true}
use Rattle.fields.specs.declared.faults.Place.{Place}
use Rattle.fields.specs.Values.{minus, has_minus, unsigned, value_after, value, signed_value, natural_range, integer_range}
use Rattle.fields.specs.Questions.{first_no}
use Rattle.fields.specs.Forms.{natural, integer, asked}
use Rattle.fields.proofs.Numbers.{unsigned_none}
use Rattle.listing.specs.Text.{comma, Without}
use Rattle.listing.specs.Asked.{all_yes}

own : IsNumeralModel (λ ds. all_ascii_digits ds ≡ true) (value_after 0)
own = numerals_by_fold _ tells_all_ascii_digits value_after (search rules)

without_by : (b : ℕ) → is_ascii_digit b ≡ true → b ≡ comma → ⊥
without_by b h e = let d = subst (λ x. is_ascii_digit x ≡ true) e h in false≢true d

pub digits_plain : (ds : List ℕ) → all_ascii_digits ds ≡ true → Without comma ds
digits_plain [] h = tt
digits_plain (d ∷ ds) h = let p = and_parts (is_ascii_digit d) (all_ascii_digits ds) h in (without_by d p.0, digits_plain ds p.1)

-- the digits of a number below 10,000,000,000
module _ (n : ℕ) (small : n < 10 ^ 10) where
  large : n < 2 ^ 64
  large = omega arith

  all : all_ascii_digits (decimal n) ≡ true
  all = digits_decimal own n large

  no_minus : get_or (decimal n) 0 0 ≡ minus → ⊥
  no_minus e = not_in_digits own (decimal n) minus all (λ i. omega (arith, i)) 0 (decimal_nonempty n large) e

  is_unsigned : unsigned (decimal n) ≡ decimal n
  is_unsigned = unsigned_none (decimal n) no_minus

  ten : length (decimal n) ≤ 10
  ten = length-decimal-le 10 n (omega arith) small large

  pub decimal_value : value (decimal n) ≡ n
  decimal_value = digits_value-decimal own n large

  pub decimal_plain : Without comma (decimal n)
  decimal_plain = digits_plain (decimal n) all

  some_digit : ltb 0 (length (unsigned (decimal n))) ≡ true
  some_digit = lt-ltb 0 _ (subst (λ ds. 0 < length ds) (sym is_unsigned) (decimal_nonempty n large))

  digits_after : all_ascii_digits (unsigned (decimal n)) ≡ true
  digits_after = ap all_ascii_digits is_unsigned ∙ all

pub natural_passes : (n : ℕ) (p : Place) → natural_range n ≡ true → first_no (asked natural p (decimal n)) ≡ None
natural_passes n p h =
    let most : n ≤ 4294967295 = leb-true n 4294967295 h in
    let small : n < 10 ^ 10 = omega arith in
    let range : natural_range (value (decimal n)) ≡ true = ap natural_range (decimal_value n small) ∙ h in
    let long : leb (length (decimal n)) 11 ≡ true = le-leb _ _ (omega (arith, ten n small)) in
    all_yes (asked natural p (decimal n)) (some_digit n small, (all n small, (and_from _ _ long range, tt)))

-- the size of a whole number in range, and what is written of it
size_small : (z : ℤ) → integer_range z ≡ true → nat_abs z < 10 ^ 10
size_small z h = grind (arith, ints)

no_minus_by : (bs : List ℕ) → (get_or bs 0 0 ≡ minus → ⊥) → has_minus bs ≡ false
no_minus_by [] h = refl
no_minus_by (b ∷ bs) h = ne_eqb b minus h

pub signed_is : (z : ℤ) → integer_range z ≡ true → signed_value (signed_decimal z) ≡ z
signed_is (pos n) h =
    let small : n < 10 ^ 10 = size_small (pos n) h in
    ap (λ t. cond t (neg_ℤ (pos (value (unsigned (decimal n))))) (pos (value (unsigned (decimal n))))) (no_minus_by (decimal n) (no_minus n small)) ∙ ap (λ ds. pos (value ds)) (is_unsigned n small) ∙ ap pos (decimal_value n small)
signed_is (negsuc n) h = ap (λ k. neg_ℤ (pos k)) (decimal_value (suc n) (size_small (negsuc n) h))

pub signed_plain : (z : ℤ) → integer_range z ≡ true → Without comma (signed_decimal z)
signed_plain (pos n) h = decimal_plain n (size_small (pos n) h)
signed_plain (negsuc n) h = ((λ e. let k : ◌≡◌ {A = ℕ} 45 44 = e in omega arith), decimal_plain (suc n) (size_small (negsuc n) h))

signed_some : (z : ℤ) → integer_range z ≡ true → (ltb 0 (length (unsigned (signed_decimal z))) ≡ true) × (all_ascii_digits (unsigned (signed_decimal z)) ≡ true) × (length (signed_decimal z) ≤ 11)
signed_some (pos n) h = let small = size_small (pos n) h in (some_digit n small, digits_after n small, omega (arith, ten n small))
signed_some (negsuc n) h = let small = size_small (negsuc n) h in (lt-ltb 0 _ (decimal_nonempty (suc n) (large (suc n) small)), all (suc n) small, omega (arith, ten (suc n) small))

pub integer_passes : (z : ℤ) (p : Place) → integer_range z ≡ true → first_no (asked integer p (signed_decimal z)) ≡ None
integer_passes z p h =
    let s = signed_some z h in
    let range : integer_range (signed_value (signed_decimal z)) ≡ true = ap integer_range (signed_is z h) ∙ h in
    all_yes (asked integer p (signed_decimal z)) (s.0, (s.1, (and_from _ _ (le-leb _ 11 s.2) range, tt)))

natural_small : (n : ℕ) → natural_range n ≡ true → n < 10 ^ 10
natural_small n h = let most : n ≤ 4294967295 = leb-true n 4294967295 h in omega arith

pub natural_is : (n : ℕ) → natural_range n ≡ true → value (decimal n) ≡ n
natural_is n h = decimal_value n (natural_small n h)

pub natural_plain : (n : ℕ) → natural_range n ≡ true → Without comma (decimal n)
natural_plain n h = decimal_plain n (natural_small n h)

pub natural_short : (n : ℕ) → natural_range n ≡ true → length (decimal n) ≤ 10
natural_short n h = ten n (natural_small n h)
