-- What a token makes of a nesting, by its kind.
use Rattle.std.proofs.Common.{◌≡◌, ℕ, suc, ◌+◌, ◌<◌, ◌≤◌, Bool, true, false, List, [], ◌∷◌, ◌++◌, length, drop}
use Rattle.std.proofs.Common.{get_or, refl, sym, ap, ◌∙◌, subst, arith}
use Rattle.std.specs.Prelude.{◌==◌, ◌||◌, not, nat_lt, if◌then◌else◌, Option, Some, None, option_map, Result, Ok, Err}
use Rattle.std.specs.Result.{IfOk}
use Rattle.std.proofs.lemmas.Bool.{lt-ltb, le-ltb, ne_eqb}
use Rattle.std.proofs.lemmas.List.{drop_more, drop_all}
use lib.Dec.{eqb-suc-suc}
use denote.Enum.Bare.{sameb}
use denote.Enum.Declared.{tag_of}
use Rattle.sail_lex.specs.declared.kind.TokenKind.{TokenKind}
use Rattle.sail_lex.specs.declared.kind.TokenKind.TheVariants as K
use Rattle.sail_lex.specs.contracts.kind.TokenKind.{the_type}
use Rattle.sail_grammar.specs.Symbol.{Sign, code}
use Rattle.sail_grammar.specs.Form.{among}
use Rattle.sail_grammar.specs.Levels.{Bracket, Nesting, opening, closing, separators, is_in, is_level, closed}
use Rattle.sail_grammar.specs.Levels.{one_deeper, counted, nest, levels, most_levels, deep_from, levels_inside}
use Rattle.sail_grammar.specs.Levels.{awaits, begins, none_open, separated, last_tokens}
use Rattle.sail_levels.specs.declared.levels.Opened.{Opened}
use Rattle.sail_levels.specs.declared.levels.Nesting.{Nesting as Kept}
use Rattle.sail_levels.specs.Counting.{opened, parted, passed, bracket_of, turned, brackets_of, nesting_of}

-- whether two kinds have one symbol is whether they are one
pub same_code : (a b : TokenKind) → (code a == code b) ≡ sameb the_type a b
same_code a b = eqb-suc-suc (tag_of the_type a) (tag_of the_type b)

pub same_among : (a b : TokenKind) → among (code a ∷ []) (code b) ≡ sameb the_type a b
same_among a b = (λ i. same_code a b i || false) ∙ or_false (sameb the_type a b) where
  or_false : (b : Bool) → (b || false) ≡ b
  or_false true = refl
  or_false false = refl

-- a function that counts a token by another one
pub counted_as : {E : Type 0} (n m : Nesting) (k : TokenKind) (r : Result Kept E) → counted n k ≡ m → IfOk r (λ made. nesting_of made ≡ m) →
    IfOk r (λ made. nesting_of made ≡ counted n k)
counted_as n m k (Ok x) e h = h ∙ sym e
counted_as n m k (Err x) e h = tt

module _ (n : Nesting) (k : TokenKind) where
  pub counted_opening : is_in opening k ≡ true → counted n k ≡ opened n
  counted_opening h = λ i. if h i then opened n else (if is_in closing k then closed n.inside n else (if is_in separators k then parted n else
      (if is_level n k then one_deeper (passed n k).inside (passed n k) else passed n k)))

  pub counted_closing : is_in opening k ≡ false → is_in closing k ≡ true → counted n k ≡ closed n.inside n
  counted_closing a h = λ i. if a i then opened n else (if h i then closed n.inside n else (if is_in separators k then parted n else
      (if is_level n k then one_deeper (passed n k).inside (passed n k) else passed n k)))

  pub counted_separator : is_in opening k ≡ false → is_in closing k ≡ false → is_in separators k ≡ true → counted n k ≡ parted n
  counted_separator a b h = λ i. if a i then opened n else (if b i then closed n.inside n else (if h i then parted n else
      (if is_level n k then one_deeper (passed n k).inside (passed n k) else passed n k)))

  pub counted_level : is_in opening k ≡ false → is_in closing k ≡ false → is_in separators k ≡ false → is_level n k ≡ true →
      counted n k ≡ one_deeper (passed n k).inside (passed n k)
  counted_level a b c h = λ i. if a i then opened n else (if b i then closed n.inside n else (if c i then parted n else
      (if h i then one_deeper (passed n k).inside (passed n k) else passed n k)))

  pub counted_other : is_in opening k ≡ false → is_in closing k ≡ false → is_in separators k ≡ false → is_level n k ≡ false → counted n k ≡ passed n k
  counted_other a b c h = λ i. if a i then opened n else (if b i then closed n.inside n else (if c i then parted n else
      (if h i then one_deeper (passed n k).inside (passed n k) else passed n k)))

-- ---- from a place in the list on

abbrev pub later : ℕ → Option ℕ → Option ℕ
later i m = option_map (λ k. i + k) m

pub later_next : (i : ℕ) (m : Option ℕ) → later i (option_map suc m) ≡ later (i + 1) m
later_next i None = refl
later_next i (Some k) = let e : i + suc k ≡ i + 1 + k = omega arith in ap Some e

pub later_none : (m : Option ℕ) → later 0 m ≡ m
later_none None = refl
later_none (Some k) = let e : 0 + k ≡ k = omega arith in ap Some e

-- the first token that is too deep, and one that isn't
module _ (ts : List Sign) (i : ℕ) (n m : Nesting) (d : Sign) (lt : i < length ts) (e : m ≡ nest n (get_or ts i d).kind) where
  pub deep_found : most_levels < levels m → later i (deep_from n (drop i ts)) ≡ Some i
  deep_found more =
      let test : nat_lt most_levels (levels (nest n (get_or ts i d).kind)) ≡ true =
      subst (λ x. nat_lt most_levels (levels x) ≡ true) e (lt-ltb most_levels (levels m) more) in
      let none : i + 0 ≡ i = omega arith in
      (λ j. later i (deep_from n (drop_more ts i d lt j))) ∙
      ((λ j. later i (if test j then Some 0 else option_map suc (deep_from (nest n (get_or ts i d).kind) (drop (i + 1) ts)))) ∙ ap Some none)

  pub deep_next : levels m ≤ most_levels → later i (deep_from n (drop i ts)) ≡ later (i + 1) (deep_from m (drop (i + 1) ts))
  deep_next few =
      let test : nat_lt most_levels (levels (nest n (get_or ts i d).kind)) ≡ false =
      subst (λ x. nat_lt most_levels (levels x) ≡ false) e (le-ltb most_levels (levels m) few) in
      (λ j. later i (deep_from n (drop_more ts i d lt j))) ∙
      ((λ j. later i (if test j then Some 0 else option_map suc (deep_from (nest n (get_or ts i d).kind) (drop (i + 1) ts)))) ∙
      (later_next i (deep_from (nest n (get_or ts i d).kind) (drop (i + 1) ts)) ∙ (λ j. later (i + 1) (deep_from (sym e j) (drop (i + 1) ts)))))

pub deep_none : (ts : List Sign) (i : ℕ) (n : Nesting) → length ts ≤ i → later i (deep_from n (drop i ts)) ≡ None
deep_none ts i n h = (λ j. later i (deep_from n (drop_all i ts h j)))

-- the first token that is too deep is one of the list
below_step : (b : Bool) (o : Option ℕ) (n m : ℕ) → ((k : ℕ) → o ≡ Some k → k < n) → (if b then Some 0 else option_map suc o) ≡ Some m → m < suc n
below_step true o n m f e = let z : 0 ≡ m = cc in omega (arith, z)
below_step false None n m f e = absurd cc
below_step false (Some k) n m f e = let z : suc k ≡ m = cc in let b = f k refl in omega (arith, z, b)

pub deep_below : (n : Nesting) (ts : List Sign) (m : ℕ) → deep_from n ts ≡ Some m → m < length ts
deep_below n [] m e = absurd cc
deep_below n (s ∷ ts) m e =
    below_step (nat_lt most_levels (levels (nest n s.kind))) (deep_from (nest n s.kind) ts) (length ts) m (λ k h. deep_below (nest n s.kind) ts k h) e

-- the innermost bracket is the last that is kept
turned_more : (os : List Opened) (o : Opened) (bs : List Bracket) → turned (os ++ o ∷ []) bs ≡ bracket_of o ∷ turned os bs
turned_more [] o bs = refl
turned_more (x ∷ os) o bs = turned_more os o (bracket_of x ∷ bs)

pub pushed : (old new : List Opened) (o : Opened) → new ≡ old ++ o ∷ [] → brackets_of new ≡ bracket_of o ∷ brackets_of old
pushed old new o e = ap brackets_of e ∙ turned_more old o []

pub levels_pushed : (old new : List Opened) (o : Opened) → new ≡ old ++ o ∷ [] →
    levels_inside (brackets_of new) ≡ suc o.count + levels_inside (brackets_of old)
levels_pushed old new o e = ap levels_inside (pushed old new o e)

-- whether no bracket is open
open_turned : (os : List Opened) (b : Bracket) (bs : List Bracket) → none_open (turned os (b ∷ bs)) ≡ false
open_turned [] b bs = refl
open_turned (o ∷ os) b bs = open_turned os (bracket_of o) (b ∷ bs)

pub none_open_kept : (os : List Opened) → none_open (brackets_of os) ≡ (length os == 0)
none_open_kept [] = refl
none_open_kept (o ∷ os) = open_turned os (bracket_of o) [] ∙ sym (ne_eqb (length (o ∷ os)) 0 (λ e. omega (arith, e)))

-- ---- what each function makes of a nesting

abbrev pub bracket : ℕ → Bool → Bracket
bracket n e = record { count = n; ends = e }

module _ (n : Nesting) where
  pub opened_by : (bs : List Bracket) (e : Bool) → bs ≡ bracket 0 e ∷ n.inside → e ≡ not (awaits n.before) →
      record n { inside = bs; ends = false } ≡ opened n
  opened_by bs e p q = (λ i. record n { inside = p i; ends = false }) ∙ (λ i. record n { inside = bracket 0 (q i) ∷ n.inside; ends = false })

  pub closed_by : (bs : List Bracket) (b : Bracket) → n.inside ≡ b ∷ bs → record n { inside = bs; ends = b.ends } ≡ closed n.inside n
  closed_by bs b p = λ i. closed (sym p i) n

  pub closed_none : (bs : List Bracket) → bs ≡ [] → n.inside ≡ [] → record n { inside = bs; ends = true } ≡ closed n.inside n
  closed_none bs p q = (λ i. record n { inside = p i; ends = true }) ∙ ((λ i. record n { inside = sym q i; ends = true }) ∙ (λ i. closed (sym q i) n))

  pub parted_by : (bs cs : List Bracket) (b : Bracket) → n.inside ≡ b ∷ bs → cs ≡ bracket 0 b.ends ∷ bs →
      record n { inside = cs; ends = false } ≡ parted n
  parted_by bs cs b p q = (λ i. record n { inside = q i; ends = false }) ∙ (λ i. record (separated (sym p i) n) { ends = false })

  pub parted_none : (bs : List Bracket) → bs ≡ [] → n.inside ≡ [] → record n { inside = bs; ends = false } ≡ parted n
  parted_none bs p q = (λ i. record n { inside = p i; ends = false }) ∙ ((λ i. record n { inside = sym q i; ends = false }) ∙
      (λ i. record (separated (sym q i) n) { ends = false }))

  pub deeper_by : (bs cs : List Bracket) (b : Bracket) → n.inside ≡ b ∷ bs → cs ≡ bracket (suc b.count) b.ends ∷ bs →
      record n { inside = cs } ≡ one_deeper n.inside n
  deeper_by bs cs b p q = (λ i. record n { inside = q i }) ∙ (λ i. one_deeper (sym p i) n)

  pub deeper_none : (bs : List Bracket) (m : ℕ) → bs ≡ [] → n.inside ≡ [] → m ≡ suc n.outside →
      record n { inside = bs; outside = m } ≡ one_deeper n.inside n
  deeper_none bs m p q r = (λ i. record n { inside = p i; outside = r i }) ∙ ((λ i. record n { inside = sym q i; outside = suc n.outside }) ∙
      (λ i. one_deeper (sym q i) n))

  pub passed_first : (k : TokenKind) (b e : Bool) → begins n k ≡ true → b ≡ (code k == code K.Enum) → e ≡ is_in last_tokens k →
      record n { outside = 0; enum = b; ends = e } ≡ passed n k
  passed_first k b e h p q = (λ i. record n { outside = 0; enum = p i; ends = q i }) ∙
      (λ i. record (if sym h i then record n { outside = 0; enum = code k == code K.Enum } else n) { ends = is_in last_tokens k })

  pub passed_on : (k : TokenKind) (e : Bool) → begins n k ≡ false → e ≡ is_in last_tokens k → record n { ends = e } ≡ passed n k
  passed_on k e h q = (λ i. record n { ends = q i }) ∙
      (λ i. record (if sym h i then record n { outside = 0; enum = code k == code K.Enum } else n) { ends = is_in last_tokens k })

-- one level more, as the code adds it
pub counted_more : (n : ℕ) (e : Bool) (bs : List Bracket) → bracket (n + 1) e ∷ bs ≡ bracket (suc n) e ∷ bs
counted_more n e bs = let p : n + 1 ≡ suc n = omega arith in λ i. bracket (p i) e ∷ bs
