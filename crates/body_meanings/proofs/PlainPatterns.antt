-- Patterns see no operator: they do the same in the world of a plain expression.
use Rattle.std.proofs.Common.{◌≡◌, ℕ, Bool, true, false, ◌&&◌, List, [], ◌∷◌, ◌++◌, map, length, ap, sym, ◌∙◌, refl, subst, Option, Some, None, nat_eq}
use Rattle.std.proofs.Common.{if◌then◌else◌}
use Rattle.std.specs.Prelude.{reverse}
use Rattle.sail_types.specs.Readings.{together}
use Rattle.sail_types.specs.Sums.{and_then}
use Rattle.sail_types.specs.declared.values.Value.{Value, Value-F, out-Value}
use Rattle.sail_types.specs.declared.values.Value.TheOpen as W
use Rattle.sail_types.specs.declared.values.Value.TheVariants as Val
use Rattle.sail_syntax.specs.declared.words.Brackets.{Brackets}
use Rattle.sail_syntax.specs.declared.words.Brackets.TheVariants as B
use Rattle.sail_syntax.specs.declared.patterns.Joined.{Joined, roll-Joined}
use Rattle.sail_syntax.specs.declared.patterns.Pat.{Pat, Pat-F, roll-Pat}
use Rattle.sail_syntax.specs.declared.patterns.Pat.TheOpen as P
use Rattle.sail_syntax.specs.declared.patterns.Pat.TheOpen.{Joined-F}
use Rattle.sail_syntax.specs.declared.patterns.Pat.TheFolds.{fold-Joined, fold-roll-Pat, fold-roll-Joined, map-Pat, map-Joined, ind-Pat}
use Rattle.sail_core.specs.Run.{Now, gives, falls, stuck, needs, goes_on, local, ◌then◌}
use Rattle.sail_meaning.specs.Named.{Inside, constructor_named}
use Rattle.sail_meaning.specs.World as Source
use Rattle.sail_meaning.specs.World.{Bindings, Piece, plain}
use Rattle.sail_meaning.specs.Patterns.{Matcher, arguments_match, concat_matches, cons_matches, construct_matches, constructor_matches, cut_by}
use Rattle.sail_meaning.specs.Patterns.{group_matches, matcher, parts_match, pattern_form, whole_matches, width_now}

-- a matcher that does the same there
abbrev Same : Matcher → Type 0
Same m =
    ((w : Source.World) (v : Value) (now : Now Value) → m.matches (plain w) v now ≡ m.matches w v now)
    × ((w : Source.World) → m.width (plain w) ≡ m.width w)

abbrev AllSame : List Matcher → Type 0
AllSame [] = Unit {0}
AllSame (m ∷ ms) = Same m × AllSame ms

parts_same : (ms : List Matcher) → AllSame ms → (w : Source.World) (vs : List Value) (now : Now Value)
    → parts_match ms (plain w) vs now ≡ parts_match ms w vs now
parts_same [] are w [] now = refl
parts_same [] are w (v ∷ vs) now = refl
parts_same (m ∷ ms) are w [] now = refl
parts_same (m ∷ ms) are w (v ∷ vs) now =
    λ j. goes_on (are.0.0 w v now j) (λ found later. goes_on (parts_same ms are.1 w vs later j) (λ others. gives (found ++ others)))

counted_same : (b : Bool) (other : Piece Bindings) (ms : List Matcher) → AllSame ms → (w : Source.World) (vs : List Value) (now : Now Value)
    → (if b then parts_match ms (plain w) vs else other) now ≡ (if b then parts_match ms w vs else other) now
counted_same true other ms are w vs now = parts_same ms are w vs now
counted_same false other ms are w vs now = refl

group_same : (brackets : Brackets) (ms : List Matcher) → AllSame ms → (w : Source.World) (x : Value-F Value) (now : Now Value)
    → group_matches brackets ms (plain w) x now ≡ group_matches brackets ms w x now
group_same B.Tuple [] are w x now = refl
group_same B.Tuple (m ∷ ms) are w (W.Tuple vs) now = counted_same (nat_eq (length (m ∷ ms)) (length vs)) stuck (m ∷ ms) are w vs now
group_same B.Vector ms are w (W.Vector vs) now = counted_same (nat_eq (length ms) (length (reverse vs))) stuck ms are w (reverse vs) now
group_same B.List ms are w (W.List vs) now = counted_same (nat_eq (length ms) (length vs)) falls ms are w vs now
group_same B.Tuple (m ∷ ms) are w x now = refl
group_same B.Vector ms are w x now = refl
group_same B.List ms are w x now = refl

cons_same : (m n : Matcher) → Same m → Same n → (w : Source.World) (x : Value-F Value) (now : Now Value)
    → cons_matches m n (plain w) x now ≡ cons_matches m n w x now
cons_same m n sm sn w (W.List []) now = refl
cons_same m n sm sn w (W.List (v ∷ vs)) now = parts_same (m ∷ n ∷ []) (sm, (sn, tt)) w (v ∷ Val.List vs ∷ []) now
cons_same m n sm sn w x now = refl

whole_same : (ms : List Matcher) → AllSame ms → (w : Source.World) (v : Value) (now : Now Value)
    → whole_matches ms (plain w) v now ≡ whole_matches ms w v now
whole_same [] are w v now = refl
whole_same (m ∷ []) are w v now = are.0.0 w v now
whole_same (m ∷ n ∷ ms) are w v now = group_same B.Tuple (m ∷ n ∷ ms) are w (out-Value v) now

inside_same : (at : Inside) (ms : List Matcher) → AllSame ms → (w : Source.World) (x : Value-F Value) (now : Now Value)
    → constructor_matches at ms (plain w) x now ≡ constructor_matches at ms w x now
inside_same at ms are w (W.Union u c v) now = by_place (nat_eq u at.0 && nat_eq c at.1)
  where
    by_place : (b : Bool) → (if b then whole_matches ms (plain w) v else falls) now ≡ (if b then whole_matches ms w v else falls) now
    by_place true = whole_same ms are w v now
    by_place false = refl
inside_same at ms are w x now = refl

construct_same : (name : List ℕ) (ms : List Matcher) → AllSame ms → (w : Source.World) (v : Value) (o : Option Inside) (now : Now Value)
    → construct_matches name ms (plain w) v o now ≡ construct_matches name ms w v o now
construct_same name ms are w v (Some at) now = inside_same at ms are w (out-Value v) now
construct_same name ms are w v None now = λ j. goes_on (w.convert name v now) (λ u later. whole_same ms are w u later j)

widths_same : (ms : List Matcher) → AllSame ms → (w : Source.World)
    → map (λ (p : Matcher). width_now w.numbers (p.width (plain w))) ms ≡ map (λ (p : Matcher). width_now w.numbers (p.width w)) ms
widths_same [] are w = refl
widths_same (m ∷ ms) are w = λ j. width_now w.numbers (are.0.1 w j) ∷ widths_same ms are.1 w j

concat_same : (ms : List Matcher) → AllSame ms → (w : Source.World) (x : Value-F Value) (now : Now Value)
    → concat_matches ms (plain w) x now ≡ concat_matches ms w x now
concat_same ms are w (W.Bits bs) now =
    ap (λ ws. (needs (and_then (together ws) (cut_by bs)) then parts_match ms (plain w)) now) (widths_same ms are w)
    ∙ (λ j. goes_on (needs (and_then (together (map (λ (p : Matcher). width_now w.numbers (p.width w)) ms)) (cut_by bs)) now)
    (λ vs later. parts_same ms are w vs later j))
concat_same ms are w x now = refl

-- ---- one form

abbrev joined_matcher : Joined → Matcher
joined_matcher = fold-Joined Matcher Matcher pattern_form (λ joined. joined.part)

abbrev SuchP : Type 0
SuchP = (p : Pat) × Same (matcher p)

abbrev SuchJ : Type 0
SuchJ = (j : Joined) × Same (joined_matcher j)

abbrev pats : List SuchP → List Pat
pats ys = map (λ (p : SuchP). p.0) ys

abbrev joins : List SuchJ → List Joined
joins ys = map (λ (j : SuchJ). j.0) ys

each_same : (ys : List SuchP) → AllSame (map matcher (pats ys))
each_same [] = tt
each_same (y ∷ ys) = (y.1, each_same ys)

joins_same : (ys : List SuchJ) → AllSame (map joined_matcher (joins ys))
joins_same [] = tt
joins_same (y ∷ ys) = (y.1, joins_same ys)

abbrev first : Pat-F SuchP SuchJ → Pat-F Pat Joined
first = map-Pat SuchP SuchJ Pat Joined (λ p. p.0) (λ j. j.0)

abbrev matched_form : Pat-F Pat Joined → Pat-F Matcher Matcher
matched_form = map-Pat Pat Joined Matcher Matcher matcher joined_matcher

again : (y : Pat-F SuchP SuchJ) → Same (pattern_form (matched_form (first y)))
again (P.Wildcard place) = (λ w v now. refl, λ w. refl)
again (P.Constant place literal) = (λ w v now. refl, λ w. refl)
again (P.Negative place n) = (λ w v now. refl, λ w. refl)
again (P.Bind name) = (λ w v now. refl, λ w. refl)
again (P.Construct name ys) =
    (λ w v now. construct_same name.text (map matcher (pats ys)) (each_same ys) w v (constructor_named w.text.types name.text) now, λ w. refl)
again (P.Group place brackets ys) = (λ w v now. group_same brackets (map matcher (pats ys)) (each_same ys) w (out-Value v) now, λ w. refl)
again (P.Concat place a b ys) =
    (λ w v now. concat_same (matcher a.0 ∷ matcher b.0 ∷ map joined_matcher (joins ys)) (a.1, (b.1, joins_same ys)) w (out-Value v) now, λ w. refl)
again (P.Cons place a b) = (λ w v now. cons_same (matcher a.0) (matcher b.0) a.1 b.1 w (out-Value v) now, λ w. refl)
again (P.As place a name) = (λ w v now j. goes_on (a.1.0 w v now j) (λ found. gives (found ++ local name.text v ∷ [])), λ w. refl)
again (P.Typed place a typ) = (a.1.0, λ w. refl)

-- ---- the tree

abbrev first_joined : Joined-F SuchP SuchJ → Joined-F Pat Joined
first_joined = map-Joined SuchP SuchJ Pat Joined (λ p. p.0) (λ j. j.0)

abbrev SamePat : Pat → Type 0
SamePat p = Same (matcher p)

abbrev SameJoined : Joined → Type 0
SameJoined j = Same (joined_matcher j)

rolled : (d : Pat-F Pat Joined) → Same (pattern_form (matched_form d)) → SamePat (roll-Pat d)
rolled d h = subst Same (sym (fold-roll-Pat Matcher Matcher pattern_form (λ joined. joined.part) d)) h

rolled_joined : (y : Joined-F SuchP SuchJ) → SameJoined (roll-Joined (first_joined y))
rolled_joined y = subst Same (sym (fold-roll-Joined Matcher Matcher pattern_form (λ joined. joined.part) (first_joined y))) y.part.1

pub plain_matcher : (p : Pat) → SamePat p
plain_matcher = ind-Pat SamePat SameJoined (λ e y is. subst (λ d. SamePat (roll-Pat d)) is (rolled (first y) (again y)))
    (λ e y is. subst (λ d. SameJoined (roll-Joined d)) is (rolled_joined y))

all_plain : (ps : List Pat) → AllSame (map matcher ps)
all_plain [] = tt
all_plain (p ∷ ps) = (plain_matcher p, all_plain ps)

-- parameters against arguments
pub plain_arguments : (ps : List Pat) (w : Source.World) (vs : List Value) (now : Now Value)
    → arguments_match (plain w) ps vs now ≡ arguments_match w ps vs now
plain_arguments [] w [] now = refl
plain_arguments [] w (v ∷ []) now = refl
plain_arguments [] w (v ∷ u ∷ vs) now = refl
plain_arguments (p ∷ ps) w vs now =
    counted_same (nat_eq (length (map matcher (p ∷ ps))) (length vs)) stuck (map matcher (p ∷ ps)) (all_plain (p ∷ ps)) w vs now
