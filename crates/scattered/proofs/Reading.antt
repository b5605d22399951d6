-- The text that is read so far, and the openings to which its definitions belong.
use Rattle.std.proofs.Common.{◌≡◌, ℕ, suc, ◌+◌, ◌<◌, ◌≤◌, Bool, true, false, cond, List, [], ◌∷◌, ◌++◌, length, find, refl, sym, ap, ◌∙◌}
use Rattle.std.proofs.Common.{append_assoc, append-nil, arith, Option, Some, None, All}
use Rattle.std.specs.Option.{option_map}
use Rattle.std.proofs.lemmas.List.{length_push}
use Rattle.std.proofs.lemmas.List.Elements.{All-nil, All-cons}
use Rattle.sail_syntax.specs.declared.definitions.Def.{Def}
use Rattle.scattered.specs.declared.standing.Scattered.{Scattered}
use Rattle.scattered.specs.declared.standing.Latest.{Latest}
use Rattle.scattered.specs.Openings.{Role, Opens, Continues, Ends, Stands, Opening, role, stays, number_of, is_named, opening_of, without_latest}
use Rattle.scattered.specs.Openings.{standing_behind, next_number, openings_of}
use Rattle.scattered.specs.Latest.{AreStanding, IsWithin, AreWithin}

-- what is found of a text, where these openings stand before the rest of it
pub record ReadSoFar (latest : List ℕ → Latest) (before : List Latest) (text : List Def) (found : List (Option ℕ)) (rest : List Def) : Type 0 where
  pub standing : List Opening
  pub stand : AreStanding latest before standing
  pub onward : found ++ openings_of standing (length before) rest ≡ openings_of [] 0 text

pub none_read : (latest : List ℕ → Latest) (before : List Latest) (text : List Def) → AreStanding latest before [] → before ≡ []
    → ReadSoFar latest before text [] text
none_read latest before text stand none = record {
  standing = [];
  stand = stand;
  onward = ap (λ b. openings_of [] (length b) text) none;
}

pub one_read : {latest now : List ℕ → Latest} {before after : List Latest} {text : List Def} {found : List (Option ℕ)} {d : Def} {rest : List Def}
    (so_far : ReadSoFar latest before text found (d ∷ rest)) (opening : Option ℕ)
    → ((standing : List Opening) → AreStanding latest before standing → opening ≡ opening_of (role d) standing)
    → ((standing : List Opening) → AreStanding latest before standing → AreStanding now after (standing_behind (role d) (length before) standing))
    → length after ≡ next_number (role d) (length before)
    → ReadSoFar now after text (found ++ opening ∷ []) rest
one_read {latest} {now} {before} {after} {text} {found} {d} {rest} so_far opening is stand number = record {
  standing = standing_behind (role d) (length before) so_far.standing;
  stand = stand so_far.standing so_far.stand;
  onward = append_assoc found (opening ∷ []) (openings_of (standing_behind (role d) (length before) so_far.standing) (length after) rest)
      ∙ (λ i. found ++ is so_far.standing so_far.stand i ∷ openings_of (standing_behind (role d) (length before) so_far.standing) (number i) rest)
      ∙ so_far.onward;
}

pub all_read : {latest : List ℕ → Latest} {before : List Latest} {text : List Def} {found : List (Option ℕ)}
    → ReadSoFar latest before text found [] → found ≡ openings_of [] 0 text
all_read {latest} {before} {text} {found} so_far = sym (append-nil found) ∙ so_far.onward

-- openings have numbers below one
pub AreBelow : ℕ → List Opening → Type 0
AreBelow number [] = Unit {0}
AreBelow number (opening ∷ standing) = (opening.number < number) × AreBelow number standing

pub below_next : (number : ℕ) (standing : List Opening) → AreBelow number standing → AreBelow (number + 1) standing
unfolding AreBelow
below_next number [] h = tt
below_next number (opening ∷ standing) h = let less = h.0 in (omega arith, below_next number standing h.1)

without_below_at : (t : Bool) (number : ℕ) (opening : Opening) (standing less : List Opening) → AreBelow number (opening ∷ standing)
    → AreBelow number less → AreBelow number (cond t standing (opening ∷ less))
unfolding AreBelow
without_below_at true number opening standing less h k = h.1
without_below_at false number opening standing less h k = (h.0, k)

pub without_below : (name : List ℕ) (number : ℕ) (standing : List Opening) → AreBelow number standing → AreBelow number (without_latest name standing)
unfolding AreBelow
without_below name number [] h = tt
without_below name number (opening ∷ standing) h =
    without_below_at (is_named name opening) number opening standing (without_latest name standing) h (without_below name number standing h.1)

behind_below : (r : Role) (number : ℕ) (standing : List Opening) → AreBelow number standing
    → AreBelow (next_number r number) (standing_behind r number standing)
unfolding AreBelow
behind_below (Opens scattered name) number standing h = (omega arith, below_next number standing h)
behind_below (Continues scattered name) number standing h = h
behind_below (Ends name) number standing h = without_below name number standing h
behind_below Stands number standing h = below_next number standing h

found_within_at : (t : Bool) (number : ℕ) (opening : Opening) (found : Option Opening) → opening.number < number
    → IsWithin number (option_map number_of found) → IsWithin number (option_map number_of (cond t (Some opening) found))
found_within_at true number opening found less h = less
found_within_at false number opening found less h = h

found_within : (number : ℕ) (p : Opening → Bool) (standing : List Opening) → AreBelow number standing
    → IsWithin number (option_map number_of (find p standing))
unfolding AreBelow
found_within number p [] h = tt
found_within number p (opening ∷ standing) h =
    found_within_at (p opening) number opening (find p standing) h.0 (found_within number p standing h.1)

pub opening_within : (r : Role) (number : ℕ) (standing : List Opening) → AreBelow number standing → IsWithin number (opening_of r standing)
opening_within (Opens scattered name) number standing h = tt
opening_within (Continues scattered name) number standing h = found_within number _ standing h
opening_within (Ends name) number standing h = found_within number (is_named name) standing h
opening_within Stands number standing h = tt

within_more : (number count : ℕ) (opening : Option ℕ) → number ≤ count → IsWithin number opening → IsWithin count opening
within_more number count None le h = tt
within_more number count (Some n) le h = let less : n < number = h in omega arith

next_le : (r : Role) (number rest count : ℕ) → number + (rest + 1) ≤ count → next_number r number + rest ≤ count
next_le (Opens scattered name) number rest count h = omega arith
next_le (Continues scattered name) number rest count h = omega arith
next_le (Ends name) number rest count h = omega arith
next_le Stands number rest count h = omega arith

all_within : (standing : List Opening) (number count : ℕ) (text : List Def) → AreBelow number standing → number + length text ≤ count
    → AreWithin count (openings_of standing number text)
all_within standing number count [] h le = All-nil (IsWithin count)
all_within standing number count (d ∷ text) h le =
    let long : number + (length text + 1) ≤ count = omega arith in
    All-cons (IsWithin count) _ _
    (within_more number count (opening_of (role d) standing) (omega arith) (opening_within (role d) number standing h))
    (all_within (standing_behind (role d) number standing) (next_number (role d) number) count text
    (behind_below (role d) number standing h) (next_le (role d) number (length text) count long))

-- no definition belongs to an opening past the text
pub openings_within : (text : List Def) → AreWithin (length text) (openings_of [] 0 text)
unfolding AreBelow
openings_within text = all_within [] 0 (length text) text tt (omega arith)

pub openings_aligned : (standing : List Opening) (number : ℕ) (text : List Def) → length (openings_of standing number text) ≡ length text
openings_aligned standing number [] = refl
openings_aligned standing number (d ∷ text) =
    ap suc (openings_aligned (standing_behind (role d) number standing) (next_number (role d) number) text)
