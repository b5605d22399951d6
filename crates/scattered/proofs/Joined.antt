-- The gathered text of what is read so far.
use Rattle.std.proofs.Common.{◌≡◌, ℕ, ◌+◌, ◌<◌, ◌≤◌, Bool, true, false, cond, List, [], ◌∷◌, ◌++◌, length, get_or, set, map, filter, find}
use Rattle.std.proofs.Common.{refl, sym, ap, ◌∙◌, subst, arith, append-nil, append_assoc, length-append, Option, Some, None}
use Rattle.std.specs.Prelude.{filter_map, ◌==◌}
use Rattle.std.specs.List.{zip}
use Rattle.std.specs.Option.{option_map, option_or}
use Rattle.std.proofs.lemmas.Bool.{ne_eqb, eq-eqb}
use Rattle.std.proofs.lemmas.List.{map-append, length_push, set_at, get_or_at}
use Rattle.std.proofs.lemmas.List.Elements.{filter-append, filter_map-append}
use Rattle.sail_base.specs.declared.place.Place.{Place}
use Rattle.sail_base.specs.declared.kind.Kind.{Kind}
use Rattle.sail_syntax.specs.declared.words.Extent.TheVariants.{Gathered}
use Rattle.sail_syntax.specs.declared.name.Name.{Name}
use Rattle.sail_syntax.specs.declared.definitions.Def.{Def}
use Rattle.sail_syntax.specs.declared.definitions.Def.TheVariants as D
use Rattle.sail_syntax.specs.declared.definitions.Param.{Param}
use Rattle.sail_syntax.specs.declared.definitions.Member.{Member}
use Rattle.sail_syntax.specs.declared.definitions.FunctionClause.{FunctionClause}
use Rattle.sail_syntax.specs.declared.definitions.MappingClause.{MappingClause}
use Rattle.sail_syntax.specs.Places.{definition_place}
use Rattle.scattered.specs.declared.error.ScatterError.{ScatterError}
use Rattle.scattered.specs.Openings.{Role, Opens, Continues, Ends, Stands, Opening, role, stays, number_of, is_named, opening_of, without_latest}
use Rattle.scattered.specs.Openings.{standing_behind, next_number, openings_of}
use Rattle.scattered.specs.Gathered.{Part, parts, belongs_to, parts_of, constructor_of, function_clause_of, mapping_clause_of, whole}
use Rattle.scattered.specs.Gathered.{staying, whole_from, gathered_parts, gathered}
use Rattle.scattered.specs.Refused.{failure, part_failure, first_failure}
use Rattle.scattered.specs.Added.{with_part, joined_with}
use Rattle.scattered.specs.Latest.{IsWithin}
use Rattle.scattered.proofs.Failing.{parts_more}

-- whether a role is that of an opening
abbrev pub is_opening : Role → Bool
is_opening (Opens scattered name) = true
is_opening r = false

added_to_union : (place : Place) (name : Name) (variables : List Param) (constructors : List Member) (part : Def)
    → with_part (D.Union place name variables constructors) part ≡ D.Union place name variables (constructors ++ filter_map constructor_of (part ∷ []))
added_to_union place name variables constructors (D.UnionClause at n member) = refl
added_to_union place name variables constructors part = ap (D.Union place name variables) (sym (append-nil constructors))

added_to_function : (place : Place) (name : Name) (clauses : List FunctionClause) (part : Def)
    → with_part (D.Function place Gathered name clauses) part ≡ D.Function place Gathered name (clauses ++ filter_map function_clause_of (part ∷ []))
added_to_function place name clauses (D.FunctionClause n clause) = refl
added_to_function place name clauses part = ap (D.Function place Gathered name) (sym (append-nil clauses))

added_to_mapping : (place : Place) (name : Name) (clauses : List MappingClause) (part : Def)
    → with_part (D.Mapping place name None clauses) part ≡ D.Mapping place name None (clauses ++ filter_map mapping_clause_of (part ∷ []))
added_to_mapping place name clauses (D.MappingClause at n clause) = refl
added_to_mapping place name clauses part = ap (D.Mapping place name None) (sym (append-nil clauses))

-- an opening's definition with one part more
whole_more : (d : Def) (own : List Def) (part : Def) → is_opening (role d) ≡ true → with_part (whole d own) part ≡ whole d (own ++ part ∷ [])
whole_more (D.ScatteredUnion place name variables) own part h =
    added_to_union place name variables (filter_map constructor_of own) part
    ∙ ap (D.Union place name variables) (sym (filter_map-append constructor_of own (part ∷ [])))
whole_more (D.ScatteredFunction place name) own part h =
    added_to_function place name (filter_map function_clause_of own) part
    ∙ ap (D.Function place Gathered name) (sym (filter_map-append function_clause_of own (part ∷ [])))
whole_more (D.ScatteredMapping place name) own part h =
    added_to_mapping place name (filter_map mapping_clause_of own) part
    ∙ ap (D.Mapping place name None) (sym (filter_map-append mapping_clause_of own (part ∷ [])))
whole_more d own part h = absurd (cc h)

parts_kept : (all : List Part) (part : Part) (number : ℕ) → belongs_to number part ≡ false → parts_of (all ++ part ∷ []) number ≡ parts_of all number
parts_kept all part number h =
    parts_more all part number ∙ ap (λ t. parts_of all number ++ cond t (part.0 ∷ []) []) h ∙ append-nil (parts_of all number)

parts_new : (all : List Part) (part : Part) (number : ℕ) → belongs_to number part ≡ true
    → parts_of (all ++ part ∷ []) number ≡ parts_of all number ++ part.0 ∷ []
parts_new all part number h = parts_more all part number ∙ ap (λ t. parts_of all number ++ cond t (part.0 ∷ []) []) h

whole_same : (more all : List Part) (from : ℕ) (xs : List Def)
    → ((number : ℕ) → from ≤ number → number < from + length xs → parts_of more number ≡ parts_of all number)
    → whole_from more from xs ≡ whole_from all from xs
whole_same more all from [] h = refl
whole_same more all from (d ∷ xs) h =
    let here : parts_of more from ≡ parts_of all from = h from (omega arith) (omega arith) in
    let rest = whole_same more all (from + 1) xs (λ number low high. h number (omega arith) (omega arith)) in
    λ i. whole d (here i) ∷ rest i

whole_append : (all : List Part) (from : ℕ) (xs ys : List Def) → whole_from all from (xs ++ ys) ≡ whole_from all from xs ++ whole_from all (from + length xs) ys
whole_append all from [] ys = let same : from ≡ from + 0 = omega arith in ap (λ n. whole_from all n ys) same
whole_append all from (d ∷ xs) ys =
    let same : from + 1 + length xs ≡ from + length (d ∷ xs) = omega arith in
    ap (λ rest. whole d (parts_of all from) ∷ rest) (whole_append all (from + 1) xs ys ∙ ap (λ n. whole_from all (from + 1) xs ++ whole_from all n ys) same)

length-whole : (all : List Part) (from : ℕ) (xs : List Def) → length (whole_from all from xs) ≡ length xs
length-whole all from [] = refl
length-whole all from (d ∷ xs) = let rest = length-whole all (from + 1) xs in omega arith

-- an opening stands at this number
pub record IsOpenedAt (kept : List Def) (number : ℕ) : Type 0 where
  pub front : List Def
  pub opening : Def
  pub back : List Def
  pub split : kept ≡ front ++ opening ∷ back
  pub count : length front ≡ number
  pub opens : is_opening (role opening) ≡ true

stayed : (t : Bool) (d : Def) → stays (role d) ≡ t → filter (λ x. stays (role x)) (d ∷ []) ≡ cond t (d ∷ []) []
stayed t d h = ap (λ u. cond u (d ∷ []) []) h

-- what stays, with one part more
staying_more : (all : List Part) (part : Part) → staying (all ++ part ∷ []) ≡ staying all ++ filter (λ d. stays (role d)) (part.0 ∷ [])
staying_more all part =
    ap (filter (λ d. stays (role d))) (map-append (λ (x : Part). x.0) all (part ∷ []))
    ∙ filter-append (λ d. stays (role d)) (map (λ (x : Part). x.0) all) (part.0 ∷ [])

pub staying_same : (all : List Part) (d : Def) (opening : Option ℕ) → stays (role d) ≡ false → staying (all ++ (d, opening) ∷ []) ≡ staying all
staying_same all d opening h =
    staying_more all (d, opening) ∙ ap (λ rest. staying all ++ rest) (stayed false d h) ∙ append-nil (staying all)

pub staying_grown : (all : List Part) (d : Def) (opening : Option ℕ) → stays (role d) ≡ true → staying (all ++ (d, opening) ∷ []) ≡ staying all ++ d ∷ []
staying_grown all d opening h = staying_more all (d, opening) ∙ ap (λ rest. staying all ++ rest) (stayed true d h)

-- the definitions before and behind an opening stay as they are when it gets a part
around : (all : List Part) (number : ℕ) (d : Def) (from : ℕ) (xs : List Def)
    → ((n : ℕ) → from ≤ n → n < from + length xs → number ≡ n → ⊥)
    → whole_from (all ++ (d, Some number) ∷ []) from xs ≡ whole_from all from xs
around all number d from xs apart =
    whole_same (all ++ (d, Some number) ∷ []) all from xs (λ n low high. parts_kept all (d, Some number) n (ne_eqb number n (apart n low high)))

split_whole : (all : List Part) (front : List Def) (opening : Def) (back : List Def) (number : ℕ) → length front ≡ number
    → whole_from all 0 (front ++ opening ∷ back) ≡ whole_from all 0 front ++ whole opening (parts_of all number) ∷ whole_from all (number + 1) back
split_whole all front opening back number count =
    let same : 0 + length front ≡ number = omega arith in
    whole_append all 0 front (opening ∷ back)
    ∙ ap (λ n. whole_from all 0 front ++ whole opening (parts_of all n) ∷ whole_from all (n + 1) back) same

-- a part is added to the definition of its opening
pub part_added : (all : List Part) (d one : Def) (number : ℕ) → stays (role d) ≡ false → IsOpenedAt (staying all) number
    → set (gathered_parts all) number (with_part (get_or (gathered_parts all) number one) d) ≡ gathered_parts (all ++ (d, Some number) ∷ [])
part_added all d one number goes at =
    let more = all ++ (d, Some number) ∷ [] in
    let A = whole_from all 0 at.front in
    let B = whole_from all (number + 1) at.back in
    let x = whole at.opening (parts_of all number) in
    let was : gathered_parts all ≡ A ++ x ∷ B = ap (whole_from all 0) at.split ∙ split_whole all at.front at.opening at.back number at.count in
    let long : length A ≡ number = length-whole all 0 at.front ∙ at.count in
    let front_count = at.count in
    let here : whole at.opening (parts_of more number) ≡ with_part x d =
    ap (whole at.opening) (parts_new all (d, Some number) number (eq-eqb number number refl)) ∙ sym (whole_more at.opening (parts_of all number) d at.opens) in
    let is : gathered_parts more ≡ A ++ with_part x d ∷ B =
    ap (whole_from more 0) (staying_same all d (Some number) goes ∙ at.split) ∙ split_whole more at.front at.opening at.back number at.count
    ∙ (λ i. around all number d 0 at.front (λ n low high same. absurd (omega arith)) i ++ here i
    ∷ around all number d (number + 1) at.back (λ n low high same. absurd (omega arith)) i) in
    ap (λ xs. set xs number (with_part (get_or xs number one) d)) was
    ∙ ap (λ y. set (A ++ x ∷ B) number (with_part y d)) (get_or_at A x B one number long)
    ∙ set_at A x B (with_part x d) number long
    ∙ sym is

-- a definition that stays comes last
pub definition_added : (all : List Part) (d : Def) → stays (role d) ≡ true → ((n : ℕ) → length (staying all) ≤ n → parts_of all n ≡ [])
    → gathered_parts all ++ whole d [] ∷ [] ≡ gathered_parts (all ++ (d, None) ∷ [])
definition_added all d stay later =
    let more = all ++ (d, None) ∷ [] in
    let kept = staying all in
    let none : parts_of more (0 + length kept) ≡ [] = parts_kept all (d, None) (0 + length kept) refl ∙ later (0 + length kept) (omega arith) in
    sym (ap (whole_from more 0) (staying_grown all d None stay) ∙ whole_append more 0 kept (d ∷ [])
    ∙ (λ i. whole_same more all 0 kept (λ n low high. parts_kept all (d, None) n refl) i ++ whole d (none i) ∷ []))

-- each opening that stands has its definition among those that stay
pub AreOpened : List Def → List Opening → Type 0
AreOpened kept [] = Unit {0}
AreOpened kept (opening ∷ standing) = IsOpenedAt kept opening.number × AreOpened kept standing

opened_still : (kept : List Def) (d : Def) (number : ℕ) → IsOpenedAt kept number → IsOpenedAt (kept ++ d ∷ []) number
opened_still kept d number at = record {
  front = at.front;
  opening = at.opening;
  back = at.back ++ d ∷ [];
  split = ap (λ xs. xs ++ d ∷ []) at.split ∙ append_assoc at.front (at.opening ∷ at.back) (d ∷ []);
  count = at.count;
  opens = at.opens;
}

all_opened_still : (kept : List Def) (d : Def) (standing : List Opening) → AreOpened kept standing → AreOpened (kept ++ d ∷ []) standing
unfolding AreOpened
all_opened_still kept d [] h = tt
all_opened_still kept d (opening ∷ standing) h = (opened_still kept d opening.number h.0, all_opened_still kept d standing h.1)

opened_last : (kept : List Def) (d : Def) → is_opening (role d) ≡ true → IsOpenedAt (kept ++ d ∷ []) (length kept)
opened_last kept d h = record { front = kept; opening = d; back = []; split = refl; count = refl; opens = h }

without_opened_at : (t : Bool) (kept : List Def) (opening : Opening) (standing less : List Opening) → AreOpened kept (opening ∷ standing)
    → AreOpened kept less → AreOpened kept (cond t standing (opening ∷ less))
unfolding AreOpened
without_opened_at true kept opening standing less h k = h.1
without_opened_at false kept opening standing less h k = (h.0, k)

without_opened : (kept : List Def) (name : List ℕ) (standing : List Opening) → AreOpened kept standing → AreOpened kept (without_latest name standing)
unfolding AreOpened
without_opened kept name [] h = tt
without_opened kept name (opening ∷ standing) h =
    without_opened_at (is_named name opening) kept opening standing (without_latest name standing) h (without_opened kept name standing h.1)

found_opened_at : (t : Bool) (kept : List Def) (opening : Opening) (found : Option Opening) (number : ℕ) → IsOpenedAt kept opening.number
    → (option_map number_of found ≡ Some number → IsOpenedAt kept number)
    → option_map number_of (cond t (Some opening) found) ≡ Some number → IsOpenedAt kept number
found_opened_at true kept opening found number at onward e = let same : opening.number ≡ number = cc e in subst (IsOpenedAt kept) same at
found_opened_at false kept opening found number at onward e = onward e

found_opened : (kept : List Def) (p : Opening → Bool) (standing : List Opening) (number : ℕ) → AreOpened kept standing
    → option_map number_of (find p standing) ≡ Some number → IsOpenedAt kept number
unfolding AreOpened
found_opened kept p [] number h e = absurd (cc e)
found_opened kept p (opening ∷ standing) number h e =
    found_opened_at (p opening) kept opening (find p standing) number h.0 (found_opened kept p standing number h.1) e

opening_opened : (r : Role) (kept : List Def) (standing : List Opening) (number : ℕ) → AreOpened kept standing
    → opening_of r standing ≡ Some number → IsOpenedAt kept number
opening_opened (Opens scattered name) kept standing number h e = absurd (cc e)
opening_opened (Continues scattered name) kept standing number h e = found_opened kept _ standing number h e
opening_opened (Ends name) kept standing number h e = found_opened kept (is_named name) standing number h e
opening_opened Stands kept standing number h e = absurd (cc e)

part_goes : (r : Role) (standing : List Opening) (number : ℕ) → opening_of r standing ≡ Some number → stays r ≡ false
part_goes (Opens scattered name) standing number e = absurd (cc e)
part_goes (Continues scattered name) standing number e = refl
part_goes (Ends name) standing number e = refl
part_goes Stands standing number e = absurd (cc e)

fine_stays : (r : Role) (place : Place) (ended : Bool) → failure r place None ended ≡ None → stays r ≡ true
fine_stays (Opens scattered name) place ended h = refl
fine_stays (Continues scattered name) place ended h = absurd (cc h)
fine_stays (Ends name) place ended h = absurd (cc h)
fine_stays Stands place ended h = refl

first_fine : (a b : Option ScatterError) → option_or a b ≡ None → (a ≡ None) × (b ≡ None)
first_fine None b h = (refl, h)
first_fine (Some e) b h = absurd (cc h)

-- what stands behind a part has its definition among those that stay, and so behind a definition that stays
behind_part : (r : Role) (kept : List Def) (number : ℕ) (standing : List Opening) → stays r ≡ false → AreOpened kept standing
    → AreOpened kept (standing_behind r number standing)
behind_part (Opens scattered name) kept number standing goes h = absurd (cc goes)
behind_part (Continues scattered name) kept number standing goes h = h
behind_part (Ends name) kept number standing goes h = without_opened kept name standing h
behind_part Stands kept number standing goes h = absurd (cc goes)

behind_staying : (r : Role) (kept : List Def) (d : Def) (number : ℕ) (standing : List Opening) → role d ≡ r → length kept ≡ number
    → stays r ≡ true → AreOpened kept standing → AreOpened (kept ++ d ∷ []) (standing_behind r number standing)
unfolding AreOpened
behind_staying (Opens scattered name) kept d number standing is count stay h = (
  subst (IsOpenedAt (kept ++ d ∷ [])) count (opened_last kept d (ap is_opening is)),
  all_opened_still kept d standing h,
)
behind_staying (Continues scattered name) kept d number standing is count stay h = absurd (cc stay)
behind_staying (Ends name) kept d number standing is count stay h = absurd (cc stay)
behind_staying Stands kept d number standing is count stay h = all_opened_still kept d standing h

pub zip_more : (text : List Def) (openings : List (Option ℕ)) (d : Def) (opening : Option ℕ) → length openings ≡ length text
    → zip (text ++ d ∷ []) (openings ++ opening ∷ []) ≡ zip text openings ++ (d, opening) ∷ []
zip_more [] [] d opening h = refl
zip_more [] (o ∷ openings) d opening h = absurd (omega arith)
zip_more (x ∷ text) [] d opening h = absurd (omega arith)
zip_more (x ∷ text) (o ∷ openings) d opening h =
    let shorter : length openings ≡ length text = omega arith in
    ap (λ rest. (x, o) ∷ rest) (zip_more text openings d opening shorter)

-- the gathered text of the definitions so far, where the rest of the text can be gathered
pub record JoinedSoFar (openings : List (Option ℕ)) (done rest joined : List Def) : Type 0 where
  pub taken : List (Option ℕ)
  pub standing : List Opening
  pub ended : ℕ → Bool
  pub aligned : length taken ≡ length done
  pub split : openings ≡ taken ++ openings_of standing (length (staying (zip done taken))) rest
  pub fine : first_failure ended (length (staying (zip done taken)))
      (zip rest (openings_of standing (length (staying (zip done taken))) rest)) ≡ None
  pub opened : AreOpened (staying (zip done taken)) standing
  pub later : (n : ℕ) → length (staying (zip done taken)) ≤ n → parts_of (zip done taken) n ≡ []
  pub is : joined ≡ gathered_parts (zip done taken)

pub none_joined : (text : List Def) (openings : List (Option ℕ)) (ended : ℕ → Bool) → openings ≡ openings_of [] 0 text
    → first_failure ended 0 (zip text (openings_of [] 0 text)) ≡ None → JoinedSoFar openings [] text []
unfolding AreOpened
none_joined text openings ended is fine = record {
  taken = [];
  standing = [];
  ended = ended;
  aligned = refl;
  split = is;
  fine = fine;
  opened = tt;
  later = λ n low. refl;
  is = refl;
}

-- the opening of the next definition
pub next_opening : {openings : List (Option ℕ)} {done : List Def} {d : Def} {rest joined : List Def} (so_far : JoinedSoFar openings done (d ∷ rest) joined)
    (one : Option ℕ) → get_or openings (length done) one ≡ opening_of (role d) so_far.standing
next_opening {openings} {done} {d} {rest} {joined} so_far one =
    let number = length (staying (zip done so_far.taken)) in
    ap (λ xs. get_or xs (length done) one) so_far.split
    ∙ get_or_at so_far.taken (opening_of (role d) so_far.standing)
    (openings_of (standing_behind (role d) number so_far.standing) (next_number (role d) number) rest) one (length done) so_far.aligned

-- there is an opening for each definition
pub within_openings : {openings : List (Option ℕ)} {done : List Def} {d : Def} {rest joined : List Def}
    → JoinedSoFar openings done (d ∷ rest) joined → length done < length openings
within_openings {openings} {done} {d} {rest} {joined} so_far =
    let number = length (staying (zip done so_far.taken)) in
    let long = ap length so_far.split in
    let sum = length-append so_far.taken (openings_of so_far.standing number (d ∷ rest)) in
    let same = so_far.aligned in
    omega arith

-- a part's opening has its definition in what is joined
pub within_joined : {openings : List (Option ℕ)} {done : List Def} {d : Def} {rest joined : List Def} (so_far : JoinedSoFar openings done (d ∷ rest) joined)
    (number : ℕ) → opening_of (role d) so_far.standing ≡ Some number → number < length joined
within_joined {openings} {done} {d} {rest} {joined} so_far number e =
    let at = opening_opened (role d) (staying (zip done so_far.taken)) so_far.standing number so_far.opened e in
    let long = ap length so_far.is ∙ length-whole (zip done so_far.taken) 0 (staying (zip done so_far.taken)) ∙ ap length at.split
    ∙ length-append at.front (at.opening ∷ at.back) in
    let count = at.count in
    omega arith

-- a part is joined
pub part_joined : {openings : List (Option ℕ)} {done : List Def} {d : Def} {rest joined : List Def} (so_far : JoinedSoFar openings done (d ∷ rest) joined)
    (number : ℕ) (one : Def) (now : List Def) → opening_of (role d) so_far.standing ≡ Some number
    → now ≡ set joined number (with_part (get_or joined number one) d) → JoinedSoFar openings (done ++ d ∷ []) rest now
part_joined {openings} {done} {d} {rest} {joined} so_far number one now e is =
    let all = zip done so_far.taken in
    let kept = staying all in
    let count = length kept in
    let behind = standing_behind (role d) count so_far.standing in
    let both = first_fine (part_failure so_far.ended count (d, opening_of (role d) so_far.standing))
    (first_failure so_far.ended (next_number (role d) count) (zip rest (openings_of behind (next_number (role d) count) rest))) so_far.fine in
    let goes : stays (role d) ≡ false = part_goes (role d) so_far.standing number e in
    let more : zip (done ++ d ∷ []) (so_far.taken ++ Some number ∷ []) ≡ all ++ (d, Some number) ∷ [] =
    zip_more done so_far.taken d (Some number) so_far.aligned in
    let same : staying (zip (done ++ d ∷ []) (so_far.taken ++ Some number ∷ [])) ≡ kept = ap staying more ∙ staying_same all d (Some number) goes in
    let next : next_number (role d) count ≡ count = ap (λ t. cond t (count + 1) count) goes in
    let at = opening_opened (role d) kept so_far.standing number so_far.opened e in
    let long = ap length at.split ∙ length-append at.front (at.opening ∷ at.back) in
    let front_count = at.count in
    let less : number < count = omega arith in record {
      taken = so_far.taken ++ Some number ∷ [];
      standing = behind;
      ended = so_far.ended;
      aligned =
          let short = so_far.aligned in
          let a = length_push so_far.taken (Some number) in
          let b = length_push done d in
          omega arith;
      split = so_far.split ∙ (λ i. so_far.taken ++ e i ∷ openings_of behind (next i) rest)
          ∙ sym (append_assoc so_far.taken (Some number ∷ []) (openings_of behind count rest))
          ∙ ap (λ xs. (so_far.taken ++ Some number ∷ []) ++ openings_of behind (length xs) rest) (sym same);
      fine = subst (λ xs. first_failure so_far.ended (length xs) (zip rest (openings_of behind (length xs) rest)) ≡ None) (sym same)
          (subst (λ n. first_failure so_far.ended n (zip rest (openings_of behind n rest)) ≡ None) next both.1);
      opened = subst (λ xs. AreOpened xs behind) (sym same) (behind_part (role d) kept count so_far.standing goes so_far.opened);
      later = λ n low.
          let from : count ≤ n = subst (λ xs. length xs ≤ n) same low in
          ap (λ xs. parts_of xs n) more ∙ parts_kept all (d, Some number) n (ne_eqb number n (λ equal. absurd (omega arith))) ∙ so_far.later n from;
      is = is ∙ ap (λ xs. set xs number (with_part (get_or xs number one) d)) so_far.is
          ∙ part_added all d one number goes at ∙ ap gathered_parts (sym more);
    }

-- a definition that stays is joined
pub definition_joined : {openings : List (Option ℕ)} {done : List Def} {d : Def} {rest joined : List Def} (so_far : JoinedSoFar openings done (d ∷ rest) joined)
    (now : List Def) → opening_of (role d) so_far.standing ≡ None → now ≡ joined ++ whole d [] ∷ []
    → JoinedSoFar openings (done ++ d ∷ []) rest now
definition_joined {openings} {done} {d} {rest} {joined} so_far now e is =
    let all = zip done so_far.taken in
    let kept = staying all in
    let count = length kept in
    let behind = standing_behind (role d) count so_far.standing in
    let both = first_fine (part_failure so_far.ended count (d, opening_of (role d) so_far.standing))
    (first_failure so_far.ended (next_number (role d) count) (zip rest (openings_of behind (next_number (role d) count) rest))) so_far.fine in
    let fine : failure (role d) (definition_place d) None (so_far.ended count) ≡ None =
    ap (λ opening. failure (role d) (definition_place d) opening (so_far.ended count)) (sym e) ∙ both.0 in
    let stay : stays (role d) ≡ true = fine_stays (role d) (definition_place d) (so_far.ended count) fine in
    let more : zip (done ++ d ∷ []) (so_far.taken ++ None ∷ []) ≡ all ++ (d, None) ∷ [] = zip_more done so_far.taken d None so_far.aligned in
    let grown : staying (zip (done ++ d ∷ []) (so_far.taken ++ None ∷ [])) ≡ kept ++ d ∷ [] = ap staying more ∙ staying_grown all d None stay in
    let next : next_number (role d) count ≡ length (kept ++ d ∷ []) = ap (λ t. cond t (count + 1) count) stay ∙ sym (length_push kept d) in record {
      taken = so_far.taken ++ None ∷ [];
      standing = behind;
      ended = so_far.ended;
      aligned =
          let short = so_far.aligned in
          let a = length_push so_far.taken None in
          let b = length_push done d in
          omega arith;
      split = so_far.split ∙ (λ i. so_far.taken ++ e i ∷ openings_of behind (next i) rest)
          ∙ sym (append_assoc so_far.taken (None ∷ []) (openings_of behind (length (kept ++ d ∷ [])) rest))
          ∙ ap (λ xs. (so_far.taken ++ None ∷ []) ++ openings_of behind (length xs) rest) (sym grown);
      fine = subst (λ xs. first_failure so_far.ended (length xs) (zip rest (openings_of behind (length xs) rest)) ≡ None) (sym grown)
          (subst (λ n. first_failure so_far.ended n (zip rest (openings_of behind n rest)) ≡ None) next both.1);
      opened = subst (λ xs. AreOpened xs behind) (sym grown) (behind_staying (role d) kept d count so_far.standing refl refl stay so_far.opened);
      later = λ n low.
          let from : length (kept ++ d ∷ []) ≤ n = subst (λ xs. length xs ≤ n) grown low in
          let long = length_push kept d in
          ap (λ xs. parts_of xs n) more ∙ parts_kept all (d, None) n refl ∙ so_far.later n (omega arith);
      is = is ∙ ap (λ xs. xs ++ whole d [] ∷ []) so_far.is ∙ definition_added all d stay so_far.later ∙ ap gathered_parts (sym more);
    }

-- the next definition is joined
pub one_joined : {openings : List (Option ℕ)} {done : List Def} {d : Def} {rest joined : List Def} (so_far : JoinedSoFar openings done (d ∷ rest) joined)
    (opening : Option ℕ) (now : List Def) → opening ≡ opening_of (role d) so_far.standing → now ≡ joined_with joined d opening
    → JoinedSoFar openings (done ++ d ∷ []) rest now
one_joined {openings} {done} {d} {rest} {joined} so_far None now at is = definition_joined so_far now (sym at) is
one_joined {openings} {done} {d} {rest} {joined} so_far (Some number) now at is = part_joined so_far number d now (sym at) is

-- its opening, where it has one, is among what is joined
pub opening_joined : {openings : List (Option ℕ)} {done : List Def} {d : Def} {rest joined : List Def} (so_far : JoinedSoFar openings done (d ∷ rest) joined)
    (opening : Option ℕ) → opening ≡ opening_of (role d) so_far.standing → IsWithin (length joined) opening
opening_joined {openings} {done} {d} {rest} {joined} so_far None at = tt
opening_joined {openings} {done} {d} {rest} {joined} so_far (Some number) at = within_joined so_far number (sym at)

-- all is joined
pub all_joined : {text : List Def} {openings : List (Option ℕ)} {done joined : List Def} → JoinedSoFar openings done [] joined → done ≡ text
    → openings ≡ openings_of [] 0 text → joined ≡ gathered text
all_joined {text} {openings} {done} {joined} so_far all is =
    let taken : so_far.taken ≡ openings_of [] 0 text = sym (append-nil so_far.taken) ∙ sym so_far.split ∙ is in
    so_far.is ∙ (λ i. gathered_parts (zip (all i) (taken i)))
