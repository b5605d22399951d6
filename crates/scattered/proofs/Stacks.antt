-- The latest openings of each name follow the openings that stand.
use Rattle.std.proofs.Common.{◌≡◌, ℕ, ◌+◌, ◌<◌, Bool, true, false, ◌&&◌, cond, List, [], ◌∷◌, ◌++◌, length, filter, get_or}
use Rattle.std.proofs.Common.{refl, sym, ap, ◌∙◌, subst, arith, Option, Some, None, bytes_eq, find, unwrap_or}
use Rattle.std.specs.Borrow.{Bor}
use Rattle.std.specs.HashMap.{HashMap, UpdatesBy, get_by}
use Rattle.std.specs.Option.{option_map}
use Rattle.std.proofs.lemmas.List.{get_or_append_left, get_or_push, length_push}
use Rattle.std.proofs.lemmas.Slice.Eq.{bytes_eq-Decides}
use Rattle.std.proofs.lemmas.Map.Text.{hash_map_updates_str}
use Rattle.scattered.specs.declared.standing.Scattered.{Scattered}
use Rattle.scattered.specs.declared.standing.Scattered.TheVariants.{Union, Function, Mapping}
use Rattle.scattered.specs.declared.standing.Latest.{Latest}
use Rattle.scattered.specs.Openings.{Opening, Continues, Ends, is_named, is_same, is_opening_of, number_of, opening_of, without_latest}
use Rattle.scattered.specs.Latest.{no_latest, latest_of, latest_with, latest_at, AreLatest, AreStanding}

-- one more definition changes nothing of what stood before it
pub still_latest : (before : List Latest) (last : Latest) (standing : List Opening) (latest : Latest)
    → AreLatest before latest standing → AreLatest (before ++ last ∷ []) latest standing
still_latest before last [] latest h = h
still_latest before last (opening ∷ standing) latest h =
    let number = opening.number in
    let same : get_or (before ++ last ∷ []) number no_latest ≡ get_or before number no_latest = get_or_append_left before (last ∷ []) no_latest number h.0 in
    let less : number < length before = h.0 in
    let grown = length_push before last in (
      omega arith,
      h.1 ∙ ap (λ was. latest_with was opening.scattered number) (sym same),
      subst (λ was. AreLatest (before ++ last ∷ []) was standing) (sym same) (still_latest before last standing (get_or before number no_latest) h.2),
    )

latest_of_with : (latest : Latest) (one other : Scattered) (number : ℕ)
    → latest_of (latest_with latest one number) other ≡ cond (is_same one other) (Some number) (latest_of latest other)
latest_of_with latest Union Union number = refl
latest_of_with latest Union Function number = refl
latest_of_with latest Union Mapping number = refl
latest_of_with latest Function Union number = refl
latest_of_with latest Function Function number = refl
latest_of_with latest Function Mapping number = refl
latest_of_with latest Mapping Union number = refl
latest_of_with latest Mapping Function number = refl
latest_of_with latest Mapping Mapping number = refl

any_with : (latest : Latest) (scattered : Scattered) (number : ℕ) → (latest_with latest scattered number).any ≡ Some number
any_with latest Union number = refl
any_with latest Function number = refl
any_with latest Mapping number = refl

none_of : (scattered : Scattered) → latest_of no_latest scattered ≡ None
none_of Union = refl
none_of Function = refl
none_of Mapping = refl

numbered : (t : Bool) (opening : Opening) (rest : Option ℕ) (found : Option Opening) → rest ≡ option_map number_of found
    → cond t (Some opening.number) rest ≡ option_map number_of (cond t (Some opening) found)
numbered true opening rest found h = refl
numbered false opening rest found h = h

-- the latest of a kind, among the openings of a name
kind_found : (before : List Latest) (scattered : Scattered) (standing : List Opening) (latest : Latest) → AreLatest before latest standing
    → latest_of latest scattered ≡ option_map number_of (find (λ opening. is_same opening.scattered scattered) standing)
kind_found before scattered [] latest h = ap (λ was. latest_of was scattered) h ∙ none_of scattered
kind_found before scattered (opening ∷ standing) latest h =
    let was = get_or before opening.number no_latest in
    ap (λ x. latest_of x scattered) h.1 ∙ latest_of_with was opening.scattered scattered opening.number
    ∙ numbered (is_same opening.scattered scattered) opening (latest_of was scattered)
    (find (λ other. is_same other.scattered scattered) standing) (kind_found before scattered standing was h.2)

found_among : (t u : Bool) (q : Opening → Bool) (opening : Opening) (kept : List Opening) (rest : Option Opening)
    → q opening ≡ u → rest ≡ find q kept → cond (t && u) (Some opening) rest ≡ find q (cond t (opening ∷ kept) kept)
found_among true true q opening kept rest is h = rw is refl
found_among true false q opening kept rest is h = rw is h
found_among false u q opening kept rest is h = h

-- the first of two tests is the first of the second among those of the first
find_filter : (p q : Opening → Bool) (standing : List Opening) → find (λ opening. p opening && q opening) standing ≡ find q (filter p standing)
find_filter p q [] = refl
find_filter p q (opening ∷ standing) =
    found_among (p opening) (q opening) q opening (filter p standing) (find (λ other. p other && q other) standing) refl (find_filter p q standing)

-- the opening to which a clause belongs
pub clause_found : (latest : List ℕ → Latest) (before : List Latest) (standing : List Opening) (scattered : Scattered) (name : List ℕ)
    → AreStanding latest before standing → latest_of (latest name) scattered ≡ opening_of (Continues scattered name) standing
clause_found latest before standing scattered name h =
    kind_found before scattered (filter (is_named name) standing) (latest name) (h name)
    ∙ ap (option_map number_of) (sym (find_filter (is_named name) (λ opening. is_same opening.scattered scattered) standing))

-- the first of a list
first_of : List Opening → Option Opening
first_of [] = None
first_of (opening ∷ standing) = Some opening

first_if : (t : Bool) (opening : Opening) (kept : List Opening) (rest : Option Opening) → rest ≡ first_of kept
    → cond t (Some opening) rest ≡ first_of (cond t (opening ∷ kept) kept)
unfolding first_of
first_if true opening kept rest h = refl
first_if false opening kept rest h = h

find_first : (p : Opening → Bool) (standing : List Opening) → find p standing ≡ first_of (filter p standing)
unfolding first_of
find_first p [] = refl
find_first p (opening ∷ standing) = first_if (p opening) opening (filter p standing) (find p standing) (find_first p standing)

any_first : (before : List Latest) (standing : List Opening) (latest : Latest) → AreLatest before latest standing
    → latest.any ≡ option_map number_of (first_of standing)
unfolding first_of
any_first before [] latest h = ap (λ was. was.any) h
any_first before (opening ∷ standing) latest h =
    ap (λ was. was.any) h.1 ∙ any_with (get_or before opening.number no_latest) opening.scattered opening.number

-- the opening that an `end` ends
pub end_found : (latest : List ℕ → Latest) (before : List Latest) (standing : List Opening) (name : List ℕ)
    → AreStanding latest before standing → (latest name).any ≡ opening_of (Ends name) standing
end_found latest before standing name h =
    any_first before (filter (is_named name) standing) (latest name) (h name)
    ∙ ap (option_map number_of) (sym (find_first (is_named name) standing))

opened_at : (t : Bool) (before : List Latest) (was now one : Latest) (opening : Opening) (kept : List Opening) → opening.number ≡ length before
    → (t ≡ true → one ≡ was) → now ≡ cond t (latest_with one opening.scattered (length before)) was → AreLatest before was kept
    → AreLatest (before ++ one ∷ []) now (cond t (opening ∷ kept) kept)
opened_at true before was now one opening kept number same is h =
    let grown = length_push before one in
    let there : get_or (before ++ one ∷ []) opening.number no_latest ≡ one = get_or_push before one no_latest opening.number (sym number) in (
      omega arith,
      is ∙ (λ i. latest_with (sym there i) opening.scattered (sym number i)),
      subst (λ x. AreLatest (before ++ one ∷ []) x kept) (sym there)
          (still_latest before one kept one (subst (λ x. AreLatest before x kept) (sym (same refl)) h)),
    )
opened_at false before was now one opening kept number same is h =
    subst (λ x. AreLatest (before ++ one ∷ []) x kept) (sym is) (still_latest before one kept was h)

-- one more opening stands
pub opened : (latest now : List ℕ → Latest) (before : List Latest) (standing : List Opening) (opening : Opening) → opening.number ≡ length before
    → ((name : List ℕ) → now name ≡ cond (bytes_eq opening.name name) (latest_with (latest opening.name) opening.scattered (length before)) (latest name))
    → AreStanding latest before standing → AreStanding now (before ++ latest opening.name ∷ []) (opening ∷ standing)
opened latest now before standing opening number is h =
    λ name. opened_at (bytes_eq opening.name name) before (latest name) (now name) (latest opening.name) opening (filter (is_named name) standing)
    number (λ t. ap latest ((bytes_eq-Decides opening.name name).0 t)) (is name) (h name)

-- one more definition, which is no opening
pub passed : (latest : List ℕ → Latest) (before : List Latest) (last : Latest) (standing : List Opening)
    → AreStanding latest before standing → AreStanding latest (before ++ last ∷ []) standing
passed latest before last standing h = λ name. still_latest before last (filter (is_named name) standing) (latest name) (h name)

rest_of : List Opening → List Opening
rest_of [] = []
rest_of (opening ∷ standing) = standing

without_at : (t : Bool) (p : Opening → Bool) (opening : Opening) (standing less : List Opening) → p opening ≡ t
    → filter p less ≡ rest_of (filter p standing)
    → filter p (cond t standing (opening ∷ less)) ≡ rest_of (cond t (opening ∷ filter p standing) (filter p standing))
unfolding rest_of
without_at true p opening standing less is h = refl
without_at false p opening standing less is h = rw is h

-- the openings of a name without the latest
without_itself : (name : List ℕ) (standing : List Opening)
    → filter (is_named name) (without_latest name standing) ≡ rest_of (filter (is_named name) standing)
unfolding rest_of
without_itself name [] = refl
without_itself name (opening ∷ standing) =
    without_at (is_named name opening) (is_named name) opening standing (without_latest name standing) refl (without_itself name standing)

without_other_at : (t u : Bool) (p : Opening → Bool) (opening : Opening) (standing less : List Opening) → p opening ≡ u
    → (t ≡ true → u ≡ false) → filter p less ≡ filter p standing
    → filter p (cond t standing (opening ∷ less)) ≡ cond u (opening ∷ filter p standing) (filter p standing)
without_other_at true true p opening standing less is apart h = absurd (cc (apart refl))
without_other_at true false p opening standing less is apart h = refl
without_other_at false true p opening standing less is apart h = rw is (ap (λ rest. opening ∷ rest) h)
without_other_at false false p opening standing less is apart h = rw is h

-- the openings of another name, without the latest of a name
without_other : (name other : List ℕ) (standing : List Opening) → bytes_eq name other ≡ false
    → filter (is_named other) (without_latest name standing) ≡ filter (is_named other) standing
without_other name other [] h = refl
without_other name other (opening ∷ standing) h =
    without_other_at (is_named name opening) (is_named other opening) (is_named other) opening standing (without_latest name standing) refl
    (λ t. ap (λ named. bytes_eq named other) ((bytes_eq-Decides opening.name name).0 t) ∙ h) (without_other name other standing h)

none_left_at : (t : Bool) (p : Opening → Bool) (opening : Opening) (standing less : List Opening) → p opening ≡ t
    → (filter p standing ≡ [] → less ≡ standing) → cond t (opening ∷ filter p standing) (filter p standing) ≡ []
    → cond t standing (opening ∷ less) ≡ opening ∷ standing
none_left_at true p opening standing less is onward h = absurd (cc h)
none_left_at false p opening standing less is onward h = ap (λ rest. opening ∷ rest) (onward h)

none_left : (name : List ℕ) (standing : List Opening) → filter (is_named name) standing ≡ [] → without_latest name standing ≡ standing
none_left name [] h = refl
none_left name (opening ∷ standing) h =
    none_left_at (is_named name opening) (is_named name) opening standing (without_latest name standing) refl (none_left name standing) h

no_first : (standing : List Opening) → option_map number_of (first_of standing) ≡ None → standing ≡ []
unfolding first_of
no_first [] h = refl
no_first (opening ∷ standing) h = absurd (cc h)

-- an `end` of which nothing is open ends nothing
pub nothing_ended : (latest : List ℕ → Latest) (before : List Latest) (standing : List Opening) (name : List ℕ) → (latest name).any ≡ None
    → AreStanding latest before standing → AreStanding latest before (without_latest name standing)
nothing_ended latest before standing name none h =
    let empty = no_first (filter (is_named name) standing) (sym (any_first before (filter (is_named name) standing) (latest name) (h name)) ∙ none) in
    subst (AreStanding latest before) (sym (none_left name standing empty)) h

some_number : {a b : ℕ} → Some a ≡ Some b → a ≡ b
some_number e = cc e

ended_itself : (before : List Latest) (number : ℕ) (standing : List Opening) (latest : Latest) → latest.any ≡ Some number
    → AreLatest before latest standing → AreLatest before (get_or before number no_latest) (rest_of standing)
unfolding rest_of
ended_itself before number [] latest some h = absurd (cc (sym some ∙ ap (λ was. was.any) h))
ended_itself before number (opening ∷ standing) latest some h =
    let same : opening.number ≡ number = some_number (sym (any_with (get_or before opening.number no_latest) opening.scattered opening.number)
    ∙ sym (ap (λ was. was.any) h.1) ∙ some) in
    subst (λ n. AreLatest before (get_or before n no_latest) standing) same h.2

ended_at : (t : Bool) (latest now : List ℕ → Latest) (before : List Latest) (standing : List Opening) (name other : List ℕ) (number : ℕ)
    → bytes_eq name other ≡ t → (latest name).any ≡ Some number → now other ≡ cond t (get_or before number no_latest) (latest other)
    → AreStanding latest before standing → AreLatest before (now other) (filter (is_named other) (without_latest name standing))
ended_at true latest now before standing name other number is some to h =
    let same : name ≡ other = (bytes_eq-Decides name other).0 is in
    subst (λ x. AreLatest before x (filter (is_named other) (without_latest name standing))) (sym to)
    (subst (λ x. AreLatest before (get_or before number no_latest) (filter (is_named x) (without_latest name standing))) same
    (subst (AreLatest before (get_or before number no_latest)) (sym (without_itself name standing))
    (ended_itself before number (filter (is_named name) standing) (latest name) some (h name))))
ended_at false latest now before standing name other number is some to h =
    subst (λ x. AreLatest before x (filter (is_named other) (without_latest name standing))) (sym to)
    (subst (AreLatest before (latest other)) (sym (without_other name other standing is)) (h other))

-- an `end` ends the latest of its name
pub ended : (latest now : List ℕ → Latest) (before : List Latest) (standing : List Opening) (name : List ℕ) (number : ℕ)
    → (latest name).any ≡ Some number
    → ((other : List ℕ) → now other ≡ cond (bytes_eq name other) (get_or before number no_latest) (latest other))
    → AreStanding latest before standing → AreStanding now before (without_latest name standing)
ended latest now before standing name number some is h =
    λ other. ended_at (bytes_eq name other) latest now before standing name other number refl some (is other) h

unwrapped : (t : Bool) (value none : Latest) (old : Option Latest) → unwrap_or (cond t (Some value) old) none ≡ cond t value (unwrap_or old none)
unwrapped true value none old = refl
unwrapped false value none old = refl

-- the latest of each name once one is put into the map
pub latest_after : {S : Type 0} (names now : HashMap (Bor (List ℕ)) Latest S) (name : List ℕ) (value : Latest)
    → UpdatesBy (λ x y. bytes_eq x.now y.now) (λ key. bytes_eq name key.now) names now (Some value)
    → (other : List ℕ) → latest_at now other ≡ cond (bytes_eq name other) value (latest_at names other)
latest_after {S} names now name value updates other =
    ap (λ found. unwrap_or found no_latest) (hash_map_updates_str name names now (Some value) updates other)
    ∙ unwrapped (bytes_eq name other) value no_latest (get_by (λ key. bytes_eq other key.now) names)
