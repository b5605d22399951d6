-- The parts of functions and mappings once one more definition stands behind a text.
use Rattle.std.proofs.Common.{◌≡◌, ℕ, ◌+◌, Bool, true, false, cond, List, [], ◌∷◌, ◌++◌, length, refl, sym, ap, ◌∙◌}
use Rattle.std.proofs.Common.{add-zero, zero-add, bytes_eq, Option, Some, None, unwrap_or, arith}
use Rattle.std.specs.Borrow.{Bor}
use Rattle.std.specs.HashMap.{HashMap, UpdatesBy, get_by}
use Rattle.std.specs.List.{position_from}
use Rattle.std.specs.Option.{option_or}
use Rattle.std.proofs.lemmas.Slice.Eq.{bytes_eq-Decides}
use Rattle.std.proofs.lemmas.Map.Text.{hash_map_updates_str}
use Rattle.sail_syntax.specs.declared.definitions.Def.{Def}
use Rattle.sail_syntax.specs.declared.definitions.Def.TheVariants as D
use Rattle.sail_signatures.specs.declared.parts.Parts.{Parts}
use Rattle.sail_signatures.specs.Signatures.{is_val_of, is_body_of}
use Rattle.sail_signatures.specs.Parts.{is_measure_of, parts_of, no_parts, parts_with, parts_at, AreParts, callable_name}

later : (t : Bool) (here : ℕ) (old new : Option ℕ) → cond t (Some here) (option_or old new) ≡ option_or (cond t (Some here) old) new
later true here old new = refl
later false here old new = refl

-- the first position behind a text that has one more item
pub position_more : {A : Type 0} (test : A → Bool) (at : ℕ) (xs : List A) (x : A)
    → position_from test at (xs ++ x ∷ []) ≡ option_or (position_from test at xs) (cond (test x) (Some (at + length xs)) None)
position_more test at [] x = ap (λ n. cond (test x) (Some n) None) (sym (add-zero at))
position_more test at (y ∷ ys) x =
    let e : at + 1 + length ys ≡ at + length (y ∷ ys) = omega arith in
    ap (λ o. cond (test y) (Some at) o)
    (position_more test (at + 1) ys x ∙ ap (λ n. option_or (position_from test (at + 1) ys) (cond (test x) (Some n) None)) e)
    ∙ later (test y) at (position_from test (at + 1) ys) (cond (test x) (Some (at + length (y ∷ ys))) None)

or_none : (o : Option ℕ) → option_or o None ≡ o
or_none None = refl
or_none (Some n) = refl

-- the position of a definition behind a text
behind : (test : Def → Bool) (text : List Def) (d : Def)
    → position_from test 0 (text ++ d ∷ []) ≡ option_or (position_from test 0 text) (cond (test d) (Some (length text)) None)
behind test text d =
    position_more test 0 text d
    ∙ ap (λ n. option_or (position_from test 0 text) (cond (test d) (Some n) None)) (zero-add (length text))

-- the parts of a name, where one more definition is of these kinds
more : (text : List Def) (d : Def) (name : List ℕ) → parts_of (text ++ d ∷ []) name ≡ record {
  val = option_or (parts_of text name).val (cond (is_val_of name d) (Some (length text)) None);
  body = option_or (parts_of text name).body (cond (is_body_of name d) (Some (length text)) None);
  measure = option_or (parts_of text name).measure (cond (is_measure_of name d) (Some (length text)) None);
}
more text d name = λ i. record {
  val = behind (is_val_of name) text d i;
  body = behind (is_body_of name) text d i;
  measure = behind (is_measure_of name) text d i;
}

val_step : (t : Bool) (parts : Parts) (n : ℕ)
    → record {
      val = option_or parts.val (cond t (Some n) None);
      body = option_or parts.body None;
      measure = option_or parts.measure None;
    } ≡ cond t (record parts { val = option_or parts.val (Some n) }) parts
val_step true parts n = λ i. record { val = option_or parts.val (Some n); body = or_none parts.body i; measure = or_none parts.measure i }
val_step false parts n = λ i. record { val = or_none parts.val i; body = or_none parts.body i; measure = or_none parts.measure i }

body_step : (t : Bool) (parts : Parts) (n : ℕ)
    → record {
      val = option_or parts.val None;
      body = option_or parts.body (cond t (Some n) None);
      measure = option_or parts.measure None;
    } ≡ cond t (record parts { body = option_or parts.body (Some n) }) parts
body_step true parts n = λ i. record { val = or_none parts.val i; body = option_or parts.body (Some n); measure = or_none parts.measure i }
body_step false parts n = λ i. record { val = or_none parts.val i; body = or_none parts.body i; measure = or_none parts.measure i }

measure_step : (t : Bool) (parts : Parts) (n : ℕ)
    → record {
      val = option_or parts.val None;
      body = option_or parts.body None;
      measure = option_or parts.measure (cond t (Some n) None);
    } ≡ cond t (record parts { measure = option_or parts.measure (Some n) }) parts
measure_step true parts n = λ i. record { val = or_none parts.val i; body = or_none parts.body i; measure = option_or parts.measure (Some n) }
measure_step false parts n = λ i. record { val = or_none parts.val i; body = or_none parts.body i; measure = or_none parts.measure i }

none_step : (parts : Parts)
    → record { val = option_or parts.val None; body = option_or parts.body None; measure = option_or parts.measure None } ≡ parts
none_step parts = λ i. record { val = or_none parts.val i; body = or_none parts.body i; measure = or_none parts.measure i }

abbrev name_or : Option (List ℕ) → List ℕ
name_or None = []
name_or (Some name) = name

-- a part of the name of the definition
pub part_more : (text : List Def) (d : Def) (own name : List ℕ) → callable_name d ≡ Some own
    → parts_of (text ++ d ∷ []) name ≡ cond (bytes_eq own name) (parts_with (parts_of text name) (length text) d) (parts_of text name)
part_more text (D.Val place at quantifier from arrow to) own name h =
    more text (D.Val place at quantifier from arrow to) name ∙ val_step (bytes_eq at.text name) (parts_of text name) (length text)
    ∙ ap (λ n. cond (bytes_eq n name) (parts_with (parts_of text name) (length text) (D.Val place at quantifier from arrow to)) (parts_of text name))
    (ap name_or h)
part_more text (D.Function place extent at clauses) own name h =
    more text (D.Function place extent at clauses) name ∙ body_step (bytes_eq at.text name) (parts_of text name) (length text)
    ∙ ap (λ n. cond (bytes_eq n name) (parts_with (parts_of text name) (length text) (D.Function place extent at clauses)) (parts_of text name)) (ap name_or h)
part_more text (D.Mapping place at sides clauses) own name h =
    more text (D.Mapping place at sides clauses) name ∙ body_step (bytes_eq at.text name) (parts_of text name) (length text)
    ∙ ap (λ n. cond (bytes_eq n name) (parts_with (parts_of text name) (length text) (D.Mapping place at sides clauses)) (parts_of text name)) (ap name_or h)
part_more text (D.Measure place at parameters value) own name h =
    more text (D.Measure place at parameters value) name ∙ measure_step (bytes_eq at.text name) (parts_of text name) (length text)
    ∙ ap (λ n. cond (bytes_eq n name) (parts_with (parts_of text name) (length text) (D.Measure place at parameters value)) (parts_of text name)) (ap name_or h)
part_more text d own name h = absurd (let nothing : None ≡ Some own = h in cc)

-- and no part of any other
pub other_more : (text : List Def) (d : Def) (name : List ℕ) → callable_name d ≡ None → parts_of (text ++ d ∷ []) name ≡ parts_of text name
other_more text (D.Val place at quantifier from arrow to) name h = cc
other_more text (D.Function place extent at clauses) name h = cc
other_more text (D.Mapping place at sides clauses) name h = cc
other_more text (D.Measure place at parameters value) name h = cc
other_more text d name h = more text d name ∙ none_step (parts_of text name)

step_at : (t : Bool) (own name : List ℕ) (parts : List ℕ → Parts) (n : ℕ) (d : Def) (was : Parts)
    → (t ≡ true → own ≡ name) → parts name ≡ was → cond t (parts_with (parts own) n d) (parts name) ≡ cond t (parts_with was n d) was
step_at true own name parts n d was same h = ap (λ p. parts_with p n d) (ap parts (same refl) ∙ h)
step_at false own name parts n d was same h = h

-- a map that holds the parts of a text holds them once the parts of one name are put into it
pub parts_put : (text : List Def) (d : Def) (own : List ℕ) (parts now : List ℕ → Parts) → callable_name d ≡ Some own
    → ((other : List ℕ) → now other ≡ cond (bytes_eq own other) (parts_with (parts own) (length text) d) (parts other))
    → AreParts text parts → AreParts (text ++ d ∷ []) now
parts_put text d own parts now named is h =
    λ name. is name
    ∙ step_at (bytes_eq own name) own name parts (length text) d (parts_of text name) (bytes_eq-Decides own name).0 (h name)
    ∙ sym (part_more text d own name named)

unwrapped : (t : Bool) (value none : Parts) (old : Option Parts) → unwrap_or (cond t (Some value) old) none ≡ cond t value (unwrap_or old none)
unwrapped true value none old = refl
unwrapped false value none old = refl

-- what a map holds of each name once the parts of one are put into it
pub parts_after : {S : Type 0} (names now : HashMap (Bor (List ℕ)) Parts S) (name : List ℕ) (value : Parts)
    → UpdatesBy (λ x y. bytes_eq x.now y.now) (λ key. bytes_eq name key.now) names now (Some value)
    → (other : List ℕ) → parts_at now other ≡ cond (bytes_eq name other) value (parts_at names other)
parts_after {S} names now name value updates other =
    ap (λ found. unwrap_or found no_parts) (hash_map_updates_str name names now (Some value) updates other)
    ∙ unwrapped (bytes_eq name other) value no_parts (get_by (λ key. bytes_eq other key.now) names)
