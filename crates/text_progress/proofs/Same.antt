-- A mapping and its directions are taken by one definition first, where no name clashes.
use Rattle.std.proofs.Common.{◌≡◌, ℕ, ◌+◌, nat_eq, List, [], ◌∷◌, ◌++◌, map, filter, refl, sym, ap, ◌∙◌, subst, Bool, true, false, ◌||◌, not}
use Rattle.std.proofs.Common.{cond, reverse, if◌then◌else◌, codes, Option, Some, None, option_map}
use Rattle.std.proofs.lemmas.List.{reverse-append, reverse-reverse}
use Rattle.std.specs.Prelude.{slice_get}
use Rattle.std.specs.List.{list_any}
use Rattle.std.specs.Str.{bytes_eq}
use Rattle.sail_base.specs.declared.place.Place.{Place}
use Rattle.sail_syntax.specs.declared.definitions.Def.{Def}
use Rattle.sail_syntax.specs.declared.definitions.Def.TheVariants as D
use Rattle.sail_syntax.specs.declared.definitions.Member.{Member}
use Rattle.sail_syntax.specs.declared.definitions.Overloaded.TheVariants as Over
use Rattle.sail_syntax.specs.declared.name.Name.{Name}
use Rattle.sail_syntax.specs.declared.words.Arrow.TheVariants as A
use Rattle.sail_globals.specs.Bound.{bound, is_plain}
use Rattle.sail_globals.specs.declared.naming.Alone.{Alone}
use Rattle.sail_globals.specs.declared.naming.Alone.TheVariants as is
use Rattle.sail_globals.specs.declared.naming.Called.TheVariants.{Direction, Mapping}
use Rattle.sail_globals.specs.declared.naming.Naming.{Naming}
use Rattle.sail_globals.specs.declared.naming.Role.{Role}
use Rattle.sail_globals.specs.declared.naming.Role.TheVariants.{Declared, Defined, Whole}
use Rattle.sail_globals.specs.declared.naming.Space.TheVariants.{Values}
use Rattle.sail_globals.specs.Clashes.{takes}
use Rattle.sail_globals.specs.Namings.{backwards_of, constructor_naming, forwards_of, let_naming, mapping_namings, namings, namings_from}
use Rattle.sail_globals.specs.Namings.{own_naming, value_naming}
use Rattle.sail_names.specs.declared.names.Global.{Global}
use Rattle.sail_names.specs.declared.names.Global.TheVariants as G
use Rattle.known_names.specs.Meanings.{naming_of}
use Rattle.shape_joins.proofs.Order.{no}
use Rattle.shape_meanings.proofs.Settling.{same_name}
use Rattle.shape_meanings.proofs.StructNames.{bytes_same}
use Rattle.known_texts.proofs.Classes.{class}

-- ---- names that end in the same, or not

front : {A : Type 0} (zs xs ys : List A) → (zs ++ xs) ≡ (zs ++ ys) → xs ≡ ys
front [] xs ys h = h
front (z ∷ zs) xs ys h = front zs xs ys (tails h)
  where
    tails : {A : Type 0} {x y : A} {us vs : List A} → (x ∷ us) ≡ (y ∷ vs) → us ≡ vs
    tails h = cc

ends_same : (zs xs ys : List ℕ) → (xs ++ zs) ≡ (ys ++ zs) → xs ≡ ys
ends_same zs xs ys h =
    sym (reverse-reverse xs)
    ∙ ap reverse (front (reverse zs) (reverse xs) (reverse ys) (sym (reverse-append xs zs) ∙ ap reverse h ∙ reverse-append ys zs))
    ∙ reverse-reverse ys

abbrev is_k : Option ℕ → Bool
is_k None = false
is_k (Some n) = nat_eq n 107

two_ends : {A : Type 0} (xs ys : List ℕ) → backwards_of xs ≡ forwards_of ys → A
two_ends xs ys h =
    no (sym (ap (λ us. is_k (slice_get us 5)) (sym (reverse-append xs (codes "_backwards")) ∙ ap reverse h ∙ reverse-append ys (codes "_forwards"))))

same_truth : (a b : Bool) → (a ≡ true → b ≡ true) → (b ≡ true → a ≡ true) → a ≡ b
same_truth true b f g = sym (f refl)
same_truth false true f g = g refl
same_truth false false f g = refl

same_end : (zs xs ys : List ℕ) → bytes_eq (xs ++ zs) (ys ++ zs) ≡ bytes_eq xs ys
same_end zs xs ys =
    same_truth (bytes_eq (xs ++ zs) (ys ++ zs)) (bytes_eq xs ys)
    (λ e. subst (λ us. bytes_eq xs us ≡ true) (ends_same zs xs ys (same_name (xs ++ zs) (ys ++ zs) e)) (bytes_same xs))
    (λ e. subst (λ us. bytes_eq (xs ++ zs) (us ++ zs) ≡ true) (same_name xs ys e) (bytes_same (xs ++ zs)))

false_by : (b : Bool) → (b ≡ true → ⊥) → b ≡ false
false_by true f = absurd (f refl)
false_by false f = refl

-- ---- roles of mappings and of directions

abbrev pub is_mapping_global : Global → Bool
is_mapping_global (G.Mapping n) = true
is_mapping_global g = false

abbrev pub is_direction_global : Global → Bool
is_direction_global (G.Direction n) = true
is_direction_global g = false

abbrev pub no_mapping : Role → Bool
no_mapping r = not (is_mapping_global (class r))

abbrev pub no_direction : Role → Bool
no_direction r = not (is_direction_global (class r))

-- ---- the first of several that takes a name

abbrev NoneTakes : (Role → Bool) → List ℕ → List Naming → Type 0
NoneTakes test name ns = list_any test (map (λ (n : Naming). n.role) (filter (takes Values name) ns)) ≡ false

not_either : (a b : Bool) → (a || b) ≡ false → (a ≡ false) × (b ≡ false)
not_either true b h = no (sym h)
not_either false b h = (refl, h)

abbrev passes : (Role → Bool) → List Naming → Bool
passes test fs = list_any test (map (λ (n : Naming). n.role) fs)

dropped : (test : Role → Bool) (b : Bool) (n : Naming) (fs : List Naming) → passes test (cond b (n ∷ fs) fs) ≡ false
    → (test n.role ≡ true → b ≡ false) × (passes test fs ≡ false)
dropped test true n fs h =
    let k = not_either (test n.role) (passes test fs) h in ((λ e. no (sym k.0 ∙ e)), k.1)
dropped test false n fs h = ((λ e. refl), h)

abbrev at_first : List Naming → List ℕ → Option ℕ
at_first ns name = option_map (λ (n : Naming). n.definition) (naming_of ns name)

module _ (name : List ℕ) (further : List ℕ) where
  abbrev Same : List Naming → Type 0
  Same ns = at_first ns name ≡ at_first ns further

  abbrev Apart : List Naming → Type 0
  Apart ns = NoneTakes no_mapping name ns × NoneTakes no_direction further ns

  -- namings of neither a mapping nor a direction
  abbrev Aside : List Naming → Type 0
  Aside [] = Unit {0}
  Aside (n ∷ ns) = (no_mapping n.role ≡ true) × (no_direction n.role ≡ true) × Aside ns

  skipped : (b c : Bool) (n : Naming) (one two : Option Naming) → b ≡ false → c ≡ false
      → option_map (λ (n : Naming). n.definition) one ≡ option_map (λ (n : Naming). n.definition) two
      → option_map (λ (n : Naming). n.definition) (if b then Some n else one) ≡ option_map (λ (n : Naming). n.definition) (if c then Some n else two)
  skipped true c n one two h k same = no (sym h)
  skipped false true n one two h k same = no (sym k)
  skipped false false n one two h k same = same

  aside_same : (xs more : List Naming) → Aside xs → (Apart more → Same more) → Apart (xs ++ more) → Same (xs ++ more)
  aside_same [] more aside next apart = next apart
  aside_same (x ∷ xs) more aside next apart =
      let b = dropped no_mapping (takes Values name x) x (filter (takes Values name) (xs ++ more)) apart.0 in
      let c = dropped no_direction (takes Values further x) x (filter (takes Values further) (xs ++ more)) apart.1 in
      skipped (takes Values name x) (takes Values further x) x (naming_of (xs ++ more) name) (naming_of (xs ++ more) further)
      (b.0 aside.0) (c.0 aside.1) (aside_same xs more aside.2 next (b.1, c.1))

  -- the three of a mapping
  chosen : (at : ℕ) (n d e : Naming) (one two : Option Naming) → n.definition ≡ at → d.definition ≡ at → e.definition ≡ at
      → option_map (λ (n : Naming). n.definition) one ≡ option_map (λ (n : Naming). n.definition) two
      → (b1 b2 b3 c1 c2 c3 : Bool) → b2 ≡ false → b3 ≡ false → c1 ≡ false → (c2 || c3) ≡ b1
      → option_map (λ (n : Naming). n.definition) (if b1 then Some n else (if b2 then Some d else (if b3 then Some e else one)))
      ≡ option_map (λ (n : Naming). n.definition) (if c1 then Some n else (if c2 then Some d else (if c3 then Some e else two)))
  chosen at n d e one two an ad ae same b1 true b3 c1 c2 c3 h2 h3 g1 ended = no (sym h2)
  chosen at n d e one two an ad ae same b1 false true c1 c2 c3 h2 h3 g1 ended = no (sym h3)
  chosen at n d e one two an ad ae same b1 false false true c2 c3 h2 h3 g1 ended = no (sym g1)
  chosen at n d e one two an ad ae same true false false false true c3 h2 h3 g1 ended = λ i. Some ((an ∙ sym ad) i)
  chosen at n d e one two an ad ae same true false false false false true h2 h3 g1 ended = λ i. Some ((an ∙ sym ae) i)
  chosen at n d e one two an ad ae same true false false false false false h2 h3 g1 ended = no ended
  chosen at n d e one two an ad ae same false false false false true c3 h2 h3 g1 ended = no (sym ended)
  chosen at n d e one two an ad ae same false false false false false true h2 h3 g1 ended = no (sym ended)
  chosen at n d e one two an ad ae same false false false false false false h2 h3 g1 ended = same

  three_same : (at : ℕ) (r s : Role) (place : Place) (own : List ℕ) (more : List Naming) → no_direction r ≡ true → no_mapping s ≡ true
      → (bytes_eq (forwards_of own) further || bytes_eq (backwards_of own) further) ≡ bytes_eq own name
      → (Apart more → Same more) → Apart (mapping_namings at r s place own ++ more) → Same (mapping_namings at r s place own ++ more)
  three_same at r s place own more nr ns ended next apart =
      let one : Naming = value_naming at r place own in
      let two : Naming = value_naming at s place (forwards_of own) in
      let three : Naming = value_naming at s place (backwards_of own) in
      let b1 = dropped no_mapping (takes Values name one) one (filter (takes Values name) (two ∷ three ∷ more)) apart.0 in
      let b2 = dropped no_mapping (takes Values name two) two (filter (takes Values name) (three ∷ more)) b1.1 in
      let b3 = dropped no_mapping (takes Values name three) three (filter (takes Values name) more) b2.1 in
      let c1 = dropped no_direction (takes Values further one) one (filter (takes Values further) (two ∷ three ∷ more)) apart.1 in
      let c2 = dropped no_direction (takes Values further two) two (filter (takes Values further) (three ∷ more)) c1.1 in
      let c3 = dropped no_direction (takes Values further three) three (filter (takes Values further) more) c2.1 in
      chosen at one two three (naming_of more name) (naming_of more further) refl refl refl (next (b3.1, c3.1))
      (takes Values name one) (takes Values name two) (takes Values name three)
      (takes Values further one) (takes Values further two) (takes Values further three)
      (b2.0 ns) (b3.0 ns) (c1.0 nr) ended

  own_aside : (at : ℕ) (what : Alone) (ms : List Name) → no_mapping (Whole what) ≡ true → no_direction (Whole what) ≡ true
      → Aside (map (own_naming at what) ms)
  own_aside at what [] h k = tt
  own_aside at what (m ∷ ms) h k = (h, k, own_aside at what ms h k)

  constructors_aside : (at : ℕ) (cs : List Member) → Aside (map (constructor_naming at) cs)
  constructors_aside at [] = tt
  constructors_aside at (c ∷ cs) = (refl, refl, constructors_aside at cs)

  lets_aside : (at : ℕ) (place : Place) (plain : Bool) (ns : List Name) → Aside (map (let_naming at place plain) ns)
  lets_aside at place plain [] = tt
  lets_aside at place plain (n ∷ ns) = (refl, refl, lets_aside at place plain ns)

  module _ (is_member : List ℕ → Bool)
      (ends : (own : List ℕ) → (bytes_eq (forwards_of own) further || bytes_eq (backwards_of own) further) ≡ bytes_eq own name) where
    definition_same : (at : ℕ) (d : Def) (more : List Naming) → (Apart more → Same more) → Apart (namings is_member at d ++ more)
        → Same (namings is_member at d ++ more)
    definition_same at (D.Alias place own variables kind typ) more next apart =
        aside_same (namings is_member at (D.Alias place own variables kind typ)) more (refl, refl, tt) next apart
    definition_same at (D.Enum place own ms) more next apart =
        aside_same (namings is_member at (D.Enum place own ms)) more (refl, refl, own_aside at is.Member ms refl refl) next apart
    definition_same at (D.Struct place own variables fs) more next apart =
        aside_same (namings is_member at (D.Struct place own variables fs)) more (refl, refl, tt) next apart
    definition_same at (D.Union place own variables cs) more next apart =
        aside_same (namings is_member at (D.Union place own variables cs)) more (refl, refl, constructors_aside at cs) next apart
    definition_same at (D.Val place own quantifier from A.Function to) more next apart =
        aside_same (namings is_member at (D.Val place own quantifier from A.Function to)) more (refl, refl, tt) next apart
    definition_same at (D.Val place own quantifier from A.Mapping to) more next apart =
        three_same at (Declared Mapping) (Declared Direction) place own.text more refl refl (ends own.text) next apart
    definition_same at (D.Function place extent own clauses) more next apart =
        aside_same (namings is_member at (D.Function place extent own clauses)) more (refl, refl, tt) next apart
    definition_same at (D.Measure place own parameters value) more next apart =
        aside_same (namings is_member at (D.Measure place own parameters value)) more (refl, refl, tt) next apart
    definition_same at (D.Mapping place own None clauses) more next apart =
        three_same at (Defined Mapping) (Defined Direction) place own.text more refl refl (ends own.text) next apart
    definition_same at (D.Mapping place own (Some sides) clauses) more next apart =
        three_same at (Whole is.Mapping) (Whole is.Direction) place own.text more refl refl (ends own.text) next apart
    definition_same at (D.Let place pattern value) more next apart =
        aside_same (namings is_member at (D.Let place pattern value)) more
        (lets_aside at place (is_plain pattern) (bound is_member pattern)) next apart
    definition_same at (D.Register place own typ initial) more next apart =
        aside_same (namings is_member at (D.Register place own typ initial)) more (refl, refl, tt) next apart
    definition_same at (D.Overload place (Over.Named own) added) more next apart =
        aside_same (namings is_member at (D.Overload place (Over.Named own) added)) more (refl, refl, tt) next apart
    definition_same at (D.Overload place (Over.Operator there own) added) more next apart = next apart
    definition_same at d more next apart = next apart

    text_same : (at : ℕ) (text : List Def) → Apart (namings_from is_member at text) → Same (namings_from is_member at text)
    text_same at [] apart = refl
    text_same at (d ∷ text) apart =
        definition_same at d (namings_from is_member (at + 1) text) (text_same (at + 1) text) apart

-- the name of a mapping, and that of its direction ahead or back
pub ahead_same : (name : List ℕ) (is_member : List ℕ → Bool) (text : List Def) → NoneTakes no_mapping name (namings_from is_member 0 text)
    → NoneTakes no_direction (forwards_of name) (namings_from is_member 0 text)
    → at_first (namings_from is_member 0 text) name ≡ at_first (namings_from is_member 0 text) (forwards_of name)
ahead_same name is_member text a b = text_same name (forwards_of name) is_member ends 0 text (a, b)
  where
    last_false : (x y z : Bool) → x ≡ z → y ≡ false → (x || y) ≡ z
    last_false true y z h k = h
    last_false false y z h k = k ∙ h

    ends : (own : List ℕ) → (bytes_eq (forwards_of own) (forwards_of name) || bytes_eq (backwards_of own) (forwards_of name)) ≡ bytes_eq own name
    ends own =
        last_false (bytes_eq (forwards_of own) (forwards_of name)) (bytes_eq (backwards_of own) (forwards_of name)) (bytes_eq own name)
        (same_end (codes "_forwards") own name)
        (false_by (bytes_eq (backwards_of own) (forwards_of name))
        (λ e. two_ends own name (same_name (backwards_of own) (forwards_of name) e)))

pub back_same : (name : List ℕ) (is_member : List ℕ → Bool) (text : List Def) → NoneTakes no_mapping name (namings_from is_member 0 text)
    → NoneTakes no_direction (backwards_of name) (namings_from is_member 0 text)
    → at_first (namings_from is_member 0 text) name ≡ at_first (namings_from is_member 0 text) (backwards_of name)
back_same name is_member text a b = text_same name (backwards_of name) is_member ends 0 text (a, b)
  where
    first_false : (x y z : Bool) → x ≡ false → y ≡ z → (x || y) ≡ z
    first_false true y z h k = no (sym h)
    first_false false y z h k = k

    ends : (own : List ℕ) → (bytes_eq (forwards_of own) (backwards_of name) || bytes_eq (backwards_of own) (backwards_of name)) ≡ bytes_eq own name
    ends own =
        first_false (bytes_eq (forwards_of own) (backwards_of name)) (bytes_eq (backwards_of own) (backwards_of name)) (bytes_eq own name)
        (false_by (bytes_eq (forwards_of own) (backwards_of name))
        (λ e. two_ends name own (sym (same_name (forwards_of own) (backwards_of name) e))))
        (same_end (codes "_backwards") own name)
