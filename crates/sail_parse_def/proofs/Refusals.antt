-- Where reading definitions stops, as a refusal of all tokens.
use Rattle.std.proofs.Common.{◌≡◌, ℕ, suc, ◌<◌, ◌≤◌, ◌-◌, ◌+◌, Bool, true, false, List, [], ◌∷◌, ◌++◌, length, take}
use Rattle.std.proofs.Common.{drop, get_or, refl, sym, ap, ◌∙◌, subst, arith, length-append, append_assoc}
use Rattle.std.proofs.Common.{inl, inr}
use Rattle.std.specs.Prelude.{if◌then◌else◌, Option, Some, None, slice_get}
use Rattle.std.proofs.lemmas.List.{take-append-drop, length-take-le, drop_more, drop_all}
use Rattle.std.proofs.lemmas.Option.{slice_get-get_or}
use Rattle.std.proofs.Math.Seq.{take-length}
use Rattle.sail_lex.specs.declared.token.Tokens.{Tokens}
use Rattle.sail_syntax.specs.declared.definitions.Def.{Def}
use Rattle.sail_base.specs.declared.place.Place.{Place}
use Rattle.sail_grammar.specs.declared.error.ParseError.{ParseError}
use Rattle.sail_grammar.specs.declared.error.ParseError.TheVariants as error
use Rattle.sail_grammar.specs.declared.error.ReadError.{ReadError}
use Rattle.sail_grammar.specs.declared.error.ReadError.TheVariants.{Unfit, Forbidden}
use Rattle.sail_grammar.specs.Symbol.{Sign}
use Rattle.sail_grammar.specs.RowName.{Definitions}
use Rattle.sail_grammar.specs.Form.{Form, Row}
use Rattle.sail_grammar.specs.Table.{rule}
use Rattle.sail_grammar.specs.Sets.{grammar}
use Rattle.sail_grammar.specs.Ends.{Ends, Done, Stop, left_stop, right_stop, first_stop, next_stop, guard_stop}
use Rattle.sail_grammar.specs.Ends.{row_ends, forbid_bar, bar_bar, bar_stop, hold_bar}
use Rattle.sail_grammar.specs.Levels.{deep}
use Rattle.sail_grammar.specs.DefTrees.{defs_of}
use Rattle.sail_grammar.specs.Joined.{end_from}
use Rattle.sail_grammar.specs.Parsing.{Reading, StopsAt, Stopping, Tells, lengths}
use Rattle.sail_grammar.specs.Model.{IsModel, IsRefused, IsRefusal, is_left_out, token_before}
use Rattle.sail_grammar.proofs.Frame.{frame}
use Rattle.sail_grammar.proofs.Meets.{meets_done, meets_bar}
use Rattle.sail_grammar.proofs.Reach.{shrinks}
use Rattle.sail_grammar.proofs.Model.{model_of, forbidden_at, left_out_at, unfit_at, stopped_at, ended_at, deep_read, deep_end}
use Rattle.sail_parse_def.specs.Refusals.{Says, SaysToken, token_error}

-- a forbidden form begins within the list, and isn't shorter than what is left
pub record Within (ss rest from : List Sign) : Type 0 where
  pub before : List Sign
  pub split : ss ≡ before ++ from
  pub long : length rest ≤ length from

pub begun_within : {a : Form} {ss rest from : List Sign} → Ends grammar a ss (Stop rest (Some from)) → Within ss rest from
begun_within (left_stop {from = Some from} m e) = begun_within e
begun_within (right_stop {from = Some from} m e) = begun_within e
begun_within (first_stop {from = Some from} e) = begun_within e
begun_within (next_stop {from = Some from} d e) =
    let f = frame rule (meets_done grammar d) in
    let w = begun_within e in
    record { before = f.read ++ w.before; split = f.split ∙ (ap (λ x. f.read ++ x) w.split ∙ sym (append_assoc f.read w.before from)); long = w.long }
begun_within (guard_stop {from = Some from} e) = begun_within e
begun_within (row_ends {r = Stop rest (Some from)} e) = begun_within e
begun_within (forbid_bar h) = record { before = []; split = refl; long = omega arith }
begun_within (bar_bar h e) = record { before = []; split = refl; long = shrinks grammar e }
begun_within (bar_stop {from = Some from} e) = begun_within e
begun_within (hold_bar e) = record { before = []; split = refl; long = shrinks grammar e }

some_same : (x s : Sign) → Some x ≡ Some s → x ≡ s
some_same x s e = cc

-- the token behind a front
token_behind : (front rest : List Sign) (s : Sign) → slice_get (front ++ (s ∷ rest)) (length front) ≡ Some s
token_behind [] rest s = refl
token_behind (f ∷ front) rest s = token_behind front rest s

module _ (us more ss : List Sign) (whole : ss ≡ us ++ more) (end : Place) (bound : (m : ℕ) → deep ss ≡ Some m → length us ≤ suc m) where
  -- a forbidden form
  begun_count : (before from : List Sign) → us ≡ before ++ from → length before ≡ length us - length from
  begun_count before from e = let n : length us ≡ length before + length from = ap length e ∙ length-append before from in omega arith

  forbidden_begun : (rest : List Sign) (begun : Option (List Sign)) (n : ℕ) (s : Sign) → Ends grammar (Row Definitions) us (Stop rest begun) →
      Some n ≡ lengths begun → slice_get ss (length us - n) ≡ Some s → IsRefused ss end (error.Outside s.place s.text)
  forbidden_begun rest None n s e l g = absurd cc
  forbidden_begun rest (Some []) n s e l g =
      let w = begun_within e in
      let b = meets_bar grammar e in
      let some : length rest ≡ suc (length b.more) = ap length b.here in
      absurd (omega (arith, w.long, some))
  forbidden_begun rest (Some (x ∷ tail)) n s e l g =
      let w = begun_within e in
      let size : n ≡ length (x ∷ tail) = cc in
      let all : ss ≡ w.before ++ (x ∷ (tail ++ more)) = whole ∙ (ap (λ y. y ++ more) w.split ∙ append_assoc w.before (x ∷ tail) more) in
      let there : slice_get ss (length w.before) ≡ Some x = ap (λ y. slice_get y (length w.before)) all ∙ token_behind w.before (tail ++ more) x in
      let place : length w.before ≡ length us - n = begun_count w.before (x ∷ tail) w.split ∙ (λ i. length us - sym size i) in
      let same : x ≡ s = some_same x s (sym there ∙ (ap (slice_get ss) place ∙ g)) in
      subst (λ y. IsRefused ss end (error.Outside y.place y.text)) same (forbidden_at us more ss whole rest (x ∷ tail) tail x end bound e refl)

  pub forbidden_refused : (left n : ℕ) (s : Sign) → Stopping (Row Definitions) us left (Some n) → slice_get ss (length us - n) ≡ Some s →
      IsRefused ss end (error.Outside s.place s.text)
  forbidden_refused left n s w g = forbidden_begun w.rest w.begun n s w.ends w.from_is g

  -- another token
  token_at : (rest : List Sign) (begun : Option (List Sign)) (s : Sign) → Ends grammar (Row Definitions) us (Stop rest begun) → None ≡ lengths begun →
      0 < length rest → slice_get ss (length us - length rest) ≡ Some s → IsRefused ss end (token_error s ss (length us - length rest))
  token_at rest (Some from) s e l lt g = absurd cc
  token_at [] None s e l lt g = absurd (omega (arith, lt))
  token_at (x ∷ tail) None s e l lt g =
      let there = (stopped_at us more ss whole (x ∷ tail) tail x None e refl).there in
      let same : x ≡ s = some_same x s (sym there ∙ g) in
      subst (λ y. IsRefused ss end (token_error y ss (length us - length (x ∷ tail)))) same
      (chosen (is_left_out x.kind (token_before ss (length us - length (x ∷ tail)))) refl) where
        chosen : (b : Bool) → is_left_out x.kind (token_before ss (length us - length (x ∷ tail))) ≡ b →
            IsRefused ss end (if b then error.Outside x.place x.text else error.Syntax x.place (Some x.text))
        chosen true h = left_out_at us more ss whole (x ∷ tail) tail x end bound e refl h
        chosen false h = unfit_at us more ss whole (x ∷ tail) tail x end bound e refl h

  pub token_refused : (left : ℕ) (s : Sign) → Stopping (Row Definitions) us left None → 0 < left → slice_get ss (length us - left) ≡ Some s →
      IsRefused ss end (token_error s ss (length us - left))
  token_refused left s w lt g =
      let e : left ≡ length w.rest = w.left_is in
      subst (λ n. IsRefused ss end (token_error s ss (length us - n))) (sym e)
      (token_at w.rest w.begun s w.ends w.from_is (omega (arith, lt, e)) ((λ i. slice_get ss (length us - sym e i)) ∙ g))

  -- where it stops is within the list
  pub stop_within : (left : ℕ) (from : Option ℕ) → Stopping (Row Definitions) us left from → left ≤ length us
  stop_within left from w = let e : left ≡ length w.rest = w.left_is in let s : length w.rest ≤ length us = shrinks grammar w.ends in omega arith

  begun_bounds : (rest : List Sign) (begun : Option (List Sign)) (n : ℕ) → Ends grammar (Row Definitions) us (Stop rest begun) →
      Some n ≡ lengths begun →
      (0 < n) × (n ≤ length us)
  begun_bounds rest None n e l = absurd cc
  begun_bounds rest (Some from) n e l =
      let w = begun_within e in
      let b = meets_bar grammar e in
      let some : length rest ≡ suc (length b.more) = ap length b.here in
      let size : n ≡ length from = cc in
      let parts : length us ≡ length w.before + length from = ap length w.split ∙ length-append w.before from in
      (omega (arith, w.long, some, size), omega (arith, parts, size))

  pub forbidden_bounds : (left n : ℕ) → Stopping (Row Definitions) us left (Some n) → (0 < n) × (n ≤ length us)
  forbidden_bounds left n w = begun_bounds w.rest w.begun n w.ends w.from_is

-- ---- the first tokens of a list, so many

pub length_none : (xs : List Sign) → length xs ≡ 0 → xs ≡ []
length_none [] e = refl
length_none (x ∷ xs) e = absurd (omega (arith, e))

pub cut : (ss : List Sign) (count : ℕ) → ss ≡ take count ss ++ drop count ss
cut ss count = sym (take-append-drop count ss)

pub cut_bound : (ss : List Sign) (count : ℕ) → count ≤ length ss → ((m : ℕ) → deep ss ≡ Some m → count ≤ suc m) → (m : ℕ) → deep ss ≡ Some m →
    length (take count ss) ≤ suc m
cut_bound ss count le bound m h = let n = length-take-le count ss le in let b = bound m h in omega (arith, n, b)

pub told_unfit : (us : List Sign) (e : ReadError) (left : ℕ) → e ≡ Unfit left → StopsAt (Row Definitions) us e →
    Stopping (Row Definitions) us left None
told_unfit us e left h s = subst (Tells (Row Definitions) us) h s.why

pub told_forbidden : (us : List Sign) (e : ReadError) (left n : ℕ) → e ≡ Forbidden left n → StopsAt (Row Definitions) us e →
    Stopping (Row Definitions) us left (Some n)
told_forbidden us e left n h s = subst (Tells (Row Definitions) us) h s.why

-- ---- a model

pub read_model : (ss : List Sign) (ds es : List Def) → deep ss ≡ None → Reading (Row Definitions) defs_of ss ds [] → es ≡ ds → IsModel ss es
read_model ss ds es h r e = subst (IsModel ss) (r.shows ∙ sym e) (model_of ss r.tree h r.ends)

-- ---- the end of the last file

pub end_next : (fs : List Tokens) (i : ℕ) (f : Tokens) (place : Place) → i < length fs → f ≡ get_or fs i f →
    end_from f.end (drop (i + 1) fs) ≡ end_from place (drop i fs)
end_next fs i f place lt at = sym ((λ j. end_from place (drop_more fs i f lt j)) ∙ (λ j. end_from place (sym at j ∷ drop (i + 1) fs)))

pub end_last : (fs : List Tokens) (i : ℕ) (place : Place) → length fs ≤ i → end_from place (drop i fs) ≡ place
end_last fs i place h = (λ j. end_from place (drop_all i fs h j))

-- ---- an error or want of memory

pub said_outside : (ss : List Sign) (end p : Place) (t : List ℕ) (r : ParseError) → IsRefused ss end (error.Outside p t) →
    Says (error.Outside p t) r →
    IsRefusal ss end r
said_outside ss end p t r h (inl e) = subst (IsRefusal ss end) (sym e) h
said_outside ss end p t r h (inr e) = subst (IsRefusal ss end) (sym e) tt

pub said_token : (ss : List Sign) (end : Place) (k : ℕ) (r : ParseError) → ((s : Sign) → slice_get ss k ≡ Some s →
    IsRefused ss end (token_error s ss k)) →
    SaysToken ss k r → IsRefusal ss end r
said_token ss end k r h (s, g, said) = by_choice (is_left_out s.kind (token_before ss k)) said (h s g) where
  by_choice : (b : Bool) → Says (if b then error.Outside s.place s.text else error.Syntax s.place (Some s.text)) r →
      IsRefused ss end (if b then error.Outside s.place s.text else error.Syntax s.place (Some s.text)) → IsRefusal ss end r
  by_choice true (inl e) q = subst (IsRefusal ss end) (sym e) q
  by_choice false (inl e) q = subst (IsRefusal ss end) (sym e) q
  by_choice b (inr e) q = subst (IsRefusal ss end) (sym e) tt

-- ---- what a token is refused as

pub says_left_out : (ss : List Sign) (k : ℕ) (s : Sign) (r : ParseError) → slice_get ss k ≡ Some s → is_left_out s.kind (token_before ss k) ≡ true →
    Says (error.Outside s.place s.text) r → SaysToken ss k r
says_left_out ss k s r g h q =
    (s, g, subst (λ b. Says (if b then error.Outside s.place s.text else error.Syntax s.place (Some s.text)) r) (sym h) q)

pub says_unfit : (ss : List Sign) (k : ℕ) (s : Sign) (r : ParseError) → slice_get ss k ≡ Some s → is_left_out s.kind (token_before ss k) ≡ false →
    Says (error.Syntax s.place (Some s.text)) r → SaysToken ss k r
says_unfit ss k s r g h q =
    (s, g, subst (λ b. Says (if b then error.Outside s.place s.text else error.Syntax s.place (Some s.text)) r) (sym h) q)

-- ---- the refusals by the first tokens

module _ (all : List Sign) (count : ℕ) (end : Place) (le : count ≤ length all) (bound : (m : ℕ) → deep all ≡ Some m → count ≤ suc m) where
  size : length (take count all) ≡ count
  size = length-take-le count all le

  pub refuse_unfit : (e : ReadError) (left : ℕ) (r : ParseError) → e ≡ Unfit left → StopsAt (Row Definitions) (take count all) e → 0 < left →
      SaysToken all (count - left) r → IsRefusal all end r
  refuse_unfit e left r h s lt t =
      let w = told_unfit (take count all) e left h s in
      said_token all end (count - left) r
      (λ x g. subst (λ n. IsRefused all end (token_error x all (n - left))) size
      (token_refused (take count all) (drop count all) all (cut all count) end (cut_bound all count le bound) left x w lt
      ((λ i. slice_get all (size i - left)) ∙ g))) t

  pub refuse_forbidden : (e : ReadError) (left n : ℕ) (x : Sign) (r : ParseError) → e ≡ Forbidden left n → StopsAt (Row Definitions) (take count all) e →
      slice_get all (count - n) ≡ Some x → Says (error.Outside x.place x.text) r → IsRefusal all end r
  refuse_forbidden e left n x r h s g t =
      said_outside all end x.place x.text r
      (forbidden_refused (take count all) (drop count all) all (cut all count) end (cut_bound all count le bound) left n x
      (told_forbidden (take count all) e left n h s) ((λ i. slice_get all (size i - n)) ∙ g)) t

  pub refuse_ended : (e : ReadError) (left : ℕ) (r : ParseError) → e ≡ Unfit left → StopsAt (Row Definitions) (take count all) e → left ≡ 0 →
      ((from : Option (List Sign)) → Ends grammar (Row Definitions) (take count all) (Stop [] from) → IsRefusal all end r) → IsRefusal all end r
  refuse_ended e left r h s z f =
      let w = told_unfit (take count all) e left h s in
      let none : length w.rest ≡ 0 = sym w.left_is ∙ z in
      f w.begun (subst (λ x. Ends grammar (Row Definitions) (take count all) (Stop x w.begun)) (length_none w.rest none) w.ends)

  pub unfit_within : (e : ReadError) (left : ℕ) → e ≡ Unfit left → StopsAt (Row Definitions) (take count all) e → left ≤ count
  unfit_within e left h s =
      let b = stop_within (take count all) (drop count all) all (cut all count) end (cut_bound all count le bound) left None
      (told_unfit (take count all) e left h s) in
      omega (arith, b, size)

  pub forbidden_within : (e : ReadError) (left n : ℕ) → e ≡ Forbidden left n → StopsAt (Row Definitions) (take count all) e → (0 < n) × (n ≤ count)
  forbidden_within e left n h s =
      let b = forbidden_bounds (take count all) (drop count all) all (cut all count) end (cut_bound all count le bound) left n
      (told_forbidden (take count all) e left n h s) in
      (b.0, let c = b.1 in omega (arith, c, size))

-- ---- a token that is too deep

module _ (all : List Sign) (index : ℕ) (d : Sign) (end : Place) (h : deep all ≡ Some index) (lt : index < length all) where
  one_more : index + 1 ≡ suc index
  one_more = omega arith

  pub deep_whole : (ds : List Def) → Reading (Row Definitions) defs_of (take (index + 1) all) ds [] →
      IsRefused all end (error.TooDeep (get_or all index d).place)
  deep_whole ds r =
      deep_read all index (get_or all index d) r.tree end h (slice_get-get_or all index d lt)
      (subst (λ n. Ends grammar (Row Definitions) (take n all) (Done r.tree [])) one_more r.ends)

  pub deep_ended : (from : Option (List Sign)) → Ends grammar (Row Definitions) (take (index + 1) all) (Stop [] from) →
      IsRefused all end (error.TooDeep (get_or all index d).place)
  deep_ended from e =
      deep_end all index (get_or all index d) from end h (slice_get-get_or all index d lt)
      (subst (λ n. Ends grammar (Row Definitions) (take n all) (Stop [] from)) one_more e)

-- ---- all tokens

pub whole_stops : (all : List Sign) (e : ReadError) → StopsAt (Row Definitions) all e → StopsAt (Row Definitions) (take (length all) all) e
whole_stops all e s = subst (λ us. StopsAt (Row Definitions) us e) (sym (take-length all)) s

pub whole_ended : (all : List Sign) (from : Option (List Sign)) (end : Place) → deep all ≡ None →
    Ends grammar (Row Definitions) (take (length all) all) (Stop [] from) → IsRefused all end (error.Syntax end None)
whole_ended all from end h e = ended_at all from end h (subst (λ us. Ends grammar (Row Definitions) us (Stop [] from)) (take-length all) e)
