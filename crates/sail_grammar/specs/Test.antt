-- The test of a grammar: with one token in hand each choice is clear.
use Rattle.std.specs.Prelude.{◌≡◌, ◌==◌, ℕ, Bool, true, false, not, ◌&&◌, ◌||◌, if◌then◌else◌, List, [], ◌∷◌, ◌++◌}
use Rattle.sail_grammar.specs.RowName.{RowName}
use Rattle.sail_grammar.specs.Form.{Form, Word, Empty, ◌or◌, ◌then◌, Guard, Row, Forbid, Bar, Hold, among}

-- what may begin a row, whether it may be empty, and what may follow it; a set may be too large
pub record Sets : Type 0 where
  pub first : List ℕ
  pub nullable : Bool
  pub follow : List ℕ

pub record Grammar : Type 0 where
  pub rule : RowName → Form
  pub sets : RowName → Sets

abbrev pub every : (ℕ → Bool) → List ℕ → Bool
every p [] = true
every p (c ∷ cs) = p c && every p cs

abbrev pub kept : (ℕ → Bool) → List ℕ → List ℕ
kept p [] = []
kept p (c ∷ cs) = if p c then c ∷ kept p cs else kept p cs

module _ (g : Grammar) where
  -- the form may be empty before this symbol
  abbrev pub blank : Form → ℕ → Bool
  blank (Word ks) c = false
  blank (Empty ks) c = (c == 0) || not (among ks c)
  blank (a or b) c = blank a c || blank b c
  blank (a then b) c = blank a c && blank b c
  blank (Guard a test ks) c = blank a c
  blank (Row n) c = (g.sets n).nullable
  blank (Forbid ks) c = false
  blank (Bar a test ks) c = blank a c
  blank (Hold a) c = blank a c

  -- the form, or something forbidden in its place, may begin with this symbol
  abbrev pub starts : Form → ℕ → Bool
  starts (Word ks) c = among ks c
  starts (Empty ks) c = false
  starts (a or b) c = starts a c || starts b c
  starts (a then b) c = starts a c || (blank a c && starts b c)
  starts (Guard a test ks) c = starts a c
  starts (Row n) c = among (g.sets n).first c
  starts (Forbid ks) c = among ks c
  starts (Bar a test ks) c = starts a c || (blank a c && among ks c)
  starts (Hold a) c = starts a c

  -- the form may be empty
  abbrev pub empties : Form → Bool
  empties (Word ks) = false
  empties (Empty ks) = true
  empties (a or b) = empties a || empties b
  empties (a then b) = empties a && empties b
  empties (Guard a test ks) = empties a
  empties (Row n) = (g.sets n).nullable
  empties (Forbid ks) = false
  empties (Bar a test ks) = empties a
  empties (Hold a) = empties a

  -- all symbols that the form may begin with
  abbrev pub firsts : Form → List ℕ
  firsts (Word ks) = ks
  firsts (Empty ks) = []
  firsts (a or b) = firsts a ++ firsts b
  firsts (a then b) = firsts a ++ (if empties a then firsts b else [])
  firsts (Guard a test ks) = firsts a
  firsts (Row n) = (g.sets n).first
  firsts (Forbid ks) = ks
  firsts (Bar a test ks) = firsts a ++ (if empties a then ks else [])
  firsts (Hold a) = firsts a

  -- before this symbol no more than one side is blank, and none that the other begins with
  abbrev pub one_way : Form → Form → ℕ → Bool
  one_way a b c = not (blank a c && (starts b c || blank b c)) && not (blank b c && starts a c)

  -- each choice in the form is clear where these symbols may follow
  abbrev pub clear : Form → List ℕ → Bool
  clear (Word ks) f = true
  clear (Empty ks) f = true
  clear (a or b) f = every (λ c. not (starts b c)) (firsts a) && (every (one_way a b) f && (clear a f && clear b f))
  clear (a then b) f = clear a (firsts b ++ kept (blank b) f) && clear b f
  clear (Guard a test ks) f = clear a f
  clear (Row n) f = every (among (g.sets n).follow) f
  clear (Forbid ks) f = true
  clear (Bar a test ks) f = clear a (ks ++ f)
  clear (Hold a) f = clear a f

  -- the sets of a row are large enough, and its choices clear
  abbrev pub row_good : RowName → Bool
  row_good n = every (among (g.sets n).first) (firsts (g.rule n)) && (((g.sets n).nullable || not (empties (g.rule n))) && clear (g.rule n) (g.sets n).follow)

  -- the side that is taken with this symbol in hand; where it fits neither, any
  abbrev pub may_left : Form → Form → ℕ → Bool
  may_left a b c = starts a c || (not (starts b c) && (blank a c || not (blank b c)))

  abbrev pub may_right : Form → Form → ℕ → Bool
  may_right a b c = starts b c || (not (starts a c) && (blank b c || not (blank a c)))

-- the grammar's choices are clear
abbrev pub IsClear : Grammar → Type 0
IsClear g = (n : RowName) → row_good g n ≡ true
