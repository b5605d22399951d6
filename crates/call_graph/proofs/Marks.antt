-- What a node's mark says, and where places lead.
use Rattle.std.proofs.Common.{◌≡◌, ℕ, ◌<◌, ◌≢◌, List, [], ◌∷◌, ◌++◌, length, refl, sym, ◌∙◌, inl, inr, arith}
use Rattle.std.proofs.lemmas.Bool.{cases_lt}
use Rattle.std.proofs.lemmas.List.{get_or_past}
use Rattle.std.proofs.lemmas.List.Elements.{Contains-append_left, Contains-push_cases}
use Rattle.call_graph.specs.declared.search.Mark.{Mark}
use Rattle.call_graph.specs.declared.search.Mark.TheVariants.{New, Open, Numbered}
use Rattle.call_graph.specs.Search.{mark_of, LeadsTo}

-- what a node's mark can be
pub data Marked (marks : List Mark) (u : ℕ) : Type 0 where
  is_new : mark_of marks u ≡ New → Marked marks u
  is_open : (p : ℕ) → mark_of marks u ≡ Open p → Marked marks u
  is_numbered : (c : ℕ) → mark_of marks u ≡ Numbered c → Marked marks u

marked_from : (marks : List Mark) (u : ℕ) (m : Mark) → mark_of marks u ≡ m → Marked marks u
marked_from marks u New e = is_new e
marked_from marks u (Open p) e = is_open p e
marked_from marks u (Numbered c) e = is_numbered c e

pub marked_as : (marks : List Mark) (u : ℕ) → Marked marks u
marked_as marks u = marked_from marks u (mark_of marks u) refl

-- a node with a mark is a node
pub is_node : (marks : List Mark) (u : ℕ) (m : Mark) → mark_of marks u ≡ m → m ≢ New → u < length marks
is_node marks u m e other = elim (cases_lt u (length marks)) [
  | inl inside ↦ inside
  | inr past ↦ absurd (other (sym e ∙ get_or_past marks u New past))
]

pub open_place : {p q : ℕ} → Open p ≡ Open q → p ≡ q
open_place e = cc

pub number_of : {p q : ℕ} → Numbered p ≡ Numbered q → p ≡ q
number_of e = cc

-- a start behind the first place changes nothing, and fewer starts ask for less
pub led : (starts : List ℕ) (p first second : ℕ) → first < p → LeadsTo starts first second → LeadsTo (starts ++ p ∷ []) first second
led starts p first second before h start among least = elim (Contains-push_cases starts p start among) [
  | inl old ↦ h start old least
  | inr last ↦ absurd (omega arith)
]

pub leads : (starts : List ℕ) (p first second : ℕ) → LeadsTo (starts ++ p ∷ []) first second → LeadsTo starts first second
leads starts p first second h start among least = h start (Contains-append_left starts (p ∷ []) start among) least
