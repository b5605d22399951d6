-- Comments that nest.
use Rattle.std.specs.Prelude.{◌≡◌, ◌≢◌, ℕ, ◌+◌, ◌<◌, ◌≤◌, ◌&&◌, ◌==◌, List, [], ◌∷◌, length, take, if◌then◌else◌}

-- an opening, a closing, or a byte of neither
pub data Mark : Type 0 where
  Opening : Mark
  Closing : Mark
  Plain : Mark

-- a text in marks: the pairs `/*` and `*/` are taken from the left without overlap
unfoldable pub marks : List ℕ → List Mark
marks [] = []
marks (b ∷ []) = Plain ∷ []
marks (b ∷ c ∷ text) =
    if b == 47 && c == 42 then Opening ∷ marks text
    else (if b == 42 && c == 47 then Closing ∷ marks text
    else Plain ∷ marks (c ∷ text))

-- how many of them open
unfoldable pub opened : List Mark → ℕ
opened [] = 0
opened (Opening ∷ more) = opened more + 1
opened (Closing ∷ more) = opened more
opened (Plain ∷ more) = opened more

-- how many of them close
unfoldable pub closed : List Mark → ℕ
closed [] = 0
closed (Opening ∷ more) = closed more
closed (Closing ∷ more) = closed more + 1
closed (Plain ∷ more) = closed more

-- how many bytes they are
unfoldable pub mark_bytes : List Mark → ℕ
mark_bytes [] = 0
mark_bytes (Opening ∷ more) = mark_bytes more + 2
mark_bytes (Closing ∷ more) = mark_bytes more + 2
mark_bytes (Plain ∷ more) = mark_bytes more + 1

-- the first n bytes of the text are a comment: it ends where as many have closed as opened, for the first time
pub record IsComment (text : List ℕ) (n : ℕ) : Type 0 where
  pub count : ℕ
  pub some : 0 < count
  pub within : count ≤ length (marks text)
  pub even : opened (take count (marks text)) ≡ closed (take count (marks text))
  pub before : (k : ℕ) → 0 < k → k < count → opened (take k (marks text)) ≢ closed (take k (marks text))
  pub bytes : n ≡ mark_bytes (take count (marks text))

-- a comment that begins the text doesn't end in it
abbrev pub NeverEnds : List ℕ → Type 0
NeverEnds text = (k : ℕ) → 0 < k → k ≤ length (marks text) → opened (take k (marks text)) ≢ closed (take k (marks text))
