-- A write keeps the count of the bytes, gives the new bytes where it wrote, and the old ones elsewhere.
use Rattle.std.proofs.Common.{◌≡◌, ℕ, ◌+◌, ◌-◌, ◌<◌, ◌≤◌, List, [], ◌++◌, length, take, drop, get_or, ap, sym, ◌∙◌}
use Rattle.std.proofs.Common.{arith, add-zero, append-nil, append_assoc, take_at, drop_at, drop-drop}
use Rattle.std.proofs.Common.{take-append-drop, length-append, length-take, length-drop}
use Rattle.std.proofs.Math.ListN.{get_or-append}
use Rattle.std.proofs.lemmas.List.{get_or-take, get_or-drop, get_or-append_right}
use Rattle.mem_store.specs.Bytes.{overwritten}

pub length-overwritten : (bytes : List ℕ) (i : ℕ) (new : List ℕ) → i + length new ≤ length bytes → length (overwritten bytes i new) ≡ length bytes
length-overwritten bytes i new h =
    omega (
      arith,
      length-append (take i bytes ++ new) (drop (i + length new) bytes),
      length-append (take i bytes) new,
      length-take i bytes,
      length-drop (i + length new) bytes,
    )

-- a byte below those that are written
pub get_or-overwritten_below : (bytes : List ℕ) (i : ℕ) (new : List ℕ) (k d : ℕ) → i ≤ length bytes → k < i → get_or
    (overwritten bytes i new) k d ≡ get_or bytes k d
get_or-overwritten_below bytes i new k d h b =
    get_or-append (take i bytes ++ new) (drop (i + length new) bytes) d k (omega (arith, length-append (take i bytes) new, length-take i bytes))
    ∙ get_or-append (take i bytes) new d k (omega (arith, length-take i bytes)) ∙ get_or-take i bytes k d b

-- a byte that is written
pub get_or-overwritten_within : (bytes : List ℕ) (i : ℕ) (new : List ℕ) (k d : ℕ) → i ≤ length bytes → i ≤ k → k < i +
    length new → get_or (overwritten bytes i new) k d ≡ get_or new (k - i) d
get_or-overwritten_within bytes i new k d h a b =
    get_or-append (take i bytes ++ new) (drop (i + length new) bytes) d k (omega (arith, length-append (take i bytes) new, length-take i bytes))
    ∙ get_or-append_right (take i bytes) new i k d (omega (arith, length-take i bytes)) a

-- a byte behind those that are written
pub get_or-overwritten_behind : (bytes : List ℕ) (i : ℕ) (new : List ℕ) (k d : ℕ) → i ≤ length bytes → i + length new
    ≤ k → get_or (overwritten bytes i new) k d ≡ get_or bytes k d
get_or-overwritten_behind bytes i new k d h b =
    get_or-append_right (take i bytes ++ new) (drop (i + length new) bytes) (i + length new) k d
    (omega (arith, length-append (take i bytes) new, length-take i bytes)) b
    ∙ get_or-drop (i + length new) bytes (k - (i + length new)) d ∙ ap (λ n. get_or bytes n d) (omega arith)

-- two writes, the second right behind the first, are one
pub overwritten-more : (bytes : List ℕ) (i : ℕ) (a b : List ℕ) → i ≤ length bytes → overwritten
    (overwritten bytes i a) (i + length a) b ≡ overwritten bytes i (a ++ b)
overwritten-more bytes i a b h =
    let n : length (take i bytes ++ a) ≡ i + length a = omega (arith, length-append (take i bytes) a, length-take i bytes) in
    let front : take (i + length a) (overwritten bytes i a) ≡ take i bytes ++ a = take_at (take i bytes ++ a) (drop (i + length a) bytes) (i + length a) n in
    let behind : drop (i + length a) (overwritten bytes i a) ≡ drop (i + length a) bytes = drop_at (take i bytes ++ a)
    (drop (i + length a) bytes) (i + length a) n in
    let rest : drop (i + length a + length b) (overwritten bytes i a) ≡ drop (i + length (a ++ b)) bytes =
    ap (λ k. drop k (overwritten bytes i a)) (omega arith) ∙ sym (drop-drop (length b) (i + length a) (overwritten bytes i a)) ∙ ap (drop (length b)) behind
    ∙ drop-drop (length b) (i + length a) bytes ∙ ap (λ k. drop k bytes) (omega (arith, length-append a b)) in
    (λ j. front j ++ b ++ rest j) ∙ ap (λ xs. xs ++ drop (i + length (a ++ b)) bytes) (append_assoc (take i bytes) a b)

-- a write of nothing changes nothing
pub overwritten-none : (bytes : List ℕ) (i : ℕ) → overwritten bytes i [] ≡ bytes
overwritten-none bytes i = rw (append-nil, add-zero) (take-append-drop i bytes)
