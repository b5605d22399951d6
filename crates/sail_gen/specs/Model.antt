-- The text of the model that is made of a seed: so many functions of a byte, and a step that calls the one whose number it reads.
use Rattle.std.specs.Prelude.{ℕ, ◌+◌, ◌*◌, List, [], ◌∷◌, ◌++◌, codes, slice_index}
use Rattle.std.specs.Fmt.{decimal}
use Rattle.std.specs.Int.{w16, to_be_bytes}
use Rattle.std.specs.List.{flat_map, range_with_len}
use Rattle.hex.specs.Hex.{encode_lower}
use Rattle.sail_gen.specs.Draws.{draw}

-- the operators that a function may have, by number
abbrev pub operators : List ℕ
operators = codes "+^&|"

-- `fK`, K in decimal
abbrev pub function_name : ℕ → List ℕ
function_name number = codes "f" ++ decimal number

-- `val fK : bits(8) -> bits(8)`
abbrev pub signature_text : ℕ → List ℕ
signature_text number = codes "val " ++ function_name number ++ codes " : bits(8) -> bits(8)\n"

-- `function fK(x) = x OP 0xCC`, of an operator and a constant, which has two hexadecimal digits
abbrev pub body_text : ℕ → ℕ → ℕ → List ℕ
body_text number operator constant =
    codes "function " ++ function_name number ++ codes "(x) = x " ++ slice_index operators operator ∷ codes " 0x"
    ++ encode_lower (constant ∷ []) ++ codes "\n"

abbrev pub function_text : ℕ → ℕ → ℕ → List ℕ
function_text number operator constant = signature_text number ++ body_text number operator constant

-- the function of a number: draws from the seed alternate between operators and constants
abbrev pub drawn_function : ℕ → ℕ → List ℕ
drawn_function seed number = function_text number (draw seed (2 * number) 4) (draw seed (2 * number + 1) 256)

-- the functions of the numbers from 0 on
abbrev pub functions_text : ℕ → ℕ → List ℕ
functions_text seed size = flat_map (drawn_function seed) (range_with_len 0 size)

-- `0xKKKK => { A = fK(A) }, `, the number first in four hexadecimal digits and then in decimal
abbrev pub case_text : ℕ → List ℕ
case_text number =
    codes "0x" ++ encode_lower (to_be_bytes w16 number) ++ codes " => { A = " ++ function_name number ++ codes "(A) }, "

-- the cases of the numbers from 0 on
abbrev pub cases_text : ℕ → List ℕ
cases_text size = flat_map case_text (range_with_len 0 size)

-- the model of so many functions that is made of a seed: it reads a code at PC, applies the code's function to A, and rests where
-- the code has none
abbrev pub model_text : ℕ → ℕ → List ℕ
model_text seed size =
    codes "register PC : bits(64)\nregister A : bits(8)\n"
    ++ functions_text seed size
    ++ codes "val reset : (range(0, 7), bits(64)) -> unit\nfunction reset(h, e) = { PC = e }\nval step : unit -> bool\n"
    ++ codes "function step() = { match mem_read(2, PC) { " ++ cases_text size ++ codes "_ => return false }; PC = PC + 2; true }\n"
