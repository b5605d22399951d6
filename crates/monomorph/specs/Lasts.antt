-- What comes last: top-level lets, initial values and registers, in the order of the text.
use Rattle.std.specs.Prelude.{ℕ, suc, ℤ, List, [], ◌∷◌, map, take, drop, Option, None, Ok, if◌then◌else◌}
use Rattle.sail_base.specs.declared.place.Place.{Place}
use Rattle.sail_types.specs.Places.{first}
use Rattle.sail_types.specs.declared.numbers.Num.{Num}
use Rattle.sail_types.specs.declared.table.Types.{Types}
use Rattle.sail_types.specs.declared.types.Typ.{Typ, Typ-F, fold-Typ}
use Rattle.sail_types.specs.declared.types.Typ.TheOpen as T
use Rattle.model_state.specs.declared.state.Register.{Register}
use Rattle.sail_core.specs.declared.model.CoreModel.{CoreModel}
use Rattle.sail_core.specs.declared.model.Opening.{Opening}
use Rattle.sail_core.specs.declared.model.RegisterText.{RegisterText}
use Rattle.value_indices.specs.declared.indices.Reading.TheVariants as R
use Rattle.size_notes.specs.Models.{is_before}
use Rattle.size_values.specs.declared.constants.Constant.{Constant}
use Rattle.size_values.specs.declared.constants.Constant.TheVariants as C
use Rattle.size_values.specs.declared.sized.Sized.{Sized}
use Rattle.size_values.specs.declared.sizes.Size.{Size}
use Rattle.size_values.specs.Numbers.{argument_of, constant_under, known_at, known_of, with_picked}
use Rattle.size_values.specs.Sizes.{joined, reading_sizes, size}
use Rattle.size_splits.specs.Bodies.{Body}
use Rattle.size_splits.specs.Sizing.{Sizing}
use Rattle.size_notes.specs.Bodies.{Bodies, model_read}
use Rattle.size_notes.specs.Written.{size_places}
use Rattle.monomorph.specs.declared.error.MonoError.{MonoError}
use Rattle.monomorph.specs.declared.found.Found.{Found}
use Rattle.monomorph.specs.declared.lasts.Model as code
use Rattle.monomorph.specs.Found.{Answer, and_then, over, unless}
use Rattle.monomorph.specs.Reading.{read_body}
use Rattle.monomorph.specs.Refusals.{size_refused, sizes_refused}

-- a model, what is read of it, and its size variables
pub record Model : Type 0 where
  pub core : CoreModel
  pub bodies : Bodies
  pub sizing : Sizing

-- as code has it
abbrev pub model_in : code.Model → Model
model_in m = record { core = m.core.now; bodies = model_read m.bodies.now; sizing = m.sizing.now }

-- bodies under these numbers and types, in order
abbrev pub read_bodies : Model → List (Option ℤ) → List Sized → List Body → List Found → Answer
read_bodies m zs own bs = over (read_body m.core.types m.sizing zs own) bs

-- ---- registers

-- the sizes in a type as it is written, without those of fields and payloads, where what it binds is this
abbrev pub TextSizes : Type 0
TextSizes = List Constant → List Size

abbrev pub each_text : List TextSizes → List Constant → List Size
each_text fs cs = joined (map (λ f. f cs) fs)

abbrev pub size_in : ℕ → List Constant → Num → Size
size_in largest cs t = size largest (constant_under (argument_of cs) t)

abbrev pub form_text : Typ-F TextSizes → TextSizes
form_text (T.Bits t) cs = size_in 128 cs t ∷ []
form_text (T.Vector t f) cs = size_in 4096 cs t ∷ f cs
form_text (T.List f) cs = f cs
form_text (T.Tuple fs) cs = each_text fs cs
form_text (T.Named u arguments fs) cs = each_text fs cs
form_text (T.Exists name c f) cs = f (C.Bound name ∷ cs)
form_text form cs = []

abbrev pub text_sizes : Typ → TextSizes
text_sizes = fold-Typ TextSizes form_text

-- each at its number
abbrev pub written_refused : List Place → List Size → Option MonoError
written_refused (place ∷ places) (s ∷ ss) = first (size_refused place [] s) (written_refused places ss)
written_refused places ss = None

-- the sizes that are written in its type, each at its number
abbrev pub text_refused : Register → RegisterText → Option MonoError
text_refused r text = written_refused (size_places text.numbers) (text_sizes r.typ [])

-- all of them, with those of fields and payloads; nothing is known of a variable
abbrev pub whole_refused : Types → Register → RegisterText → Option MonoError
whole_refused types r text = sizes_refused text.place [] (reading_sizes types (known_at (with_picked (known_of []) [])) (R.Of r.typ [] []))

abbrev pub register_refused : Types → Register → RegisterText → Option MonoError
register_refused types r text = first (text_refused r text) (whole_refused types r text)

-- ---- in the order of the text; a register's type before its initial value

-- how many of these, from the first on, stand before a place
abbrev pub count_before : Place → List Opening → ℕ
count_before place [] = 0
count_before place (o ∷ os) = if is_before o.place place then suc (count_before place os) else 0

-- a register behind these bodies
abbrev pub read_register : Model → Register → RegisterText → List Body → List Found → Answer
read_register m r text bs found =
    and_then (read_bodies m [] [] bs found) (λ found. unless (register_refused m.core.types r text) (Ok found))

abbrev pub last_from : Model → List Register → List RegisterText → List Opening → List Body → List Found → Answer
last_from m (r ∷ rs) (text ∷ texts) os bs found =
    and_then (read_register m r text (take (count_before text.place os) bs) found)
    (last_from m rs texts (drop (count_before text.place os) os) (drop (count_before text.place os) bs))
last_from m rs texts os bs found = read_bodies m [] [] bs found

abbrev pub read_lasts : Model → List Found → Answer
read_lasts m = last_from m m.core.registers m.core.register_texts m.core.openings m.bodies.openings
