use Rattle.std.proofs.Common.{◌≡◌, ℕ, List, refl, sym, ap, subst, ◌∙◌}
use Rattle.sail_globals.specs.declared.naming.Naming.{Naming}
use Rattle.sail_globals.specs.Namings.{all_namings}
use Rattle.sail_globals.specs.Clashes.{clashes}
use Rattle.sail_globals.specs.Globals.{AreOf as AreGlobalsOf}
use Rattle.sail_declared.specs.Wanting.{all_wanting}
use Rattle.sail_kinds.specs.Failures.{first_failure}
use Rattle.type_definitions.specs.Defined.{Types, held, types_of, all_type_failures}
use Rattle.sail_names.specs.Known.{Known, known_of}
use Rattle.sail_signatures.specs.Signatures.{signature_of}
use Rattle.known_names.specs.Meanings.{known_from, known_in}
use Rattle.sail_bodies.specs.Bodies.{all_body_failures}
use Rattle.sail_cycles.specs.Cycles.{TellsCycles, AreCyclesOf, call_graph, pattern_graph, is_cyclic_at, all_cycle_failures}
use Rattle.sail_tables.specs.Refused.{signature_in, entry_failures}
use Rattle.sail_tables.specs.Tabled.{signature_at}
use Rattle.sail_tables.proofs.Noted.{all_noted}
use Rattle.sail_tables.proofs.building.read_all.Goals as goal

pub returns-clause-failures : goal.returns-clause-failures
returns-clause-failures c =
    let text = c.args.definitions.now in
    let all = all_namings text in
    let calls = c.in_ok-calls.calls in
    let patterns = c.in_ok-patterns.patterns in
    let noted = c.note_clashes.new.first.error in
    let defined = c.define_all.new.first.error in
    let known : known_of c.in_ok-names.names ≡ known_in text =
    c.in_ok-names.ensures ∙ ap (λ (ns : List Naming). known_from ns text) (c.as_slice-3.ensures ∙ c.in_ok-namings.ensures) in
    let types : held c.in_ok-types.types ≡ types_of text = c.in_ok-types.ensures.types in
    let AreHeld : List Naming → Type 0 = λ ns. AreGlobalsOf ns c.in_ok-globals.globals in
    let globals : AreGlobalsOf all c.in_ok-globals.globals =
    subst AreHeld (c.as_slice-2.ensures ∙ c.in_ok-namings.ensures) c.in_ok-globals.ensures in
    let signed : (name : List ℕ) → signature_at c.in_ok-signatures.signatures name ≡ signature_in text name =
    λ name. c.in_ok-signatures.ensures name ∙ ap (λ (t : Types). signature_of t.named text name) types in
    let Tells : Known → Type 0 = λ k. TellsCycles (call_graph k text) (is_cyclic_at calls) in
    let TellsPatterns : Known → Type 0 = λ k. TellsCycles (pattern_graph k text) (is_cyclic_at patterns) in
    record {
      is_cyclic = is_cyclic_at calls;
      is_pattern_cyclic = is_cyclic_at patterns;
      calls = subst Tells known c.in_ok-calls.ensures.tells;
      patterns = subst TellsPatterns known c.in_ok-patterns.ensures.tells;
      first = all_noted (clashes all) (all_wanting all text) (all_type_failures text) (all_body_failures text (known_in text) (types_of text))
          (all_cycle_failures text (known_in text) (is_cyclic_at calls) (is_cyclic_at patterns) text) (entry_failures text c.args.end)
          noted c.note_wanting.new.first.error defined c.note_bodies.new.first.error c.note_cycles.new.first.error c.note_entries.new.first.error
          (sym (c.in_ok-note_clashes.ensures ∙ (λ i. first_failure (c.requires i) (clashes ((c.as_slice.ensures ∙ c.in_ok-namings.ensures) i)))))
          (c.in_ok-note_wanting.ensures all globals)
          c.in_ok-types.ensures.failures
          (c.in_ok-note_bodies.ensures ∙ (λ i. first_failure defined (all_body_failures text (known i) (types i))))
          (c.in_ok-note_cycles.ensures
          ∙ ap (λ (k : Known). first_failure c.note_bodies.new.first.error (all_cycle_failures text k (is_cyclic_at calls) (is_cyclic_at patterns) text)) known)
          (c.in_ok-note_entries.ensures text globals signed);
    }

pub returns-clause-tables : goal.returns-clause-tables
returns-clause-tables c =
    let text = c.args.definitions.now in
    let known : known_of c.in_ok-names.names ≡ known_in text =
    c.in_ok-names.ensures ∙ ap (λ (ns : List Naming). known_from ns text) (c.as_slice-3.ensures ∙ c.in_ok-namings.ensures) in
    let types : held c.in_ok-types.types ≡ types_of text = c.in_ok-types.ensures.types in
    let AreCycles : Known → Type 0 = λ k. AreCyclesOf (call_graph k text) c.in_ok-calls.calls in
    record {
      definitions = refl;
      types = types;
      names = known;
      callables = c.in_ok-callables.ensures;
      signatures = λ name. c.in_ok-signatures.ensures name ∙ ap (λ (t : Types). signature_of t.named text name) types;
      calls = subst AreCycles known c.in_ok-calls.ensures.cycles;
      lets = c.in_ok-find_lets.ensures;
      registers = c.in_ok-find_registers.ensures;
      overloads = c.in_ok-find_overloads.ensures;
      operators = c.in_ok-find_operators.ensures;
      end = refl;
    }
