-- The module of a model, joined of what is made of its parts, of its openings, of its instances and of directions.
use Rattle.std.proofs.Common.{◌≡◌, ◌∙◌, ◌++◌, ℕ, List, [], ◌+◌, ap, append_assoc, arith, false, length, subst, sym, true}
use Rattle.std.specs.Prelude.{◌*◌}
use Rattle.sail_core.specs.Fragments.{model_in}
use Rattle.sail_core.specs.declared.fragments.Fragment.TheVariants as G
use Rattle.sail_core.specs.declared.model.CoreModel.{CoreModel}
use Rattle.sized_nodes.specs.declared.trees.SizedCore.{SizedCore}
use Rattle.jib.specs.declared.code.Function.{Function as Made}
use Rattle.jib.specs.declared.code.Module.{Module}
use Rattle.jib_lower.specs.declared.instances.Model.{Model}
use Rattle.jib_lower.specs.declared.lowering.Parts.{Parts}
use Rattle.jib_lower.specs.declared.openings.Opened.{Opened}
use Rattle.mappings.specs.Rewriting.{without_mappings}
use Rattle.match_rewrite.specs.Rewriting.{with_flat_arms}
use Rattle.tabled_models.specs.Cores.{core_tabled}
use Rattle.jib_lower.specs.Crossings.{calls_of}
use Rattle.jib_lower.specs.Entering.{mapped_from}
use Rattle.jib_lower.specs.Instances.{CalledAre}
use Rattle.jib_lower.specs.Leads.{AllAlone, EachAlone}
use Rattle.jib_lower.specs.Lowered.{FlatBehind, FlatFrom, LoweredBehind, ModelOf, OpeningsMade, opened_from}
use Rattle.jib_lower.specs.Order.{Ordered, made_in}
use Rattle.jib_lower.specs.Parts.{FunctionsOf, ModelBy, OpenedOf, PartsOf}
use Rattle.jib_lower.specs.Types.{all_in_ways}
use Rattle.jib_lower.proofs.Ways.{ways_many}

pub twice : (n k b : ℕ) → k ≡ n → b ≡ k + k → b ≡ 2 * n
twice n k b e h = omega (arith, e, h)

-- a module with the types, exceptions and registers of its parts
record Shelled (parts : Parts) (m : Module) : Type 0 where
  pub types : m.types ≡ parts.shell.types
  pub exception : m.exception ≡ parts.shell.exception
  pub registers : m.registers ≡ parts.shell.registers

module _ (core : CoreModel) (sized : SizedCore) (parts : Parts) (m : Module) (p : PartsOf core sized parts) (s : Shelled parts m) where
  model_of : (model : Model) → ModelBy core sized parts model → ModelOf core sized p.table m model
  model_of model is = record {
    of_core = is.of_core;
    of_sized = is.of_sized;
    numbered = is.numbered ∙ p.numbered;
    shell_types = ap (λ (z : Module). z.types) is.shell ∙ sym s.types;
    shell_exception = ap (λ (z : Module). z.exception) is.shell ∙ sym s.exception;
    shell_registers = ap (λ (z : Module). z.registers) is.shell ∙ sym s.registers;
    raised = is.exception ∙ p.exception;
    nothing = is.nothing ∙ p.nothing;
    truths = is.truths ∙ p.truths;
  }

flat_from : (core : CoreModel) (sized : SizedCore) (parts : Parts) (opened : Opened) (functions : List Made) (m : Module) → PartsOf core sized parts
    → OpenedOf core sized parts opened → FunctionsOf core sized parts opened functions → AllAlone sized.instances → EachAlone sized.openings
    → m.types ≡ parts.shell.types → m.exception ≡ parts.shell.exception → m.registers ≡ parts.shell.registers
    → m.functions ≡ functions ++ opened.functions → m.openings ≡ opened.openings → FlatFrom core sized m
flat_from core sized parts opened functions m p o f alone openings types exception registers all opens = record {
  table = p.table;
  stands = p.is.stands;
  in_instances = p.is.in_instances;
  in_openings = p.is.in_openings;
  in_registers = p.is.in_registers;
  types = types ∙ p.shell.types_are;
  typs = p.shell.typs;
  small = p.is.small;
  bits = p.is.bits;
  alone = alone;
  openings_alone = openings;
  basic = p.is.basic;
  exception = exception ∙ p.shell.exception;
  registers = registers ∙ p.shell.registers;
  model = f.model;
  is = model_of core sized parts m p shelled f.model f.is;
  bare = o.bare;
  bare_is = model_of core sized parts m p shelled o.bare o.is;
  called = subst (λ ts. CalledAre core sized p.table.numbered f.model.called.now ts) (sym f.is.turned)
      (subst (λ cs. CalledAre core sized p.table.numbered cs parts.turned) (sym f.is.called) p.called);
  ordered = subst (λ ds. Ordered (calls_of core.directions) (made_in 0 f.model.turned.now) ds) (sym f.is.order)
      (subst (λ ts. Ordered (calls_of core.directions) (made_in 0 ts) parts.order) (sym f.is.turned) p.ordered);
  entered = f.is.directions ∙ p.entered ∙ ap (λ ds. mapped_from core.types ds 0 core.directions) (sym f.is.order);
  in_ways = subst (λ ts. all_in_ways p.table.numbered sized.mappings 0 core.directions ts ≡ true) (sym f.is.turned) p.is.in_ways;
  ways = f.made.ways;
  directions = f.made.directions;
  before = f.is.before ∙ many;
  bare_before = o.is.before ∙ many;
  functions = f.made.called;
  instances = f.made.instances;
  opened = opened.functions;
  of_registers = o.made.registers;
  openings = subst (λ ts. OpeningsMade o.bare 0 core.openings [] [] opened.functions o.made.registers ts f.model.openings.now) (sym f.lets)
      (subst (λ ns. OpeningsMade o.bare 0 core.openings [] [] opened.functions o.made.registers opened.types ns) (sym f.names)
      (subst (λ (c : CoreModel). OpeningsMade o.bare 0 c.openings [] [] opened.functions o.made.registers opened.types opened.names) o.is.of_core
      o.made.made));
  all = all ∙ ap (λ fs. fs ++ opened.functions) f.made.all ∙ append_assoc f.made.ways f.made.called opened.functions;
  opens = opens ∙ o.made.opens ∙ ap (λ n. opened_from n o.made.registers) (p.opened_at ∙ ap (λ n. n + 2 * length sized.instances) many);
}
  where
    many : parts.before ≡ length f.made.ways
    many = p.before ∙ ap length (sym f.is.order) ∙ ways_many f.model f.made.directions

    shelled : Shelled parts m
    shelled = record { types = types; exception = exception; registers = registers }

pub flat_behind : (core : CoreModel) (sized : SizedCore) (parts : Parts) (opened : Opened) (functions : List Made) (m : Module) → PartsOf core sized parts
    → OpenedOf core sized parts opened → FunctionsOf core sized parts opened functions → AllAlone sized.instances → EachAlone sized.openings
    → m.types ≡ parts.shell.types → m.exception ≡ parts.shell.exception → m.registers ≡ parts.shell.registers
    → m.functions ≡ functions ++ opened.functions → m.openings ≡ opened.openings → FlatBehind core sized m parts.before
unfolding flat_from
flat_behind core sized parts opened functions m p o f alone openings types exception registers all opens = record {
  from = flat_from core sized parts opened functions m p o f alone openings types exception registers all opens;
  many = p.before ∙ ap length (sym f.is.order) ∙ ways_many f.model f.made.directions;
}

-- of a model as it is written
pub lowered_behind : (written : CoreModel) (sized : SizedCore) (m : Module) (before : ℕ) → core_tabled false written ≡ true
    → model_in G.Resolved written ≡ true → FlatBehind (with_flat_arms (without_mappings written)) sized m before → LoweredBehind written sized m before
lowered_behind written sized m before tabled resolved flat = record {
  from = record { tabled = tabled; resolved = resolved; flat = flat.from };
  many = flat.many;
}
