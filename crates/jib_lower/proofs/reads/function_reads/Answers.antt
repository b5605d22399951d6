use Rattle.std.proofs.Common.{◌∙◌, ◌++◌, ap, map}
use Rattle.std.proofs.lemmas.Result.{IfOk-weaker}
use Rattle.lowered_pieces.specs.Functions.{measure_of}
use Rattle.jib_lower.specs.Reads.{read_by, read_in, read_of, types_read}
use Rattle.jib_lower.proofs.reads.function_reads.Goals as goal

pub returns : goal.returns
returns c =
    let f = c.args.function.now in let measured = read_by (measure_of f.cycle f.measure) in
    IfOk-weaker c.types_read.result _ _
    (λ told e. e ∙ ap (types_read c.args.setting.now.bodies.now)
    (ap (map read_of) c.as_slice-reads.ensures ∙ c.in_ok-list_measure.ensures
    ∙ ap (λ rs. rs ++ measured) (c.in_ok-list_read.ensures ∙ ap (λ rs. map read_of rs ++ read_in f.body) c.new-found.ensures)))
    c.types_read.ensures
