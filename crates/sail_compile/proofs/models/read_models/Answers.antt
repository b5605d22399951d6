use Rattle.sail_compile.proofs.ModelLemmas.{files_have_texts, texts_compiled, texts_refused, unlexed_is}
use Rattle.sail_compile.proofs.models.read_models.Goals as goal

pub read_files-requires : goal.read_files-requires
read_files-requires c =
    files_have_texts c.args.texts.now c.in-Ok.files c.as_slice.result.now c.as_slice.ensures c.in-Ok.ensures.lexed c.in-Ok.ensures.files

pub returns-in-Ok-clause-compiled : goal.returns-in-Ok-clause-compiled
returns-in-Ok-clause-compiled c =
    texts_compiled c.args.texts.now c.in-Ok.files c.as_slice.result.now c.as_slice.ensures c.in-Ok.ensures.lexed c.in-Ok.ensures.files
    c.read_files.result c.read_files.ensures.accepted

pub returns-in-Ok-clause-refused : goal.returns-in-Ok-clause-refused
returns-in-Ok-clause-refused c =
    texts_refused c.args.texts.now c.in-Ok.files c.as_slice.result.now c.as_slice.ensures c.in-Ok.ensures.lexed c.in-Ok.ensures.files
    c.read_files.result c.read_files.ensures.refused

pub returns-in_ok-token_refusal-in-Err-clause-refused : goal.returns-in_ok-token_refusal-in-Err-clause-refused
returns-in_ok-token_refusal-in-Err-clause-refused c =
    unlexed_is c.args.texts.now c.in-Err.error c.in_ok-token_refusal-in-Err.field-0 c.in-Err.ensures.refused
    c.in_ok-token_refusal-in-Err.ensures.told c.in_ok-token_refusal-in-Err.ensures.refused
