use Rattle.std.proofs.Common.{◌≡◌, ◌+◌, ◌≤◌, map, drop}
use Rattle.model_tokens.specs.Parts.{tokens_of}
use Rattle.model_tokens.proofs.Onward.{FilesSoFar, LexedSoFar}
use Rattle.model_tokens.proofs.files.lex_files.Given as goal

abbrev pub invariant-loop-text : goal.invariant-loop-text
invariant-loop-text l = record {
  file : l.file ≡ l.text-index + 1;
  count : l.before ≤ 1000000;
  lexed : LexedSoFar l.texts (map tokens_of l.found) l.file l.before (drop l.text-index l.texts);
  files : FilesSoFar l.texts l.found l.file (drop l.text-index l.texts);
}
