use Rattle.msvc_facts.proofs.BackReferences.{name_references, type_references, written_out}
use Rattle.msvc_facts.proofs.Buffers.{buffers}
use Rattle.msvc_facts.proofs.CallFlags.{call_flags}
use Rattle.msvc_facts.proofs.Declarations.{declarations, flags, names, spaces, template_arguments, types}
use Rattle.msvc_facts.proofs.Errors.{errors}
use Rattle.msvc_facts.proofs.Filtered.{candidates, filtered, fitted}
use Rattle.msvc_facts.proofs.Letters.{tables}
use Rattle.msvc_facts.proofs.Runs.{faults, line_runs}
use Rattle.msvc_facts.proofs.Texts.{answers, arguments, lines, words, words_in_full}
use Rattle.msvc_facts.proofs.Trees.{counts, refusals, trees}
use Rattle.msvc_facts.proofs.FullTexts.{full-texts}
use Rattle.msvc_facts.proofs.facts.Goals as goal

pub returns-clause-tables : goal.returns-clause-tables
returns-clause-tables c = tables

pub returns-clause-trees : goal.returns-clause-trees
returns-clause-trees c = trees

pub returns-clause-counts : goal.returns-clause-counts
returns-clause-counts c = counts

pub returns-clause-refusals : goal.returns-clause-refusals
returns-clause-refusals c = refusals

pub returns-clause-name_references : goal.returns-clause-name_references
returns-clause-name_references c = name_references

pub returns-clause-type_references : goal.returns-clause-type_references
returns-clause-type_references c = type_references

pub returns-clause-written_out : goal.returns-clause-written_out
returns-clause-written_out c = written_out

pub returns-clause-spaces : goal.returns-clause-spaces
returns-clause-spaces c = spaces

pub returns-clause-declarations : goal.returns-clause-declarations
returns-clause-declarations c = declarations

pub returns-clause-names : goal.returns-clause-names
returns-clause-names c = names

pub returns-clause-types : goal.returns-clause-types
returns-clause-types c = types

pub returns-clause-template_arguments : goal.returns-clause-template_arguments
returns-clause-template_arguments c = template_arguments

pub returns-clause-flags : goal.returns-clause-flags
returns-clause-flags c = flags

pub returns-clause-full_texts : goal.returns-clause-full_texts
returns-clause-full_texts c = full-texts

pub returns-clause-errors : goal.returns-clause-errors
returns-clause-errors c = errors

pub returns-clause-lines : goal.returns-clause-lines
returns-clause-lines c = lines

pub returns-clause-answers : goal.returns-clause-answers
returns-clause-answers c = answers

pub returns-clause-arguments : goal.returns-clause-arguments
returns-clause-arguments c = arguments

pub returns-clause-words : goal.returns-clause-words
returns-clause-words c = words

pub returns-clause-words_in_full : goal.returns-clause-words_in_full
returns-clause-words_in_full c = words_in_full

pub returns-clause-candidates : goal.returns-clause-candidates
returns-clause-candidates c = candidates

pub returns-clause-filtered : goal.returns-clause-filtered
returns-clause-filtered c = filtered

pub returns-clause-fitted : goal.returns-clause-fitted
returns-clause-fitted c = fitted

pub returns-clause-faults : goal.returns-clause-faults
returns-clause-faults c = faults

pub returns-clause-line_runs : goal.returns-clause-line_runs
returns-clause-line_runs c = line_runs

pub returns-clause-buffers : goal.returns-clause-buffers
returns-clause-buffers c = buffers

pub returns-clause-call_flags : goal.returns-clause-call_flags
returns-clause-call_flags c = call_flags
