use Rattle.std.proofs.Common.{[], refl}
use Rattle.std.proofs.KnownBytes.{Appends-nil}
use Rattle.msvc_programs.proofs.InputRun.{WritesInput-nothing, WritesInput-unheld}
use Rattle.msvc_programs.proofs.filters.filter_named.Goals as goal

pub returns-in-Ok-None-clause-text : goal.returns-in-Ok-None-clause-text
returns-in-Ok-None-clause-text g c = ([], Appends-nil _, WritesInput-nothing _ refl _ _)

pub returns-in-Err-clause-text : goal.returns-in-Err-clause-text
returns-in-Err-clause-text g c = ([], Appends-nil _, WritesInput-unheld _ _)
