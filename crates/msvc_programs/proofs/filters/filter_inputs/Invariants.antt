use Rattle.std.proofs.Common.{◌≡◌, take}
use Rattle.std.specs.Prelude.{map}
use Rattle.msvc_filter.specs.Choices.{chosen}
use Rattle.msvc_programs.specs.Filters.{text_of}
use Rattle.msvc_programs.proofs.InputRun.{InputRun}
use Rattle.msvc_programs.proofs.filters.filter_inputs.Given as goal

abbrev pub invariant-loop-name : goal.invariant-loop-name
invariant-loop-name g l =
    InputRun (chosen l.how) (g.H.Host.bytes l.host) (map text_of (take l.name-index l.names)) l.all_read
    (g.W.Write.contents l.fn.out.stream) (g.W.Write.contents l.out.stream)
    × (l.out.failed ≡ l.fn.out.failed)
