use Rattle.std.proofs.Common.{rules, ◌≡◌}
use Rattle.msvc_full_grammar.specs.Productions.{source_name}
use Rattle.msvc_full_grammar.specs.Reading.{read_name}
use Rattle.msvc_cursor.specs.Parser.{beyond, cut_at, name_length, state_of}
use Rattle.msvc_full_letters.proofs.NameSteps.{source_name_step}
use Rattle.msvc_full_letters.specs.Names.{source_name_at}
use Rattle.msvc_full_letters.proofs.names.source_name.Goals as goal

-- neither a ? nor an @ stands here
pub returns-in-len1-up-clause-value : goal.returns-in-len1-up-clause-value
unfolding source_name_at
returns-in-len1-up-clause-value g c = λ extra.
    let before = c.args.parser.now in
    let read : read_name source_name before.rest.now (beyond extra (state_of before))
    ≡ cut_at (name_length before.rest.now) before.rest.now (beyond extra (state_of before)) =
    search (rules, source_name_step) in
    rw read (c.source_name-in-len1-up.ensures.value extra)
