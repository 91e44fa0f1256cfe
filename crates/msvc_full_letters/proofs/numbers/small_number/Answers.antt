use Rattle.std.proofs.Common.{rules, Some, ◌≡◌, ap, sym, ◌∙◌, to_z, of_z, w32}
use Rattle.std.proofs.lemmas.Int.{to_z-of_z}
use Rattle.msvc_rules.specs.Readers.{and_then}
use Rattle.msvc_full_grammar.specs.Fragments.{small}
use Rattle.msvc_cursor.specs.Parser.{beyond, state_of}
use Rattle.msvc_full_letters.proofs.NumberSteps.{small_number_step}
use Rattle.msvc_full_letters.proofs.numbers.small_number.Goals as goal

pub returns-clause-value : goal.returns-clause-value
returns-clause-value g c = λ extra.
    let same : to_z w32 (of_z w32 c.low_bits.result) ≡ c.low_bits.result = search (rules, to_z-of_z) in
    small_number_step c.args.parser.now.rest.now (beyond extra (state_of c.args.parser.now))
    ∙ ap (λ o. and_then o (λ n l t. Some (small n, l, t))) (c.in_ok-number.ensures.value extra)
    ∙ ap (λ z. Some (z, c.number.new.parser.rest.now, beyond extra (state_of c.number.new.parser)))
    (sym c.low_bits.ensures ∙ sym same)
