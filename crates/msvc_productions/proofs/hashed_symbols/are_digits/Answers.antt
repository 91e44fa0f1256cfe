use Rattle.std.proofs.Common.{rules, tests, ◌∙◌}
use Rattle.std.proofs.lemmas.Iterator.{YieldsList-from_slice}
use Rattle.std.proofs.lemmas.Iterator.Search.{all_from_yields_List}
use Rattle.std.specs.Prelude.{is_some}
use Rattle.msvc_rules.specs.Rules.{lookup}
use Rattle.msvc_grammar.specs.Letters.{hexadecimal_codes}
use Rattle.msvc_cursor.proofs.Nodes.{all-every}
use Rattle.msvc_productions.proofs.hashed_symbols.are_digits.Goals as goal

pub returns : goal.returns
returns c =
    all_from_yields_List (λ b. is_some (lookup b hexadecimal_codes)) _ _ c.all.result c.all.ensures.ran
    (YieldsList-from_slice c.args.bytes.now cc) (λ x b q k. search (rules, tests))
    ∙ all-every (λ b. is_some (lookup b hexadecimal_codes)) c.args.bytes.now
