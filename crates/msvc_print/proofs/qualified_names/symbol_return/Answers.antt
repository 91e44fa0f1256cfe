use Rattle.std.proofs.Common.{ap, sym, ◌∙◌}
use Rattle.msvc_print.specs.Work.{member_return}
use Rattle.msvc_print.specs.SymbolNodes.{type_or_none}
use Rattle.msvc_print.proofs.qualified_names.symbol_return.Goals as goal

pub returns-in-Some : goal.returns-in-Some
returns-in-Some c = c.function_return.ensures ∙ sym (ap (λ o. member_return (type_or_none o)) c.in-Some.is)

pub returns-in-None : goal.returns-in-None
unfolding member_return
returns-in-None c = sym (ap (λ o. member_return (type_or_none o)) c.in-None.is)
