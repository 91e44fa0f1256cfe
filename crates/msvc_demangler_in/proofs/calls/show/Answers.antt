use Rattle.std.proofs.Common.{subst}
use Rattle.msvc_demangler.specs.GrammarNames.{Grammar}
use Rattle.msvc_c_calls.proofs.Found.{not_read_for}
use Rattle.msvc_demangler_in.proofs.Listed.{lost_tree, tree_shown}
use Rattle.msvc_demangler_in.specs.Shown.{IsShown, not_shown}
use Rattle.msvc_demangler_in.proofs.calls.show.Goals as goal

pub returns-in_default : goal.returns-in_default
returns-in_default c =
    lost_tree _ _ c.args.symbol.now _ _ _ _ _ c.utf8.symbol c.out_of_memory.ensures.result
    c.out_of_memory.ensures.written

pub returns-in-Ok : goal.returns-in-Ok
returns-in-Ok c =
    let found = c.write_tree_of.ensures in
    let read = c.in-Ok.ensures.read in
    let result = c.write_tree_of.result in
    let In : Grammar → Type 0 = λ g. IsShown g c.args.limits c.args.symbol.now result.status result.offset found.0 in (
      found.0,
      subst In c.grammar_of.ensures
          (tree_shown c.grammar_of.result _ c.args.symbol.now _ _ _ found.0 c.utf8.symbol read.parsed read.within
          found.1),
      found.2,
      found.3,
    )

pub returns : goal.returns
returns c =
    let found = c.write_reason.ensures in
    let result = c.write_reason.result in
    let In : Grammar → Type 0 = λ g. IsShown g c.args.limits c.args.symbol.now result.status result.offset found.0 in (
      found.0,
      subst In c.grammar_of.ensures
          (not_shown
          (not_read_for c.grammar_of.result _ c.args.symbol.now _ _ c.in-Err.failure found.0 c.utf8.symbol
          c.in-Err.ensures.fails found.1)),
      found.2,
      found.3,
    )
