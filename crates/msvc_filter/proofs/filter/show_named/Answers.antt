use Rattle.std.proofs.Common.{Some, ap, rules, subst, ◌∙◌}
use Rattle.std.proofs.lemmas.Result.{err_from_is_err_and}
use Rattle.msvc_symbol.specs.Demangled.{IsNamedAsIn}
use Rattle.msvc_symbol.specs.Failures.{IsFailureIn}
use Rattle.msvc_filter.proofs.Showing.{shown-colored, shown-plain, with-without}
use Rattle.msvc_filter.specs.Choices.{chosen}
use Rattle.msvc_filter.specs.Colors.{colored}
use Rattle.msvc_filter.proofs.filter.show_named.Goals as goal

pub returns-in_err-named-clause-fails : goal.returns-in_err-named-clause-fails
returns-in_err-named-clause-fails g c =
    let p = err_from_is_err_and c.from_residual.result c.from_residual.ensures.1 in
    let same = with-without c.args.how.grammar c.args.how.flags.0 c.args.how.left_out in
    rw (p.1, p.2)
    (subst (λ flags. IsFailureIn c.args.how.grammar c.args.limits c.args.input.now flags c.in_err-named.field-0.0) same
    c.in_err-named.ensures.fails)

pub returns-in_ok-replace-clause-shown : goal.returns-in_ok-replace-clause-shown
returns-in_ok-replace-clause-shown g c =
    let how = c.args.how in
    let same = with-without how.grammar how.flags.0 how.left_out in
    let d = subst (λ flags. IsNamedAsIn how.grammar c.args.limits c.args.input.now flags c.in_ok-named.named
    c.declare_named.new.self.text) same c.in_ok-named.ensures.declared in
    shown-colored (chosen how) c.args.limits c.args.input.now c.in_ok-named.named _ _ (search rules) d
    (c.in_ok-replace.ensures.text ∙ ap Some (c.deref.ensures.value ∙ c.in_ok-text.ensures
    ∙ ap (λ text. colored text c.in_ok-named.named.place) (c.declared.ensures _ d.declared.printed)))

pub returns-else-how-clause-shown : goal.returns-else-how-clause-shown
returns-else-how-clause-shown g c =
    let how = c.args.how in
    let same = with-without how.grammar how.flags.0 how.left_out in
    let d = subst (λ flags. IsNamedAsIn how.grammar c.args.limits c.args.input.now flags c.in_ok-named.named
    c.declare_named.new.self.text) same c.in_ok-named.ensures.declared in
    shown-plain (chosen how) c.args.limits c.args.input.now _ _ (search rules) d.declared
