use Rattle.std.proofs.Common.{ap, sym, ◌∙◌, rules, ◌≡◌, false, true}
use Rattle.std.proofs.lemmas.Result.{on_ok_weaker}
use Rattle.msvc_print.proofs.Dropped.{function_qualifiers-full, function_qualifiers-kept, function_qualifiers-none}
use Rattle.msvc_print.proofs.Settling.{add_all-none, settled_two}
use Rattle.msvc_print.specs.Flags.{full_style, has, no_this_type}
use Rattle.msvc_print.specs.Functions.{each_function_qualifier, function_qualifiers}
use Rattle.msvc_print.specs.Limited.{add_all}
use Rattle.msvc_print.proofs.function_types.write_function_qualifiers.Goals as goal

-- no bit is set
pub returns-then-is_empty : goal.returns-then-is_empty
returns-then-is_empty g c =
    let none : c.args.qualifiers.0 ≡ 0 = search rules in
    sym (ap (λ set. add_all c.args.out.now (function_qualifiers set c.args.flags.bits)) none
    ∙ ap (add_all c.args.out.now) (function_qualifiers-none c.args.flags.bits) ∙ add_all-none _)

pub returns-then-is_full : goal.returns-then-is_full
returns-then-is_full g c =
    let full : has c.args.flags.bits full_style ≡ true = search rules in
    on_ok_weaker c.write_full_function_qualifiers.result
    (λ last. last ∙ ap (add_all c.args.out.now) (sym (function_qualifiers-full _ _ full)))
    c.write_full_function_qualifiers.ensures

pub returns : goal.returns
unfolding each_function_qualifier
returns g c =
    let plain : has c.args.flags.bits full_style ≡ false = search rules in
    let shown : has c.args.flags.bits no_this_type ≡ false = search rules in
    on_ok_weaker c.write_qualifier-5.result
    (λ last. settled_two _ _ _ _ _ c.in_ok-write_qualifier.ensures
    (settled_two _ _ _ _ _ c.in_ok-write_qualifier-2.ensures
    (settled_two _ _ _ _ _ c.in_ok-write_wide_qualifier.ensures
    (settled_two _ _ _ _ _ c.in_ok-write_qualifier-3.ensures
    (settled_two _ _ _ _ _ c.in_ok-write_qualifier-4.ensures last))))
    ∙ ap (add_all c.args.out.now) (sym (function_qualifiers-kept _ _ plain shown)))
    c.write_qualifier-5.ensures
