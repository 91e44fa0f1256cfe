use Rattle.std.proofs.Common.{◌≡◌, ◌++◌, [], ap, sym, ◌∙◌, rules}
use Rattle.std.specs.String.{string_bytes}
use Rattle.msvc_debug.proofs.Items.{rest_text-none}
use Rattle.msvc_debug.proofs.tree.write_tree.Goals as goal

pub items-init : goal.items-init
items-init g c = ap (λ rest. string_bytes c.args.text.now ++ rest)
    (c.in_ok-push_typed_symbol.ensures ∙ rest_text-none _ _ c.new-stack.ensures.items)

pub returns-in_default : goal.returns-in_default
returns-in_default g c =
    let empty : c.items.stack.items ≡ [] = search rules in
    record { text = sym (rest_text-none _ _ empty) ∙ c.items.invariant }
