use Rattle.std.proofs.Common.{rules, ◌≡◌, ◌∙◌, ℕ, ℤ, List, Some, refl, subst, sym}
use Rattle.std.specs.Prelude.{codes}
use Rattle.msvc_nodes.specs.NodeView.{type_at, type_of}
use Rattle.msvc_nodes.specs.Trees.{TypeTree, vcall_thunk}
use Rattle.msvc_nodes.specs.declared.kinds.Convention.{Convention}
use Rattle.msvc_rules.specs.Readers.{Found, counting, letter_here}
use Rattle.msvc_rules.specs.Rules.{literal}
use Rattle.msvc_rules.specs.Sorts.{virtual_call}
use Rattle.msvc_rules.specs.State.{State}
use Rattle.msvc_grammar.specs.Letters.{conventions}
use Rattle.msvc_grammar.specs.Productions.{encoding_after, number}
use Rattle.msvc_grammar.specs.Reading.{read, read_name}
use Rattle.msvc_cursor.proofs.SymbolSteps.{virtual_call_step}
use Rattle.msvc_cursor.specs.Parser.{Gives, beyond, state_of}
use Rattle.msvc_productions.proofs.symbols.virtual_call.Goals as goal

-- what the production reads, by what its parts read
parts : (left l1 l2 l3 l4 l5 : List ℕ) (s s1 s2 s3 s4 s5 : State) (offset : ℤ) (convention : Convention)
    → counting s.count.weight left s ≡ Some (tt, l1, s1) → read (literal (codes "B")) l1 s1 ≡ Some (tt, l2, s2)
    → read_name number l2 s2 ≡ Some (offset, l3, s3) → read (literal (codes "A")) l3 s3 ≡ Some (tt, l4, s4)
    → letter_here conventions l4 s4 ≡ Some (convention, l5, s5)
    → read_name (encoding_after virtual_call) left s ≡ Some (vcall_thunk offset convention, l5, s5)
parts left l1 l2 l3 l4 l5 s s1 s2 s3 s4 s5 offset convention counted b n a c =
    virtual_call_step left s ∙ rw (counted, b, n, a, c) refl

pub returns-clause-value : goal.returns-clause-value
unfolding type_of
returns-clause-value g c = λ extra.
    let after = c.put_type.new.self in
    let Is : Found TypeTree → Type 0 = λ found.
    Gives extra (λ x. (type_at x, after.rest.now, beyond extra (state_of after))) after.last_error.reason c.put_type.result found in
    let before = c.convention.new.parser in
    let thunk = vcall_thunk c.in_ok-offset.offset c.in_ok-convention.convention in
    let put : Is (Some (thunk, before.rest.now, beyond extra (state_of before))) = search rules in
    subst Is
    (sym (parts _ _ _ _ _ _ _ _ _ _ _ _ _ _ (c.in_ok-count_node.ensures.value extra) (c.in_ok-expect.ensures.value extra)
    (c.in_ok-offset.ensures.value extra) (c.in_ok-expect-2.ensures.value extra) (c.in_ok-convention.ensures.value extra)))
    put
