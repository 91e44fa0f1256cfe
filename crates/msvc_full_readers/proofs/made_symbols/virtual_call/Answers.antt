use Rattle.std.proofs.Common.{rules, ◌≡◌, ◌∙◌, ℕ, ℤ, List, Err, None, Some, refl, subst, sym}
use Rattle.std.specs.Prelude.{codes}
use Rattle.msvc_nodes.specs.NodeView.{type_at, type_of}
use Rattle.msvc_nodes.specs.Trees.{TypeTree, vcall_thunk}
use Rattle.msvc_nodes.specs.declared.kinds.Convention.{Convention}
use Rattle.msvc_rules.specs.Readers.{Found, counting, letter_here}
use Rattle.msvc_rules.specs.Rules.{literal}
use Rattle.msvc_rules.specs.State.{State}
use Rattle.msvc_grammar.specs.Reading.{read}
use Rattle.msvc_full_grammar.specs.Forms.{virtual_call}
use Rattle.msvc_full_grammar.specs.Letters.{conventions}
use Rattle.msvc_full_grammar.specs.Productions.{encoding_after, small_number}
use Rattle.msvc_full_grammar.specs.Reading.{read_name}
use Rattle.msvc_cursor.proofs.Rejecting.{rejects_with}
use Rattle.msvc_cursor.specs.Parser.{Gives, beyond, state_of}
use Rattle.msvc_full_readers.proofs.EncodingSteps.{virtual_call_step}
use Rattle.msvc_full_readers.proofs.made_symbols.virtual_call.Goals as goal

-- what the production reads, by what its parts read
parts : (left l1 l2 l3 l4 : List ℕ) (s s1 s2 s3 s4 : State) (offset : ℤ) (convention : Convention)
    → counting s.count.weight left s ≡ Some (tt, l1, s1)
    → read_name small_number l1 s1 ≡ Some (offset, l2, s2) → read (literal (codes "A")) l2 s2 ≡ Some (tt, l3, s3)
    → letter_here conventions l3 s3 ≡ Some (convention, l4, s4)
    → read_name (encoding_after virtual_call) left s ≡ Some (vcall_thunk offset convention, l4, s4)
parts left l1 l2 l3 l4 s s1 s2 s3 s4 offset convention counted n a c =
    virtual_call_step left s ∙ rw (counted, n, a, c) refl

pub returns-clause-value : goal.returns-clause-value
unfolding type_of
returns-clause-value g c = λ extra.
    let after = c.put_type.new.self in
    let Is : Found TypeTree → Type 0 = λ found.
    Gives extra (λ x. (type_at x, after.rest.now, beyond extra (state_of after))) after.last_error.reason c.put_type.result found in
    let before = c.convention.new.parser in
    let thunk = vcall_thunk c.in_ok-offset.offset c.in_ok-convention.convention in
    let put : Is (Some (thunk, before.rest.now, beyond extra (state_of before))) = search rules in
    subst Is
    (sym (parts _ _ _ _ _ _ _ _ _ _ _ _ (c.in_ok-count_node.ensures.value extra)
    (c.in_ok-offset.ensures.value extra) (c.in_ok-expect.ensures.value extra) (c.in_ok-convention.ensures.value extra)))
    put

-- there is no convention
unconvened : (left l1 l2 l3 : List ℕ) (s s1 s2 s3 : State) (offset : ℤ)
    → counting s.count.weight left s ≡ Some (tt, l1, s1)
    → read_name small_number l1 s1 ≡ Some (offset, l2, s2) → read (literal (codes "A")) l2 s2 ≡ Some (tt, l3, s3)
    → letter_here conventions l3 s3 ≡ None → read_name (encoding_after virtual_call) left s ≡ None
unconvened left l1 l2 l3 s s1 s2 s3 offset counted n a none = virtual_call_step left s ∙ rw (counted, n, a, none) refl

pub returns-in_err-convention-clause-value : goal.returns-in_err-convention-clause-value
returns-in_err-convention-clause-value g c = λ extra.
    let failed : c.from_residual-in_err-convention.result ≡ Err c.in_err-convention.field-0.0 = search rules in
    rw failed
    (rejects_with extra c.convention.new.parser.last_error.reason _ _
    (unconvened _ _ _ _ _ _ _ _ _ (c.in_ok-count_node.ensures.value extra) (c.in_ok-offset.ensures.value extra)
    (c.in_ok-expect.ensures.value extra))
    (c.in_err-convention.ensures.value extra))
