use Rattle.std.proofs.Common.{◌≡◌, ap, ◌∙◌}
use Rattle.msvc_nodes.specs.NodeView.{type_of}
use Rattle.msvc_nodes.proofs.NodeViews.{type_of-Shape}
use Rattle.msvc_full_grammar.specs.Forms.{VariableEnd}
use Rattle.msvc_full_grammar.specs.Fragments.{end_of, end_of_row}
use Rattle.msvc_full_grammar.specs.Productions.{variable_end}
use Rattle.msvc_full_grammar.specs.Reading.{read_name}
use Rattle.msvc_cursor.specs.Parser.{beyond, state_of}
use Rattle.msvc_full_readers.proofs.repeated_classes.variable_end.Goals as goal

-- the end of a shape is that of its row
pub returns-in-Shape-clause-value : goal.returns-in-Shape-clause-value
returns-in-Shape-clause-value g c = λ extra.
    let b = c.in-Shape.shape in
    let form : end_of (type_of c.args.variable.now) ≡ end_of_row b.now.row =
    ap (λ x. end_of (type_of x)) c.in-Shape.is ∙ ap end_of (type_of-Shape b) in
    let read : read_name (variable_end (end_of (type_of c.args.variable.now))) c.args.parser.now.rest.now
    (beyond extra (state_of c.args.parser.now))
    ≡ read_name (variable_end (end_of_row b.now.row)) c.args.parser.now.rest.now (beyond extra (state_of c.args.parser.now)) =
    ap (λ (e : VariableEnd). read_name (variable_end e) c.args.parser.now.rest.now (beyond extra (state_of c.args.parser.now))) form in
    rw read (c.end_of_shape.ensures.value extra)
