use Rattle.std.proofs.Common.{rules, ℕ, ◌≡◌, ◌∷◌, [], ◌++◌, ◌+◌, ◌<◌, Some, None, List, sym, ap, ◌∙◌, arith}
use Rattle.std.proofs.Common.{Err, Ok, Result, length, drop, refl, subst, take}
use Rattle.std.specs.Prelude.{IfOk}
use Rattle.std.proofs.lemmas.List.{drop_at, take_at}
use Rattle.std.specs.Borrow.{Bor}
use Rattle.std.specs.Prelude.{codes, map, slice_get}
use Rattle.msvc_nodes.specs.Trees.{NameTree, TypeTree, base, pointing}
use Rattle.msvc_nodes.specs.declared.kinds.PointerAffinity.TheVariants as mark_kind
use Rattle.std.specs.Option.{option_map}
use Rattle.msvc_nodes.specs.declared.nodes.Name.{Name}
use Rattle.msvc_nodes.specs.NodeView.{name_at, name_of, type_at, type_of}
use Rattle.msvc_rules.specs.Counts.{name_count, type_count}
use Rattle.msvc_rules.specs.Readers.{and_then, in_node, letter_here, put_apart, type_known, with_value}
use Rattle.msvc_rules.specs.Reads.{emptied, put_back}
use Rattle.msvc_rules.specs.Rules.{after, lookup}
use Rattle.msvc_rules.specs.Sorts.{member_of}
use Rattle.msvc_rules.specs.State.{State}
use Rattle.msvc_grammar.specs.Grammar.{named_symbol, template_inside, template_kept}
use Rattle.msvc_grammar.specs.Letters.{base_types, compound_letters, digits, encoding_letters, function_classes}
use Rattle.msvc_grammar.specs.Letters.{rows_of}
use Rattle.msvc_grammar.specs.Productions.{encoding, encoding_after, nested_name, parameter, parameters, plain_type}
use Rattle.msvc_grammar.specs.Productions.{pointee, qualified_name, scope, type_}
use Rattle.msvc_grammar.specs.Reading.{read, read_name}
use Rattle.msvc_grammar.proofs.Laws.{template_made, type_made}
use Rattle.msvc_cursor.proofs.FunctionSteps.{parameter_step}
use Rattle.msvc_cursor.proofs.NameSteps.{template_kept_step}
use Rattle.msvc_cursor.proofs.Nodes.{frame_names, frame_types, map_last}
use Rattle.msvc_cursor.proofs.Rejecting.{no_letter_beyond, rejects_with}
use Rattle.msvc_cursor.proofs.RowSteps.{parameters_more, scope_ends, scope_more}
use Rattle.msvc_cursor.proofs.SymbolSteps.{encoding_first, member_letter, named_symbol_is, no_member_letter}
use Rattle.msvc_cursor.proofs.Steps.{steps}
use Rattle.msvc_cursor.proofs.SymbolSteps.{encoding_by, encoding_steps, symbol_of}
use Rattle.msvc_cursor.proofs.TypeSteps.{plain_letter, points_step, referred_step, type_by}
use Rattle.msvc_cursor.specs.Parser.{Frame, Rejects, byte_here, frame_of, indexed}
use Rattle.msvc_cursor.specs.Parser.{add_template_name, known_name_of, memorized_of}
use Rattle.msvc_cursor.specs.Parser.{beyond, found_or, parameters_stop, state_of, type_of_letter}
use Rattle.msvc_grammar.specs.declared.forms.TemplateNames.TheVariants.{NotMemorized}
use Rattle.msvc_cursor.specs.Rows.{named_at, with_front}
use Rattle.msvc_cursor.specs.NestedList.{current, enclosing}
use Rattle.msvc_cursor.specs.declared.failure.Failed.{Failed}
use Rattle.msvc_cursor.specs.declared.entries.MemorizedName.{MemorizedName}
use Rattle.msvc_cursor.specs.declared.entries.MemorizedType.{MemorizedType}
use Rattle.msvc_productions.proofs.+readers.Goals as goal

-- a letter that is none of the others is that of a base type, a digit or none
pub types::plain_type-returns-in_default-clause-value : goal.types::plain_type-returns-in_default-clause-value
types::plain_type-returns-in_default-clause-value g t c = λ extra.
    let first : byte_here c.args.parser.now.rest.now (beyond extra (state_of c.args.parser.now))
    ≡ Some (c.in_ok-letter.letter, c.byte.new.self.rest.now, beyond extra (state_of c.byte.new.self)) = (c.in_ok-letter.ensures.value extra) in
    let same : type_by c.args.qualifiers.0 (lookup c.in_ok-letter.letter compound_letters) c.byte.new.self.rest.now
    (beyond extra (state_of c.byte.new.self))
    ≡ and_then (with_value (lookup c.in_ok-letter.letter digits) c.byte.new.self.rest.now (beyond extra (state_of c.byte.new.self)))
    (λ i left s. type_known (slice_get s.types i) left s) = search (rules, referred_step) in
    let read : read_name (plain_type c.args.qualifiers.0) c.args.parser.now.rest.now (beyond extra (state_of c.args.parser.now))
    ≡ type_of_letter c.args.qualifiers.0 c.in_ok-letter.letter c.byte.new.self.rest.now (beyond extra (state_of c.byte.new.self)) =
    plain_letter c.args.qualifiers.0 c.in_ok-letter.letter c.args.parser.now.rest.now c.byte.new.self.rest.now
    (beyond extra (state_of c.args.parser.now)) (beyond extra (state_of c.byte.new.self)) first
    ∙ ap (found_or (option_map (λ b. base b c.args.qualifiers.0) (lookup c.in_ok-letter.letter base_types))
    c.byte.new.self.rest.now (beyond extra (state_of c.byte.new.self))) same in
    rw read (c.type_of_letter.ensures.value extra)

-- a letter that is none of the others is that of a member function or none

pub symbols::encoding-returns-in-Some-function_class-clause-value :
    goal.symbols::encoding-returns-in-Some-function_class-clause-value
symbols::encoding-returns-in-Some-function_class-clause-value g t c = λ extra.
    let first : byte_here c.args.parser.now.rest.now (beyond extra (state_of c.args.parser.now))
    ≡ Some (c.in-Some.letter, c.next_byte.new.self.rest.now, beyond extra (state_of c.next_byte.new.self)) =
    c.in-Some.ensures.value extra in
    let others : encoding_by (lookup c.in-Some.letter encoding_letters) c.next_byte.new.self.rest.now
    (beyond extra (state_of c.next_byte.new.self))
    ≡ encoding_by (lookup c.in-Some.letter (rows_of member_of function_classes [])) c.next_byte.new.self.rest.now
    (beyond extra (state_of c.next_byte.new.self)) = search rules in
    let class : lookup c.in-Some.letter function_classes ≡ Some c.in-Some-function_class.class.0 =
    sym c.in-Some-function_class.ensures in
    let read : read_name encoding c.args.parser.now.rest.now (beyond extra (state_of c.args.parser.now))
    ≡ read_name (encoding_after (member_of c.in-Some-function_class.class.0)) c.next_byte.new.self.rest.now
    (beyond extra (state_of c.next_byte.new.self)) =
    encoding_first c.in-Some.letter c.args.parser.now.rest.now c.next_byte.new.self.rest.now
    (beyond extra (state_of c.args.parser.now)) (beyond extra (state_of c.next_byte.new.self)) first
    ∙ others
    ∙ member_letter c.in-Some.letter c.in-Some-function_class.class.0 c.next_byte.new.self.rest.now
    (beyond extra (state_of c.next_byte.new.self)) class in
    rw read (c.member.ensures.value extra)

pub symbols::encoding-returns-in-None-clause-value : goal.symbols::encoding-returns-in-None-clause-value
symbols::encoding-returns-in-None-clause-value g t c = λ extra.
    let first : byte_here c.args.parser.now.rest.now (beyond extra (state_of c.args.parser.now))
    ≡ Some (c.in-Some.letter, c.next_byte.new.self.rest.now, beyond extra (state_of c.next_byte.new.self)) =
    c.in-Some.ensures.value extra in
    let others : encoding_by (lookup c.in-Some.letter encoding_letters) c.next_byte.new.self.rest.now
    (beyond extra (state_of c.next_byte.new.self))
    ≡ encoding_by (lookup c.in-Some.letter (rows_of member_of function_classes [])) c.next_byte.new.self.rest.now
    (beyond extra (state_of c.next_byte.new.self)) = search rules in
    let none : lookup c.in-Some.letter function_classes ≡ None = sym c.in-None.ensures in
    let read : read_name encoding c.args.parser.now.rest.now (beyond extra (state_of c.args.parser.now)) ≡ None =
    encoding_first c.in-Some.letter c.args.parser.now.rest.now c.next_byte.new.self.rest.now
    (beyond extra (state_of c.args.parser.now)) (beyond extra (state_of c.next_byte.new.self)) first
    ∙ others
    ∙ no_member_letter c.in-Some.letter c.next_byte.new.self.rest.now (beyond extra (state_of c.next_byte.new.self)) none in
    rw c.reject.ensures.last_error read

-- the new one goes after those so far
pub qualified_names::scope-returns-then-consume-clause-value :
    goal.qualified_names::scope-returns-then-consume-clause-value
qualified_names::scope-returns-then-consume-clause-value g t c = λ extra.
    let end = c.consume.new.self in
    let ends : after (codes "@") c.names.parser.rest.now ≡ Some end.rest.now = search rules in
    let same : current c.names.parser.listed_names ≡ current end.listed_names =
    ap (λ (f : Frame _ _). f.listed_names) (sym c.consume.ensures.kept) in
    let state : beyond extra (state_of c.names.parser) ≡ beyond extra (state_of end) =
    ap (beyond extra) (sym c.consume.ensures.state) in
    sym (c.names.invariant.0 extra)
    ∙ scope_ends (map name_at (current c.names.parser.listed_names)) c.names.parser.rest.now end.rest.now
    (beyond extra (state_of c.names.parser)) ends
    ∙ ap (λ ns. Some (map name_at ns, end.rest.now, beyond extra (state_of c.names.parser))) same
    ∙ ap (λ s. Some (map name_at (current end.listed_names), end.rest.now, s)) state

pub qualified_names::scope-names-preserved : goal.qualified_names::scope-names-preserved
qualified_names::scope-names-preserved g t c =
    let kept : frame_of c.nested_name.new.parser ≡ frame_of c.names.parser =
    c.in_ok-name.ensures.consumes.1 ∙ c.consume.ensures.kept in
    let shorter : length c.nested_name.new.parser.rest.now < length c.names.parser.rest.now = search rules in
    let pushed : current c.push.new.self
    ≡ current c.nested_name.new.parser.listed_names ++ c.in_ok-name.name ∷ [] = search rules in
    let around : enclosing c.push.new.self ≡ enclosing c.nested_name.new.parser.listed_names = search rules in
    let items : current c.push.new.self ≡ current c.names.parser.listed_names ++ c.in_ok-name.name ∷ [] =
    pushed ∙ ap (λ (f : Frame _ _). f.listed_names ++ c.in_ok-name.name ∷ []) kept in
    let seen : map name_at (current c.push.new.self)
    ≡ map name_at (current c.names.parser.listed_names) ++ name_at c.in_ok-name.name ∷ [] =
    ap (map name_at) items ∙ map_last name_at (current c.names.parser.listed_names) c.in_ok-name.name in
    let none : after (codes "@") c.names.parser.rest.now ≡ None = search rules in
    let read : (extra : ℕ) → read_name nested_name c.names.parser.rest.now (beyond extra (state_of c.names.parser))
    ≡ Some (name_at c.in_ok-name.name, c.nested_name.new.parser.rest.now, beyond extra (state_of c.nested_name.new.parser)) =
    search rules in (
      λ extra. ap (λ (ns : List NameTree). with_front ns
          (read_name scope c.nested_name.new.parser.rest.now (beyond extra (state_of c.nested_name.new.parser)))) seen
          ∙ sym (scope_more (map name_at (current c.names.parser.listed_names)) c.names.parser.rest.now
          c.nested_name.new.parser.rest.now
          (beyond extra (state_of c.names.parser)) (beyond extra (state_of c.nested_name.new.parser)) (name_at c.in_ok-name.name) none (read extra))
          ∙ c.names.invariant.0 extra,
      omega (arith, shorter, c.names.invariant.1),
      c.names.invariant.2,
      frame_names _ _ _ _ (frame_of c.names.parser) (frame_of c.nested_name.new.parser)
          (record (frame_of c.nested_name.new.parser) {
            listed_names = current c.push.new.self;
            names_before = enclosing c.push.new.self;
          })
          c.in_ok-name.name _
          c.names.invariant.3 kept
          (ap (λ xs. record (frame_of c.nested_name.new.parser) {
            listed_names = xs;
            names_before = enclosing c.push.new.self;
          }) pushed
          ∙ ap (λ xs. record (frame_of c.nested_name.new.parser) {
            listed_names = current c.nested_name.new.parser.listed_names ++ c.in_ok-name.name ∷ [];
            names_before = xs;
          }) around),
    )

-- the new one goes after those so far
pub parameters::parameters-parameters-preserved : goal.parameters::parameters-parameters-preserved
parameters::parameters-parameters-preserved g t c =
    let items : current c.list_type.new.self.listed_types ≡ current c.parameters.parser.listed_types
    ++ c.in_ok-parameter.parameter ∷ [] =
    ap (λ (f : Frame _ _). f.listed_types) c.in_ok-list_type.ensures.kept
    ∙ ap (λ (f : Frame _ _). f.listed_types ++ c.in_ok-parameter.parameter ∷ []) c.in_ok-parameter.ensures.consumes.1 in
    let seen : map type_at (current c.list_type.new.self.listed_types)
    ≡ map type_at (current c.parameters.parser.listed_types) ++ type_at c.in_ok-parameter.parameter ∷ [] =
    ap (map type_at) items ∙ map_last type_at (current c.parameters.parser.listed_types) c.in_ok-parameter.parameter in
    let none : parameters_stop c.parameters.parser.rest.now ≡ None = search rules in
    let read : (extra : ℕ) → read_name parameter c.parameters.parser.rest.now (beyond extra (state_of c.parameters.parser))
    ≡ Some (type_at c.in_ok-parameter.parameter, c.parameter.new.parser.rest.now, beyond extra (state_of c.parameter.new.parser)) =
    c.in_ok-parameter.ensures.value in
    let rest : c.list_type.new.self.rest.now ≡ c.parameter.new.parser.rest.now = c.in_ok-list_type.ensures.rest in
    let state : state_of c.list_type.new.self ≡ state_of c.parameter.new.parser = c.in_ok-list_type.ensures.state in (
      λ extra. ap (λ (ns : List TypeTree). with_front ns (read_name parameters c.list_type.new.self.rest.now
          (beyond extra (state_of c.list_type.new.self))))
          seen
          ∙ ap (λ l. with_front (map type_at (current c.parameters.parser.listed_types)
          ++ type_at c.in_ok-parameter.parameter ∷ [])
          (read_name parameters l (beyond extra (state_of c.list_type.new.self)))) rest
          ∙ ap (λ (s : State). with_front (map type_at (current c.parameters.parser.listed_types)
          ++ type_at c.in_ok-parameter.parameter ∷ [])
          (read_name parameters c.parameter.new.parser.rest.now (beyond extra s))) state
          ∙ sym (parameters_more (map type_at (current c.parameters.parser.listed_types)) c.parameters.parser.rest.now
          c.parameter.new.parser.rest.now (beyond extra (state_of c.parameters.parser)) (beyond extra (state_of c.parameter.new.parser))
          (type_at c.in_ok-parameter.parameter) none (read extra))
          ∙ c.parameters.invariant.0 extra,
      omega (arith, c.in_ok-parameter.ensures.consumes.0, ap length rest, c.parameters.invariant.1),
      c.parameters.invariant.2,
      frame_types _ _ _ _ (frame_of c.parameters.parser) (frame_of c.parameter.new.parser)
          (frame_of c.list_type.new.self) c.in_ok-parameter.parameter _
          c.parameters.invariant.3 c.in_ok-parameter.ensures.consumes.1 c.in_ok-list_type.ensures.kept,
    )

-- a symbol of its name, its scope and its type
pub symbols::named_symbol-returns-clause-value : goal.symbols::named_symbol-returns-clause-value
symbols::named_symbol-returns-clause-value g t c = λ extra.
    let before : NameTree × List NameTree = named_at c.in_ok-named.named in
    let symbol : NameTree × List NameTree = named_at c.in_ok-symbol.symbol in
    let type : TypeTree = type_at c.in_ok-symbol_type.symbol_type in
    let read_first : read_name (qualified_name NotMemorized) c.args.parser.now.rest.now (beyond extra (state_of c.args.parser.now))
    ≡ Some (before, c.qualified_name.new.parser.rest.now, beyond extra (state_of c.qualified_name.new.parser)) = search rules in
    let read_index : indexed before.0 before.1 c.qualified_name.new.parser.rest.now
    (beyond extra (state_of c.qualified_name.new.parser))
    ≡ Some (symbol, c.indexed_symbol.new.parser.rest.now, beyond extra (state_of c.indexed_symbol.new.parser)) = search rules in
    let read_then : read_name encoding c.indexed_symbol.new.parser.rest.now (beyond extra (state_of c.indexed_symbol.new.parser))
    ≡ Some (type, c.encoding.new.parser.rest.now, beyond extra (state_of c.encoding.new.parser)) = search rules in
    let read_all : read named_symbol c.args.parser.now.rest.now (beyond extra (state_of c.args.parser.now))
    ≡ with_value (Some (symbol_of symbol.0 symbol.1 type)) c.encoding.new.parser.rest.now
    (beyond extra (state_of c.encoding.new.parser)) =
    named_symbol_is c.args.parser.now.rest.now c.qualified_name.new.parser.rest.now c.indexed_symbol.new.parser.rest.now
    c.encoding.new.parser.rest.now (beyond extra (state_of c.args.parser.now)) (beyond extra (state_of c.qualified_name.new.parser))
    (beyond extra (state_of c.indexed_symbol.new.parser)) (beyond extra (state_of c.encoding.new.parser)) before.0 symbol.0 before.1 symbol.1 type
    read_first read_index read_then in
    rw read_all (c.put_typed_symbol.ensures.value extra)

-- the tables in use before are in use again after a template
pub qualified_names::template_name-returns-clause-value : goal.qualified_names::template_name-returns-clause-value
qualified_names::template_name-returns-clause-value g t c = λ extra.
    let s : State = beyond extra (state_of c.args.parser.now) in
    let n : NameTree = name_at c.in_ok-template.template in
    let inner : State = beyond extra (state_of c.template.new.parser) in
    let around = c.open_template-saved.ensures.enclosing in
    let entered : record s {
      names = map known_name_of (current c.open_template-saved.new.self.names);
      types = map memorized_of (current c.open_template-saved.new.self.types);
    } ≡ emptied s =
    ap (λ (ns : List (MemorizedName _ _)). record s {
      names = map known_name_of ns;
      types = map memorized_of (current
          c.open_template-saved.new.self.types);
    })
    c.open_template-saved.ensures.current.0
    ∙ ap (λ (es : List (MemorizedType _ _)). record s { names = []; types = map memorized_of es })
    c.open_template-saved.ensures.current.1 in
    let inside : read template_inside c.args.parser.now.rest.now (emptied s)
    ≡ Some (n, c.template.new.parser.rest.now, inner) =
    ap (read template_inside c.args.parser.now.rest.now) (sym entered) ∙ (c.in_ok-template.ensures.value extra) in
    let names : current c.close_template.new.self.names ≡ current c.args.parser.now.tables.names =
    c.close_template.ensures.current.0
    ∙ ap (drop c.open_template-saved.result.names.from)
    (ap (λ (f : Frame _ _). f.names) c.in_ok-template.ensures.consumes.1 ∙ around.0)
    ∙ drop_at (enclosing c.args.parser.now.tables.names) (current c.args.parser.now.tables.names)
    c.open_template-saved.result.names.from
    (sym c.open_template-saved.ensures.place.0) in
    let types : current c.close_template.new.self.types ≡ current c.args.parser.now.tables.types =
    c.close_template.ensures.current.1
    ∙ ap (drop c.open_template-saved.result.types.from)
    (ap (λ (f : Frame _ _). f.types) c.in_ok-template.ensures.consumes.1 ∙ around.1)
    ∙ drop_at (enclosing c.args.parser.now.tables.types) (current c.args.parser.now.tables.types)
    c.open_template-saved.result.types.from
    (sym c.open_template-saved.ensures.place.1) in
    let left : record inner {
      names = map known_name_of (current c.close_template.new.self.names);
      types = map memorized_of (current c.close_template.new.self.types);
    } ≡ put_back s inner =
    ap (λ (ns : List (MemorizedName _ _)). record inner {
      names = map known_name_of ns;
      types = map memorized_of (current
          c.close_template.new.self.types);
    })
    names
    ∙ ap (λ (es : List (MemorizedType _ _)). record inner { names = s.names; types = map memorized_of es }) types in
    let read_all : read (template_kept c.args.templates) c.args.parser.now.rest.now s
    ≡ Some (
      n,
      c.template.new.parser.rest.now,
      add_template_name c.args.templates n (record inner {
        names = map known_name_of (current c.close_template.new.self.names);
        types = map memorized_of (current c.close_template.new.self.types);
      }),
    ) =
    template_kept_step c.args.templates c.args.parser.now.rest.now s
    ∙ ap (λ o. and_then (put_apart s o) (λ m l u. Some (m, l, add_template_name c.args.templates m u)))
    inside
    ∙ ap (λ (u : State). Some (
      n,
      c.template.new.parser.rest.now,
      add_template_name c.args.templates n
          u,
    )) (sym left) in
    rw read_all (c.add_template_name.ensures.value extra)

-- what was counted for a parameter is the number of its nodes

pub parameters::parameter-since-nodes-requires : goal.parameters::parameter-since-nodes-requires
parameters::parameter-since-nodes-requires g t c =
    let made : g.L.NodeBudget.used c.type_.new.parser.limit ≡ g.L.NodeBudget.used c.digit.new.self.limit
    + type_count g.L.NodeBudget.weight (type_at c.in_ok-parameter.parameter) =
    type_made _ _ (beyond 0 (state_of c.digit.new.self)) _ _ (beyond 0 (state_of c.type_.new.parser)) (c.in_ok-parameter.ensures.value 0) in
    omega (arith, made)

pub parameters::parameter-add_type-requires : goal.parameters::parameter-add_type-requires
parameters::parameter-add_type-requires g t c =
    let made : g.L.NodeBudget.used c.type_.new.parser.limit ≡ g.L.NodeBudget.used c.digit.new.self.limit
    + type_count g.L.NodeBudget.weight (type_at c.in_ok-parameter.parameter) =
    type_made _ _ (beyond 0 (state_of c.digit.new.self)) _ _ (beyond 0 (state_of c.type_.new.parser)) (c.in_ok-parameter.ensures.value 0) in
    omega (arith, made, c.since-nodes.ensures)

-- and for a template

pub qualified_names::template_name-since-nodes-requires : goal.qualified_names::template_name-since-nodes-requires
qualified_names::template_name-since-nodes-requires g t c =
    let made : g.L.NodeBudget.used c.template.new.parser.limit ≡ g.L.NodeBudget.used c.args.parser.now.limit
    + name_count g.L.NodeBudget.weight (name_at c.in_ok-template.template) =
    template_made _ _ _ _ (beyond 0 (state_of c.template.new.parser)) (c.in_ok-template.ensures.value 0) in
    omega (arith, made)

pub qualified_names::template_name-add_template_name-requires :
    goal.qualified_names::template_name-add_template_name-requires
qualified_names::template_name-add_template_name-requires g t c =
    let made : g.L.NodeBudget.used c.template.new.parser.limit ≡ g.L.NodeBudget.used c.args.parser.now.limit
    + name_count g.L.NodeBudget.weight (name_at c.in_ok-template.template) =
    template_made _ _ _ _ (beyond 0 (state_of c.template.new.parser)) (c.in_ok-template.ensures.value 0) in
    omega (arith, made, c.since-nodes.ensures)

-- what each step reads, where so many nodes more are allowed

pub function_types::function-returns-clause-value : goal.function_types::function-returns-clause-value
unfolding name_of type_of
function_types::function-returns-clause-value g t c = λ extra.
    let count_node = c.in_ok-count_node.ensures.value extra in
    let f = c.in_ok-f.ensures.value extra in
    let last = c.put_type.ensures.value extra in
    search (rules, steps)

pub function_types::function_type-returns-in_err-returned-clause-value :
    goal.function_types::function_type-returns-in_err-returned-clause-value
unfolding name_of type_of
function_types::function_type-returns-in_err-returned-clause-value g t c = λ extra.
    let count_node = c.in_ok-count_node.ensures.value extra in
    let this_qualifiers = c.this_qualifiers-this_qualifiers.ensures.value extra in
    let convention = c.in_ok-convention.ensures.value extra in
    let returned_qualifiers = c.pointed_return_qualifiers-returned_qualifiers.ensures.value extra in
    let returned = c.in_err-returned.ensures.value extra in
    search (rules, steps)

pub function_types::function_type-returns-in_err-checkpoint-clause-value :
    goal.function_types::function_type-returns-in_err-checkpoint-clause-value
unfolding name_of type_of
function_types::function_type-returns-in_err-checkpoint-clause-value g t c = λ extra.
    let count_node = c.in_ok-count_node.ensures.value extra in
    let this_qualifiers = c.this_qualifiers-this_qualifiers.ensures.value extra in
    let convention = c.in_ok-convention.ensures.value extra in
    let returned_qualifiers = c.pointed_return_qualifiers-returned_qualifiers.ensures.value extra in
    let returned = c.in_ok-returned.ensures.value extra in
    let checkpoint = c.in_err-checkpoint.ensures.value extra in
    search (rules, steps)

pub function_types::function_type-returns-clause-value : goal.function_types::function_type-returns-clause-value
unfolding name_of type_of
function_types::function_type-returns-clause-value g t c = λ extra.
    let count_node = c.in_ok-count_node.ensures.value extra in
    let this_qualifiers = c.this_qualifiers-this_qualifiers.ensures.value extra in
    let convention = c.in_ok-convention.ensures.value extra in
    let returned_qualifiers = c.pointed_return_qualifiers-returned_qualifiers.ensures.value extra in
    let returned = c.in_ok-returned.ensures.value extra in
    let checkpoint = c.in_ok-checkpoint.ensures.value extra in
    let last = c.put_function_type.ensures.value extra in
    search (rules, steps)

pub function_types::member-returns-clause-value : goal.function_types::member-returns-clause-value
unfolding name_of type_of
function_types::member-returns-clause-value g t c = λ extra.
    let count_node = c.in_ok-count_node.ensures.value extra in
    let thunk_number = c.in_ok-thunk_number.ensures.value extra in
    let this_qualifiers = c.this_qualifiers-this_qualifiers.ensures.value extra in
    let f = c.in_ok-f.ensures.value extra in
    let last = c.put_type.ensures.value extra in
    search (rules, steps)

pub function_types::member_returned-returns-then-consume-clause-value :
    goal.function_types::member_returned-returns-then-consume-clause-value
unfolding name_of type_of
function_types::member_returned-returns-then-consume-clause-value g t c = λ extra.
    let last = c.new_plain.ensures.value extra in
    search (rules, steps)

pub guards::numbered_guard-returns-clause-value : goal.guards::numbered_guard-returns-clause-value
unfolding name_of type_of
guards::numbered_guard-returns-clause-value g t c = λ extra.
    let number = c.in_ok-number.ensures.value extra in
    let name = c.in_ok-name.ensures.value extra in
    let checkpoint = c.in_ok-checkpoint.ensures.value extra in
    let last = c.guard_of_number.ensures.value extra in
    search (rules, steps)

pub parameters::function_parameters-returns-then-consume-clause-value :
    goal.parameters::function_parameters-returns-then-consume-clause-value
unfolding name_of type_of
parameters::function_parameters-returns-then-consume-clause-value g t c = λ extra.
    let expect = c.in_ok-expect.ensures.value extra in
    let count_node = c.in_ok-count_node.ensures.value extra in
    let last = c.no_parameters.ensures.value extra in
    search (rules, steps)

pub parameters::parameter-returns-in_err-parameter-clause-value :
    goal.parameters::parameter-returns-in_err-parameter-clause-value
parameters::parameter-returns-in_err-parameter-clause-value g t c = λ extra.
    let old = c.args.parser.now in
    let mid = c.digit.new.self in
    let here : letter_here digits old.rest.now (state_of old) ≡ None = search rules in
    let none : letter_here digits old.rest.now (beyond extra (state_of old)) ≡ None =
    no_letter_beyond extra digits old.rest.now (state_of old) here in
    let rest : mid.rest.now ≡ old.rest.now = search rules in
    let zero : c.empty.result.0 ≡ 0 = search rules in
    let failed : c.from_residual.result ≡ Err c.in_err-parameter.field-0.0 = search rules in
    let At : List ℕ → State → ℕ → Type 0 = λ left s q.
    Rejects extra c.type_.new.parser.last_error.reason (read_name (type_ q) left (beyond extra s)) in
    let read : At old.rest.now (state_of old) 0 =
    subst (At old.rest.now (state_of old)) zero
    (subst (λ s. At old.rest.now s c.empty.result.0) c.digit.ensures.state
    (subst (λ left. At left (state_of mid) c.empty.result.0) rest (c.in_err-parameter.ensures.value extra))) in
    rw failed
    (rejects_with extra c.type_.new.parser.last_error.reason
    (read_name (type_ 0) old.rest.now (beyond extra (state_of old)))
    (read_name parameter old.rest.now (beyond extra (state_of old)))
    (λ no_type. parameter_step old.rest.now (beyond extra (state_of old)) ∙ rw (none, no_type) refl) read)

pub parameters::parameters-returns-in_err-list_ellipsis-clause-value :
    goal.parameters::parameters-returns-in_err-list_ellipsis-clause-value
unfolding name_of type_of
parameters::parameters-returns-in_err-list_ellipsis-clause-value g t c = λ extra.
    let all = c.parameters.invariant.0 extra in
    let list_ellipsis = c.in_err-list_ellipsis.ensures.value extra in
    search (rules, steps)

pub parameters::parameters-returns-in-Some-clause-value :
    goal.parameters::parameters-returns-in-Some-clause-value
unfolding name_of type_of
parameters::parameters-returns-in-Some-clause-value g t c = λ extra.
    let all = c.parameters.invariant.0 extra in
    let list_ellipsis = c.in_ok-list_ellipsis.ensures.value extra in
    search (rules, steps)

pub qualified_names::template_name-returns-in_err-template-clause-value :
    goal.qualified_names::template_name-returns-in_err-template-clause-value
unfolding name_of type_of
qualified_names::template_name-returns-in_err-template-clause-value g t c = λ extra.
    let template = c.in_err-template.ensures.value extra in
    search (rules, steps)

pub special_names::type_descriptor-returns-in_err-described-clause-value :
    goal.special_names::type_descriptor-returns-in_err-described-clause-value
unfolding name_of type_of
special_names::type_descriptor-returns-in_err-described-clause-value g t c = λ extra.
    let count_node = c.in_ok-count_node.ensures.value extra in
    let expect = c.in_ok-expect.ensures.value extra in
    let class = c.optional-class.ensures.value extra in
    let described = c.in_err-described.ensures.value extra in
    search (rules, steps)

pub special_names::type_descriptor-returns-clause-value :
    goal.special_names::type_descriptor-returns-clause-value
unfolding name_of type_of
special_names::type_descriptor-returns-clause-value g t c = λ extra.
    let count_node = c.in_ok-count_node.ensures.value extra in
    let expect = c.in_ok-expect.ensures.value extra in
    let class = c.optional-class.ensures.value extra in
    let described = c.in_ok-described.ensures.value extra in
    let last = c.put_name.ensures.value extra in
    search (rules, steps)

pub symbols::encoding-returns-in_default-clause-value : goal.symbols::encoding-returns-in_default-clause-value
unfolding encoding_by name_of type_of
symbols::encoding-returns-in_default-clause-value g t c = λ extra.
    let in_default = c.in_default.ensures.value extra in
    let last = c.new_plain.ensures.value extra in
    search (rules, encoding_steps)

pub symbols::table-returns-in_err-checkpoint-clause-value :
    goal.symbols::table-returns-in_err-checkpoint-clause-value
unfolding name_of type_of
symbols::table-returns-in_err-checkpoint-clause-value g t c = λ extra.
    let count_node = c.in_ok-count_node.ensures.value extra in
    let class = c.optional-class.ensures.value extra in
    let checkpoint = c.in_err-checkpoint.ensures.value extra in
    search (rules, steps)

pub symbols::table-returns-clause-value : goal.symbols::table-returns-clause-value
unfolding name_of type_of
symbols::table-returns-clause-value g t c = λ extra.
    let count_node = c.in_ok-count_node.ensures.value extra in
    let class = c.optional-class.ensures.value extra in
    let checkpoint = c.in_ok-checkpoint.ensures.value extra in
    let last = c.put_table.ensures.value extra in
    search (rules, steps)

pub symbols::variable-returns-clause-value : goal.symbols::variable-returns-clause-value
unfolding name_of type_of
symbols::variable-returns-clause-value g t c = λ extra.
    let count_node = c.in_ok-count_node.ensures.value extra in
    let variable = c.in_ok-variable.ensures.value extra in
    let class = c.optional-class.ensures.value extra in
    let last = c.put_type.ensures.value extra in
    search (rules, steps)

pub types::array-returns-in_err-class-clause-value : goal.types::array-returns-in_err-class-clause-value
unfolding name_of type_of
types::array-returns-in_err-class-clause-value g t c = λ extra.
    let dimension = c.in_ok-dimension.ensures.value extra in
    let lengths = c.in_ok-lengths.ensures.value extra in
    let class = c.in_err-class.ensures.value extra in
    search (rules, steps)

pub types::array-returns-in_err-element-clause-value : goal.types::array-returns-in_err-element-clause-value
unfolding name_of type_of
types::array-returns-in_err-element-clause-value g t c = λ extra.
    let dimension = c.in_ok-dimension.ensures.value extra in
    let lengths = c.in_ok-lengths.ensures.value extra in
    let class = c.in_ok-class.ensures.value extra in
    let element = c.in_err-element.ensures.value extra in
    search (rules, steps)

pub types::array-returns-clause-value : goal.types::array-returns-clause-value
unfolding name_of type_of
types::array-returns-clause-value g t c = λ extra.
    let dimension = c.in_ok-dimension.ensures.value extra in
    let lengths = c.in_ok-lengths.ensures.value extra in
    let class = c.in_ok-class.ensures.value extra in
    let element = c.in_ok-element.ensures.value extra in
    let last = c.nested_arrays.ensures.value extra in
    search (rules, steps)

pub types::cv_type-returns-clause-value : goal.types::cv_type-returns-clause-value
unfolding name_of type_of
types::cv_type-returns-clause-value g t c = λ extra.
    let qualifiers = c.optional-qualifiers.ensures.value extra in
    let last = c.plain_type.ensures.value extra in
    search (rules, steps)

pub types::pointing_type-returns-in_err-inner-clause-value :
    goal.types::pointing_type-returns-in_err-inner-clause-value
unfolding name_of type_of
types::pointing_type-returns-in_err-inner-clause-value g t c = λ extra.
    let count_node = c.in_ok-count_node.ensures.value extra in
    let size = c.optional_flag-size.ensures.value extra in
    let class = c.optional-class.ensures.value extra in
    let inner = c.in_err-inner.ensures.value extra in
    search (rules, steps)

pub types::pointing_type-returns-clause-value : goal.types::pointing_type-returns-clause-value
unfolding name_of type_of
types::pointing_type-returns-clause-value g t c = λ extra.
    let count_node = c.in_ok-count_node.ensures.value extra in
    let size = c.optional_flag-size.ensures.value extra in
    let class = c.optional-class.ensures.value extra in
    let inner = c.in_ok-inner.ensures.value extra in
    let last = c.put_type.ensures.value extra in
    search (rules, steps)

both_ok : {X : Type 0} (r : Result X Failed) (A B : Type 0) → IfOk r (λ _. A) → IfOk r (λ _. B)
    → IfOk r (λ _. A × B)
both_ok (Ok x) A B a b = (a, b)
both_ok (Err e) A B a b = tt

map_ok : {X : Type 0} (r : Result X Failed) (A B : Type 0) → (A → B) → IfOk r (λ _. A) → IfOk r (λ _. B)
map_ok (Ok x) A B f a = f a
map_ok (Err e) A B f a = tt

-- the end of a list of names that was begun leaves the frame as it was
list_ended : {N E : Type 0} (old listed : Frame N E) (names : List (Bor Name)) (from : ℕ)
    → from ≡ length old.names_before
    → listed ≡ record old { listed_names = names; names_before = old.names_before ++ old.listed_names }
    → record listed {
      listed_names = drop from listed.names_before;
      names_before = take from listed.names_before;
    } ≡ old
list_ended {N} {E} old listed names from begins lists =
    ap (λ (f : Frame N E). record f {
      listed_names = drop from f.names_before;
      names_before = take from f.names_before;
    }) lists
    ∙ ap (λ xs. record old {
      listed_names = xs;
      names_before = take from (old.names_before ++ old.listed_names);
    }) (drop_at old.names_before old.listed_names from (sym begins))
    ∙ ap (λ ys. record old { names_before = ys }) (take_at old.names_before old.listed_names from (sym begins))

pub guards::numbered_guard-returns-clause-consumes : goal.guards::numbered_guard-returns-clause-consumes
guards::numbered_guard-returns-clause-consumes g t c =
    let old = c.args.parser.now in
    let named = c.nested_name.new.parser in
    let scoped = c.scope.new.parser in
    let new = c.guard_of_number.new.parser in
    let r = c.guard_of_number.result in
    let from = c.in_ok-checkpoint.checkpoint.from in
    let lists = c.in_ok-checkpoint.ensures.lists in
    let shorter : IfOk r (λ _. length new.rest.now < length old.rest.now) = search rules in
    let ended : record (frame_of scoped) {
      listed_names = drop from (enclosing scoped.listed_names);
      names_before = take from (enclosing scoped.listed_names);
    } ≡ frame_of old =
    list_ended (frame_of named) (frame_of scoped) (current scoped.listed_names) from lists.0 lists.1
    ∙ c.in_ok-name.ensures.consumes.1
    ∙ c.in_ok-number.ensures.consumes.1 in
    both_ok r (length new.rest.now < length old.rest.now) (frame_of new ≡ frame_of old) shorter
    (map_ok r _ (frame_of new ≡ frame_of old) (λ k. k ∙ ended) c.guard_of_number.ensures.kept)

-- `const` and `volatile` together
pub types::plain_type-returns-in-83-clause-value : goal.types::plain_type-returns-in-83-clause-value
unfolding type_by type_of
types::plain_type-returns-in-83-clause-value g t c = λ extra.
    let q : ℕ = c.args.qualifiers.0 in
    let old = c.args.parser.now in
    let mid = c.byte.new.self in
    let letter : c.in_ok-letter.letter ≡ 83 = search rules in
    let bits : c.union-both.result.0 ≡ 3 = search rules in
    let first : byte_here old.rest.now (beyond extra (state_of old))
    ≡ Some (83, mid.rest.now, beyond extra (state_of mid)) =
    c.in_ok-letter.ensures.value extra ∙ ap (λ b. Some (b, mid.rest.now, beyond extra (state_of mid))) letter in
    let read : read_name (plain_type q) old.rest.now (beyond extra (state_of old))
    ≡ in_node mid.rest.now (beyond extra (state_of mid)) (λ l u. and_then (read_name pointee l u)
    (λ x k v. Some (pointing mark_kind.Pointer x 3, k, v))) =
    plain_letter q 83 old.rest.now mid.rest.now (beyond extra (state_of old)) (beyond extra (state_of mid)) first
    ∙ points_step q mark_kind.Pointer (Some 3) mid.rest.now (beyond extra (state_of mid)) in
    rw read (rw bits at (c.pointing_type-in-83.ensures.value extra))
