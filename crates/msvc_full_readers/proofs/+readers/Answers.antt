use Rattle.std.proofs.Common.{rules, ℕ, ◌≡◌, ◌∷◌, [], ◌++◌, ◌+◌, ◌<◌, Some, None, List, sym, ap, ◌∙◌, arith}
use Rattle.std.proofs.Common.{Err, Ok, Option, Result, length, drop, refl, subst, take, true, ◌==◌}
use Rattle.std.proofs.lemmas.List.{drop_at, take_at}
use Rattle.std.specs.Prelude.{IfOk, codes, map}
use Rattle.std.specs.Borrow.{Bor}
use Rattle.std.specs.Option.{option_map}
use Rattle.msvc_nodes.specs.Trees.{NameTree, TypeTree, plain}
use Rattle.msvc_nodes.specs.declared.kinds.PlainType.TheVariants as plain_kind
use Rattle.msvc_nodes.specs.NodeView.{name_at, name_of, type_at, type_of}
use Rattle.msvc_nodes.specs.declared.nodes.Name.{Name}
use Rattle.msvc_rules.specs.Counts.{name_count, type_count}
use Rattle.msvc_rules.specs.Readers.{in_node, letter_here, put_apart, with_value}
use Rattle.msvc_rules.specs.Reads.{emptied, put_back}
use Rattle.msvc_rules.specs.Rules.{after, lookup}
use Rattle.msvc_rules.specs.State.{State}
use Rattle.msvc_full_grammar.specs.Fragments.{parameter, template_inside}
use Rattle.msvc_full_grammar.specs.Productions.{encoding, listed, nested_name, one_listed, parameters}
use Rattle.msvc_full_grammar.specs.Letters.{digits, member_qualifiers}
use Rattle.msvc_full_grammar.specs.Productions.{class_symbol, scope, targets, template_name, type_}
use Rattle.msvc_full_grammar.specs.Reading.{read, read_name}
use Rattle.msvc_cursor.specs.Rows.{with_front}
use Rattle.msvc_full_grammar.proofs.Laws.{type_made}
use Rattle.msvc_cursor.proofs.Nodes.{frame_names, frame_types, map_last}
use Rattle.msvc_cursor.proofs.Rejecting.{no_letter_beyond, rejects_with}
use Rattle.msvc_cursor.specs.Parser.{Frame, Rejects, beyond, counting_ellipsis, frame_of, known_name_of, memorized_of, state_of}
use Rattle.msvc_cursor.specs.NestedList.{current, enclosing}
use Rattle.msvc_cursor.specs.declared.failure.Failed.{Failed}
use Rattle.msvc_cursor.specs.declared.entries.MemorizedName.{MemorizedName}
use Rattle.msvc_cursor.specs.declared.entries.MemorizedType.{MemorizedType}
use Rattle.msvc_full_readers.specs.Readings.{parameters_stop}
use Rattle.msvc_full_readers.proofs.Counts.{template_name_made}
use Rattle.msvc_full_readers.proofs.FunctionSteps.{parameter_step, parameters_ended, parameters_more}
use Rattle.msvc_full_readers.proofs.NameSteps.{scope_ends, scope_more, targets_ends, targets_more, template_name_step}
use Rattle.msvc_full_readers.proofs.EncodingSteps.{encoding_at_end}
use Rattle.msvc_full_readers.proofs.Steps.{steps}
use Rattle.msvc_full_readers.proofs.TypeSteps.{listed_end, listed_more}
use Rattle.msvc_full_readers.proofs.+readers.Goals as goal

-- the new one goes after those so far
pub names::scope-returns-then-consume-clause-value : goal.names::scope-returns-then-consume-clause-value
names::scope-returns-then-consume-clause-value g t c = λ extra.
    let end = c.consume.new.self in
    let ends : after (codes "@") c.names.parser.rest.now ≡ Some end.rest.now = search rules in
    let same : current c.names.parser.listed_names ≡ current end.listed_names =
    ap (λ (f : Frame _ _). f.listed_names) (sym c.consume.ensures.kept) in
    let state : beyond extra (state_of c.names.parser) ≡ beyond extra (state_of end) =
    ap (beyond extra) (sym c.consume.ensures.state) in
    sym (c.names.invariant.0 extra)
    ∙ scope_ends (map name_at (current c.names.parser.listed_names)) c.names.parser.rest.now end.rest.now
    (beyond extra (state_of c.names.parser)) ends
    ∙ ap (λ ns. Some (map name_at ns, end.rest.now, beyond extra (state_of c.names.parser))) same
    ∙ ap (λ s. Some (map name_at (current end.listed_names), end.rest.now, s)) state

pub names::scope-names-preserved : goal.names::scope-names-preserved
names::scope-names-preserved g t c =
    let kept : frame_of c.nested_name.new.parser ≡ frame_of c.names.parser =
    c.in_ok-name.ensures.consumes.1 ∙ c.consume.ensures.kept in
    let shorter : length c.nested_name.new.parser.rest.now < length c.names.parser.rest.now = search rules in
    let pushed : current c.push.new.self
    ≡ current c.nested_name.new.parser.listed_names ++ c.in_ok-name.name ∷ [] = search rules in
    let around : enclosing c.push.new.self ≡ enclosing c.nested_name.new.parser.listed_names = search rules in
    let items : current c.push.new.self ≡ current c.names.parser.listed_names ++ c.in_ok-name.name ∷ [] =
    pushed ∙ ap (λ (f : Frame _ _). f.listed_names ++ c.in_ok-name.name ∷ []) kept in
    let seen : map name_at (current c.push.new.self)
    ≡ map name_at (current c.names.parser.listed_names) ++ name_at c.in_ok-name.name ∷ [] =
    ap (map name_at) items ∙ map_last name_at (current c.names.parser.listed_names) c.in_ok-name.name in
    let none : after (codes "@") c.names.parser.rest.now ≡ None = search rules in
    let read : (extra : ℕ) → read_name nested_name c.names.parser.rest.now (beyond extra (state_of c.names.parser))
    ≡ Some (name_at c.in_ok-name.name, c.nested_name.new.parser.rest.now, beyond extra (state_of c.nested_name.new.parser)) =
    search rules in (
      λ extra. ap (λ (ns : List NameTree). with_front ns
          (read_name scope c.nested_name.new.parser.rest.now (beyond extra (state_of c.nested_name.new.parser)))) seen
          ∙ sym (scope_more (map name_at (current c.names.parser.listed_names)) c.names.parser.rest.now
          c.nested_name.new.parser.rest.now
          (beyond extra (state_of c.names.parser)) (beyond extra (state_of c.nested_name.new.parser)) (name_at c.in_ok-name.name) none (read extra))
          ∙ c.names.invariant.0 extra,
      omega (arith, shorter, c.names.invariant.1),
      c.names.invariant.2,
      frame_names _ _ _ _ (frame_of c.names.parser) (frame_of c.nested_name.new.parser)
          (record (frame_of c.nested_name.new.parser) {
            listed_names = current c.push.new.self;
            names_before = enclosing c.push.new.self;
          })
          c.in_ok-name.name _
          c.names.invariant.3 kept
          (ap (λ xs. record (frame_of c.nested_name.new.parser) {
            listed_names = xs;
            names_before = enclosing c.push.new.self;
          }) pushed
          ∙ ap (λ xs. record (frame_of c.nested_name.new.parser) {
            listed_names = current c.nested_name.new.parser.listed_names ++ c.in_ok-name.name ∷ [];
            names_before = xs;
          }) around),
    )

-- the same of the classes that a table is for
pub names::targets-returns-then-consume-clause-value : goal.names::targets-returns-then-consume-clause-value
names::targets-returns-then-consume-clause-value g t c = λ extra.
    let end = c.consume.new.self in
    let ends : after (codes "@") c.names.parser.rest.now ≡ Some end.rest.now = search rules in
    let same : current c.names.parser.listed_names ≡ current end.listed_names =
    ap (λ (f : Frame _ _). f.listed_names) (sym c.consume.ensures.kept) in
    let state : beyond extra (state_of c.names.parser) ≡ beyond extra (state_of end) =
    ap (beyond extra) (sym c.consume.ensures.state) in
    sym (c.names.invariant.0 extra)
    ∙ targets_ends (map name_at (current c.names.parser.listed_names)) c.names.parser.rest.now end.rest.now
    (beyond extra (state_of c.names.parser)) ends
    ∙ ap (λ ns. Some (map name_at ns, end.rest.now, beyond extra (state_of c.names.parser))) same
    ∙ ap (λ s. Some (map name_at (current end.listed_names), end.rest.now, s)) state

pub names::targets-names-preserved : goal.names::targets-names-preserved
names::targets-names-preserved g t c =
    let kept : frame_of c.class_symbol.new.parser ≡ frame_of c.names.parser =
    c.in_ok-name.ensures.consumes.1 ∙ c.consume.ensures.kept in
    let shorter : length c.class_symbol.new.parser.rest.now < length c.names.parser.rest.now = search rules in
    let pushed : current c.push.new.self
    ≡ current c.class_symbol.new.parser.listed_names ++ c.in_ok-name.name ∷ [] = search rules in
    let around : enclosing c.push.new.self ≡ enclosing c.class_symbol.new.parser.listed_names = search rules in
    let items : current c.push.new.self ≡ current c.names.parser.listed_names ++ c.in_ok-name.name ∷ [] =
    pushed ∙ ap (λ (f : Frame _ _). f.listed_names ++ c.in_ok-name.name ∷ []) kept in
    let seen : map name_at (current c.push.new.self)
    ≡ map name_at (current c.names.parser.listed_names) ++ name_at c.in_ok-name.name ∷ [] =
    ap (map name_at) items ∙ map_last name_at (current c.names.parser.listed_names) c.in_ok-name.name in
    let none : after (codes "@") c.names.parser.rest.now ≡ None = search rules in
    let read : (extra : ℕ) → read_name class_symbol c.names.parser.rest.now (beyond extra (state_of c.names.parser))
    ≡ Some (name_at c.in_ok-name.name, c.class_symbol.new.parser.rest.now, beyond extra (state_of c.class_symbol.new.parser)) =
    search rules in (
      λ extra. ap (λ (ns : List NameTree). with_front ns
          (read_name targets c.class_symbol.new.parser.rest.now (beyond extra (state_of c.class_symbol.new.parser)))) seen
          ∙ sym (targets_more (map name_at (current c.names.parser.listed_names)) c.names.parser.rest.now
          c.class_symbol.new.parser.rest.now
          (beyond extra (state_of c.names.parser)) (beyond extra (state_of c.class_symbol.new.parser)) (name_at c.in_ok-name.name) none (read extra))
          ∙ c.names.invariant.0 extra,
      omega (arith, shorter, c.names.invariant.1),
      c.names.invariant.2,
      frame_names _ _ _ _ (frame_of c.names.parser) (frame_of c.class_symbol.new.parser)
          (record (frame_of c.class_symbol.new.parser) {
            listed_names = current c.push.new.self;
            names_before = enclosing c.push.new.self;
          })
          c.in_ok-name.name _
          c.names.invariant.3 kept
          (ap (λ xs. record (frame_of c.class_symbol.new.parser) {
            listed_names = xs;
            names_before = enclosing c.push.new.self;
          }) pushed
          ∙ ap (λ xs. record (frame_of c.class_symbol.new.parser) {
            listed_names = current c.class_symbol.new.parser.listed_names ++ c.in_ok-name.name ∷ [];
            names_before = xs;
          }) around),
    )

-- the new one goes after those so far
pub parameters::parameters-parameters-preserved : goal.parameters::parameters-parameters-preserved
parameters::parameters-parameters-preserved g t c =
    let items : current c.list_type.new.self.listed_types ≡ current c.parameters.parser.listed_types
    ++ c.in_ok-parameter.parameter ∷ [] =
    ap (λ (f : Frame _ _). f.listed_types) c.in_ok-list_type.ensures.kept
    ∙ ap (λ (f : Frame _ _). f.listed_types ++ c.in_ok-parameter.parameter ∷ []) c.in_ok-parameter.ensures.consumes.1 in
    let seen : map type_at (current c.list_type.new.self.listed_types)
    ≡ map type_at (current c.parameters.parser.listed_types) ++ type_at c.in_ok-parameter.parameter ∷ [] =
    ap (map type_at) items ∙ map_last type_at (current c.parameters.parser.listed_types) c.in_ok-parameter.parameter in
    let none : parameters_stop c.parameters.parser.rest.now ≡ None = search rules in
    let read : (extra : ℕ) → read parameter c.parameters.parser.rest.now (beyond extra (state_of c.parameters.parser))
    ≡ Some (type_at c.in_ok-parameter.parameter, c.parameter.new.parser.rest.now, beyond extra (state_of c.parameter.new.parser)) =
    c.in_ok-parameter.ensures.value in
    let rest : c.list_type.new.self.rest.now ≡ c.parameter.new.parser.rest.now = c.in_ok-list_type.ensures.rest in
    let state : state_of c.list_type.new.self ≡ state_of c.parameter.new.parser = c.in_ok-list_type.ensures.state in (
      λ extra. ap (λ (ns : List TypeTree). with_front ns (read_name parameters c.list_type.new.self.rest.now
          (beyond extra (state_of c.list_type.new.self))))
          seen
          ∙ ap (λ l. with_front (map type_at (current c.parameters.parser.listed_types)
          ++ type_at c.in_ok-parameter.parameter ∷ [])
          (read_name parameters l (beyond extra (state_of c.list_type.new.self)))) rest
          ∙ ap (λ (s : State). with_front (map type_at (current c.parameters.parser.listed_types)
          ++ type_at c.in_ok-parameter.parameter ∷ [])
          (read_name parameters c.parameter.new.parser.rest.now (beyond extra s))) state
          ∙ sym (parameters_more (map type_at (current c.parameters.parser.listed_types)) c.parameters.parser.rest.now
          c.parameter.new.parser.rest.now (beyond extra (state_of c.parameters.parser)) (beyond extra (state_of c.parameter.new.parser))
          (type_at c.in_ok-parameter.parameter) none (read extra))
          ∙ c.parameters.invariant.0 extra,
      omega (arith, c.in_ok-parameter.ensures.consumes.0, ap length rest, c.parameters.invariant.1),
      frame_types _ _ _ _ (frame_of c.parameters.parser) (frame_of c.parameter.new.parser)
          (frame_of c.list_type.new.self) c.in_ok-parameter.parameter _
          c.parameters.invariant.2 c.in_ok-parameter.ensures.consumes.1 c.in_ok-list_type.ensures.kept,
    )

-- the same of arguments

pub arguments::listed-returns-then-consume-clause-value : goal.arguments::listed-returns-then-consume-clause-value
arguments::listed-returns-then-consume-clause-value g t c = λ extra.
    let end = c.consume.new.self in
    let ends : after (codes "@") c.listed.parser.rest.now ≡ Some end.rest.now = search rules in
    let same : current c.listed.parser.listed_types ≡ current end.listed_types =
    ap (λ (f : Frame _ _). f.listed_types) (sym c.consume.ensures.kept) in
    let state : beyond extra (state_of c.listed.parser) ≡ beyond extra (state_of end) =
    ap (beyond extra) (sym c.consume.ensures.state) in
    sym (c.listed.invariant.0 extra)
    ∙ listed_end c.args.kind (map type_at (current c.listed.parser.listed_types)) c.listed.parser.rest.now end.rest.now
    (beyond extra (state_of c.listed.parser)) ends
    ∙ ap (λ ts. Some (map type_at ts, end.rest.now, beyond extra (state_of c.listed.parser))) same
    ∙ ap (λ s. Some (map type_at (current end.listed_types), end.rest.now, s)) state

pub arguments::listed-listed-preserved : goal.arguments::listed-listed-preserved
arguments::listed-listed-preserved g t c =
    let kept : frame_of c.one_listed.new.parser ≡ frame_of c.listed.parser =
    c.in_ok-one.ensures.consumes.1 ∙ c.consume.ensures.kept in
    let shorter : length c.one_listed.new.parser.rest.now < length c.listed.parser.rest.now = search rules in
    let items : current c.list_type.new.self.listed_types ≡ current c.listed.parser.listed_types
    ++ c.in_ok-one.one ∷ [] =
    ap (λ (f : Frame _ _). f.listed_types) c.in_ok-list_type.ensures.kept
    ∙ ap (λ (f : Frame _ _). f.listed_types ++ c.in_ok-one.one ∷ []) kept in
    let seen : map type_at (current c.list_type.new.self.listed_types)
    ≡ map type_at (current c.listed.parser.listed_types) ++ type_at c.in_ok-one.one ∷ [] =
    ap (map type_at) items ∙ map_last type_at (current c.listed.parser.listed_types) c.in_ok-one.one in
    let none : after (codes "@") c.listed.parser.rest.now ≡ None = search rules in
    let read : (extra : ℕ) → read_name (one_listed c.args.kind) c.listed.parser.rest.now (beyond extra (state_of c.listed.parser))
    ≡ Some (type_at c.in_ok-one.one, c.one_listed.new.parser.rest.now, beyond extra (state_of c.one_listed.new.parser)) =
    search rules in
    let rest : c.list_type.new.self.rest.now ≡ c.one_listed.new.parser.rest.now = c.in_ok-list_type.ensures.rest in
    let state : state_of c.list_type.new.self ≡ state_of c.one_listed.new.parser = c.in_ok-list_type.ensures.state in (
      λ extra. ap (λ (ns : List TypeTree). with_front ns (read_name (listed c.args.kind) c.list_type.new.self.rest.now
          (beyond extra (state_of c.list_type.new.self))))
          seen
          ∙ ap (λ l. with_front (map type_at (current c.listed.parser.listed_types)
          ++ type_at c.in_ok-one.one ∷ [])
          (read_name (listed c.args.kind) l (beyond extra (state_of c.list_type.new.self)))) rest
          ∙ ap (λ (s : State). with_front (map type_at (current c.listed.parser.listed_types)
          ++ type_at c.in_ok-one.one ∷ [])
          (read_name (listed c.args.kind) c.one_listed.new.parser.rest.now (beyond extra s))) state
          ∙ sym (listed_more c.args.kind (map type_at (current c.listed.parser.listed_types)) c.listed.parser.rest.now
          c.one_listed.new.parser.rest.now (beyond extra (state_of c.listed.parser)) (beyond extra (state_of c.one_listed.new.parser))
          (type_at c.in_ok-one.one) none (read extra))
          ∙ c.listed.invariant.0 extra,
      omega (arith, shorter, ap length rest, c.listed.invariant.1),
      c.listed.invariant.2,
      frame_types _ _ _ _ (frame_of c.listed.parser) (frame_of c.one_listed.new.parser)
          (frame_of c.list_type.new.self) c.in_ok-one.one _
          c.listed.invariant.3 kept c.in_ok-list_type.ensures.kept,
    )

-- the tables in use before are in use again after a template
pub names::template_name-returns-clause-value : goal.names::template_name-returns-clause-value
names::template_name-returns-clause-value g t c = λ extra.
    let s : State = beyond extra (state_of c.args.parser.now) in
    let n : NameTree = name_at c.in_ok-template.template in
    let inner : State = beyond extra (state_of c.template.new.parser) in
    let around = c.open_template-saved.ensures.enclosing in
    let entered : record s {
      names = map known_name_of (current c.open_template-saved.new.self.names);
      types = map memorized_of (current c.open_template-saved.new.self.types);
    } ≡ emptied s =
    ap (λ (ns : List (MemorizedName _ _)). record s {
      names = map known_name_of ns;
      types = map memorized_of (current
          c.open_template-saved.new.self.types);
    })
    c.open_template-saved.ensures.current.0
    ∙ ap (λ (es : List (MemorizedType _ _)). record s { names = []; types = map memorized_of es })
    c.open_template-saved.ensures.current.1 in
    let inside : read template_inside c.args.parser.now.rest.now (emptied s)
    ≡ Some (n, c.template.new.parser.rest.now, inner) =
    ap (read template_inside c.args.parser.now.rest.now) (sym entered) ∙ (c.in_ok-template.ensures.value extra) in
    let names : current c.close_template.new.self.names ≡ current c.args.parser.now.tables.names =
    c.close_template.ensures.current.0
    ∙ ap (drop c.open_template-saved.result.names.from)
    (ap (λ (f : Frame _ _). f.names) c.in_ok-template.ensures.consumes.1 ∙ around.0)
    ∙ drop_at (enclosing c.args.parser.now.tables.names) (current c.args.parser.now.tables.names)
    c.open_template-saved.result.names.from
    (sym c.open_template-saved.ensures.place.0) in
    let types : current c.close_template.new.self.types ≡ current c.args.parser.now.tables.types =
    c.close_template.ensures.current.1
    ∙ ap (drop c.open_template-saved.result.types.from)
    (ap (λ (f : Frame _ _). f.types) c.in_ok-template.ensures.consumes.1 ∙ around.1)
    ∙ drop_at (enclosing c.args.parser.now.tables.types) (current c.args.parser.now.tables.types)
    c.open_template-saved.result.types.from
    (sym c.open_template-saved.ensures.place.1) in
    let left : record inner {
      names = map known_name_of (current c.close_template.new.self.names);
      types = map memorized_of (current c.close_template.new.self.types);
    } ≡ put_back s inner =
    ap (λ (ns : List (MemorizedName _ _)). record inner {
      names = map known_name_of ns;
      types = map memorized_of (current
          c.close_template.new.self.types);
    })
    names
    ∙ ap (λ (es : List (MemorizedType _ _)). record inner { names = s.names; types = map memorized_of es }) types in
    template_name_step c.args.parser.now.rest.now s
    ∙ ap (put_apart s) inside
    ∙ ap (λ (u : State). Some (n, c.template.new.parser.rest.now, u)) (sym left)

-- what was counted for a parameter is the number of its nodes

pub parameters::parameter-since-nodes-requires : goal.parameters::parameter-since-nodes-requires
parameters::parameter-since-nodes-requires g t c =
    let made : g.L.NodeBudget.used c.type_.new.parser.limit ≡ g.L.NodeBudget.used c.digit.new.self.limit
    + type_count g.L.NodeBudget.weight (type_at c.in_ok-parameter.parameter) =
    type_made _ _ (beyond 0 (state_of c.digit.new.self)) _ _ (beyond 0 (state_of c.type_.new.parser)) (c.in_ok-parameter.ensures.value 0) in
    omega (arith, made)

pub parameters::parameter-add_type-requires : goal.parameters::parameter-add_type-requires
parameters::parameter-add_type-requires g t c =
    let made : g.L.NodeBudget.used c.type_.new.parser.limit ≡ g.L.NodeBudget.used c.digit.new.self.limit
    + type_count g.L.NodeBudget.weight (type_at c.in_ok-parameter.parameter) =
    type_made _ _ (beyond 0 (state_of c.digit.new.self)) _ _ (beyond 0 (state_of c.type_.new.parser)) (c.in_ok-parameter.ensures.value 0) in
    omega (arith, made, c.since-nodes.ensures)

-- and for a template

pub names::new_template-since-nodes-requires : goal.names::new_template-since-nodes-requires
names::new_template-since-nodes-requires g t c =
    let made : g.L.NodeBudget.used c.template_name.new.parser.limit ≡ g.L.NodeBudget.used c.args.parser.now.limit
    + name_count g.L.NodeBudget.weight (name_at c.in_ok-template.template) =
    template_name_made _ _ _ _ (beyond 0 (state_of c.template_name.new.parser)) (c.in_ok-template.ensures.value 0) in
    omega (arith, made)

pub names::new_template-add_name-requires : goal.names::new_template-add_name-requires
names::new_template-add_name-requires g t c =
    let made : g.L.NodeBudget.used c.template_name.new.parser.limit ≡ g.L.NodeBudget.used c.args.parser.now.limit
    + name_count g.L.NodeBudget.weight (name_at c.in_ok-template.template) =
    template_name_made _ _ _ _ (beyond 0 (state_of c.template_name.new.parser)) (c.in_ok-template.ensures.value 0) in
    omega (arith, made, c.since-nodes.ensures)

pub symbols::template_symbol-since-nodes-requires : goal.symbols::template_symbol-since-nodes-requires
symbols::template_symbol-since-nodes-requires g t c =
    let made : g.L.NodeBudget.used c.template_name.new.parser.limit ≡ g.L.NodeBudget.used c.args.parser.now.limit
    + name_count g.L.NodeBudget.weight (name_at c.in_ok-name.name) =
    template_name_made _ _ _ _ (beyond 0 (state_of c.template_name.new.parser)) (c.in_ok-name.ensures.value 0) in
    omega (arith, made)

pub symbols::template_symbol-add_variable_name-requires : goal.symbols::template_symbol-add_variable_name-requires
symbols::template_symbol-add_variable_name-requires g t c =
    let made : g.L.NodeBudget.used c.template_name.new.parser.limit ≡ g.L.NodeBudget.used c.args.parser.now.limit
    + name_count g.L.NodeBudget.weight (name_at c.in_ok-name.name) =
    template_name_made _ _ _ _ (beyond 0 (state_of c.template_name.new.parser)) (c.in_ok-name.ensures.value 0) in
    omega (arith, made, c.since-nodes.ensures)

pub symbols::stubbed_template-since-nodes-requires : goal.symbols::stubbed_template-since-nodes-requires
symbols::stubbed_template-since-nodes-requires g t c =
    let made : g.L.NodeBudget.used c.template_name.new.parser.limit ≡ g.L.NodeBudget.used c.args.parser.now.limit
    + name_count g.L.NodeBudget.weight (name_at c.in_ok-name.name) =
    template_name_made _ _ _ _ (beyond 0 (state_of c.template_name.new.parser)) (c.in_ok-name.ensures.value 0) in
    omega (arith, made)

pub symbols::stubbed_template-add_variable_name-requires :
    goal.symbols::stubbed_template-add_variable_name-requires
symbols::stubbed_template-add_variable_name-requires g t c =
    let made : g.L.NodeBudget.used c.template_name.new.parser.limit ≡ g.L.NodeBudget.used c.args.parser.now.limit
    + name_count g.L.NodeBudget.weight (name_at c.in_ok-name.name) =
    template_name_made _ _ _ _ (beyond 0 (state_of c.template_name.new.parser)) (c.in_ok-name.ensures.value 0) in
    omega (arith, made, c.since-nodes.ensures)

-- at the end of the text there is no type
pub symbols::encoding-returns-then-is_empty-clause-value : goal.symbols::encoding-returns-then-is_empty-clause-value
symbols::encoding-returns-then-is_empty-clause-value g t c = λ extra.
    let empty : (length c.args.parser.now.rest.now == 0) ≡ true = sym c.if-is_empty.ensures in
    let read : read_name encoding c.args.parser.now.rest.now (beyond extra (state_of c.args.parser.now))
    ≡ in_node c.args.parser.now.rest.now (beyond extra (state_of c.args.parser.now)) (λ l u. Some (plain plain_kind.None, l, u)) =
    encoding_at_end c.args.parser.now.rest.now (beyond extra (state_of c.args.parser.now)) empty in
    rw read (c.new_plain.ensures.value extra)

-- the parameters end, and an ellipsis may be last
pub parameters::parameters-returns-in-Some-clause-value : goal.parameters::parameters-returns-in-Some-clause-value
parameters::parameters-returns-in-Some-clause-value g t c = λ extra.
    let end = c.list_ellipsis.new.self in
    let stop : parameters_stop c.parameters.parser.rest.now ≡ Some (c.in-Some.ellipsis, c.in-Some.rest.now) =
    sym c.in-Some.ensures.value in
    let counted : counting_ellipsis c.in-Some.ellipsis c.in-Some.rest.now (beyond extra (state_of c.parameters.parser))
    ≡ Some (tt {0}, end.rest.now, beyond extra (state_of end)) = (c.in_ok-list_ellipsis.ensures.value extra) in
    sym (c.parameters.invariant.0 extra)
    ∙ parameters_ended (map type_at (current c.parameters.parser.listed_types)) c.parameters.parser.rest.now
    c.in-Some.rest.now end.rest.now c.in-Some.ellipsis (beyond extra (state_of c.parameters.parser)) (beyond extra (state_of end)) stop counted
    ∙ ap (λ (ts : List TypeTree). Some (ts, end.rest.now, beyond extra (state_of end))) (sym c.in_ok-list_ellipsis.ensures.seen)

-- a letter of a table is one, however many nodes more are allowed
letter_beyond : {A : Type 0} (extra : ℕ) (table : List (ℕ × A)) (left rest : List ℕ) (s u : State) (x : A)
    → letter_here table left s ≡ Some (x, rest, u) → letter_here table left (beyond extra s) ≡ Some (x, rest, beyond extra u)
letter_beyond {A} extra table [] rest s u x e = absurd (cc)
letter_beyond {A} extra table (b ∷ bs) rest s u x e = go (lookup b table) e
  where
    go : (o : Option A) → with_value o bs s ≡ Some (x, rest, u)
        → with_value o bs (beyond extra s) ≡ Some (x, rest, beyond extra u)
    go None h = absurd (cc)
    go (Some y) h = ap (option_map (λ (r : A × List ℕ × State). (r.0, r.1, beyond extra r.2))) h

-- what each step reads, where so many nodes more are allowed

pub arguments::one_listed-returns-in-Some-value_behind-clause-value :
    goal.arguments::one_listed-returns-in-Some-value_behind-clause-value
unfolding name_of type_of
arguments::one_listed-returns-in-Some-value_behind-clause-value g t c = λ extra.
    let last = c.no_value.ensures.value extra in
    search (rules, steps)

pub functions::function_type-returns-clause-value : goal.functions::function_type-returns-clause-value
unfolding name_of type_of
functions::function_type-returns-clause-value g t c = λ extra.
    let count_node = c.in_ok-count_node.ensures.value extra in
    let f = c.in_ok-f.ensures.value extra in
    let last = c.put_type.ensures.value extra in
    search (rules, steps)

pub functions::member_function-returns-clause-value : goal.functions::member_function-returns-clause-value
unfolding name_of type_of
functions::member_function-returns-clause-value g t c = λ extra.
    let count_node = c.in_ok-count_node.ensures.value extra in
    let f = c.in_ok-f.ensures.value extra in
    let last = c.put_type.ensures.value extra in
    search (rules, steps)

pub functions::result_type-returns-in_err-qualifiers-clause-value :
    goal.functions::result_type-returns-in_err-qualifiers-clause-value
unfolding name_of type_of
functions::result_type-returns-in_err-qualifiers-clause-value g t c = λ extra.
    let qualifiers = c.in_err-qualifiers.ensures.value extra in
    search (rules, steps)

pub functions::returned-returns-then-consume-clause-value :
    goal.functions::returned-returns-then-consume-clause-value
unfolding name_of type_of
functions::returned-returns-then-consume-clause-value g t c = λ extra.
    let last = c.new_plain.ensures.value extra in
    search (rules, steps)

pub functions::signature-returns-in_err-convention-clause-value :
    goal.functions::signature-returns-in_err-convention-clause-value
unfolding name_of type_of
functions::signature-returns-in_err-convention-clause-value g t c = λ extra.
    let qualifiers = c.in_ok-qualifiers.ensures.value extra in
    let convention = c.in_err-convention.ensures.value extra in
    search (rules, steps)

pub functions::signature-returns-in_err-returned-clause-value :
    goal.functions::signature-returns-in_err-returned-clause-value
unfolding name_of type_of
functions::signature-returns-in_err-returned-clause-value g t c = λ extra.
    let qualifiers = c.in_ok-qualifiers.ensures.value extra in
    let convention = c.in_ok-convention.ensures.value extra in
    let returned = c.in_err-returned.ensures.value extra in
    search (rules, steps)

pub functions::signature-returns-in_err-checkpoint-clause-value :
    goal.functions::signature-returns-in_err-checkpoint-clause-value
unfolding name_of type_of
functions::signature-returns-in_err-checkpoint-clause-value g t c = λ extra.
    let qualifiers = c.in_ok-qualifiers.ensures.value extra in
    let convention = c.in_ok-convention.ensures.value extra in
    let returned = c.in_ok-returned.ensures.value extra in
    let checkpoint = c.in_err-checkpoint.ensures.value extra in
    search (rules, steps)

pub functions::signature-returns-clause-value : goal.functions::signature-returns-clause-value
unfolding name_of type_of
functions::signature-returns-clause-value g t c = λ extra.
    let qualifiers = c.in_ok-qualifiers.ensures.value extra in
    let convention = c.in_ok-convention.ensures.value extra in
    let returned = c.in_ok-returned.ensures.value extra in
    let checkpoint = c.in_ok-checkpoint.ensures.value extra in
    let last = c.put_signature.ensures.value extra in
    search (rules, steps)

pub names::template_name-returns-in_err-template-clause-value :
    goal.names::template_name-returns-in_err-template-clause-value
unfolding name_of type_of
names::template_name-returns-in_err-template-clause-value g t c = λ extra.
    let template = c.in_err-template.ensures.value extra in
    search (rules, steps)

pub parameters::explicit_parameters-returns-in_err-first-clause-value :
    goal.parameters::explicit_parameters-returns-in_err-first-clause-value
unfolding name_of type_of
parameters::explicit_parameters-returns-in_err-first-clause-value g t c = λ extra.
    let count_node = c.in_ok-count_node.ensures.value extra in
    let first = c.in_err-first.ensures.value extra in
    search (rules, steps)

pub parameters::explicit_parameters-returns-in_err-this-clause-value :
    goal.parameters::explicit_parameters-returns-in_err-this-clause-value
unfolding name_of type_of
parameters::explicit_parameters-returns-in_err-this-clause-value g t c = λ extra.
    let count_node = c.in_ok-count_node.ensures.value extra in
    let first = c.in_ok-first.ensures.value extra in
    let this = c.in_err-this.ensures.value extra in
    search (rules, steps)

pub parameters::explicit_parameters-returns-in_err-parameters-clause-value :
    goal.parameters::explicit_parameters-returns-in_err-parameters-clause-value
unfolding name_of type_of
parameters::explicit_parameters-returns-in_err-parameters-clause-value g t c = λ extra.
    let count_node = c.in_ok-count_node.ensures.value extra in
    let first = c.in_ok-first.ensures.value extra in
    let this = c.in_ok-this.ensures.value extra in
    let parameters = c.in_err-parameters.ensures.value extra in
    search (rules, steps)

pub parameters::explicit_parameters-returns-clause-value :
    goal.parameters::explicit_parameters-returns-clause-value
unfolding name_of type_of
parameters::explicit_parameters-returns-clause-value g t c = λ extra.
    let count_node = c.in_ok-count_node.ensures.value extra in
    let first = c.in_ok-first.ensures.value extra in
    let this = c.in_ok-this.ensures.value extra in
    let parameters = c.in_ok-parameters.ensures.value extra in
    search (rules, steps)

pub parameters::function_parameters-returns-then-consume-clause-value :
    goal.parameters::function_parameters-returns-then-consume-clause-value
unfolding name_of type_of
parameters::function_parameters-returns-then-consume-clause-value g t c = λ extra.
    let count_node = c.in_ok-count_node.ensures.value extra in
    let last = c.no_parameters.ensures.value extra in
    search (rules, steps)

pub parameters::parameters-returns-in_err-list_ellipsis-clause-value :
    goal.parameters::parameters-returns-in_err-list_ellipsis-clause-value
unfolding name_of type_of
parameters::parameters-returns-in_err-list_ellipsis-clause-value g t c = λ extra.
    let all = c.parameters.invariant.0 extra in
    let list_ellipsis = c.in_err-list_ellipsis.ensures.value extra in
    search (rules, steps)

pub parameters::parameters-returns-in_err-parameter-clause-value :
    goal.parameters::parameters-returns-in_err-parameter-clause-value
unfolding name_of type_of
parameters::parameters-returns-in_err-parameter-clause-value g t c = λ extra.
    let all = c.parameters.invariant.0 extra in
    let parameter = c.in_err-parameter.ensures.value extra in
    search (rules, steps)

pub pointers::numbered_managed-returns-in_err-class-clause-value :
    goal.pointers::numbered_managed-returns-in_err-class-clause-value
unfolding name_of type_of
pointers::numbered_managed-returns-in_err-class-clause-value g t c = λ extra.
    let begun = c.consume.new.self in
    let counted = c.digit.new.self in
    let digit : letter_here digits begun.rest.now (beyond extra (state_of begun))
    ≡ Some (c.in-Some.digit, counted.rest.now, beyond extra (state_of counted)) =
    letter_beyond extra digits begun.rest.now counted.rest.now (state_of begun) (state_of counted) c.in-Some.digit
    (sym c.in-Some.ensures.value) in
    let class = c.in_err-class.ensures.value extra in
    search (rules, steps)

pub pointers::numbered_managed-returns-in_err-element-clause-value :
    goal.pointers::numbered_managed-returns-in_err-element-clause-value
unfolding name_of type_of
pointers::numbered_managed-returns-in_err-element-clause-value g t c = λ extra.
    let begun = c.consume.new.self in
    let counted = c.digit.new.self in
    let digit : letter_here digits begun.rest.now (beyond extra (state_of begun))
    ≡ Some (c.in-Some.digit, counted.rest.now, beyond extra (state_of counted)) =
    letter_beyond extra digits begun.rest.now counted.rest.now (state_of begun) (state_of counted) c.in-Some.digit
    (sym c.in-Some.ensures.value) in
    let class = c.in_ok-class.ensures.value extra in
    let element = c.in_err-element.ensures.value extra in
    search (rules, steps)

pub pointers::numbered_managed-returns-clause-value : goal.pointers::numbered_managed-returns-clause-value
unfolding name_of type_of
pointers::numbered_managed-returns-clause-value g t c = λ extra.
    let class = c.in_ok-class.ensures.value extra in
    let element = c.in_ok-element.ensures.value extra in
    let last = c.put_numbered_outer.ensures.value extra in
    search (rules, steps)

pub pointers::pointed-returns-then-consume-clause-value :
    goal.pointers::pointed-returns-then-consume-clause-value
unfolding name_of type_of
pointers::pointed-returns-then-consume-clause-value g t c = λ extra.
    let last = c.managed.ensures.value extra in
    search (rules, steps)

pub pointers::pointed-returns-clause-value : goal.pointers::pointed-returns-clause-value
unfolding name_of type_of
pointers::pointed-returns-clause-value g t c = λ extra.
    let last = c.pointed_type.ensures.value extra in
    search (rules, steps)

pub pointers::reference-returns-clause-value : goal.pointers::reference-returns-clause-value
unfolding name_of type_of
pointers::reference-returns-clause-value g t c = λ extra.
    let count_node = c.in_ok-count_node.ensures.value extra in
    let marks = c.marks-marks.ensures.value extra in
    let last = c.pointed.ensures.value extra in
    search (rules, steps)

pub symbols::guard_symbol-returns-in_err-symbol_type-clause-value :
    goal.symbols::guard_symbol-returns-in_err-symbol_type-clause-value
unfolding name_of type_of
symbols::guard_symbol-returns-in_err-symbol_type-clause-value g t c = λ extra.
    let checkpoint = c.in_ok-checkpoint.ensures.value extra in
    let name = c.in_ok-name.ensures.value extra in
    let symbol = c.in_ok-symbol.ensures.value extra in
    let symbol_type = c.in_err-symbol_type.ensures.value extra in
    search (rules, steps)

pub symbols::guard_symbol-returns-clause-value : goal.symbols::guard_symbol-returns-clause-value
unfolding name_of type_of
symbols::guard_symbol-returns-clause-value g t c = λ extra.
    let checkpoint = c.in_ok-checkpoint.ensures.value extra in
    let name = c.in_ok-name.ensures.value extra in
    let symbol = c.in_ok-symbol.ensures.value extra in
    let symbol_type = c.in_ok-symbol_type.ensures.value extra in
    let last = c.put_typed_symbol.ensures.value extra in
    search (rules, steps)

pub symbols::object_symbol-returns-in_err-name-clause-value :
    goal.symbols::object_symbol-returns-in_err-name-clause-value
unfolding name_of type_of
symbols::object_symbol-returns-in_err-name-clause-value g t c = λ extra.
    let count_node = c.in_ok-count_node.ensures.value extra in
    let value = c.in_ok-value.ensures.value extra in
    let expect = c.in_ok-expect.ensures.value extra in
    let name = c.in_err-name.ensures.value extra in
    search (rules, steps)

pub symbols::object_symbol-returns-in_err-count_node-2-clause-value :
    goal.symbols::object_symbol-returns-in_err-count_node-2-clause-value
unfolding name_of type_of
symbols::object_symbol-returns-in_err-count_node-2-clause-value g t c = λ extra.
    let count_node = c.in_ok-count_node.ensures.value extra in
    let value = c.in_ok-value.ensures.value extra in
    let expect = c.in_ok-expect.ensures.value extra in
    let name = c.in_ok-name.ensures.value extra in
    let count_node_2 = c.in_err-count_node-2.ensures.value extra in
    search (rules, steps)

pub symbols::object_symbol-returns-clause-value : goal.symbols::object_symbol-returns-clause-value
unfolding name_of type_of
symbols::object_symbol-returns-clause-value g t c = λ extra.
    let count_node = c.in_ok-count_node.ensures.value extra in
    let value = c.in_ok-value.ensures.value extra in
    let expect = c.in_ok-expect.ensures.value extra in
    let name = c.in_ok-name.ensures.value extra in
    let count_node_2 = c.in_ok-count_node-2.ensures.value extra in
    let last = c.untyped_symbol.ensures.value extra in
    search (rules, steps)

pub symbols::operator_symbol-returns-clause-value : goal.symbols::operator_symbol-returns-clause-value
unfolding name_of type_of
symbols::operator_symbol-returns-clause-value g t c = λ extra.
    let name = c.in_ok-name.ensures.value extra in
    let checkpoint = c.in_ok-checkpoint.ensures.value extra in
    let symbol = c.in_ok-symbol.ensures.value extra in
    let symbol_type = c.in_ok-symbol_type.ensures.value extra in
    let last = c.put_typed_symbol.ensures.value extra in
    search (rules, steps)

pub symbols::stub_symbol-returns-in_err-name-clause-value :
    goal.symbols::stub_symbol-returns-in_err-name-clause-value
unfolding name_of type_of
symbols::stub_symbol-returns-in_err-name-clause-value g t c = λ extra.
    let count_node = c.in_ok-count_node.ensures.value extra in
    let count_node_2 = c.in_ok-count_node-2.ensures.value extra in
    let stubbed = c.in_ok-stubbed.ensures.value extra in
    let name = c.in_err-name.ensures.value extra in
    search (rules, steps)

pub symbols::stub_symbol-returns-in_err-symbol_type-clause-value :
    goal.symbols::stub_symbol-returns-in_err-symbol_type-clause-value
unfolding name_of type_of
symbols::stub_symbol-returns-in_err-symbol_type-clause-value g t c = λ extra.
    let count_node = c.in_ok-count_node.ensures.value extra in
    let count_node_2 = c.in_ok-count_node-2.ensures.value extra in
    let stubbed = c.in_ok-stubbed.ensures.value extra in
    let name = c.in_ok-name.ensures.value extra in
    let symbol_type = c.in_err-symbol_type.ensures.value extra in
    search (rules, steps)

pub symbols::stub_symbol-returns-clause-value : goal.symbols::stub_symbol-returns-clause-value
unfolding name_of type_of
symbols::stub_symbol-returns-clause-value g t c = λ extra.
    let count_node = c.in_ok-count_node.ensures.value extra in
    let count_node_2 = c.in_ok-count_node-2.ensures.value extra in
    let stubbed = c.in_ok-stubbed.ensures.value extra in
    let name = c.in_ok-name.ensures.value extra in
    let symbol_type = c.in_ok-symbol_type.ensures.value extra in
    let last = c.put_unscoped.ensures.value extra in
    search (rules, steps)

pub symbols::stubbed_template-returns-clause-value : goal.symbols::stubbed_template-returns-clause-value
unfolding name_of type_of
symbols::stubbed_template-returns-clause-value g t c = λ extra.
    let name = c.in_ok-name.ensures.value extra in
    let checkpoint = c.in_ok-checkpoint.ensures.value extra in
    let symbol = c.in_ok-symbol.ensures.value extra in
    let add_variable_name = c.in_ok-add_variable_name.ensures.value extra in
    let symbol_type = c.in_ok-symbol_type.ensures.value extra in
    let last = c.put_typed_symbol.ensures.value extra in
    search (rules, steps)

pub symbols::template_symbol-returns-clause-value : goal.symbols::template_symbol-returns-clause-value
unfolding name_of type_of
symbols::template_symbol-returns-clause-value g t c = λ extra.
    let name = c.in_ok-name.ensures.value extra in
    let checkpoint = c.in_ok-checkpoint.ensures.value extra in
    let symbol = c.in_ok-symbol.ensures.value extra in
    let add_variable_name = c.in_ok-add_variable_name.ensures.value extra in
    let symbol_type = c.in_ok-symbol_type.ensures.value extra in
    let last = c.put_typed_symbol.ensures.value extra in
    search (rules, steps)

pub symbols::table-returns-in_err-qualifiers-clause-value :
    goal.symbols::table-returns-in_err-qualifiers-clause-value
unfolding name_of type_of
symbols::table-returns-in_err-qualifiers-clause-value g t c = λ extra.
    let count_node = c.in_ok-count_node.ensures.value extra in
    let qualifiers = c.in_err-qualifiers.ensures.value extra in
    search (rules, steps)

pub symbols::table-returns-in_err-checkpoint-clause-value :
    goal.symbols::table-returns-in_err-checkpoint-clause-value
unfolding name_of type_of
symbols::table-returns-in_err-checkpoint-clause-value g t c = λ extra.
    let count_node = c.in_ok-count_node.ensures.value extra in
    let qualifiers = c.in_ok-qualifiers.ensures.value extra in
    let checkpoint = c.in_err-checkpoint.ensures.value extra in
    search (rules, steps)

pub symbols::table-returns-clause-value : goal.symbols::table-returns-clause-value
unfolding name_of type_of
symbols::table-returns-clause-value g t c = λ extra.
    let count_node = c.in_ok-count_node.ensures.value extra in
    let qualifiers = c.in_ok-qualifiers.ensures.value extra in
    let checkpoint = c.in_ok-checkpoint.ensures.value extra in
    let last = c.put_table.ensures.value extra in
    search (rules, steps)

pub types::qualified_type-returns-in_err-more-clause-value :
    goal.types::qualified_type-returns-in_err-more-clause-value
unfolding name_of type_of
types::qualified_type-returns-in_err-more-clause-value g t c = λ extra.
    let more = c.in_err-more.ensures.value extra in
    search (rules, steps)

pub types::qualified_type-returns-clause-value : goal.types::qualified_type-returns-clause-value
unfolding name_of type_of
types::qualified_type-returns-clause-value g t c = λ extra.
    let more = c.in_ok-more.ensures.value extra in
    let last = c.type_.ensures.value extra in
    search (rules, steps)

pub functions::result_type-returns-then-consume-clause-value :
    goal.functions::result_type-returns-then-consume-clause-value
unfolding name_of type_of
functions::result_type-returns-then-consume-clause-value g t c = λ extra.
    let qualifiers = c.in_ok-qualifiers.ensures.value extra in
    let last = c.type_.ensures.value extra in
    search (rules, steps)

pub pointers::numbered_managed-returns-in_default-clause-value :
    goal.pointers::numbered_managed-returns-in_default-clause-value
unfolding name_of type_of
pointers::numbered_managed-returns-in_default-clause-value g t c = λ extra.
    let begun = c.consume.new.self in
    let here : letter_here digits begun.rest.now (state_of begun) ≡ None = search rules in
    let none : letter_here digits begun.rest.now (beyond extra (state_of begun)) ≡ None =
    no_letter_beyond extra digits begun.rest.now (state_of begun) here in
    let last = c.no_managed-in_default.ensures.value extra in
    search (rules, steps)

pub pointers::pointer-returns-clause-value : goal.pointers::pointer-returns-clause-value
unfolding name_of type_of
pointers::pointer-returns-clause-value g t c = λ extra.
    let count_node = c.in_ok-count_node.ensures.value extra in
    let marks = c.marks-marks.ensures.value extra in
    let marked = c.marks-marks.new.parser in
    let here : letter_here member_qualifiers marked.rest.now (state_of marked) ≡ None = search rules in
    let none : letter_here member_qualifiers marked.rest.now (beyond extra (state_of marked)) ≡ None =
    no_letter_beyond extra member_qualifiers marked.rest.now (state_of marked) here in
    let last = c.pointed.ensures.value extra in
    search (rules, steps)

-- a type is rejected where no digit stands
pub parameters::parameter-returns-in_err-parameter-clause-value :
    goal.parameters::parameter-returns-in_err-parameter-clause-value
parameters::parameter-returns-in_err-parameter-clause-value g t c = λ extra.
    let old = c.args.parser.now in
    let mid = c.digit.new.self in
    let here : letter_here digits old.rest.now (state_of old) ≡ None = search rules in
    let none : letter_here digits old.rest.now (beyond extra (state_of old)) ≡ None =
    no_letter_beyond extra digits old.rest.now (state_of old) here in
    let rest : mid.rest.now ≡ old.rest.now = search rules in
    let zero : c.empty.result.0 ≡ 0 = search rules in
    let failed : c.from_residual.result ≡ Err c.in_err-parameter.field-0.0 = search rules in
    let At : List ℕ → State → ℕ → Type 0 = λ left s q.
    Rejects extra c.type_.new.parser.last_error.reason (read_name (type_ q) left (beyond extra s)) in
    let read_type : At old.rest.now (state_of old) 0 =
    subst (At old.rest.now (state_of old)) zero
    (subst (λ s. At old.rest.now s c.empty.result.0) c.digit.ensures.state
    (subst (λ left. At left (state_of mid) c.empty.result.0) rest (c.in_err-parameter.ensures.value extra))) in
    rw failed
    (rejects_with extra c.type_.new.parser.last_error.reason
    (read_name (type_ 0) old.rest.now (beyond extra (state_of old)))
    (read parameter old.rest.now (beyond extra (state_of old)))
    (λ no_type. parameter_step old.rest.now (beyond extra (state_of old)) ∙ rw (none, no_type) refl) read_type)

-- the list of the names of a scope ends before a symbol is stored

map_ok : {X : Type 0} (r : Result X Failed) (A B : Type 0) → (A → B) → IfOk r (λ _. A) → IfOk r (λ _. B)
map_ok (Ok x) A B f a = f a
map_ok (Err e) A B f a = tt

-- a frame whose last list of names ends
abbrev ended : {N E : Type 0} → ℕ → Frame N E → Frame N E
ended from f = record f {
  listed_names = drop from f.names_before;
  names_before = take from f.names_before;
}

list_ended : {N E : Type 0} (old filled : Frame N E) (ns : List (Bor Name)) (from : ℕ)
    → from ≡ length old.names_before
    → filled ≡ record old { listed_names = ns; names_before = old.names_before ++ old.listed_names }
    → ended from filled ≡ old
list_ended {N} {E} old filled ns from begins lists =
    ap (ended from) lists
    ∙ ap (λ xs. record old {
      listed_names = xs;
      names_before = take from (old.names_before ++ old.listed_names);
    }) (drop_at old.names_before old.listed_names from (sym begins))
    ∙ ap (λ ys. record old { names_before = ys }) (take_at old.names_before old.listed_names from (sym begins))

pub symbols::guard_symbol-returns-clause-consumes : goal.symbols::guard_symbol-returns-clause-consumes
symbols::guard_symbol-returns-clause-consumes g t c =
    let old = c.args.parser.now in
    let scoped = c.scope.new.parser in
    let new = c.put_typed_symbol.new.self in
    let from = c.in_ok-checkpoint.checkpoint.from in
    let lists = c.in_ok-checkpoint.ensures.lists in
    map_ok c.put_typed_symbol.result ((new.rest.now ≡ c.new_plain.new.self.rest.now)
    × (frame_of new ≡ frame_of c.new_plain.new.self)) _
    (λ stays. (
      omega (
        arith,
        c.in_ok-checkpoint.ensures.shorter,
        c.in_ok-name.ensures.consumes.0,
        ap length c.in_ok-symbol.ensures.rest,
        ap length c.in_ok-symbol_type.ensures.stays.0,
        ap length stays.0,
      ),
      stays.1
          ∙ c.in_ok-symbol_type.ensures.stays.1
          ∙ c.in_ok-symbol.ensures.kept
          ∙ ap (ended from) c.in_ok-name.ensures.consumes.1
          ∙ list_ended (frame_of old) (frame_of scoped) (current scoped.listed_names) from lists.0 lists.1,
    ))
    c.put_typed_symbol.ensures.stays

pub symbols::operator_symbol-returns-clause-consumes : goal.symbols::operator_symbol-returns-clause-consumes
symbols::operator_symbol-returns-clause-consumes g t c =
    let named = c.operator_name.new.parser in
    let scoped = c.scope.new.parser in
    let new = c.put_typed_symbol.new.self in
    let from = c.in_ok-checkpoint.checkpoint.from in
    let lists = c.in_ok-checkpoint.ensures.lists in
    map_ok c.put_typed_symbol.result ((new.rest.now ≡ c.encoding.new.parser.rest.now)
    × (frame_of new ≡ frame_of c.encoding.new.parser)) _
    (λ stays. (
      omega (
        arith,
        c.in_ok-checkpoint.ensures.shorter,
        c.in_ok-name.ensures.consumes.0,
        ap length c.in_ok-symbol.ensures.rest,
        c.in_ok-symbol_type.ensures.consumes.0,
        ap length stays.0,
      ),
      stays.1
          ∙ c.in_ok-symbol_type.ensures.consumes.1
          ∙ c.in_ok-symbol.ensures.kept
          ∙ list_ended (frame_of named) (frame_of scoped) (current scoped.listed_names) from lists.0 lists.1
          ∙ c.in_ok-name.ensures.consumes.1,
    ))
    c.put_typed_symbol.ensures.stays

pub symbols::template_symbol-returns-clause-consumes : goal.symbols::template_symbol-returns-clause-consumes
symbols::template_symbol-returns-clause-consumes g t c =
    let named = c.template_name.new.parser in
    let scoped = c.scope.new.parser in
    let new = c.put_typed_symbol.new.self in
    let from = c.in_ok-checkpoint.checkpoint.from in
    let lists = c.in_ok-checkpoint.ensures.lists in
    map_ok c.put_typed_symbol.result ((new.rest.now ≡ c.encoding.new.parser.rest.now)
    × (frame_of new ≡ frame_of c.encoding.new.parser)) _
    (λ stays. (
      omega (
        arith,
        c.in_ok-checkpoint.ensures.shorter,
        c.in_ok-name.ensures.consumes.0,
        ap length c.in_ok-symbol.ensures.rest,
        ap length c.in_ok-add_variable_name.ensures.stays.0,
        c.in_ok-symbol_type.ensures.consumes.0,
        ap length stays.0,
      ),
      stays.1
          ∙ c.in_ok-symbol_type.ensures.consumes.1
          ∙ c.in_ok-add_variable_name.ensures.stays.1
          ∙ c.in_ok-symbol.ensures.kept
          ∙ list_ended (frame_of named) (frame_of scoped) (current scoped.listed_names) from lists.0 lists.1
          ∙ c.in_ok-name.ensures.consumes.1,
    ))
    c.put_typed_symbol.ensures.stays

pub symbols::stubbed_template-returns-clause-consumes : goal.symbols::stubbed_template-returns-clause-consumes
symbols::stubbed_template-returns-clause-consumes g t c =
    let named = c.template_name.new.parser in
    let scoped = c.scope.new.parser in
    let new = c.put_typed_symbol.new.self in
    let from = c.in_ok-checkpoint.checkpoint.from in
    let lists = c.in_ok-checkpoint.ensures.lists in
    map_ok c.put_typed_symbol.result ((new.rest.now ≡ c.variable_or_none.new.parser.rest.now)
    × (frame_of new ≡ frame_of c.variable_or_none.new.parser)) _
    (λ stays. (
      omega (
        arith,
        c.in_ok-checkpoint.ensures.shorter,
        c.in_ok-name.ensures.consumes.0,
        ap length c.in_ok-symbol.ensures.rest,
        ap length c.in_ok-add_variable_name.ensures.stays.0,
        c.in_ok-symbol_type.ensures.consumes.0,
        ap length stays.0,
      ),
      stays.1
          ∙ c.in_ok-symbol_type.ensures.consumes.1
          ∙ c.in_ok-add_variable_name.ensures.stays.1
          ∙ c.in_ok-symbol.ensures.kept
          ∙ list_ended (frame_of named) (frame_of scoped) (current scoped.listed_names) from lists.0 lists.1
          ∙ c.in_ok-name.ensures.consumes.1,
    ))
    c.put_typed_symbol.ensures.stays
