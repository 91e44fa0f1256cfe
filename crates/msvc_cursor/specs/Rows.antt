-- The lists of the parser after a reader, what a repetition reads behind the elements so far, and views of the nodes
-- that readers store in the arena.
use Rattle.std.specs.Prelude.{List, Option, Some, None, Result, IfOk, ◌≡◌, ◌++◌, drop, length, map, take}
use Rattle.std.specs.Borrow.{Bor}
use Rattle.msvc_nodes.specs.Trees.{NameTree, SymbolTree, TypeTree}
use Rattle.msvc_nodes.specs.NodeView.{name_at, type_at, typed_symbol_of}
use Rattle.msvc_nodes.specs.declared.nodes.Function.{Function}
use Rattle.msvc_nodes.specs.declared.nodes.Symbol.{Symbol}
use Rattle.msvc_nodes.specs.declared.nodes.TypedSymbol.{TypedSymbol}
use Rattle.msvc_nodes.specs.declared.kinds.Convention.{Convention}
use Rattle.msvc_rules.specs.Readers.{Found}
use Rattle.msvc_cursor.specs.Parser.{frame_of}
use Rattle.msvc_cursor.specs.NestedList.{current, enclosing}
use Rattle.msvc_cursor.specs.declared.nested_list.Checkpoint.{Checkpoint}
use Rattle.msvc_cursor.specs.declared.parser.Parser.{Parser}
use Rattle.msvc_cursor.specs.declared.failure.Failed.{Failed}

-- a reader of names leaves them on a new part of the list, and returns the checkpoint that ends that part
abbrev pub ListsNames : {L A : Type 0} {g h : _} → Parser L A g h → Parser L A g h → Result Checkpoint Failed → Type 0
ListsNames before after result =
    IfOk result (λ checkpoint. (checkpoint.from ≡ length (enclosing before.listed_names))
    × (frame_of after
    ≡ record (frame_of before) {
      listed_names = current after.listed_names;
      names_before = enclosing before.listed_names ++ current before.listed_names;
    }))

-- a reader of types leaves them on a new part of the list, and returns the checkpoint that ends that part
abbrev pub ListsTypes : {L A : Type 0} {g h : _} → Parser L A g h → Parser L A g h → Result Checkpoint Failed → Type 0
ListsTypes before after result =
    IfOk result (λ checkpoint. (checkpoint.from ≡ length (enclosing before.listed_types))
    × (frame_of after
    ≡ record (frame_of before) {
      listed_types = current after.listed_types;
      types_before = enclosing before.listed_types ++ current before.listed_types;
    }))

-- a part of the list of names is dropped, and the list is as it was before that part began
abbrev pub EndsNames : {L A : Type 0} {g h : _} {X : Type 0} → Checkpoint → Parser L A g h → Parser L A g h →
    Result X Failed → Type 0
EndsNames checkpoint before after result =
    IfOk result (λ _. frame_of after
    ≡ record (frame_of before) {
      listed_names = drop checkpoint.from (enclosing before.listed_names);
      names_before = take checkpoint.from (enclosing before.listed_names);
    })

-- a part of the list of types is dropped, and the list is as it was before that part began
abbrev pub EndsTypes : {L A : Type 0} {g h : _} {X : Type 0} → Checkpoint → Parser L A g h → Parser L A g h →
    Result X Failed → Type 0
EndsTypes checkpoint before after result =
    IfOk result (λ _. frame_of after
    ≡ record (frame_of before) {
      listed_types = drop checkpoint.from (enclosing before.listed_types);
      types_before = take checkpoint.from (enclosing before.listed_types);
    })

-- elements that stand before those that are read
abbrev pub with_front : {A : Type 0} → List A → Found (List A) → Found (List A)
with_front xs None = None
with_front xs (Some y) = Some (xs ++ y.0, y.1, y.2)

-- a name and its scope
abbrev pub named_at : Bor Symbol → NameTree × List NameTree
named_at n = (name_at n.now.name, map name_at n.now.scope.now)

-- convention, return type and parameters of a function
abbrev pub parts_at : Bor Function → Convention × (TypeTree × List TypeTree)
parts_at f = (f.now.convention, (type_at f.now.returned, map type_at f.now.parameters.now))

-- a symbol with its type
abbrev pub typed_symbol_at : Bor TypedSymbol → SymbolTree
typed_symbol_at w = typed_symbol_of w.now
