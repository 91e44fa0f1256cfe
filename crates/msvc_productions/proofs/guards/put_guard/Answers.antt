use Rattle.std.proofs.Common.{rules, List, ◌≡◌, Some, sym, ap, ◌∙◌, of_z, to_z, w32}
use Rattle.std.proofs.lemmas.Int.{to_z-of_z}
use Rattle.std.specs.Prelude.{map}
use Rattle.msvc_nodes.specs.declared.kinds.NumberedType.TheVariants as number_kind
use Rattle.msvc_nodes.specs.Trees.{NameTree, TypeTree, numbered}
use Rattle.msvc_nodes.specs.NodeView.{name_at, type_at, type_of}
use Rattle.msvc_rules.specs.Readers.{and_then}
use Rattle.msvc_cursor.proofs.SymbolSteps.{symbol_of}
use Rattle.msvc_cursor.specs.Parser.{beyond, state_of}
use Rattle.msvc_cursor.specs.Rows.{named_at}
use Rattle.msvc_cursor.specs.NestedList.{current}
use Rattle.msvc_productions.proofs.guards.put_guard.Goals as goal

-- a guard of its number, for a symbol
pub returns-clause-value : goal.returns-clause-value
unfolding type_of
returns-clause-value g c = λ extra.
    let symbol : NameTree × List NameTree = named_at c.in_ok-symbol.symbol in
    let same : to_z w32 (of_z w32 c.args.number) ≡ c.args.number = search (rules, to_z-of_z) in
    let named : Some (
      (name_at c.args.name, map name_at (current c.args.parser.now.listed_names)),
      c.args.parser.now.rest.now,
      beyond extra (state_of c.args.parser.now),
    )
    ≡ Some (symbol, c.put_symbol.new.self.rest.now, beyond extra (state_of c.put_symbol.new.self)) =
    (c.in_ok-symbol.ensures.value extra) in
    let put : Some (
      numbered number_kind.ThreadSafeGuard (to_z w32 (of_z w32 c.args.number)),
      c.put_symbol.new.self.rest.now,
      beyond extra (state_of c.put_symbol.new.self),
    )
    ≡ Some (type_at c.in_ok-symbol_type.symbol_type, c.put_type.new.self.rest.now, beyond extra (state_of c.put_type.new.self)) =
    (c.in_ok-symbol_type.ensures.value extra) in
    let made : Some (
      symbol_of (name_at c.args.name) (map name_at (current c.args.parser.now.listed_names))
          (numbered number_kind.ThreadSafeGuard c.args.number),
      c.args.parser.now.rest.now,
      beyond extra (state_of c.args.parser.now),
    )
    ≡ Some (
      symbol_of symbol.0 symbol.1 (type_at c.in_ok-symbol_type.symbol_type),
      c.put_type.new.self.rest.now,
      beyond extra (state_of c.put_type.new.self),
    ) =
    ap (λ o. and_then o (λ (n : NameTree × List NameTree) l t. Some (
      symbol_of n.0 n.1 (numbered number_kind.ThreadSafeGuard c.args.number),
      l,
      t,
    ))) named
    ∙ ap (λ z. Some (
      symbol_of symbol.0 symbol.1 (numbered number_kind.ThreadSafeGuard z),
      c.put_symbol.new.self.rest.now,
      beyond extra (state_of c.put_symbol.new.self),
    )) (sym same)
    ∙ ap (λ o. and_then o (λ (x : TypeTree) l t. Some (symbol_of symbol.0 symbol.1 x, l, t))) put in
    rw made (c.put_typed_symbol.ensures.value extra)
