-- A list whose last part is in use.
use Rattle.std.specs.Prelude.{List, drop, take}
use Rattle.msvc_cursor.specs.declared.nested_list.NestedList.{NestedList}

-- the items in use
abbrev pub current : {T A : Type 0} {h : _} → NestedList T A h → List T
current s = drop s.from s.items.items

-- the items before those in use
abbrev pub enclosing : {T A : Type 0} {h : _} → NestedList T A h → List T
enclosing s = take s.from s.items.items
