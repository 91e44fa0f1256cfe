-- The texts of lists after their first part.
use Rattle.std.proofs.Common.{◌≡◌, ◌<◌, List, [], ◌∷◌, ◌++◌, length, codes, append_assoc, arith}
use Rattle.std.specs.Borrow.{Bor}
use Rattle.msvc_nodes.specs.NodeView.{name_of, names_in, type_of, types_in}
use Rattle.msvc_nodes.specs.declared.nodes.Name.{Name}
use Rattle.msvc_nodes.specs.declared.nodes.Type.{«Type»}
use Rattle.msvc_debug.specs.TreeText.{name_text, names_text, more_names, type_text, types_text, more_types}

-- the names after the first, if there are some, are a list of names after a comma
pub more_names-some : (ns : List (Bor Name)) → 0 < length ns →
    more_names (names_in ns) ≡ codes ", " ++ names_text (names_in ns)
unfolding more_names names_text
more_names-some [] some = absurd (omega arith)
more_names-some (n ∷ ns) some = append_assoc (codes ", ") (name_text (name_of n.now)) (more_names (names_in ns))

-- and types
pub more_types-some : (ts : List (Bor «Type»)) → 0 < length ts →
    more_types (types_in ts) ≡ codes ", " ++ types_text (types_in ts)
unfolding more_types types_text
more_types-some [] some = absurd (omega arith)
more_types-some (t ∷ ts) some = append_assoc (codes ", ") (type_text (type_of t.now)) (more_types (types_in ts))
