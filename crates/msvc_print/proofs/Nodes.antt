-- What steps over nodes cite: what is pushed and written, and how nodes with a list are seen.
use Rattle.msvc_nodes.proofs.NodeViews.{name_of-Template, name_of-Nested, type_of-Tagged, type_of-Function}
use Rattle.msvc_nodes.proofs.NodeViews.{type_of-MemberFunction, type_of-MemberPointer, type_of-Table}
use Rattle.msvc_nodes.proofs.NodeViews.{name_of-Shape, type_of-Shape, types_of-hidden, names_of-hidden}
use Rattle.msvc_print.proofs.Settling.{add_all-none, add_all-first, add_all-append}
use Rattle.msvc_print.proofs.Stack.{finished-push, work-push}

pub ruleset printed = (
  finished-push,
  work-push,
  add_all-none,
  add_all-first,
  add_all-append,
  types_of-hidden,
  names_of-hidden,
  name_of-Template,
  name_of-Nested,
  type_of-Tagged,
  type_of-Function,
  type_of-MemberFunction,
  type_of-MemberPointer,
  type_of-Table,
  name_of-Shape,
  type_of-Shape,
)
