-- The pieces of names of operators, and the kinds of names that print otherwise as the name of a symbol itself.
use Rattle.std.specs.Prelude.{ℕ, ℤ, List, [], ◌∷◌, ◌++◌, Option, Some, None, false, cond, codes, if◌then◌else◌}
use Rattle.std.specs.Fmt.{decimal, signed_decimal}
use denote.Enum.Bare.{sameb}
use Rattle.msvc_nodes.specs.PlainOperators.{OperatorRow, basic_operators, under_operators, double_under_operators}
use Rattle.msvc_nodes.specs.PlainOperators.{type_information_operators}
use Rattle.msvc_nodes.specs.Trees.{NameTree, operator, template}
use Rattle.msvc_nodes.specs.contracts.kinds.PlainOperator.{the_type as operators}
use Rattle.msvc_nodes.specs.declared.kinds.Guard.{Guard}
use Rattle.msvc_nodes.specs.declared.kinds.Guard.TheVariants as guard_kind
use Rattle.msvc_nodes.specs.declared.kinds.PlainOperator.{PlainOperator}
use Rattle.msvc_nodes.specs.declared.kinds.PlainOperator.TheVariants as plain_operator
use Rattle.msvc_print.specs.Flags.{full_style, has}
use Rattle.msvc_print.specs.Functions.{separator}
use Rattle.msvc_print.specs.Pieces.{Piece, text, space}
use Rattle.msvc_print.specs.Words.{name_space}
use Rattle.msvc_print.specs.declared.operators.NameKind.{NameKind}
use Rattle.msvc_print.specs.declared.operators.NameKind.TheVariants as name_kinds
use Rattle.msvc_print.specs.declared.spaces.Space.TheVariants.{AfterPointer}

-- the words in the row of an operator in a table
abbrev pub words_in : PlainOperator → List OperatorRow → List ℕ
words_in o [] = []
words_in o (row ∷ table) = if sameb operators o row.1 then row.2 else words_in o table

-- the words of an operator
unfoldable pub operator_word : PlainOperator → List ℕ
operator_word o =
    words_in o (basic_operators ++ (under_operators ++ (type_information_operators ++ double_under_operators)))

-- the words of an operator in the second grammar's style
unfoldable pub full_operator_word : PlainOperator → List ℕ
full_operator_word plain_operator.VBaseDtor = codes "`vbase dtor'"
full_operator_word plain_operator.VectorDeletingDtor = codes "`vector deleting dtor'"
full_operator_word plain_operator.DefaultCtorClosure = codes "`default ctor closure'"
full_operator_word plain_operator.ScalarDeletingDtor = codes "`scalar deleting dtor'"
full_operator_word plain_operator.VectorCtorIterator = codes "`vector ctor iterator'"
full_operator_word plain_operator.VectorDtorIterator = codes "`vector dtor iterator'"
full_operator_word plain_operator.VectorVBaseCtorIterator = codes "`vector vbase ctor iterator'"
full_operator_word plain_operator.EHVectorCtorIterator = codes "`eh vector ctor iterator'"
full_operator_word plain_operator.EHVectorDtorIterator = codes "`eh vector dtor iterator'"
full_operator_word plain_operator.EHVectorVBaseCtorIterator = codes "`eh vector vbase ctor iterator'"
full_operator_word plain_operator.CopyCtorClosure = codes "`copy ctor closure'"
full_operator_word plain_operator.LocalVFTableCtorClosure = codes "`local vftable ctor closure'"
full_operator_word plain_operator.CoroutineAwait = codes "operator co_await"
full_operator_word o = operator_word o

-- the words of a guard
abbrev pub guard_word : Guard → List ℕ
guard_word guard_kind.Static = codes "`local static guard'"
guard_word guard_kind.Thread = codes "`local static thread guard'"

-- words after the space that operators begin with
abbrev pub spaced : List ℕ → List Piece
spaced word = space AfterPointer ∷ text word ∷ []

-- the name of an operator; the second grammar's style has no space before it
unfoldable pub operator_pieces : PlainOperator → ℕ → List Piece
operator_pieces o flags =
    cond (has flags full_style) (text (full_operator_word o) ∷ []) (spaced (operator_word o))

-- the number of a guard, if it has one
unfoldable pub guard_number : Option ℕ → List Piece
guard_number None = []
guard_number (Some n) = text (codes "{") ∷ text (decimal n) ∷ text (codes "}") ∷ []

-- the pieces of a guard of a static variable
unfoldable pub guard_pieces : Guard → Option ℕ → List Piece
guard_pieces g n = space AfterPointer ∷ text (guard_word g) ∷ guard_number n

-- a number of a list, with a comma before it
abbrev pub listed : ℤ → ℕ → List Piece
listed z flags = separator false flags ++ text (signed_decimal z) ∷ []

-- the pieces of the place of a base class in an object, as run-time type information names it
unfoldable pub base_class_pieces : ℤ → ℤ → ℤ → ℤ → ℕ → List Piece
base_class_pieces a b c d flags =
    space AfterPointer ∷ text (codes "`RTTI Base Class Descriptor at (") ∷ text (signed_decimal a)
    ∷ (listed b flags ++ (listed c flags ++ (listed d flags ++ text (codes ")'") ∷ [])))

-- how the name of a template prints where the template is the name of a symbol itself, in the second grammar's style
unfoldable pub template_kind : NameTree → NameKind
template_kind (operator plain_operator.Ctor) = name_kinds.Constructor
template_kind (operator plain_operator.Dtor) = name_kinds.Destructor
template_kind (operator plain_operator.Conversion) = name_kinds.Conversion
template_kind _ = name_kinds.Ordinary

-- how a name prints where it is the name of a symbol itself
unfoldable pub name_kind : NameTree → ℕ → NameKind
name_kind (operator plain_operator.Ctor) flags = name_kinds.Constructor
name_kind (operator plain_operator.Dtor) flags = name_kinds.Destructor
name_kind (operator plain_operator.Conversion) flags = name_kinds.Conversion
name_kind (operator plain_operator.VBTable) flags =
    cond (has flags full_style) name_kinds.Ordinary name_kinds.BaseTable
name_kind (operator plain_operator.LiteralOperatorName) flags = name_kinds.Literal
name_kind (template n ts) flags = cond (has flags full_style) (template_kind n) name_kinds.Ordinary
name_kind _ flags = name_kinds.Ordinary

-- The pieces of the name of a symbol after its scope. `constructor`, `destructor` and `conversion` have the pieces of
-- such a name, and `name` the pieces of the name in any scope.
abbrev pub unqualified_name : NameKind → List Piece → List Piece → List Piece → List Piece → List Piece
unqualified_name name_kinds.Constructor constructor destructor conversion name = constructor
unqualified_name name_kinds.Destructor constructor destructor conversion name = destructor
unqualified_name name_kinds.Conversion constructor destructor conversion name = conversion
unqualified_name name_kinds.BaseTable constructor destructor conversion name = text (codes "`vbtable'{for `") ∷ []
unqualified_name name_kinds.Literal constructor destructor conversion name = []
unqualified_name name_kinds.Ordinary constructor destructor conversion name = name

-- A name in its scope. The name stands after the names of the scope with `::` after each (`prefix`); a literal operator
-- stands before the names of the scope with `::` between them (`path`).
unfoldable pub scoped : NameKind → List Piece → List Piece → List Piece → ℕ → List Piece
scoped name_kinds.Literal prefix path name flags =
    space (name_space flags) ∷ space AfterPointer ∷ text (codes "operator \"\"") ∷ path
scoped _ prefix path name flags = space (name_space flags) ∷ (prefix ++ name)
