-- The operators with nothing in them, and what the compiler names as it names them. Each has a row in one of four
-- tables, by what stands in its code before the last letter.
use Rattle.std.specs.Prelude.{ℕ, List, [], ◌∷◌, codes}
use Prim.Native.Char.{code}
use Rattle.msvc_nodes.specs.declared.kinds.PlainOperator.{PlainOperator}
use Rattle.msvc_nodes.specs.declared.kinds.PlainOperator.TheVariants as o

-- a row: the letter, the operator, and what it prints
abbrev pub OperatorRow : Type 0
OperatorRow = ℕ × PlainOperator × List ℕ

-- the operators whose code is the letter alone
abbrev pub basic_operators : List OperatorRow
basic_operators =
    (code "0", o.Ctor, codes "ctor")
    ∷ (code "1", o.Dtor, codes "dtor")
    ∷ (code "2", o.New, codes "operator new")
    ∷ (code "3", o.Delete, codes "operator delete")
    ∷ (code "4", o.Equal, codes "operator=")
    ∷ (code "5", o.RShift, codes "operator>>")
    ∷ (code "6", o.LShift, codes "operator<<")
    ∷ (code "7", o.Bang, codes "operator!")
    ∷ (code "8", o.EqualEqual, codes "operator==")
    ∷ (code "9", o.BangEqual, codes "operator!=")
    ∷ (code "A", o.Subscript, codes "operator[]")
    ∷ (code "B", o.Conversion, codes "operatorcast")
    ∷ (code "C", o.Arrow, codes "operator->")
    ∷ (code "D", o.Star, codes "operator*")
    ∷ (code "E", o.PlusPlus, codes "operator++")
    ∷ (code "F", o.MinusMinus, codes "operator--")
    ∷ (code "G", o.Minus, codes "operator-")
    ∷ (code "H", o.Plus, codes "operator+")
    ∷ (code "I", o.Amp, codes "operator&")
    ∷ (code "J", o.ArrowStar, codes "operator->*")
    ∷ (code "K", o.Slash, codes "operator/")
    ∷ (code "L", o.Percent, codes "operator%")
    ∷ (code "M", o.Less, codes "operator<")
    ∷ (code "N", o.LessEqual, codes "operator<=")
    ∷ (code "O", o.Greater, codes "operator>")
    ∷ (code "P", o.GreaterEqual, codes "operator>=")
    ∷ (code "Q", o.Comma, codes "operator,")
    ∷ (code "R", o.Call, codes "operator()")
    ∷ (code "S", o.Tilde, codes "operator~")
    ∷ (code "T", o.Caret, codes "operator^")
    ∷ (code "U", o.Pipe, codes "operator|")
    ∷ (code "V", o.AmpAmp, codes "operator&&")
    ∷ (code "W", o.PipePipe, codes "operator||")
    ∷ (code "X", o.StarEqual, codes "operator*=")
    ∷ (code "Y", o.PlusEqual, codes "operator+=")
    ∷ (code "Z", o.MinusEqual, codes "operator-=")
    ∷ []

-- the operators whose code is _ and the letter
abbrev pub under_operators : List OperatorRow
under_operators =
    (code "0", o.SlashEqual, codes "operator/=")
    ∷ (code "1", o.PercentEqual, codes "operator%=")
    ∷ (code "2", o.GreaterGreaterEqual, codes "operator>>=")
    ∷ (code "3", o.LessLessEqual, codes "operator<<=")
    ∷ (code "4", o.AmpEqual, codes "operator&=")
    ∷ (code "5", o.PipeEqual, codes "operator|=")
    ∷ (code "6", o.CaretEqual, codes "operator^=")
    ∷ (code "7", o.VFTable, codes "`vftable'")
    ∷ (code "8", o.VBTable, codes "`vbtable'")
    ∷ (code "9", o.VCall, codes "`vcall'")
    ∷ (code "A", o.Typeof, codes "`typeof'")
    ∷ (code "C", o.String, codes "`string'")
    ∷ (code "D", o.VBaseDtor, codes "`vbase destructor'")
    ∷ (code "E", o.VectorDeletingDtor, codes "`vector deleting destructor'")
    ∷ (code "F", o.DefaultCtorClosure, codes "`default constructor closure'")
    ∷ (code "G", o.ScalarDeletingDtor, codes "`scalar deleting destructor'")
    ∷ (code "H", o.VectorCtorIterator, codes "`vector constructor iterator'")
    ∷ (code "I", o.VectorDtorIterator, codes "`vector destructor iterator'")
    ∷ (code "J", o.VectorVBaseCtorIterator, codes "`vector vbase constructor iterator'")
    ∷ (code "K", o.VirtualDisplacementMap, codes "`virtual displacement map'")
    ∷ (code "L", o.EHVectorCtorIterator, codes "`eh vector constructor iterator'")
    ∷ (code "M", o.EHVectorDtorIterator, codes "`eh vector destructor iterator'")
    ∷ (code "N", o.EHVectorVBaseCtorIterator, codes "`eh vector vbase constructor iterator'")
    ∷ (code "O", o.CopyCtorClosure, codes "`copy constructor closure'")
    ∷ (code "S", o.LocalVFTable, codes "`local vftable'")
    ∷ (code "T", o.LocalVFTableCtorClosure, codes "`local vftable constructor closure'")
    ∷ (code "U", o.ArrayNew, codes "operator new[]")
    ∷ (code "V", o.ArrayDelete, codes "operator delete[]")
    ∷ (code "X", o.PlacementDeleteClosure, codes "`placement delete closure'")
    ∷ (code "Y", o.PlacementArrayDeleteClosure, codes "`placement delete[] closure'")
    ∷ []

-- the operators of run-time type information, whose code is _R and the letter
abbrev pub type_information_operators : List OperatorRow
type_information_operators =
    (code "2", o.RTTIBaseClassArray, codes "`RTTI Base Class Array'")
    ∷ (code "3", o.RTTIClassHierarchyDescriptor, codes "`RTTI Class Hierarchy Descriptor'")
    ∷ (code "4", o.RTTIClassCompleteObjectLocator, codes "`RTTI Complete Object Locator'")
    ∷ []

-- the operators whose code is __ and the letter
abbrev pub double_under_operators : List OperatorRow
double_under_operators =
    (code "E", o.DynamicInitializer, codes "`dynamic initializer'")
    ∷ (code "F", o.DynamicAtexitDtor, codes "`dynamic atexit destructor'")
    ∷ (code "K", o.LiteralOperatorName, codes "operator \"\"")
    ∷ (code "L", o.CoroutineAwait, codes " co_await")
    ∷ []
