-- The types that are one word of the language, or a few. Each has a row in one of two tables, by whether its code is a
-- letter alone or an underscore and a letter.
use Rattle.std.specs.Prelude.{ℕ, List, [], ◌∷◌, Option, Some, None, codes}
use Prim.Native.Char.{code}
use Rattle.msvc_nodes.specs.declared.kinds.PrimitiveKind.{PrimitiveKind}
use Rattle.msvc_nodes.specs.declared.kinds.PrimitiveKind.TheVariants as b

-- a row: the letter, the type, its word, and the word that MS_TYPENAMES chooses, if it is another
abbrev pub BaseRow : Type 0
BaseRow = ℕ × PrimitiveKind × List ℕ × Option (List ℕ)

-- the types whose code is the letter alone
abbrev pub basic_types : List BaseRow
basic_types =
    (code "X", b.Void, codes "void", None)
    ∷ (code "C", b.Schar, codes "signed char", None)
    ∷ (code "D", b.Char, codes "char", None)
    ∷ (code "E", b.Uchar, codes "unsigned char", None)
    ∷ (code "F", b.Short, codes "short", None)
    ∷ (code "G", b.Ushort, codes "unsigned short", None)
    ∷ (code "H", b.Int, codes "int", None)
    ∷ (code "I", b.Uint, codes "unsigned int", None)
    ∷ (code "J", b.Long, codes "long", None)
    ∷ (code "K", b.Ulong, codes "unsigned long", None)
    ∷ (code "M", b.Float, codes "float", None)
    ∷ (code "N", b.Double, codes "double", None)
    ∷ (code "O", b.Ldouble, codes "long double", None)
    ∷ []

-- the types whose code is _ and the letter
abbrev pub under_types : List BaseRow
under_types =
    (code "N", b.Bool, codes "bool", None)
    ∷ (code "W", b.Wchar, codes "wchar_t", None)
    ∷ (code "Q", b.Char8, codes "char8_t", None)
    ∷ (code "S", b.Char16, codes "char16_t", None)
    ∷ (code "U", b.Char32, codes "char32_t", None)
    ∷ (code "J", b.Int64, codes "int64_t", Some (codes "__int64"))
    ∷ (code "K", b.Uint64, codes "uint64_t", Some (codes "unsigned __int64"))
    ∷ (code "L", b.Int128, codes "int128_t", Some (codes "__int128"))
    ∷ (code "M", b.Uint128, codes "uint128_t", Some (codes "unsigned __int128"))
    ∷ []
