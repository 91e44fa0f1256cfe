-- How bytes are cut into lines, what is written for lines, which arguments are symbols, and where a symbol may stand in
-- a text.
use Rattle.std.specs.Prelude.{ℕ, List, [], ◌∷◌, ◌≡◌, codes, false, map, reverse, true}
use Prim.Native.String.{String}
use Rattle.msvc_demangler.specs.Answers.{IsFilterText}
use Rattle.msvc_demangler.specs.Arguments.{symbols_of}
use Rattle.msvc_demangler.specs.Lines.{lines_of}
use Rattle.msvc_demangler.specs.GrammarNames.{Grammar}
use Rattle.msvc_demangler.specs.GrammarNames.TheVariants.{Crate, Full}
use Rattle.msvc_demangler.specs.SymbolBounds.{continues, is_start, is_visible, max_bytes, symbol_extent}

-- the lines of some bytes
abbrev AreLinesOf : String → List String → Type 0
AreLinesOf bytes lines = lines_of (codes bytes) ≡ map codes lines

pub record AreLines : Type 0 where
  pub none : AreLinesOf "" []
  pub empty : AreLinesOf "\n" ("" ∷ [])
  -- the last line may lack its line feed
  pub last : AreLinesOf "a\nb" ("a" ∷ "b" ∷ [])
  pub no_other : AreLinesOf "a\n" ("a" ∷ [])
  -- one carriage return before a line feed is left out; any other stays
  pub returns : AreLinesOf "a\r\r\nb\rc\r\n" ("a\r" ∷ "b\rc" ∷ [])
  pub last_return : AreLinesOf "a\r" ("a\r" ∷ [])

-- `undname` writes this text for the lines of some bytes, and no other text
pub record IsAnswered (bytes text : List ℕ) : Type 0 where
  pub answered : IsFilterText bytes text

-- `undname` writes this text for the lines of some bytes, both as strings
abbrev Gives : String → String → Type 0
Gives bytes text = IsAnswered (codes bytes) (codes text)

pub record AreAnswered : Type 0 where
  pub none : Gives "" ""
  pub symbol : Gives "?x@@3HA\n" "int x\n"
  pub no_symbol : Gives "main\n\n?x\n" "main\n\n?x\n"
  pub not_at_the_start : Gives " ?x@@3HA\n" " ?x@@3HA\n"
  -- what follows a symbol is left out
  pub not_at_the_end : Gives "?x@@3HA b\n" "int x\n"
  -- each line is ended, and by a line feed alone
  pub last : Gives "main\n?x@@3HA" "main\nint x\n"
  pub returns : Gives "main\r\n?x@@3HA\r\n" "main\nint x\n"
  pub flags : Gives "?f@@YAXHPAPAH@Z\n" "void __cdecl f(int, int **)\n"
  pub not_utf8 : IsAnswered (0xE9 ∷ codes "\n?x@@3HA\n") (codes "int x\n")
  pub not_ascii : IsAnswered (0xC3 ∷ 0xA9 ∷ codes "\n") (0xC3 ∷ 0xA9 ∷ codes "\n")

-- the symbols among some arguments
abbrev AreSymbolsOf : List String → List String → Type 0
AreSymbolsOf words symbols = symbols_of (map codes words) ≡ map codes symbols

pub record AreArguments : Type 0 where
  pub none : AreSymbolsOf [] []
  pub option : AreSymbolsOf ("-v" ∷ []) []
  pub after_the_option : AreSymbolsOf ("-v" ∷ "?x@@3HA" ∷ "main" ∷ []) ("?x@@3HA" ∷ "main" ∷ [])
  -- only the first argument is an option
  pub second : AreSymbolsOf ("main" ∷ "-v" ∷ []) ("main" ∷ "-v" ∷ [])
  pub twice : AreSymbolsOf ("-v" ∷ "-v" ∷ []) ("-v" ∷ [])
  pub longer : AreSymbolsOf ("-vv" ∷ []) ("-vv" ∷ [])
  pub empty : AreSymbolsOf ("" ∷ []) ("" ∷ [])

-- a symbol of a grammar may begin with some bytes after others, which stand after a line feed
abbrev BeginsIn : Grammar → String → String → Type 0
BeginsIn g before left = is_start g 10 (reverse (codes before)) (codes left) ≡ true

-- no symbol of a grammar begins with some bytes after others, which stand after a line feed
abbrev BeginsNotIn : Grammar → String → String → Type 0
BeginsNotIn g before left = is_start g 10 (reverse (codes before)) (codes left) ≡ false

-- the same of a ? in the crate's grammar
abbrev Begins : String → Type 0
Begins before = BeginsIn Crate before "?"

abbrev BeginsNot : String → Type 0
BeginsNot before = BeginsNotIn Crate before "?"

pub record AreWords : Type 0 where
  pub at_the_start : Begins ""
  pub after_a_space : Begins "a "
  pub after_an_underscore : Begins "__imp_"
  pub after_a_dollar : Begins "$pdata$"
  pub after_an_at_sign : Begins "$LN5@"
  pub after_a_letter : BeginsNot "a"
  pub after_a_digit : BeginsNot "_TI1"
  pub after_a_full_stop : BeginsNot "."
  -- only the first ? of a word begins a symbol
  pub second : BeginsNot "?a@"
  pub of_another_word : Begins "?a "
  -- spaces and control characters end a candidate; no other byte does
  pub visible : map is_visible (0 ∷ 10 ∷ 32 ∷ 33 ∷ 126 ∷ 127 ∷ 128 ∷ 255 ∷ [])
      ≡ false ∷ false ∷ false ∷ true ∷ true ∷ false ∷ true ∷ true ∷ []
  pub longest : max_bytes ≡ 4096
  -- a storage class or an @ that was not read belongs to the symbol if it ends its word
  pub class_left : symbol_extent Crate (codes "?x@@3PEBHEB\", <") 10 ≡ 11
  pub at_sign_left : symbol_extent Crate (codes "?x@@3HA@") 7 ≡ 8
  pub small_letter_left : symbol_extent Crate (codes "?x@@3HAb") 7 ≡ 7
  pub two_left : symbol_extent Crate (codes "?x@@3HABC") 7 ≡ 7
  pub goes_on : continues (codes "b") ≡ true
  pub goes_on_with_an_at_sign : continues (codes "@") ≡ true
  pub ends_at_a_dollar : continues (codes "$filt$0") ≡ false
  pub ends_at_a_question_mark : continues (codes "?") ≡ false

pub record AreWordsInFull : Type 0 where
  pub at_the_start : BeginsIn Full "" "?x@@3HA"
  pub after_a_dollar : BeginsIn Full "$pdata$" "?x@@3HA"
  pub after_a_letter : BeginsNotIn Full "a" "?x@@3HA"
  pub second : BeginsNotIn Full "?a@" "?x@@3HA"
  -- the name of a type begins at its full stop, unless a byte of a word precedes it
  pub type_name : BeginsIn Full "" ".?AVA@@"
  pub type_name_after_a_space : BeginsIn Full "a " ".?AVA@@"
  pub type_name_after_a_full_stop : BeginsIn Full "." ".?AVA@@"
  pub type_name_after_a_letter : BeginsNotIn Full "a" ".?AVA@@"
  pub type_name_after_a_digit : BeginsNotIn Full "1" ".?AVA@@"
  pub type_name_after_an_underscore : BeginsNotIn Full "_" ".?AVA@@"
  pub type_name_after_an_at_sign : BeginsNotIn Full "@" ".?AVA@@"
  pub type_name_in_the_other_grammar : BeginsNotIn Crate "" ".?AVA@@"
  pub type_name_with_a_digit : BeginsIn Full "" ".P6AXXZ"
  pub type_name_with_an_underscore : BeginsIn Full "" ".PEB_J"
  -- of letters alone it may be the ending of a file's name
  pub ending_of_a_file : BeginsNotIn Full "*" ".BAK"
  pub ending_before_a_comma : BeginsNotIn Full "" ".H, *.C"
  -- its ? begins none
  pub inside_a_type_name : BeginsNotIn Full "." "?AVA@@"
  -- a funclet begins at the start of a word alone
  pub funclet : BeginsIn Full "a " "?dtor$0@?0??f@@YAXXZ@4HA"
  pub each_funclet : (BeginsNotIn Full "_" "?catch$") × (BeginsNotIn Full "$" "?dtor$")
      × (BeginsNotIn Full "@" "?filt$") × (BeginsNotIn Full "_" "?fin$")
  pub no_funclet : BeginsIn Full "_" "?dtor@@YAXXZ"
  pub funclet_in_the_other_grammar : BeginsIn Crate "_" "?dtor$0@"
  -- a symbol takes the bytes that were read
  pub class_left : symbol_extent Full (codes "?x@@3PEBHEB\", <") 10 ≡ 10
  pub at_sign_left : symbol_extent Full (codes "?x@@3HA@") 7 ≡ 7
