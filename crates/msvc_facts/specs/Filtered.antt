-- Texts, and what the filter makes of them: which bytes are a symbol and are replaced, and that no other changes.
use Rattle.std.specs.Prelude.{ℕ, List, [], ◌∷◌, ◌++◌, ◌≡◌, codes, length, replicate}
use Prim.Native.String.{String}
use Rattle.msvc_demangler.specs.Filtered.{AreOnlyParts, IsFiltered, Part, declared, fitting, kept, max_declared}
use Rattle.msvc_demangler.specs.Filtered.{max_nodes}
use Rattle.msvc_demangler.specs.SymbolBounds.{candidate}

-- the bytes of a character that is not ASCII
abbrev e_acute : List ℕ
e_acute = 0xC3 ∷ 0xA9 ∷ []

-- a byte that is no character
abbrev e_acute_alone : List ℕ
e_acute_alone = 0xE9 ∷ []

-- the candidate for a symbol at the beginning of some bytes
abbrev IsCandidate : (bytes begun : List ℕ) → Type 0
IsCandidate bytes begun = candidate bytes ≡ begun

pub record AreCandidates : Type 0 where
  pub all : IsCandidate (codes "?x@@3HA") (codes "?x@@3HA")
  pub space : IsCandidate (codes "?x y") (codes "?x")
  pub control : IsCandidate (codes "?x\ty") (codes "?x")
  pub delete : IsCandidate (codes "?x" ++ 127 ∷ codes "y") (codes "?x")
  pub signs : IsCandidate (codes "?x\",<>();y") (codes "?x\",<>();y")
  pub not_ascii : IsCandidate (codes "?" ++ e_acute ++ codes "@") (codes "?" ++ e_acute ++ codes "@")
  pub not_utf8 : IsCandidate (codes "?x" ++ e_acute_alone ++ codes "@") (codes "?x")
  pub cut_character : IsCandidate (codes "?x" ++ 0xC3 ∷ []) (codes "?x")
  -- a surrogate is no character
  pub surrogate : IsCandidate (codes "?x" ++ 0xED ∷ 0xA0 ∷ 0x80 ∷ []) (codes "?x")
  pub longest : length (candidate (replicate 4100 97)) ≡ 4096
  pub longest_character : length (candidate (replicate 4095 97 ++ e_acute)) ≡ 4095

-- the filter makes this text of some bytes, and no other text, under no flag
pub record IsMade (bytes text : List ℕ) : Type 0 where
  pub filtered : IsFiltered 0 bytes text

abbrev Becomes : String → String → Type 0
Becomes bytes text = IsMade (codes bytes) (codes text)

abbrev Stays : String → Type 0
Stays bytes = Becomes bytes bytes

-- where a symbol begins and ends
pub record AreFiltered : Type 0 where
  pub empty : Stays ""
  pub in_text : Becomes "a ?x@@3HA b" "a int x b"
  -- every byte that is not part of a symbol stays
  pub ends_of_lines : Becomes "\t?x@@3HA\r\n\n?y@@3HA" "\tint x\r\n\nint y"
  pub no_symbol : Stays "what? ?x@ ?x@@3 ?f@@YAX0@Z"
  pub after_a_letter : Stays "x?x@@3HA .?x@@3HA 1?x@@3HA"
  pub after_others : Becomes "__imp_?x@@3HA $?x@@3HA a!?x@@3HA" "__imp_int x $int x a!int x"
  -- only the first ? of a word begins a symbol
  pub second : Stays "??x@@3HA ?1_?x@@3HA ?1$?x@@3HA ?1@?x@@3HA"
  pub goes_on : Stays "?x@@3HAb ?x@@3HA1 ?x@@3HA_ ?x@@3HAB1 ?x@@3HAB$ ?x@@3HA@b ?x@@3HA@?"
  pub ends : Becomes "?x@@3HA$b ?x@@3HA.b ?x@@3HA+1" "int x$b int x.b int x+1"
  -- a storage class or an @ that was not read belongs to the symbol if it ends its word
  pub class_left : Becomes "?x@@3PEBHEB, b" "int const *x, b"
  pub at_sign_left : Becomes "?x@@3HA@ ?x@@3HA@@" "int x ?x@@3HA@@"
  -- after a symbol a new word begins, behind the symbol's last byte
  pub after_a_symbol : Becomes "?x@@3HA?x@@3HA" "int x?x@@3HA"
  pub after_an_at_sign : Becomes "??@8ba8d245c9eca390356129098dbe9f73@?x@@3HA"
      "??@8ba8d245c9eca390356129098dbe9f73@int x"
  -- spaces and control characters are no part of a symbol
  pub space : Becomes "?x @@3HA ?x@@3HA\t" "?x @@3HA int x\t"
  -- bytes from 128 on are part of a symbol, as far as they are UTF-8
  pub not_ascii : IsMade (codes "?" ++ e_acute ++ codes "@@3HA") (codes "int " ++ e_acute)
  pub not_utf8 : IsMade (codes "?" ++ e_acute_alone ++ codes "@@3HA") (codes "?" ++ e_acute_alone ++ codes "@@3HA")
  pub before_no_utf8 : IsMade (codes "?x@@3HA" ++ e_acute_alone) (codes "int x" ++ e_acute_alone)
  -- a tree or a declaration that is too large leaves a symbol as it is
  pub nodes : max_nodes ≡ 10000
  pub too_many : Stays "?f@@YAXPAHP6AX0000000000@ZP6AX1111111111@ZP6AX2222222222@ZP6AX3333333333@Z@Z"
  pub bytes : max_declared ≡ 65536
  pub only_parts : AreOnlyParts 0 (codes "a?b ?x@@3HA")
      (kept 97 ∷ kept 63 ∷ kept 98 ∷ kept 32 ∷ declared (codes "int x") ∷ [])

-- the bytes of some parts that fit into `most` bytes
abbrev Fits : ℕ → List Part → List ℕ → Type 0
Fits most parts bytes = fitting most parts ≡ bytes

pub record AreFitting : Type 0 where
  pub all : Fits 7 (kept 97 ∷ declared (codes "int x") ∷ kept 98 ∷ []) (codes "aint xb")
  pub no_byte : Fits 6 (kept 97 ∷ declared (codes "int x") ∷ kept 98 ∷ []) (codes "aint x")
  -- a beginning of a declaration, and nothing after it
  pub cut : Fits 4 (kept 97 ∷ declared (codes "int x") ∷ kept 98 ∷ []) (codes "aint")
  pub nothing : Fits 0 (kept 97 ∷ []) []
  -- an empty declaration fits without space; a byte after it does not
  pub empty : Fits 0 (declared [] ∷ kept 97 ∷ []) []
  -- a character of a declaration is not cut; a character that stays may be
  pub whole_character : Fits 2 (declared (97 ∷ 0xC3 ∷ 0xA9 ∷ []) ∷ []) (97 ∷ [])
  pub half_kept : Fits 1 (kept 0xC3 ∷ kept 0xA9 ∷ []) (0xC3 ∷ [])
