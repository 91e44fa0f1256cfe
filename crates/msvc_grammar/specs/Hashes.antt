-- Hashes, which stand for names that were too long.
use Rattle.std.specs.Prelude.{ℕ, List, ◌∷◌, ◌++◌, true, ◌≡◌, codes}
use Rattle.msvc_nodes.specs.Trees.{SymbolTree, md5_symbol}
use Rattle.msvc_nodes.specs.declared.error.ErrorRepr.{ErrorRepr}
use Rattle.msvc_nodes.specs.declared.error.ErrorRepr.TheVariants as error
use Rattle.msvc_grammar.specs.Grammar.{is_hash}
use Rattle.msvc_grammar.specs.Letters.{at_sign}

-- the text of a symbol that is a hash of these digits, and any bytes after it
abbrev pub hashed_text : List ℕ → List ℕ → List ℕ
hashed_text digits rest = codes "??@" ++ (digits ++ at_sign ∷ rest)

-- where a text begins with a hash, its symbol is the hash
abbrev pub HashesStand : List ℕ → SymbolTree → Type 0
HashesStand text tree =
    (digits rest : List ℕ) → is_hash digits ≡ true → text ≡ hashed_text digits rest → tree ≡ md5_symbol digits

-- where a text begins with a hash, it is rejected for memory alone
abbrev pub HashesAreRead : List ℕ → ErrorRepr → Type 0
HashesAreRead text e =
    (digits rest : List ℕ) → is_hash digits ≡ true → text ≡ hashed_text digits rest → e ≡ error.Memory
