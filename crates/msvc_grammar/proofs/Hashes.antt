-- The symbol of a hash: of ??@, the digits, an @ and any bytes, the part up to that @ is derived as a name, and nothing
-- else is.
use Rattle.std.proofs.Common.{ℕ, List, [], ◌∷◌, ◌++◌, Bool, true, false, not, ◌≡◌, ◌==◌, length, refl, sym, ap}
use Rattle.std.proofs.Common.{◌∙◌, Option, None, subst}
use Rattle.std.proofs.lemmas.Bool.{eqb-true}
use Rattle.std.specs.Prelude.{is_some}
use Rattle.msvc_nodes.specs.Errors.{limit_of}
use Rattle.msvc_nodes.specs.Trees.{SymbolTree}
use Rattle.msvc_nodes.specs.declared.error.ErrorRepr.{ErrorRepr}
use Rattle.msvc_nodes.specs.declared.error.ErrorRepr.TheVariants as error
use Rattle.msvc_nodes.specs.Trees.{md5_symbol}
use Rattle.msvc_nodes.specs.declared.error.Limit.{Limit}
use Rattle.msvc_rules.specs.Reads.{Reads, a_literal, a_node, a_part, called, given, in_a_row, the_first}
use Rattle.msvc_rules.specs.Rules.{call, every, lookup}
use Rattle.msvc_rules.specs.Sorts.{symbol_tree}
use Rattle.msvc_rules.specs.State.{State, Note, beginning, counted}
use Rattle.msvc_grammar.specs.Derived.{Derives}
use Rattle.msvc_grammar.specs.Grammar.{crate_grammar, grammar, hashed_symbol, is_hash}
use Rattle.msvc_grammar.specs.Hashes.{HashesAreRead, HashesStand, hashed_text}
use Rattle.msvc_grammar.specs.Letters.{hexadecimal_codes}
use Rattle.msvc_grammar.specs.Productions.{required}
use Rattle.msvc_grammar.specs.Rejections.{IsRejectedRightly}
use Rattle.msvc_rules.proofs.FirstSets.{both_if, if_both}
use Rattle.msvc_rules.proofs.Rejections.{none-within-limit}
use Rattle.msvc_grammar.proofs.Laws.{derived-only}

-- no digit is an @
no_end : (digits : List ℕ) → every (λ b. is_some (lookup b hexadecimal_codes)) digits ≡ true
    → every (λ b. not (b == 64)) digits ≡ true
no_end [] h = refl
no_end (b ∷ digits) h =
    let parts : (is_some (lookup b hexadecimal_codes) ≡ true)
    × (every (λ c. is_some (lookup c hexadecimal_codes)) digits ≡ true) = if_both _ _ h in
    both_if (not (b == 64)) _ (go (b == 64) refl parts.0) (no_end digits parts.1)
  where
    go : (t : Bool) → (b == 64) ≡ t → is_some (lookup b hexadecimal_codes) ≡ true → not t ≡ true
    go true e k =
        let none : false ≡ true = ap (λ x. is_some (lookup x hexadecimal_codes)) (sym (eqb-true b 64 e)) ∙ k in
        absurd (cc)
    go false e k = refl

there : (t : Bool) (left : List ℕ) (s : State) → t ≡ true → Reads crate_grammar _ (call (required t)) left s tt left s
unfolding grammar
there true left s e = called given
there false left s e = absurd (cc)

-- the state after two nodes: that of the name, and that of its type
abbrev two_counted : State → State
two_counted s = counted s.count.weight (counted s.count.weight s)

hash_read : (digits rest : List ℕ) (s : State) → is_hash digits ≡ true
    → Reads crate_grammar symbol_tree hashed_symbol (digits ++ 64 ∷ rest) s (md5_symbol digits) rest (two_counted s)
unfolding grammar
hash_read digits rest s h =
    let parts : ((length digits == 32) ≡ true) × (every (λ b. is_some (lookup b hexadecimal_codes)) digits ≡ true) =
    if_both _ _ h in
    let remaining = in_a_row (there (is_hash digits) rest (two_counted s) h) given in
    a_node (a_node (in_a_row (called (a_part refl (no_end digits parts.1))) remaining))

pub hash_derived : (digits rest : List ℕ) → is_hash digits ≡ true
    → Derives (hashed_text digits rest) (md5_symbol digits) rest []
unfolding grammar
hash_derived digits rest h =
    let s : State = beginning (hashed_text digits rest) in
    let body = in_a_row (a_literal refl) (hash_read digits rest s h) in
    (two_counted s, called (in_a_row (a_literal refl) (called (the_first body))), refl)

-- whatever is derived of such a text is the name of the hash
pub hash_only : (digits rest : List ℕ) → is_hash digits ≡ true
    → (tree : SymbolTree) (remaining : List ℕ) (notes : List Note) → Derives
    (hashed_text digits rest) tree remaining notes
    → (tree ≡ md5_symbol digits) × (remaining ≡ rest) × (notes ≡ [])
hash_only digits rest h tree remaining notes d =
    derived-only (hashed_text digits rest) tree (md5_symbol digits) remaining rest notes [] d
    (hash_derived digits rest h)

pub hashes-stand : (text : List ℕ) (tree : SymbolTree) (rest : List ℕ) (notes : List Note)
    → Derives text tree rest notes → HashesStand text tree
hashes-stand text tree rest notes d digits remaining h same =
    (hash_only digits remaining h tree rest notes (subst (λ z. Derives z tree rest notes) same d)).0

-- a text that begins with a hash is rejected for memory alone, if it is rejected rightly
pub hashes-read : (text : List ℕ) (e : ErrorRepr) → IsRejectedRightly None text e → HashesAreRead text e
hashes-read text e rejected digits rest hash begins = go e rejected
  where
    derived : Derives text (md5_symbol digits) rest []
    derived = subst (λ z. Derives z (md5_symbol digits) rest []) (sym begins) (hash_derived digits rest hash)

    go : (e : ErrorRepr) → IsRejectedRightly None text e → e ≡ error.Memory
    go (error.ParseError message context at) h =
        let about : Option Limit = limit_of (error.ParseError message context at) in
        absurd (none-within-limit crate_grammar about None text h.1 (md5_symbol digits) rest [] derived)
    go error.Memory h = refl
    go (error.Other m) h = absurd h
    go (error.Utf8 m) h = absurd h
    go (error.FromUtf8 m) h = absurd h
