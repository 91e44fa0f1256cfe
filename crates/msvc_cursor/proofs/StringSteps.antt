-- Step lemmas of strings.
use Rattle.std.proofs.Common.{ℕ, zero, suc, List, [], ◌∷◌, ◌++◌, Option, Some, None, Bool, true, false, cond, ◌+◌}
use Rattle.std.proofs.Common.{◌≡◌, ◌==◌, ◌<◌, ℤ, refl, sym, ap, ◌∙◌, arith, append-nil, ◌*◌}
use Rattle.std.specs.Prelude.{codes}
use Rattle.msvc_cursor.specs.Parser.{byte_here}
use Rattle.std.proofs.lemmas.Bool.{eqb-true}
use Rattle.msvc_nodes.specs.Trees.{constant_string}
use Rattle.msvc_rules.specs.Readers.{Found, read_by, counting, letter_here, with_value, and_then, in_node}
use Rattle.msvc_rules.specs.Rules.{after, lookup, letter}
use Rattle.msvc_rules.specs.Sorts.{bits, encoded_string}
use Rattle.msvc_rules.specs.State.{State}
use Rattle.msvc_grammar.specs.Grammar.{grammar, escaped_character, halves, string_length}
use Rattle.msvc_grammar.specs.Letters.{character_sizes, escaped_characters, hexadecimal, plain_characters}
use Rattle.msvc_grammar.specs.Productions.{encoding_after, number, character, characters}
use Rattle.msvc_grammar.specs.Reading.{read_name, read}
use Rattle.msvc_cursor.specs.Rows.{with_front}
use Rattle.msvc_grammar.proofs.Laws.{read_name-is}
use Rattle.msvc_cursor.proofs.Choices.{chosen, literal_or-is}
use Rattle.msvc_cursor.proofs.RowSteps.{front_none, front_first}

pub encoded_string_step : (left : List ℕ) (s : State) → read_name (encoding_after encoded_string) left s
    ≡ in_node left s (λ h a. and_then (letter_here character_sizes h a) (λ size l t. and_then (read_name number l t)
    (λ z k u. and_then (read_name number k u) (λ _ j v. and_then (read_name (characters (string_length size z)) j v)
    (λ cs i w. Some (constant_string cs, i, w))))))
unfolding grammar read read_by
encoded_string_step left s = read_name-is (encoding_after encoded_string) left s

-- and what its parts give
pub encoded_string_parts : (left l1 l2 l3 l4 l5 : List ℕ) (s s1 s2 s3 s4 s5 : State) (size count : ℕ)
    (long dropped : ℤ) (text : List ℕ) → counting s.count.weight left s ≡ Some (tt, l1, s1)
    → letter_here character_sizes l1 s1 ≡ Some (size, l2, s2) → read_name number l2 s2 ≡ Some (long, l3, s3)
    → read_name number l3 s3 ≡ Some (dropped, l4, s4) → count ≡ string_length size long
    → read_name (characters count) l4 s4 ≡ Some (text, l5, s5)
    → read_name (encoding_after encoded_string) left s ≡ Some (constant_string text, l5, s5)
encoded_string_parts left l1 l2 l3 l4 l5 s s1 s2 s3 s4 s5 size count long dropped text counted sized first second many
    read =
    encoded_string_step left s ∙ rw (counted, sized, first, second, sym many, read) refl

pub encoded_string_rejected : (left l1 l2 l3 l4 : List ℕ) (s s1 s2 s3 s4 : State) (size count : ℕ) (long dropped : ℤ)
    → counting s.count.weight left s ≡ Some (tt, l1, s1)
    → letter_here character_sizes l1 s1 ≡ Some (size, l2, s2) → read_name number l2 s2 ≡ Some (long, l3, s3)
    → read_name number l3 s3 ≡ Some (dropped, l4, s4) → count ≡ string_length size long
    → read_name (characters count) l4 s4 ≡ None → read_name (encoding_after encoded_string) left s ≡ None
encoded_string_rejected left l1 l2 l3 l4 s s1 s2 s3 s4 size count long dropped counted sized first second many none =
    encoded_string_step left s ∙ rw (counted, sized, first, second, sym many, none) refl

characters_step : (n : ℕ) (left : List ℕ) (s : State) → read_name (characters (suc n)) left s
    ≡ and_then (read_name character left s)
    (λ c l t. and_then (read_name (characters n) l t) (λ cs k u. Some (c ∷ cs, k, u)))
unfolding grammar read read_by
characters_step n left s = read_name-is (characters (suc n)) left s

pub characters_start : (n : ℕ) (left : List ℕ) (s : State)
    → with_front [] (read_name (characters n) left s) ≡ read_name (characters n) left s
characters_start n left s = front_none (read_name (characters n) left s)

pub characters_end : (cs : List ℕ) (n : ℕ) (left : List ℕ) (s : State) → n ≡ 0
    → with_front cs (read_name (characters n) left s) ≡ Some (cs, left, s)
unfolding grammar read read_by
characters_end cs zero left s e =
    ap (with_front cs) (read_name-is (characters zero) left s) ∙ ap (λ ds. Some (ds, left, s)) (append-nil cs)
characters_end cs (suc n) left s e = absurd (omega arith)

pub characters_rejected : (cs : List ℕ) (n : ℕ) (left : List ℕ) (s : State) → 0 < n → read_name character left s ≡ None
    → with_front cs (read_name (characters n) left s) ≡ None
characters_rejected cs zero left s h none = absurd (omega arith)
characters_rejected cs (suc n) left s h none =
    ap (with_front cs) (characters_step n left s
    ∙ ap (λ o. and_then o (λ c l t. and_then (read_name (characters n) l t) (λ ds k u. Some (c ∷ ds, k, u)))) none)

pub characters_more : (cs : List ℕ) (n m : ℕ) (left l : List ℕ) (s t : State) (c : ℕ) → n ≡ suc m
    → read_name character left s ≡ Some (c, l, t)
    → with_front cs (read_name (characters n) left s) ≡ with_front (cs ++ c ∷ []) (read_name (characters m) l t)
characters_more cs zero m left l s t c h some = absurd (omega arith)
characters_more cs (suc n) m left l s t c h some =
    ap (with_front cs) (characters_step n left s
    ∙ ap (λ o. and_then o (λ d k u. and_then (read_name (characters n) k u) (λ ds j v. Some (d ∷ ds, j, v)))) some)
    ∙ front_first cs c (read_name (characters n) l t)
    ∙ ap (λ k. with_front (cs ++ c ∷ []) (read_name (characters k) l t)) (let same : n ≡ m = omega arith in same)

-- a byte, and what follows one byte, or what a table has for another
by_byte : {A : Type 0} (table : List (ℕ × A)) (first : ℕ) (f : List ℕ → State → Found A) (left : List ℕ) (s : State)
    → chosen (after (first ∷ []) left) (λ rest. f rest s) (letter_here table left s)
    ≡ and_then (byte_here left s) (λ b l t. cond (b == first) (f l t) (with_value (lookup b table) l t))
unfolding byte_here
by_byte table first f [] s = refl
by_byte table first f (b ∷ bs) s = go (b == first)
  where
    go : (t : Bool) → chosen (cond t (Some bs) None) (λ rest. f rest s) (with_value (lookup b table) bs s)
        ≡ cond t (f bs s) (with_value (lookup b table) bs s)
    go true = refl
    go false = refl

pub character_step : (left : List ℕ) (s : State) → read_name character left s
    ≡ and_then (byte_here left s)
    (λ b l t. cond (b == 63) (read escaped_character l t) (with_value (lookup b plain_characters) l t))
unfolding grammar read read_by
character_step left s =
    read_name-is character left s
    ∙ literal_or-is {a = bits} (codes "?") escaped_character (letter bits plain_characters) left s
    ∙ by_byte plain_characters 63 (λ l t. read escaped_character l t) left s

pub escaped_character_step : (left : List ℕ) (s : State) → read escaped_character left s
    ≡ and_then (byte_here left s)
    (λ b l t. cond (b == 36) (read halves l t) (with_value (lookup b escaped_characters) l t))
unfolding read read_by
escaped_character_step left s =
    literal_or-is {a = bits} (codes "$") halves (letter bits escaped_characters) left s
    ∙ by_byte escaped_characters 36 (λ l t. read halves l t) left s

pub halves_step : (left : List ℕ) (s : State) → read halves left s
    ≡ and_then (letter_here hexadecimal left s) (λ high l t. and_then (letter_here hexadecimal l t)
    (λ low k u. Some (high * 16 + low, k, u)))
unfolding read read_by
halves_step left s = refl

differs : (b c : ℕ) → (b ≡ c → ⊥) → (b == c) ≡ false
differs b c h = go (b == c) refl
  where
    go : (t : Bool) → (b == c) ≡ t → t ≡ false
    go true e = absurd (h (eqb-true b c e))
    go false e = refl

-- any other byte than a ? or a $ is looked up in its table

pub character_other : (b : ℕ) (left l : List ℕ) (s t : State) (o : Option ℕ) → byte_here left s ≡ Some (b, l, t)
    → (b ≡ 63 → ⊥) → lookup b plain_characters ≡ o → read_name character left s ≡ with_value o l t
character_other b left l s t o e other g =
    let f : (b == 63) ≡ false = differs b 63 other in
    character_step left s
    ∙ ap (λ x. and_then x (λ c k u. cond (c == 63) (read escaped_character k u)
    (with_value (lookup c plain_characters) k u))) e
    ∙ ap (λ x. cond x (read escaped_character l t) (with_value (lookup b plain_characters) l t)) f
    ∙ ap (λ x. with_value x l t) g

pub escaped_other : (b : ℕ) (left l : List ℕ) (s t : State) (o : Option ℕ) → byte_here left s ≡ Some (b, l, t)
    → (b ≡ 36 → ⊥) → lookup b escaped_characters ≡ o → read escaped_character left s ≡ with_value o l t
escaped_other b left l s t o e other g =
    let f : (b == 36) ≡ false = differs b 36 other in
    escaped_character_step left s
    ∙ ap (λ x. and_then x (λ c k u. cond (c == 36) (read halves k u) (with_value (lookup c escaped_characters) k u))) e
    ∙ ap (λ x. cond x (read halves l t) (with_value (lookup b escaped_characters) l t)) f
    ∙ ap (λ x. with_value x l t) g

pub ruleset steps = (
  encoded_string_step,
  characters_start,
  characters_end,
  characters_rejected,
  character_step,
  escaped_character_step,
  halves_step,
)
