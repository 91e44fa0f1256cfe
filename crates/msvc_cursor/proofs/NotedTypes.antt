-- What is read of a digit that is noted, by its entry and what is counted.
use Rattle.std.proofs.Common.{ℕ, List, Option, Some, None, ◌≡◌, sym, ap, ◌∙◌}
use Rattle.msvc_rules.specs.Readers.{and_then, counting, type_noted}
use Rattle.msvc_rules.specs.Reads.{nodes_of_type, note_digit}
use Rattle.msvc_rules.specs.State.{Entry, State}

counted_as : (e : Entry) (left bs : List ℕ) (s t : State) (n : ℕ) → n ≡ nodes_of_type e.entered s
    → t ≡ note_digit e left s → counting (nodes_of_type e.entered s) bs (note_digit e left s) ≡ counting n bs t
counted_as e left bs s t n many noted =
    ap (λ m. counting m bs (note_digit e left s)) (sym many) ∙ ap (counting n bs) (sym noted)

pub noted_rejected : (o : Option Entry) (e : Entry) (left bs : List ℕ) (s t : State) (n : ℕ) → o ≡ Some e
    → n ≡ nodes_of_type e.entered s → t ≡ note_digit e left s → counting n bs t ≡ None
    → type_noted o left bs s ≡ None
noted_rejected o e left bs s t n found many noted none =
    ap (λ x. type_noted x left bs s) found
    ∙ ap (λ z. and_then z (λ (_ : Unit {0}) l u. Some (e.entered, l, u)))
    (counted_as e left bs s t n many noted ∙ none)

pub noted_read : (o : Option Entry) (e : Entry) (left bs rest : List ℕ) (s t u : State) (n : ℕ) → o ≡ Some e
    → n ≡ nodes_of_type e.entered s → t ≡ note_digit e left s → counting n bs t ≡ Some (tt {0}, rest, u)
    → type_noted o left bs s ≡ Some (e.entered, rest, u)
noted_read o e left bs rest s t u n found many noted read =
    ap (λ x. type_noted x left bs s) found
    ∙ ap (λ z. and_then z (λ (_ : Unit {0}) l u. Some (e.entered, l, u)))
    (counted_as e left bs s t n many noted ∙ read)
