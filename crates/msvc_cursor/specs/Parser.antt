-- The state of the grammar that a parser holds, and what contracts of readers say about it.
use Rattle.std.specs.Prelude.{ℕ, List, [], ◌∷◌, Option, Some, None, Result, Ok, Err, Bool, true, false, ◌≡◌, ◌==◌, ◌+◌}
use Rattle.std.specs.Prelude.{cond, nat_lt}
use Rattle.msvc_nodes.specs.declared.error.Limit.{Limit}
use Rattle.msvc_nodes.specs.declared.error.Limit.TheVariants.{Nodes}
use Rattle.msvc_cursor.specs.Messages.{limit_of_message}
use Rattle.std.specs.Prelude.{◌<◌, ◌≤◌, ◌-◌, IfOk, length, map, position, slice_get, take, drop, if◌then◌else◌}
use Rattle.std.specs.Option.{option_map}
use Rattle.msvc_nodes.specs.declared.kinds.PlainType.TheVariants as plain_kind
use Rattle.msvc_nodes.specs.Trees.{NameTree, SymbolTree, TypeTree, base, plain}
use Rattle.msvc_nodes.specs.NodeView.{name_at, type_at}
use Rattle.std.specs.Borrow.{Bor}
use Rattle.msvc_nodes.specs.declared.nodes.Name.{Name}
use Rattle.msvc_nodes.specs.declared.nodes.Type.{«Type»}
use Rattle.msvc_rules.specs.Readers.{Found, and_then, counting, in_node, type_known, with_value}
use Rattle.msvc_rules.specs.Rules.{after, lookup}
use Rattle.msvc_grammar.specs.Grammar.{is_guard, is_hash, with_index}
use Rattle.msvc_grammar.specs.Letters.{at_sign, base_types, digits, dollar_sign, ellipsis_letter}
use Rattle.msvc_grammar.specs.Letters.{type_information_letter, underscore, qualifiers, reference_qualifiers}
use Rattle.msvc_grammar.specs.Letters.{under_special_letters, basic_special_letters, storage_classes}
use Rattle.msvc_grammar.specs.Letters.{double_under_special_letters, type_information_letters, type_texts}
use Rattle.msvc_grammar.specs.Productions.{guard_index}
use Rattle.msvc_grammar.specs.Reading.{read_name}
use Rattle.msvc_cursor.specs.NestedList.{current, enclosing}
use Rattle.msvc_grammar.specs.declared.forms.SpecialForm.{SpecialForm}
use Rattle.msvc_grammar.specs.declared.forms.TypePrefix.{TypePrefix}
use Rattle.msvc_cursor.specs.declared.letters.OptionalLetters.{OptionalLetters}
use Rattle.msvc_cursor.specs.declared.letters.OptionalLetters.TheVariants as letters
use Rattle.msvc_rules.specs.State as state
use Rattle.msvc_cursor.specs.Notes.{note_of}
use Rattle.msvc_cursor.specs.declared.entries.MemorizedName.{MemorizedName}
use Rattle.msvc_cursor.specs.declared.entries.MemorizedType.{MemorizedType}
use Rattle.msvc_grammar.specs.declared.forms.Ellipsis.{Ellipsis}
use Rattle.msvc_grammar.specs.declared.forms.Ellipsis.TheVariants as ellipsis
use Rattle.msvc_grammar.specs.declared.forms.TemplateNames.{TemplateNames}
use Rattle.msvc_grammar.specs.declared.forms.TemplateNames.TheVariants as templates
use Rattle.msvc_cursor.specs.declared.parser.Parser.{Parser}
use Rattle.msvc_cursor.specs.declared.failure.Failure.{Failure}
use Rattle.msvc_cursor.specs.declared.failure.Failed.{Failed}
use Rattle.msvc_cursor.specs.declared.failure.Failure.TheVariants as failure

-- the name of an entry of the table of names
abbrev pub known_name_of : {L : Type 0} {g : _} → MemorizedName L g → NameTree
known_name_of e = name_at e.memorized

-- an entry of the table of types, as the grammar has it
abbrev pub memorized_of : {L : Type 0} {g : _} → MemorizedType L g → state.Entry
memorized_of e = record { entered = type_at e.memorized; start = e.start; end = e.end }

-- the nodes that a parser has counted
abbrev pub count_of : {L A : Type 0} {g h : _} → Parser L A g h → state.Count
count_of {g = g} p =
    record { weight = g.weight; used = g.used p.limit; max = g.max p.limit }

-- the state of the grammar that a parser holds
abbrev pub state_of : {L A : Type 0} {g h : _} → Parser L A g h → state.State
state_of p =
    record {
      whole = p.text_length;
      count = count_of p;
      names = map known_name_of (current p.tables.names);
      types = map memorized_of (current p.tables.types);
      notes = map note_of p.references.items;
    }

-- what a reader leaves unchanged: the entries before the tables in use, and the lists that its callers fill
pub record Frame (N E : Type 0) : Type 0 where
  pub names : List N
  pub types : List E
  pub listed_names : List (Bor Name)
  pub names_before : List (Bor Name)
  pub listed_types : List (Bor «Type»)
  pub types_before : List (Bor «Type»)

-- the frame of a parser
abbrev pub frame_of : {L A : Type 0} {g h : _} → Parser L A g h → Frame (MemorizedName L g) (MemorizedType L g)
frame_of p =
    record {
      names = enclosing p.tables.names;
      types = enclosing p.tables.types;
      listed_names = current p.listed_names;
      names_before = enclosing p.listed_names;
      listed_types = current p.listed_types;
      types_before = enclosing p.listed_types;
    }

-- a state in which so many nodes more may be made
abbrev pub beyond : ℕ → state.State → state.State
beyond extra s = record s { count = record s.count { max = s.count.max + extra } }

-- whether a rule that may make so many nodes more may read on where a reader stops at this limit, or at none
abbrev pub reads_on : (extra : ℕ) → Option Limit → Bool
reads_on extra (Some Nodes) = nat_lt 0 extra
reads_on extra about = false

-- A rejection means that the rule reads nothing. Where the rule may make so many nodes more than the reader, it does so
-- unless the reader stops at the limit on nodes. No reader fails for the length of a declaration.
abbrev pub Rejects : {Y : Type 0} → (extra : ℕ) → Failure → Option Y → Type 0
Rejects extra failure.Memory read = Unit {0}
Rejects extra (failure.Rejected message left) read =
    cond (reads_on extra (limit_of_message message)) (Unit {0}) (read ≡ None)
Rejects extra (failure.TooLong length) read = ⊥

-- the result of a reader, seen by view, is what its rule reads with so many nodes more; on failure, last_error is the
-- reason
abbrev pub Gives : {X Y : Type 0} → ℕ → (X → Y) → Failure → Result X Failed → Option Y → Type 0
Gives extra view last_error (Ok x) read = read ≡ Some (view x)
Gives extra view last_error (Err e) read = Rejects extra last_error read

-- the result of a function that returns the reason of its failure, seen by view, is what a rule reads with so many nodes
-- more
abbrev pub IsRead : {X Y : Type 0} → ℕ → (X → Y) → Result X Failure → Option Y → Type 0
IsRead extra view (Ok x) read = read ≡ Some (view x)
IsRead extra view (Err e) read = Rejects extra e read

-- The result of a reader, seen by view, is what its rule reads of the unread bytes: its value, the bytes left and the
-- state after it. It holds for every number of nodes that the rule may make beyond the reader's limit: a rejection about
-- no limit therefore means that the rule reads nothing under any.
abbrev pub ReadsAs : {L A : Type 0} {g h : _} {X Y : Type 0} → (X → Y) → Parser L A g h → Parser L A g h
    → Result X Failed → (List ℕ → state.State → Found Y) → Type 0
ReadsAs view before after result reading = (extra : ℕ)
    → Gives extra (λ x. (view x, after.rest.now, beyond extra (state_of after))) after.last_error.reason result
    (reading before.rest.now (beyond extra (state_of before)))

-- a reader that cannot fail reads a value of the unread bytes, as its rule does
abbrev pub AlwaysReads : {L A : Type 0} {g h : _} {Y : Type 0} → Parser L A g h → Parser L A g h → Y
    → (List ℕ → state.State → Found Y) → Type 0
AlwaysReads before after value reading = (extra : ℕ)
    → reading before.rest.now (beyond extra (state_of before))
    ≡ Some (value, after.rest.now, beyond extra (state_of after))

-- a reader that may find nothing finds what its rule reads of the unread bytes, seen by view
abbrev pub MayRead : {L A : Type 0} {g h : _} {X Y : Type 0} → (X → Y) → Parser L A g h → Parser L A g h → Option X
    → (List ℕ → state.State → Found Y) → Type 0
MayRead view before after result reading = (extra : ℕ)
    → reading before.rest.now (beyond extra (state_of before))
    ≡ option_map (λ x. (view x, after.rest.now, beyond extra (state_of after))) result

-- on success, a reader has read at least one byte and has left the frame unchanged
abbrev pub Consumes : {L A : Type 0} {g h : _} {X : Type 0} → Parser L A g h → Parser L A g h → Result X Failed → Type 0
Consumes before after result =
    IfOk result (λ _. (length after.rest.now < length before.rest.now) × (frame_of after ≡ frame_of before))

-- on success, a reader has read any number of bytes, or none, and has left the frame unchanged
abbrev pub MayConsume : {L A : Type 0} {g h : _} {X : Type 0} → Parser L A g h → Parser L A g h → Result X Failed → Type
    0
MayConsume before after result =
    IfOk result (λ _. (length after.rest.now ≤ length before.rest.now) × (frame_of after ≡ frame_of before))

-- on success, a reader has read no byte and has left the frame unchanged
abbrev pub Stays : {L A : Type 0} {g h : _} {X : Type 0} → Parser L A g h → Parser L A g h → Result X Failed → Type 0
Stays before after result =
    IfOk result (λ _. (after.rest.now ≡ before.rest.now) × (frame_of after ≡ frame_of before))

-- the bytes after a literal, if it was read
abbrev pub consumed : Bool → List ℕ → Option (List ℕ)
consumed true rest = Some rest
consumed false rest = None

-- the symbol at the start of a text, its length in bytes, and the digits that were read as whole parameters
abbrev pub with_length : List ℕ → Found SymbolTree → Option (SymbolTree × ℕ × List state.Note)
with_length text found = option_map (λ r. (r.0, length text - length r.1, r.2.notes)) found

-- the letters of a table of qualifiers, and the bits of each
abbrev pub optional_letters : OptionalLetters → List (ℕ × ℕ)
optional_letters letters.StorageClasses = storage_classes
optional_letters letters.Qualifiers = qualifiers
optional_letters letters.ReferenceQualifiers = reference_qualifiers

-- the next byte
unfoldable pub byte_here : List ℕ → state.State → Found ℕ
byte_here [] s = None
byte_here (b ∷ bs) s = Some (b, bs, s)

-- the state after the name of a template, which enters the table of names if template names are memorized
abbrev pub add_template_name : TemplateNames → NameTree → state.State → state.State
add_template_name templates.Memorized n s = state.remember_name n s
add_template_name templates.NotMemorized n s = s

-- an entry and the bytes after its text, if the bytes begin with that text, or what the other entries give
abbrev pub this_or : {A : Type 0} → A → Option (List ℕ) → Option (A × List ℕ) → Option (A × List ℕ)
this_or x None others = others
this_or x (Some rest) others = Some (x, rest)

-- the entry of a table whose text the bytes begin with, and the bytes after that text
unfoldable pub text_at : {A : Type 0} → List (List ℕ × A) → List ℕ → Option (A × List ℕ)
text_at [] left = None
text_at (row ∷ others) left = this_or row.1 (after row.0 left) (text_at others left)

-- a row of a table without the first byte of its text, if that byte is b, and other rows
abbrev pub begun_by : {A : Type 0} → ℕ → List ℕ → A → List (List ℕ × A) → List (List ℕ × A)
begun_by b [] x others = others
begun_by b (l ∷ ls) x others = if l == b then (ls, x) ∷ others else others

-- the rows of a table whose texts begin with a byte, without that byte
abbrev pub one_less : {A : Type 0} → ℕ → List (List ℕ × A) → List (List ℕ × A)
one_less b [] = []
one_less b (row ∷ others) = begun_by b row.0 row.1 (one_less b others)

abbrev pub dollar_texts : List (List ℕ × TypePrefix)
dollar_texts = one_less dollar_sign type_texts

abbrev pub double_dollar_texts : List (List ℕ × TypePrefix)
double_dollar_texts = one_less dollar_sign dollar_texts

-- how many bytes precede the first @
unfoldable pub name_length : List ℕ → Option ℕ
name_length left = position (λ b. b == at_sign) left

-- the bytes before an index and the bytes after the one there, if there is an index
abbrev pub cut_at : Option ℕ → List ℕ → state.State → Found (List ℕ)
cut_at None left s = None
cut_at (Some i) left s = Some (take i left, drop (i + 1) left, s)

-- whether a list of parameters that ends here has an ellipsis, and the bytes after it
unfoldable pub parameters_stop : List ℕ → Option (Ellipsis × List ℕ)
parameters_stop [] = Some (ellipsis.Absent, [])
parameters_stop (b ∷ bs) =
    if b == at_sign then Some (ellipsis.Absent, bs)
    else (if b == ellipsis_letter then Some (ellipsis.Present, bs) else None)

-- the types that the end of a list of parameters adds
abbrev pub ellipsis_types : Ellipsis → List TypeTree
ellipsis_types ellipsis.Absent = []
ellipsis_types ellipsis.Present = plain plain_kind.Variadic ∷ []

-- an ellipsis counts as a node
abbrev pub counting_ellipsis : Ellipsis → List ℕ → state.State → Found (Unit {0})
counting_ellipsis ellipsis.Absent left s = Some (tt, left, s)
counting_ellipsis ellipsis.Present left s = counting s.count.weight left s

-- what a code stands for, if anything, and the bytes after it
abbrev pub at_rest : {A : Type 0} → Option A → List ℕ → Option (A × List ℕ)
at_rest None rest = None
at_rest (Some x) rest = Some (x, rest)

-- the entry of a table for the first byte, and the bytes after it
abbrev pub letter_at : {A : Type 0} → List (ℕ × A) → List ℕ → Option (A × List ℕ)
letter_at table [] = None
letter_at table (b ∷ bs) = at_rest (lookup b table) bs

-- the special name whose code the bytes begin with, letter by letter; special_at_after_under is for a code that begins
-- with _

unfoldable pub special_at_after_under : List ℕ → Option (SpecialForm × List ℕ)
special_at_after_under [] = None
special_at_after_under (b ∷ bs) =
    if b == underscore then letter_at double_under_special_letters bs
    else (if b == type_information_letter then letter_at type_information_letters bs
    else at_rest (lookup b under_special_letters) bs)

unfoldable pub special_at : List ℕ → Option (SpecialForm × List ℕ)
special_at [] = None
special_at (b ∷ bs) = if b == underscore then special_at_after_under bs else at_rest (lookup b basic_special_letters) bs

-- what a table has for a letter, which counts as a node, or what is read else
abbrev pub found_or : {A : Type 0} → Option A → List ℕ → state.State → Found A → Found A
found_or (Some x) left s other = in_node left s (λ l t. Some (x, l, t))
found_or None left s other = other

-- the type of a letter after which nothing is read: a base type with these qualifiers, or the memorized type of a digit
abbrev pub type_of_letter : ℕ → ℕ → List ℕ → state.State → Found TypeTree
type_of_letter q b left s =
    found_or (option_map (λ x. base x q) (lookup b base_types)) left s
    (and_then (with_value (lookup b digits) left s) (λ i l t. type_known (slice_get t.types i) l t))

-- a symbol's name and scope, with the index that follows the name of a guard
abbrev pub indexed : NameTree → List NameTree → List ℕ → state.State → Found (NameTree × List NameTree)
indexed n ns left s =
    and_then (read_name (guard_index (is_guard n)) left s) (λ index l t. Some ((with_index index n, ns), l, t))

-- the bytes before an index, if they are a hash, and the bytes after the one there
abbrev pub hash_at : Option ℕ → List ℕ → state.State → Found (List ℕ)
hash_at None left s = None
hash_at (Some i) left s = if is_hash (take i left) then Some (take i left, drop (i + 1) left, s) else None
