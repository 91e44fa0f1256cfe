-- Owned trees can hold each tree that the grammar derives: no rule makes a shape or a convention that they lack.
use Rattle.std.proofs.Common.{Bool, true, false, cond, nat_lt, ◌==◌, ◌≡◌, ◌-◌, ℕ, ℤ, zero, suc, pos, negsuc, List, []}
use Rattle.std.proofs.Common.{◌∷◌, length, Option, Some, refl, subst}
use Rattle.msvc_nodes.specs.Trees.{NameTree, SymbolTree, TypeTree, spelled, operator, guard, type_descriptor}
use Rattle.msvc_nodes.specs.Trees.{base_class_descriptor, template, discriminator, nested, anonymous, shaped}
use Rattle.msvc_nodes.specs.Trees.{name_trees, type_trees}
use Rattle.msvc_nodes.specs.declared.kinds.CallingConv.TheVariants as code_convention
use Rattle.msvc_nodes.specs.declared.kinds.Convention.{Convention}
use Rattle.msvc_rules.specs.Reads.{Reads, given, a_letter, a_literal, a_part, where_it_holds, in_a_row, the_first}
use Rattle.msvc_rules.specs.Reads.{the_second, called, a_known_name, remembered, a_known_type, a_noted_type, entered}
use Rattle.msvc_rules.specs.Reads.{a_node, set_apart}
use Rattle.msvc_rules.specs.Reads.{it_stands}
use Rattle.msvc_rules.specs.Rules.{Rule, call, text_and, lookup, give, letter, here, ◌>>=◌, ◌or◌, remember, node}
use Rattle.msvc_rules.specs.Rules.{entering, apart}
use Rattle.msvc_rules.specs.Sorts.{Sort, Value, bits, convention, name_tree, type_tree, symbol_tree, list, both, based}
use Rattle.msvc_rules.specs.Sorts.{extended, named, points, arrayed, indexed, referred, variable_of, table_of}
use Rattle.msvc_rules.specs.Sorts.{type_information, untyped, encoded_string, virtual_call, plain_function, member_of}
use Rattle.msvc_rules.specs.State.{State, Entry, Note, place, remember_type}
use Rattle.msvc_rules.proofs.NamesInText.{Each, each-got, each-with}
use Rattle.msvc_grammar.specs.Derived.{Derives}
use Rattle.msvc_grammar.specs.Grammar.{grammar, arrays, crate_grammar, escaped_character, hashed_symbol, named_symbol}
use Rattle.msvc_grammar.specs.Grammar.{numbered_guard, template_symbol, with_index}
use Rattle.msvc_grammar.specs.Letters.{conventions, escaped_characters, plain_characters, special_texts, type_texts}
use Rattle.msvc_grammar.specs.Parsed.{IsParsed}
use Rattle.msvc_grammar.specs.Productions.{Production, symbol_body, guard_index, unsigned, encoding_after, characters}
use Rattle.msvc_grammar.specs.Productions.{character, thunk_number, this_qualifiers, signature, returned, special_name}
use Rattle.msvc_grammar.specs.Productions.{special_after, required, type_, type_after, array, positive}
use Rattle.msvc_grammar.specs.Productions.{lengths, template_name, unqualified_name, prefixed_type, function_type}
use Rattle.msvc_grammar.specs.Productions.{member_pointer, class_part}
use Rattle.msvc_grammar.specs.declared.forms.TypePrefix.TheVariants as form
use Rattle.msvc_grammar.specs.declared.forms.SpecialForm.TheVariants as special
use Rattle.msvc_grammar.specs.declared.forms.ObjectQualifiers.TheVariants as object_qualifiers
use Rattle.msvc_grammar.specs.declared.forms.FunctionKind.TheVariants as function_kind
use Rattle.msvc_grammar.specs.declared.forms.MemberPointerForm.TheVariants as pointer_form
use Rattle.msvc_grammar.specs.declared.forms.TemplateNames.TheVariants as templates
use Rattle.msvc_tree.specs.Ownable.{IsOwnable, IsOwnableConvention, IsOwnableName, IsOwnableNames, IsOwnableType}
use Rattle.msvc_tree.specs.Ownable.{IsOwnableTypes}

-- owned trees can hold each tree and each convention in a value
abbrev Ownable : (a : Sort) → Value a → Type 0
Ownable name_tree v = IsOwnableName v
Ownable type_tree v = IsOwnableType v
Ownable symbol_tree v = IsOwnable v
Ownable convention v = IsOwnableConvention v
Ownable (list a) v = Each (Ownable a) v
Ownable (both a b) v = Ownable a v.0 × Ownable b v.1
Ownable _ v = Unit {0}

-- owned trees can hold the type of an entry
abbrev OwnableEntry : Entry → Type 0
OwnableEntry e = IsOwnableType e.entered

-- owned trees can hold each tree in the tables
abbrev OwnableState : State → Type 0
OwnableState s = Each IsOwnableName s.names × Each OwnableEntry s.types

-- the lemmas on lists of `NamesInText` ask for a property of bytes, which they don't use
abbrev of_bytes : List ℕ → Type 0
of_bytes bytes = Unit {0}

ownable-letter : (a : Sort) (table : List (ℕ × Value a)) (b : ℕ) (v : Value a) → Each (λ row. Ownable a row.1) table
    → lookup b table ≡ Some v → Ownable a v
ownable-letter a [] b v h e = absurd (cc)
ownable-letter a (row ∷ table) b v h e = go (b == row.0) e (ownable-letter a table b v h.1)
  where
    go : (t : Bool) → cond t (Some row.1) (lookup b table) ≡ Some v → (lookup b table ≡ Some v → Ownable a v)
        → Ownable a v
    go true e ih = let same : row.1 ≡ v = cc in subst (Ownable a) same h.0
    go false e ih = ih e

ownable-enter : (t : Bool) (e : Entry) (s : State) → OwnableState s → IsOwnableType e.entered
    → OwnableState (cond t (remember_type e s) s)
ownable-enter true e s h q = (h.0, each-with of_bytes OwnableEntry _ e s.types h.1 q)
ownable-enter false e s h q = h

-- a rule's value is ownable if those are that it is made of
unfoldable Gives : {a : Sort} → Rule Production a → Type 0
Gives (give {a = a} v) = Ownable a v
Gives (letter a table) = Each (λ row. Ownable a row.1) table
Gives (here c r) = Gives r
Gives (◌>>=◌ {a = a} r f) = Gives r × ((v : Value a) → Ownable a v → Gives (f v))
Gives (r or q) = Gives r × Gives q
Gives (node r) = Gives r
Gives (remember n) = IsOwnableName n
Gives (entering r) = Gives r
Gives (apart r) = Gives r
Gives _ = Unit {0}

-- what begins with a text of a table
gives_texts : {a : Sort} {A : Type 0} (table : List (List ℕ × A)) (f : A → Rule Production a) → ((x : A) → Gives (f x))
    → Gives (text_and table f)
unfolding Gives
gives_texts [] f go = tt
gives_texts (row ∷ table) f go = ((tt, λ _ _. go row.1), gives_texts table f go)

ownable-arrays : (ns : List ℤ) (t : TypeTree) (q : ℕ) → IsOwnableType t → IsOwnableType (arrays ns t q)
unfolding arrays
ownable-arrays [] t q h = h
ownable-arrays (n ∷ ns) t q h = ownable-arrays ns t q h

ownable-names : (ns : List NameTree) → Each IsOwnableName ns → IsOwnableNames (name_trees ns)
ownable-names [] h = tt
ownable-names (n ∷ ns) h = (h.0, ownable-names ns h.1)

ownable-types : (ts : List TypeTree) → Each IsOwnableType ts → IsOwnableTypes (type_trees ts)
ownable-types [] h = tt
ownable-types (t ∷ ts) h = (h.0, ownable-types ts h.1)

ownable-indexed : (index : Option ℕ) (n : NameTree) → IsOwnableName n → IsOwnableName (with_index index n)
ownable-indexed index (spelled how text) h = h
ownable-indexed index (operator o) h = h
ownable-indexed index (guard kind number) h = tt
ownable-indexed index (type_descriptor q t) h = h
ownable-indexed index (base_class_descriptor a b c d) h = h
ownable-indexed index (template n ts) h = h
ownable-indexed index (discriminator z) h = h
ownable-indexed index (nested n ns t) h = h
ownable-indexed index (anonymous digits) h = h
ownable-indexed index (shaped row q zs bytes ns ts) h = h

ownable-conventions : Each (λ (row : ℕ × Convention). IsOwnableConvention row.1) conventions
ownable-conventions = (
  (code_convention.Cdecl, refl),
  (
    (code_convention.Cdecl, refl),
    (
      (code_convention.Pascal, refl),
      (
        (code_convention.Thiscall, refl),
        ((code_convention.Stdcall, refl), ((code_convention.Fastcall, refl), tt)),
      ),
    ),
  ),
)

no-trees : (table : List (ℕ × ℕ)) → Each (λ row. Ownable bits row.1) table
no-trees [] = tt
no-trees (row ∷ table) = (tt, no-trees table)

gives_escaped : Gives escaped_character
unfolding Gives
gives_escaped = ((tt, λ _ _. search depth 60), no-trees escaped_characters)

gives_hashed : Gives hashed_symbol
unfolding Gives
gives_hashed = (tt, λ n h. (tt, λ _ _. (tt, tt, tt)))

gives_guard : Gives numbered_guard
unfolding Gives
gives_guard = (search depth 60, λ _ _. (tt, λ n h. (tt, λ ns k. (tt, λ _ _. (h, ownable-names ns k, tt)))))

gives_template : Gives template_symbol
unfolding Gives
gives_template = (tt, λ n h. (h, tt, tt))

gives_named : Gives named_symbol
unfolding Gives
gives_named =
    (tt, λ n h. (tt, λ index _. (tt, λ t k. (ownable-indexed index n.0 h.0, ownable-names n.1 h.1, k))))

gives : {a : Sort} (n : Production a) → Gives (grammar n)
unfolding Gives grammar
gives (guard_index true) = search depth 60
gives (guard_index false) = search depth 60
gives (unsigned (pos n)) = search depth 60
gives (unsigned (negsuc n)) = search depth 60
gives (encoding_after (variable_of kind)) = search depth 60
gives (encoding_after (table_of kind)) = (search depth 60, λ q _. (tt, λ ns h. ownable-names ns h))
gives (encoding_after type_information) = search depth 60
gives (encoding_after untyped) = search depth 60
gives (encoding_after encoded_string) = search depth 60
gives (encoding_after virtual_call) = (tt, λ _ _. (tt, λ _ _. (tt, λ _ _. (ownable-conventions, λ c h. h))))
gives (encoding_after plain_function) = (tt, λ f h. (h.0, ownable-types f.1.1 h.1.1, h.1.0))
gives (encoding_after (member_of class)) =
    (tt, λ _ _. (tt, λ _ _. (tt, λ f h. (h.0, ownable-types f.1.1 h.1.1, h.1.0))))
gives (characters zero) = search depth 60
gives (characters (suc n)) = search depth 60
gives character = ((tt, λ _ _. gives_escaped), no-trees plain_characters)
gives (thunk_number true) = search depth 60
gives (thunk_number false) = search depth 60
gives (this_qualifiers object_qualifiers.Absent) = search depth 60
gives (this_qualifiers object_qualifiers.Present) = search depth 60
gives (signature kind) =
    (ownable-conventions, λ c h. (tt, λ _ _. (tt, λ t k. (tt, λ ts m. (h, (k, m))))))
gives (returned function_kind.Member q) = search depth 60
gives (returned function_kind.Free q) = search depth 60
gives (type_after q (based b)) = search depth 60
gives (type_after q extended) = search depth 60
gives (type_after q (named tag)) = (tt, λ n h. (h.0, ownable-names n.1 h.1))
gives (type_after q (points mark on_pointer)) = search depth 60
gives (type_after q arrayed) = search depth 60
gives (type_after q indexed) = search depth 60
gives (type_after q (referred i)) = search depth 60
gives (positive (pos zero)) = search depth 60
gives (positive (pos (suc n))) = search depth 60
gives (positive (negsuc n)) = search depth 60
gives (lengths zero) = search depth 60
gives (lengths (suc n)) = search depth 60
gives symbol_body =
    ((tt, λ _ _. gives_hashed), ((tt, λ _ _. gives_guard), ((tt, λ _ _. gives_template), gives_named)))
gives special_name = gives_texts special_texts (λ f. call (special_after f)) (λ f. tt)
gives (special_after (special.Plain o)) = search depth 60
gives (special_after (special.Guard kind)) = search depth 60
gives (special_after special.TypeDescriptor) = search depth 60
gives (special_after special.BaseClass) = search depth 60
gives (required true) = search depth 60
gives (required false) = search depth 60
gives (unqualified_name templates.NotMemorized) = search depth 60
gives (unqualified_name templates.Memorized) = search depth 60
gives template_name = (tt, λ n h. (tt, λ ts k. (h, ownable-types ts k)))
gives (type_ q) = (gives_texts type_texts (λ f. call (prefixed_type q f)) (λ f. tt), ((tt, λ _ _. tt), tt))
gives (prefixed_type q form.Enumeration) = (tt, λ n h. (h.0, ownable-names n.1 h.1))
gives (prefixed_type q form.ReferenceToFunction) = search depth 60
gives (prefixed_type q form.PointerToFunction) = search depth 60
gives (prefixed_type q form.QualifiedMemberPointer) = search depth 60
gives (prefixed_type q form.Constant) = search depth 60
gives (prefixed_type q form.TemplateParameter) = search depth 60
gives (prefixed_type q form.Array) = search depth 60
gives (prefixed_type q form.RValueReference) = search depth 60
gives (prefixed_type q form.EmptyPack) = search depth 60
gives (prefixed_type q form.Nullptr) = search depth 60
gives (prefixed_type q form.Function) = search depth 60
gives (prefixed_type q form.QualifiedFunction) = search depth 60
gives (prefixed_type q form.Alias) = (tt, λ n h. (h.0, ownable-names n.1 h.1))
gives (prefixed_type q form.CvQualified) = search depth 60
gives (prefixed_type q form.MemberPointer) = search depth 60
gives (function_type object) = (
  tt,
  λ _ _. (
    ownable-conventions,
    λ c h. (search depth 60, λ _ _. (tt, λ t k. (tt, λ ts m. (h, ownable-types ts m, k)))),
  ),
)
gives (member_pointer which) = (
  tt,
  λ n h. (
    search depth 60,
    λ _ _. (tt, λ _ _. (tt, λ f k. (h.0, ownable-names n.1 h.1, k.0, ownable-types f.1.1 k.1.1, k.1.0))),
  ),
)
gives (class_part pointer_form.Qualified) = search depth 60
gives (class_part pointer_form.OfClass) = search depth 60
gives array = search ownable-arrays depth 60
gives _ = search depth 60

-- with ownable tables, what is read is ownable, and so are the tables after it
read-ownable : {a : Sort} {r : Rule Production a} {left : List ℕ} {s : State} {v : Value a} {rest : List ℕ} {t : State}
    → Reads crate_grammar a r left s v rest t → Gives r → OwnableState s → Ownable a v × OwnableState t
unfolding Gives
read-ownable given g h = (g, h)
read-ownable (a_letter {a = a} {table = table} {b = b} {v = v} e) g h = (ownable-letter a table b v g e, h)
read-ownable (a_literal e) g h = (tt, h)
read-ownable (a_part e d) g h = (tt, h)
read-ownable (where_it_holds e d) g h = read-ownable d g h
read-ownable (in_a_row {a = a} {v = v} {t = t} d e) g h =
    let first : Ownable a v × OwnableState t = read-ownable d g.0 h in read-ownable e (g.1 v first.0) first.1
read-ownable (the_first d) g h = read-ownable d g.0 h
read-ownable (the_second d) g h = read-ownable d g.1 h
read-ownable (called {n = n} d) g h = read-ownable d (gives n) h
read-ownable (a_node d) g h = read-ownable d g h
read-ownable (a_known_name {i = i} {n = n} {s = s} e) g h = (each-got of_bytes IsOwnableName s.names i n h.0 e, h)
read-ownable (remembered {n = n} {s = s}) g h = (tt, (each-with of_bytes IsOwnableName _ n s.names h.0 g, h.1))
read-ownable (it_stands e) g h = (tt, h)
read-ownable (a_known_type {i = i} {e = entry} {s = s} e) g h =
    (each-got of_bytes OwnableEntry s.types i entry h.1 e, h)
read-ownable (a_noted_type {i = i} {e = entry} {s = s} e d) g h =
    (each-got of_bytes OwnableEntry s.types i entry h.1 d, h)
read-ownable (entered {v = v} {left = left} {rest = rest} {t = t} d) g h =
    let inner : IsOwnableType v × OwnableState t = read-ownable d g h in (
      inner.0,
      ownable-enter (nat_lt 1 (length left - length rest))
          (record { entered = v; start = place left t; end = place rest t }) t inner.1 inner.0,
    )
read-ownable (set_apart {a = a} {v = v} {t = t} d) g h =
    let inner : Ownable a v × OwnableState t = read-ownable d g (tt, tt) in (inner.0, h)

-- the law: owned trees can hold each tree that the grammar derives
pub derived-ownable : (text : List ℕ) (tree : SymbolTree) (rest : List ℕ) (notes : List Note)
    → Derives text tree rest notes → IsOwnable tree
unfolding Gives
derived-ownable text tree rest notes d = (read-ownable d.1 tt (tt, tt)).0

pub parsed-ownable : (text : List ℕ) (tree : SymbolTree) → IsParsed text tree → IsOwnable tree
parsed-ownable text tree parsed = derived-ownable text tree parsed.rest parsed.notes parsed.derived
