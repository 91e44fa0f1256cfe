-- Step lemmas of names.
use Rattle.std.proofs.Common.{ℕ, suc, List, [], ◌∷◌, ◌++◌, length, Option, Some, None, Bool, true, false, cond, not}
use Rattle.std.proofs.Common.{◌+◌, ◌≡◌, ◌==◌, nat_lt, refl, sym, ap, ◌∙◌, arith}
use Rattle.std.specs.Prelude.{slice_get, codes}
use Rattle.std.specs.List.{prefix_len}
use Rattle.std.proofs.lemmas.Bool.{lt-ltb, le-ltb, ltb-true, ltb-false}
use Rattle.std.proofs.Math.Numerals.{one-add, add-one}
use Rattle.msvc_nodes.specs.declared.kinds.Spelling.TheVariants as spelling_kind
use Rattle.msvc_nodes.specs.Trees.{NameTree, anonymous, discriminator, nested, spelled, template, type_trees}
use Rattle.msvc_rules.specs.Readers.{Found, read_by, letter_here, with_byte, part_here, after_literal, and_then}
use Rattle.msvc_rules.specs.Readers.{counting, in_node, name_known, put_apart}
use Rattle.msvc_rules.specs.Reads.{emptied}
use Rattle.msvc_rules.specs.Rules.{after, Rule, give, literal, known_name, call, literal_or, node, ◌>>=◌, ◌>>◌}
use Rattle.msvc_rules.specs.Sorts.{name_tree}
use Rattle.msvc_rules.specs.State.{State, remember_name}
use Rattle.msvc_grammar.specs.Grammar.{grammar, entering_name, nested_symbol, new_interface, new_source_name}
use Rattle.msvc_grammar.specs.Grammar.{template_inside, template_kept}
use Rattle.msvc_grammar.specs.Letters.{at_sign, digits}
use Rattle.msvc_grammar.specs.Productions.{Production, symbol_body, parameters, qualified_name, unqualified_name}
use Rattle.msvc_grammar.specs.Productions.{template_name, scope, nested_name, locally_scoped_name, anonymous_namespace}
use Rattle.msvc_grammar.specs.Productions.{hexadecimal_digits, source_name, special_name, number}
use Rattle.msvc_grammar.specs.Reading.{read_name, read}
use Rattle.msvc_grammar.proofs.Laws.{read_name-is}
use Rattle.msvc_cursor.specs.Parser.{cut_at, add_template_name, name_length}
use Rattle.msvc_cursor.proofs.Choices.{choose, chosen, letter_or-is, literal_or-is}
use Rattle.msvc_grammar.specs.declared.forms.TemplateNames.{TemplateNames}
use Rattle.msvc_grammar.specs.declared.forms.TemplateNames.TheVariants as templates

-- the part up to a byte, by its place
suc_lt : (n m : ℕ) → nat_lt n m ≡ nat_lt (suc n) (suc m)
suc_lt n m = go (nat_lt n m) refl
  where
    go : (t : Bool) → nat_lt n m ≡ t → t ≡ nat_lt (suc n) (suc m)
    go true e = sym (lt-ltb (suc n) (suc m) (omega (arith, ltb-true n m e)))
    go false e = sym (le-ltb (suc n) (suc m) (omega (arith, ltb-false n m e)))

pub part_cut : (left : List ℕ) (s : State) → part_here at_sign left s ≡ cut_at (name_length left) left s
unfolding part_here name_length
part_cut [] s = refl
part_cut (x ∷ xs) s = go (x == at_sign) (prefix_len is_other xs) (part_cut xs s)
  where
    is_other : ℕ → Bool
    is_other z = not (z == at_sign)

    tail_of : (n : ℕ) (t : Bool)
        → with_byte x (cut_at (cond t (Some n) None) xs s) ≡ cut_at (cond t (Some (suc n)) None) (x ∷ xs) s
    tail_of n true = simp add-one
    tail_of n false = refl

    go : (t : Bool) (n : ℕ) → part_here at_sign xs s ≡ cut_at (cond (nat_lt n (length xs)) (Some n) None) xs s
        → cond t (Some ([], xs, s)) (with_byte x (part_here at_sign xs s))
        ≡ cut_at (cond (nat_lt (cond (not t) (1 + n) 0) (length (x ∷ xs))) (Some (cond (not t) (1 + n) 0)) None)
        (x ∷ xs) s
    go true n e = ap (λ t. cut_at (cond t (Some 0) None) (x ∷ xs) s) (sym (lt-ltb 0 (suc (length xs)) (omega arith)))
    go false n e = ap (with_byte x) e ∙ tail_of n (nat_lt n (length xs))
        ∙ simp one-add (ap (λ t. cut_at (cond t (Some (suc n)) None) (x ∷ xs) s) (suc_lt n (length xs)))

pub qualified_name_step : (kept : TemplateNames) (left : List ℕ) (s : State) → read_name (qualified_name kept) left s
    ≡ and_then (read_name (unqualified_name kept) left s)
    (λ n l t. and_then (read_name scope l t) (λ ns k u. Some ((n, ns), k, u)))
unfolding grammar read read_by
qualified_name_step kept left s = read_name-is (qualified_name kept) left s

pub source_name_step : (left : List ℕ) (s : State)
    → read_name source_name left s ≡ cut_at (name_length left) left s
unfolding grammar read read_by
source_name_step left s = read_name-is source_name left s ∙ part_cut left s

pub unqualified_name_step : (kept : TemplateNames) (left : List ℕ) (s : State)
    → read_name (unqualified_name kept) left s
    ≡ choose (letter_here digits left s) (λ i l t. name_known (slice_get t.names i) l t)
    (chosen (after (codes "?$") left) (λ rest. read (template_kept kept) rest s)
    (chosen (after (codes "?") left) (λ rest. read_name special_name rest s) (read new_source_name left s)))
unfolding grammar read read_by
unqualified_name_step kept left s =
    read_name-is (unqualified_name kept) left s
    ∙ letter_or-is digits (λ i. known_name i)
    (literal_or (codes "?$") (template_kept kept) special_or_new) left s
    ∙ ap (choose (letter_here digits left s) (λ i l t. name_known (slice_get t.names i) l t))
    (literal_or-is {a = name_tree} (codes "?$") (template_kept kept) special_or_new left s
    ∙ ap (chosen (after (codes "?$") left) (λ rest. read (template_kept kept) rest s))
    (literal_or-is {a = name_tree} (codes "?") (call special_name) new_source_name left s))
  where
    special_or_new : Rule Production name_tree
    special_or_new = literal_or (codes "?") (call special_name) new_source_name

kept_or_not : (kept : TemplateNames) (left : List ℕ) (s : State) → read (template_kept kept) left s
    ≡ and_then (read_name template_name left s) (λ n l t. Some (n, l, add_template_name kept n t))
unfolding read read_by
kept_or_not templates.NotMemorized left s = go (read_name template_name left s)
  where
    go : (o : Found NameTree) → o ≡ and_then o (λ n l t. Some (n, l, t))
    go None = refl
    go (Some x) = refl
kept_or_not templates.Memorized left s = refl

template_name_step : (left : List ℕ) (s : State) → read_name template_name left s
    ≡ put_apart s (read template_inside left (emptied s))
unfolding grammar read read_by
template_name_step left s = read_name-is template_name left s

pub template_kept_step : (kept : TemplateNames) (left : List ℕ) (s : State) → read (template_kept kept) left s
    ≡ and_then (put_apart s (read template_inside left (emptied s))) (λ n l t. Some (
      n,
      l,
      add_template_name kept n
          t,
    ))
template_kept_step kept left s =
    kept_or_not kept left s
    ∙ ap (λ o. and_then o (λ n l t. Some (n, l, add_template_name kept n t))) (template_name_step left s)

pub template_inside_step : (left : List ℕ) (s : State) → read template_inside left s
    ≡ in_node left s (λ j a. and_then (read_name (unqualified_name templates.Memorized) j a)
    (λ n l t. and_then (read_name parameters l t) (λ ts k u. Some (template n (type_trees ts), k, u))))
unfolding read read_by
template_inside_step left s = refl

pub nested_name_step : (left : List ℕ) (s : State) → read_name nested_name left s
    ≡ choose (letter_here digits left s) (λ i l t. name_known (slice_get t.names i) l t)
    (chosen (after (codes "?") left) (λ rest. read_name locally_scoped_name rest s) (read new_source_name left s))
unfolding grammar read read_by
nested_name_step left s =
    read_name-is nested_name left s
    ∙ letter_or-is digits (λ i. known_name i) (literal_or (codes "?") (call locally_scoped_name) new_source_name) left s
    ∙ ap (choose (letter_here digits left s) (λ i l t. name_known (slice_get t.names i) l t))
    (literal_or-is {a = name_tree} (codes "?") (call locally_scoped_name) new_source_name left s)

pub marked_name_step : (left : List ℕ) (s : State) → read_name locally_scoped_name left s
    ≡ chosen (after (codes "?") left) (λ rest. read nested_symbol rest s)
    (chosen (after (codes "$") left) (λ rest. read (template_kept templates.Memorized) rest s)
    (chosen (after (codes "A") left) (λ rest. read_name anonymous_namespace rest s)
    (chosen (after (codes "Q") left) (λ rest. read new_interface rest s)
    (in_node left s (λ j a. and_then (read_name number j a) (λ z l t. Some (discriminator z, l, t)))))))
unfolding grammar read read_by
marked_name_step left s =
    read_name-is locally_scoped_name left s
    ∙ literal_or-is {a = name_tree} (codes "?") nested_symbol from_template left s
    ∙ ap (chosen (after (codes "?") left) (λ rest. read nested_symbol rest s))
    (literal_or-is {a = name_tree} (codes "$") (template_kept templates.Memorized) from_anonymous left s
    ∙ ap (chosen (after (codes "$") left) (λ rest. read (template_kept templates.Memorized) rest s))
    (literal_or-is {a = name_tree} (codes "A") (call anonymous_namespace) from_interface left s
    ∙ ap (chosen (after (codes "A") left) (λ rest. read_name anonymous_namespace rest s))
    (literal_or-is {a = name_tree} (codes "Q") new_interface from_number left s)))
  where
    from_number : Rule Production name_tree
    from_number = node (do z ← call number; give (discriminator z))

    from_interface : Rule Production name_tree
    from_interface = literal_or (codes "Q") new_interface from_number

    from_anonymous : Rule Production name_tree
    from_anonymous = literal_or (codes "A") (call anonymous_namespace) from_interface

    from_template : Rule Production name_tree
    from_template = literal_or (codes "$") (template_kept templates.Memorized) from_anonymous

pub nested_symbol_step : (left : List ℕ) (s : State) → read nested_symbol left s
    ≡ in_node left s (λ j a. and_then (read_name symbol_body j a)
    (λ x l t. Some (nested x.name x.scope x.symbol_type, l, t)))
unfolding read read_by
nested_symbol_step left s = refl

-- what is made of a node's value is made inside it
inside : {A B : Type 0} (o : Found (Unit {0})) (f : List ℕ → State → Found A) (g : A → List ℕ → State → Found B)
    → and_then (and_then o (λ _. f)) g ≡ and_then o (λ _ l t. and_then (f l t) g)
inside None f g = refl
inside (Some x) f g = refl

pub new_interface_step : (left : List ℕ) (s : State) → read new_interface left s
    ≡ in_node left s (λ j a. and_then (cut_at (name_length j) j a)
    (λ n l t. and_then (read (literal (codes "@")) l t)
    (λ _ k u. Some (spelled spelling_kind.Interface n, k, remember_name (spelled spelling_kind.Interface n) u))))
unfolding read read_by
new_interface_step left s =
    inside (counting s.count.weight left s)
    (λ j a. and_then (read_name source_name j a) (λ n l t. and_then (after_literal (after (codes "@") l) t)
    (λ _ k u. Some (spelled spelling_kind.Interface n, k, u))))
    (λ n l t. Some (n, l, remember_name n t))
    ∙ λ i. in_node left s (λ j a. named j a i)
  where
    end : List ℕ → Option (List ℕ) → State → Found NameTree
    end n o t = and_then (after_literal o t)
        (λ _ k u. Some (spelled spelling_kind.Interface n, k, remember_name (spelled spelling_kind.Interface n) u))

    ended : (n : List ℕ) (o : Option (List ℕ)) (t : State)
        → and_then (and_then (after_literal o t) (λ _ k u. Some (spelled spelling_kind.Interface n, k, u)))
        (λ m k u. Some (m, k, remember_name m u)) ≡ end n o t
    ended n None t = refl
    ended n (Some rest) t = refl

    go : (o : Found (List ℕ))
        → and_then (and_then o (λ n l t. and_then (after_literal (after (codes "@") l) t)
        (λ _ k u. Some (spelled spelling_kind.Interface n, k, u)))) (λ n l t. Some (n, l, remember_name n t))
        ≡ and_then o (λ n l t. and_then (after_literal (after (codes "@") l) t)
        (λ _ k u. Some (spelled spelling_kind.Interface n, k, remember_name (spelled spelling_kind.Interface n) u)))
    go None = refl
    go (Some x) = ended x.0 (after (codes "@") x.1) x.2

    named : (j : List ℕ) (a : State)
        → and_then (and_then (read_name source_name j a) (λ n l t. and_then (after_literal (after (codes "@") l) t)
        (λ _ k u. Some (spelled spelling_kind.Interface n, k, u)))) (λ n l t. Some (n, l, remember_name n t))
        ≡ and_then (cut_at (name_length j) j a) (λ n l t. and_then (after_literal (after (codes "@") l) t)
        (λ _ k u. Some (spelled spelling_kind.Interface n, k, remember_name (spelled spelling_kind.Interface n) u)))
    named j a =
        ap (λ o. and_then (and_then o (λ n l t. and_then (after_literal (after (codes "@") l) t)
        (λ _ k u. Some (spelled spelling_kind.Interface n, k, u)))) (λ n l t. Some (n, l, remember_name n t)))
        (source_name_step j a)
        ∙ go (cut_at (name_length j) j a)

pub anonymous_namespace_step : (left : List ℕ) (s : State) → read_name anonymous_namespace left s
    ≡ chosen (after (codes "0x") left)
    (λ rest. in_node rest s (λ j a. and_then (and_then (read_name hexadecimal_digits j a)
    (λ ds l t. Some (codes "0x" ++ ds, l, t)))
    (λ ds l t. Some (anonymous (Some ds), l, remember_name (anonymous (Some ds)) t))))
    (in_node left s (λ j a. and_then (read (literal (codes "@")) j a) (λ _ l t. Some (anonymous None, l, t))))
unfolding grammar read read_by
anonymous_namespace_step left s =
    read_name-is anonymous_namespace left s
    ∙ literal_or-is {a = name_tree} (codes "0x")
    (entering_name (node (do ds ← call hexadecimal_digits; give (anonymous (Some (codes "0x" ++ ds))))))
    (node (do literal (codes "@"); give (anonymous None))) left s
    ∙ ap (λ f. chosen (after (codes "0x") left) f
    (in_node left s (λ j a. and_then (read (literal (codes "@")) j a) (λ _ l t. Some (anonymous None, l, t)))))
    (λ i rest. digits_of rest i)
  where
    go : (o : Found (List ℕ))
        → and_then (and_then o (λ ds l t. Some (anonymous (Some (codes "0x" ++ ds)), l, t)))
        (λ n l t. Some (n, l, remember_name n t))
        ≡ and_then (and_then o (λ ds l t. Some (codes "0x" ++ ds, l, t)))
        (λ ds l t. Some (anonymous (Some ds), l, remember_name (anonymous (Some ds)) t))
    go None = refl
    go (Some x) = refl

    digits_of : (rest : List ℕ)
        → and_then (in_node rest s (λ j a. and_then (read_name hexadecimal_digits j a)
        (λ ds l t. Some (anonymous (Some (codes "0x" ++ ds)), l, t))))
        (λ n l t. Some (n, l, remember_name n t))
        ≡ in_node rest s (λ j a. and_then (and_then (read_name hexadecimal_digits j a)
        (λ ds l t. Some (codes "0x" ++ ds, l, t)))
        (λ ds l t. Some (anonymous (Some ds), l, remember_name (anonymous (Some ds)) t)))
    digits_of rest =
        inside (counting s.count.weight rest s)
        (λ j a. and_then (read_name hexadecimal_digits j a)
        (λ ds l t. Some (anonymous (Some (codes "0x" ++ ds)), l, t)))
        (λ n l t. Some (n, l, remember_name n t))
        ∙ λ i. in_node rest s (λ j a. go (read_name hexadecimal_digits j a) i)

pub new_source_name_step : (left : List ℕ) (s : State) → read new_source_name left s
    ≡ in_node left s (λ j a. and_then (cut_at (name_length j) j a)
    (λ n l t. Some (spelled spelling_kind.Source n, l, remember_name (spelled spelling_kind.Source n) t)))
unfolding read read_by
new_source_name_step left s =
    inside (counting s.count.weight left s)
    (λ j a. and_then (read_name source_name j a) (λ n l t. Some (spelled spelling_kind.Source n, l, t)))
    (λ n l t. Some (n, l, remember_name n t))
    ∙ λ i. in_node left s (λ j a. named j a i)
  where
    go : (o : Found (List ℕ))
        → and_then (and_then o (λ n l t. Some (spelled spelling_kind.Source n, l, t)))
        (λ n l t. Some (n, l, remember_name n t))
        ≡ and_then o
        (λ n l t. Some (spelled spelling_kind.Source n, l, remember_name (spelled spelling_kind.Source n) t))
    go None = refl
    go (Some x) = refl

    named : (j : List ℕ) (a : State)
        → and_then (and_then (read_name source_name j a) (λ n l t. Some (spelled spelling_kind.Source n, l, t)))
        (λ n l t. Some (n, l, remember_name n t))
        ≡ and_then (cut_at (name_length j) j a)
        (λ n l t. Some (spelled spelling_kind.Source n, l, remember_name (spelled spelling_kind.Source n) t))
    named j a =
        ap (λ o. and_then (and_then o (λ n l t. Some (spelled spelling_kind.Source n, l, t)))
        (λ n l t. Some (n, l, remember_name n t))) (source_name_step j a)
        ∙ go (cut_at (name_length j) j a)

pub ruleset steps = (
  qualified_name_step,
  unqualified_name_step,
  template_kept_step,
  template_inside_step,
  nested_name_step,
  marked_name_step,
  nested_symbol_step,
  new_interface_step,
  anonymous_namespace_step,
  new_source_name_step,
)
