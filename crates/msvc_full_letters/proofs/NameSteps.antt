-- Step lemmas of names that are read without recursion.
use Rattle.std.proofs.Common.{ℕ, List, [], ◌∷◌, Some, None, Bool, true, false, cond, not, ◌==◌, ◌≡◌, ◌∙◌, refl}
use Rattle.std.specs.Prelude.{is_some}
use Rattle.msvc_nodes.specs.Trees.{spelled}
use Rattle.msvc_nodes.specs.declared.kinds.Spelling.TheVariants as spelling_kind
use Rattle.msvc_rules.specs.Readers.{Found, and_then, counting, in_node, part_here, read_by}
use Rattle.msvc_rules.specs.State.{State, remember_name}
use Rattle.msvc_full_grammar.specs.Grammar.{grammar}
use Rattle.msvc_full_grammar.specs.Fragments.{new_source_name}
use Rattle.msvc_full_grammar.specs.Letters.{at_sign}
use Rattle.msvc_full_grammar.specs.Productions.{source_name}
use Rattle.msvc_full_grammar.specs.Reading.{read_name, read}
use Rattle.msvc_full_grammar.proofs.Laws.{read_name-is}
use Rattle.msvc_cursor.specs.Parser.{cut_at, name_length}
use Rattle.msvc_cursor.proofs.NameSteps.{part_cut}
use Rattle.msvc_full_letters.specs.Names.{question_mark, source_name_at}

pub source_name_step : (left : List ℕ) (s : State) → read_name source_name left s ≡ source_name_at left s
unfolding grammar read read_by source_name_at
source_name_step [] s = read_name-is source_name [] s ∙ part_cut [] s
source_name_step (b ∷ bs) s =
    read_name-is source_name (b ∷ bs) s
    ∙ go (b == question_mark) (b == at_sign)
  where
    go : (t u : Bool)
        → cond (not (cond (is_some (cond t (Some bs) None)) true (cond (is_some (cond u (Some bs) None)) true false)))
        (part_here at_sign (b ∷ bs) s) None
        ≡ cond t None (cond u None (cut_at (name_length (b ∷ bs)) (b ∷ bs) s))
    go true u = refl
    go false true = refl
    go false false = part_cut (b ∷ bs) s

-- what is made of a node's value is made inside it
inside : {A B : Type 0} (o : Found (Unit {0})) (f : List ℕ → State → Found A) (g : A → List ℕ → State → Found B)
    → and_then (and_then o (λ _. f)) g ≡ and_then o (λ _ l t. and_then (f l t) g)
inside None f g = refl
inside (Some x) f g = refl

pub new_source_name_step : (left : List ℕ) (s : State) → read new_source_name left s
    ≡ in_node left s (λ j a. and_then (read_name source_name j a)
    (λ n l t. Some (spelled spelling_kind.Source n, l, remember_name (spelled spelling_kind.Source n) t)))
unfolding read read_by
new_source_name_step left s =
    inside (counting s.count.weight left s)
    (λ j a. and_then (read_name source_name j a) (λ n l t. Some (spelled spelling_kind.Source n, l, t)))
    (λ n l t. Some (n, l, remember_name n t))
    ∙ λ i. in_node left s (λ j a. go (read_name source_name j a) i)
  where
    go : (o : Found (List ℕ))
        → and_then (and_then o (λ n l t. Some (spelled spelling_kind.Source n, l, t)))
        (λ n l t. Some (n, l, remember_name n t))
        ≡ and_then o
        (λ n l t. Some (spelled spelling_kind.Source n, l, remember_name (spelled spelling_kind.Source n) t))
    go None = refl
    go (Some x) = refl
