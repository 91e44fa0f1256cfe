-- Whether two trees are equal is decided: a decision of a type is a function of two values of it that says either that
-- they are equal or that they are not.
use Rattle.std.specs.Prelude.{◌≡◌, ℕ, List, Option, Some, None, is_some, unwrap_or}
use denote.Enum.Bare.{Bare, tag_one}
use denote.Enum.Declared.{Declared, tag_of}
use lib.IntN.{ℤ_discrete}
use mathlib.Core.Bool.{Bool-discrete, true≢false}
use mathlib.Core.HLevel.{×_discrete}
use mathlib.Core.List.{List-discrete}
use mathlib.Core.Path.{ap, refl, sym}
use native.Mathlib.Decide.{ℕ_discrete}
use Rattle.msvc_nodes.specs.Trees.{NameTree, NameTrees, TypeTree, TypeTrees, SymbolTree, NameTree-discrete}
use Rattle.msvc_nodes.specs.Trees.{NameTrees-discrete, TypeTree-discrete, TypeTrees-discrete}
use Rattle.msvc_nodes.specs.contracts.kinds.PrimitiveKind.{the_type as bases}
use Rattle.msvc_nodes.specs.contracts.kinds.Guard.{the_type as guards}
use Rattle.msvc_nodes.specs.contracts.kinds.PointerAffinity.{the_type as marks}
use Rattle.msvc_nodes.specs.contracts.kinds.NumberedType.{the_type as numbers}
use Rattle.msvc_nodes.specs.contracts.kinds.PlainOperator.{the_type as operators}
use Rattle.msvc_nodes.specs.contracts.kinds.PlainType.{the_type as plains}
use Rattle.msvc_nodes.specs.contracts.kinds.Spelling.{the_type as spellings}
use Rattle.msvc_nodes.specs.contracts.kinds.SpecialTableKind.{the_type as tables}
use Rattle.msvc_nodes.specs.contracts.kinds.TagKind.{the_type as tags}
use Rattle.msvc_nodes.specs.contracts.kinds.Convention.{the_type as conventions}
use Rattle.msvc_nodes.specs.contracts.kinds.VarStorageKind.{the_type as kinds}
use Rattle.msvc_nodes.specs.declared.kinds.PrimitiveKind.{PrimitiveKind}
use Rattle.msvc_nodes.specs.declared.kinds.Guard.{Guard}
use Rattle.msvc_nodes.specs.declared.kinds.PointerAffinity.{PointerAffinity}
use Rattle.msvc_nodes.specs.declared.kinds.NumberedType.{NumberedType}
use Rattle.msvc_nodes.specs.declared.kinds.PlainOperator.{PlainOperator}
use Rattle.msvc_nodes.specs.declared.kinds.PlainType.{PlainType}
use Rattle.msvc_nodes.specs.declared.kinds.Spelling.{Spelling}
use Rattle.msvc_nodes.specs.declared.kinds.SpecialTableKind.{SpecialTableKind}
use Rattle.msvc_nodes.specs.declared.kinds.TagKind.{TagKind}
use Rattle.msvc_nodes.specs.declared.kinds.Convention.{Convention}
use Rattle.msvc_nodes.specs.declared.kinds.VarStorageKind.{VarStorageKind}
use Rattle.msvc_nodes.specs.declared.nodes.Number.{Number}

-- a decision for an enumeration with nothing in its variants, by the tags of its values
by_tags : (D : Declared) → Bare D.parts → (a b : D.D) → Dec (tag_of D a ≡ tag_of D b) → Dec (a ≡ b)
by_tags D bare a b (yes e) = yes (tag_one D bare a b e)
by_tags D bare a b (no n) = no (λ e. n (ap (tag_of D) e))

bare_discrete : (D : Declared) → Bare D.parts → Discrete D.D
bare_discrete D bare a b = by_tags D bare a b (ℕ_discrete (tag_of D a) (tag_of D b))

base_discrete : Discrete PrimitiveKind
base_discrete = bare_discrete bases tt

guard_discrete : Discrete Guard
guard_discrete = bare_discrete guards tt

mark_discrete : Discrete PointerAffinity
mark_discrete = bare_discrete marks tt

number_discrete : Discrete NumberedType
number_discrete = bare_discrete numbers tt

operator_discrete : Discrete PlainOperator
operator_discrete = bare_discrete operators tt

plain_discrete : Discrete PlainType
plain_discrete = bare_discrete plains tt

spelling_discrete : Discrete Spelling
spelling_discrete = bare_discrete spellings tt

table_discrete : Discrete SpecialTableKind
table_discrete = bare_discrete tables tt

tag_discrete : Discrete TagKind
tag_discrete = bare_discrete tags tt

convention_discrete : Discrete Convention
convention_discrete = bare_discrete conventions tt

kind_discrete : Discrete VarStorageKind
kind_discrete = bare_discrete kinds tt

some_discrete : {A : Type 0} (a b : A) → Dec (a ≡ b) → Dec (Path (Option A) (Some a) (Some b))
some_discrete a b (yes e) = yes (ap Some e)
some_discrete a b (no n) = no (λ e. n (ap (λ o. unwrap_or o a) e))

option_discrete : {A : Type 0} → Discrete A → Discrete (Option A)
option_discrete d None None = yes refl
option_discrete d None (Some b) = no (λ e. true≢false (sym (ap is_some e)))
option_discrete d (Some a) None = no (λ e. true≢false (ap is_some e))
option_discrete d (Some a) (Some b) = some_discrete a b (d a b)

text_discrete : Discrete (List ℕ)
text_discrete = List-discrete ℕ_discrete

number_of : (a b : Number) → Dec (a.is_negative ≡ b.is_negative) → Dec (a.value ≡ b.value) → Dec (a ≡ b)
number_of a b (yes p) (yes q) = yes (λ i. record { is_negative = p i; value = q i })
number_of a b (yes p) (no n) = no (λ e. n (ap (λ x. x.value) e))
number_of a b (no n) q = no (λ e. n (ap (λ x. x.is_negative) e))

numbers_discrete : Discrete (List Number)
numbers_discrete =
    List-discrete (λ a b. number_of a b (Bool-discrete a.is_negative b.is_negative) (ℕ_discrete a.value b.value))

pub name_discrete : Discrete NameTree
name_discrete =
    NameTree-discrete spelling_discrete text_discrete operator_discrete guard_discrete (option_discrete ℕ_discrete)
    ℕ_discrete ℤ_discrete (option_discrete text_discrete) numbers_discrete plain_discrete base_discrete tag_discrete
    number_discrete mark_discrete convention_discrete kind_discrete table_discrete

pub names_discrete : Discrete NameTrees
names_discrete =
    NameTrees-discrete spelling_discrete text_discrete operator_discrete guard_discrete (option_discrete ℕ_discrete)
    ℕ_discrete ℤ_discrete (option_discrete text_discrete) numbers_discrete plain_discrete base_discrete tag_discrete
    number_discrete mark_discrete convention_discrete kind_discrete table_discrete

pub type_discrete : Discrete TypeTree
type_discrete =
    TypeTree-discrete spelling_discrete text_discrete operator_discrete guard_discrete (option_discrete ℕ_discrete)
    ℕ_discrete ℤ_discrete (option_discrete text_discrete) numbers_discrete plain_discrete base_discrete tag_discrete
    number_discrete mark_discrete convention_discrete kind_discrete table_discrete

pub types_discrete : Discrete TypeTrees
types_discrete =
    TypeTrees-discrete spelling_discrete text_discrete operator_discrete guard_discrete (option_discrete ℕ_discrete)
    ℕ_discrete ℤ_discrete (option_discrete text_discrete) numbers_discrete plain_discrete base_discrete tag_discrete
    number_discrete mark_discrete convention_discrete kind_discrete table_discrete

pub symbol_discrete : Discrete (NameTree × NameTrees)
symbol_discrete = ×_discrete name_discrete names_discrete

typed_symbol_of : (s t : SymbolTree) → Dec (s.name ≡ t.name) → Dec (s.scope ≡ t.scope)
    → Dec (s.symbol_type ≡ t.symbol_type) → Dec (s ≡ t)
typed_symbol_of s t (yes p) (yes q) (yes r) = yes (λ i. record { name = p i; scope = q i; symbol_type = r i })
typed_symbol_of s t (yes p) (yes q) (no n) = no (λ e. n (ap (λ x. x.symbol_type) e))
typed_symbol_of s t (yes p) (no n) r = no (λ e. n (ap (λ x. x.scope) e))
typed_symbol_of s t (no n) q r = no (λ e. n (ap (λ x. x.name) e))

pub typed_symbol_discrete : Discrete SymbolTree
typed_symbol_discrete s t =
    typed_symbol_of s t (name_discrete s.name t.name) (names_discrete s.scope t.scope)
    (type_discrete s.symbol_type t.symbol_type)
