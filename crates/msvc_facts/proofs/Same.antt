-- Whether two trees are the same, as a test that a proof computes.
use Rattle.std.proofs.Common.{ℕ, ℤ, pos, negsuc, List, [], ◌∷◌, Option, Some, None, ◌≡◌, Bool, true, false, refl}
use Rattle.std.proofs.Common.{sym, ap}
use Rattle.std.proofs.Common.{true≢false}
use Rattle.std.specs.Prelude.{is_some, unwrap_or}
use Rattle.std.specs.Str.{bytes_eq}
use denote.Enum.Bare.{Bare, tag_one}
use denote.Enum.Declared.{Declared, tag_of}
use lib.Pointwise.{bytes_decides}
use native.Mathlib.Decide.{ℕ_discrete}
use Rattle.msvc_nodes.specs.Equality.{same_name, same_type}
use Rattle.msvc_nodes.specs.Trees.{NameTree, NameTree-discrete, TypeTree, TypeTree-discrete}
use Rattle.msvc_nodes.specs.contracts.kinds.PrimitiveKind.{the_type as bases}
use Rattle.msvc_nodes.specs.contracts.kinds.Guard.{the_type as guards}
use Rattle.msvc_nodes.specs.contracts.kinds.PointerAffinity.{the_type as marks}
use Rattle.msvc_nodes.specs.contracts.kinds.NumberedType.{the_type as numbers}
use Rattle.msvc_nodes.specs.contracts.kinds.PlainOperator.{the_type as operators}
use Rattle.msvc_nodes.specs.contracts.kinds.PlainType.{the_type as plains}
use Rattle.msvc_nodes.specs.contracts.kinds.Spelling.{the_type as spellings}
use Rattle.msvc_nodes.specs.contracts.kinds.SpecialTableKind.{the_type as tables}
use Rattle.msvc_nodes.specs.contracts.kinds.TagKind.{the_type as tags}
use Rattle.msvc_nodes.specs.contracts.kinds.Convention.{the_type as conventions}
use Rattle.msvc_nodes.specs.contracts.kinds.VarStorageKind.{the_type as kinds}
use Rattle.msvc_nodes.specs.declared.nodes.Number.{Number}
use Rattle.msvc_nodes.proofs.Decisions.{name-from, type-from}

-- what a map decides that takes two values to one only if they are the same
by : {A B : Type 0} (f : A → B) (a b : A) → (f a ≡ f b → a ≡ b) → Dec (f a ≡ f b) → Dec (a ≡ b)
by f a b one (yes e) = yes (one e)
by f a b one (no n) = no (λ e. n (ap f e))

bare : (D : Declared) → Bare D.parts → Discrete D.D
bare D fieldless a b = by (tag_of D) a b (tag_one D fieldless a b) (ℕ_discrete (tag_of D a) (tag_of D b))

by_test : {A : Type 0} (test : Bool) → (test ≡ true → A) → (A → test ≡ true) → Dec A
by_test true holds tested = yes (holds refl)
by_test false holds tested = no (λ a. true≢false (sym (tested a)))

text : Discrete (List ℕ)
text a b = by_test (bytes_eq a b) (bytes_decides a b).0 (bytes_decides a b).1

some : {A : Type 0} (a b : A) → Dec (a ≡ b) → Dec (Some a ≡ Some b)
some a b (yes e) = yes (ap Some e)
some a b (no n) = no (λ e. n (ap (λ o. unwrap_or o a) e))

option : {A : Type 0} → Discrete A → Discrete (Option A)
option d None None = yes refl
option d None (Some b) = no (λ e. true≢false (sym (ap is_some e)))
option d (Some a) None = no (λ e. true≢false (ap is_some e))
option d (Some a) (Some b) = some a b (d a b)

size : ℤ → ℕ
size (pos n) = n
size (negsuc n) = n

is_pos : ℤ → Bool
is_pos (pos n) = true
is_pos (negsuc n) = false

positive : (m n : ℕ) → Dec (m ≡ n) → Dec (pos m ≡ pos n)
unfolding size
positive m n (yes e) = yes (ap pos e)
positive m n (no f) = no (λ e. f (ap size e))

negative : (m n : ℕ) → Dec (m ≡ n) → Dec (negsuc m ≡ negsuc n)
unfolding size
negative m n (yes e) = yes (ap negsuc e)
negative m n (no f) = no (λ e. f (ap size e))

integer : Discrete ℤ
unfolding is_pos
integer (pos m) (pos n) = positive m n (ℕ_discrete m n)
integer (pos m) (negsuc n) = no (λ e. true≢false (ap is_pos e))
integer (negsuc m) (pos n) = no (λ e. true≢false (sym (ap is_pos e)))
integer (negsuc m) (negsuc n) = negative m n (ℕ_discrete m n)

sign : Discrete Bool
sign true true = yes refl
sign true false = no true≢false
sign false true = no (λ e. true≢false (sym e))
sign false false = yes refl

number : (a b : Number) → Dec (a.is_negative ≡ b.is_negative) → Dec (a.value ≡ b.value) → Dec (a ≡ b)
number a b (yes p) (yes q) = yes (λ i. record { is_negative = p i; value = q i })
number a b (yes p) (no n) = no (λ e. n (ap (λ (x : Number). x.value) e))
number a b (no n) q = no (λ e. n (ap (λ (x : Number). x.is_negative) e))

first_and_rest : (a b : Number) (xs ys : List Number) → Dec (a ≡ b) → Dec (xs ≡ ys) → Dec (a ∷ xs ≡ b ∷ ys)
first_and_rest a b xs ys (yes p) (yes q) = yes (λ i. p i ∷ q i)
first_and_rest a b xs ys (yes p) (no n) = no (λ e. n (cc))
first_and_rest a b xs ys (no n) q = no (λ e. n (cc))

signed : Discrete (List Number)
signed [] [] = yes refl
signed [] (b ∷ ys) = no (λ e. absurd (cc))
signed (a ∷ xs) [] = no (λ e. absurd (cc))
signed (a ∷ xs) (b ∷ ys) =
    first_and_rest a b xs ys (number a b (sign a.is_negative b.is_negative) (ℕ_discrete a.value b.value))
    (signed xs ys)

names : Discrete NameTree
names =
    NameTree-discrete (bare spellings tt) text (bare operators tt) (bare guards tt) (option ℕ_discrete) ℕ_discrete
    integer (option text) signed (bare plains tt) (bare bases tt) (bare tags tt) (bare numbers tt)
    (bare marks tt) (bare conventions tt) (bare kinds tt) (bare tables tt)

types : Discrete TypeTree
types =
    TypeTree-discrete (bare spellings tt) text (bare operators tt) (bare guards tt) (option ℕ_discrete) ℕ_discrete
    integer (option text) signed (bare plains tt) (bare bases tt) (bare tags tt) (bare numbers tt)
    (bare marks tt) (bare conventions tt) (bare kinds tt) (bare tables tt)

is_yes : {A : Type 0} → Dec A → Bool
is_yes (yes a) = true
is_yes (no n) = false

yes-holds : {A : Type 0} (d : Dec A) → is_yes d ≡ true → A
unfolding is_yes
yes-holds (yes a) e = a
yes-holds (no n) e = absurd (true≢false (sym e))

holds-yes : {A : Type 0} (d : Dec A) → A → is_yes d ≡ true
unfolding is_yes
holds-yes (yes a) e = refl
holds-yes (no n) e = absurd (n e)

unfoldable pub is_same_name : NameTree → NameTree → Bool
unfolding bare by by_test first_and_rest integer is_yes names negative number option positive sign signed some text
    ℕ_discrete
is_same_name a b = is_yes (names a b)

pub is_same_name-is : (a b : NameTree) → is_same_name a b ≡ same_name a b
unfolding is_same_name
is_same_name-is a b = name-from (is_yes (names a b)) a b (yes-holds (names a b)) (holds-yes (names a b))

unfoldable pub is_same_type : TypeTree → TypeTree → Bool
unfolding bare by by_test first_and_rest integer is_yes types negative number option positive sign signed some text
    ℕ_discrete
is_same_type a b = is_yes (types a b)

pub is_same_type-is : (a b : TypeTree) → is_same_type a b ≡ same_type a b
unfolding is_same_type
is_same_type-is a b = type-from (is_yes (types a b)) a b (yes-holds (types a b)) (holds-yes (types a b))
