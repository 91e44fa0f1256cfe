-- What is appended to a text, one part after the other.
use Rattle.std.proofs.Common.{◌≡◌, ℕ, List, [], ◌∷◌, ◌++◌, Bool, cond, ap, sym, ◌∙◌, append_assoc}
use Rattle.std.proofs.lemmas.List.{append-nil}
use Rattle.std.proofs.lemmas.Str.{utf8_lossy-IsUtf8}

-- what two calls append, the first one at first
pub appended : (text text1 text2 first rest : List ℕ) → text1 ≡ text ++ first → text2 ≡ text1 ++ rest →
    text2 ≡ text ++ (first ++ rest)
appended text text1 text2 first rest e e' =
    e' ∙ ap (λ t. t ++ rest) e ∙ append_assoc text first rest

-- the same where the first call appends a word if a test holds
pub named : (text text1 text2 word rest : List ℕ) (is test : Bool) → is ≡ test → text1 ≡ text ++ cond is word [] →
    text2 ≡ text1 ++ rest → text2 ≡ text ++ (cond test word [] ++ rest)
named text text1 text2 word rest is test same e e' =
    appended text text1 text2 (cond test word []) rest (e ∙ ap (λ b. text ++ cond b word []) same) e'

-- the same with nothing after it
pub named_last : (text text1 word : List ℕ) (is test : Bool) → is ≡ test → text1 ≡ text ++ cond is word [] →
    text1 ≡ text ++ (cond test word [] ++ [])
named_last text text1 word is test same e =
    e ∙ ap (λ b. text ++ cond b word []) same ∙ ap (λ w. text ++ w) (sym (append-nil (cond test word [])))

-- what two pushes add, the last one before the first
pub pushed_both : (rest rest1 rest2 first last both : List ℕ) → rest1 ≡ first ++ rest → rest2 ≡ last ++ rest1 →
    last ++ first ≡ both → rest2 ≡ both ++ rest
pushed_both rest rest1 rest2 first last both e e' same =
    e' ∙ ap (λ t. last ++ t) e ∙ sym (append_assoc last first rest) ∙ ap (λ t. t ++ rest) same

pub ruleset lossy = (utf8_lossy-IsUtf8, append_assoc)
