-- What a call has written when it ends, and which bytes are lines.
use Rattle.std.specs.Prelude.{ℕ, List, [], ◌∷◌, ◌++◌, ◌≡◌, ◌≢◌, ◌⊎◌, All, Result, MatchResult}
use Rattle.msvc_streams.specs.declared.watched.Fault.{Fault}
use Rattle.msvc_streams.specs.declared.watched.Fault.TheVariants.{Read, Write, Memory}

-- What a call that failed has written, where P states what a whole text is: a beginning of a whole text after `Write`,
-- nothing after `Memory`. Such a call never fails with `Read`.
abbrev pub WritesPart : Fault → (List ℕ → Type 0) → List ℕ → Type 0
WritesPart Read P text = ⊥
WritesPart Write P text = (more : List ℕ) × P (text ++ more)
WritesPart Memory P text = text ≡ []

-- What a call has written, where P states what a whole text is: a whole text if the call succeeded.
abbrev pub Writes : {A : Type 0} → Result A Fault → (List ℕ → Type 0) → List ℕ → Type 0
Writes result P text = MatchResult result (λ _. P text) (λ fault. WritesPart fault P text)

-- no byte is a line feed
abbrev pub IsWithoutEnd : List ℕ → Type 0
IsWithoutEnd bytes = All (λ b. b ≢ 10) bytes

-- the last byte is a line feed, and no other byte is
abbrev pub IsWithEnd : List ℕ → Type 0
IsWithEnd bytes = (front : List ℕ) × IsWithoutEnd front × (bytes ≡ front ++ 10 ∷ [])

-- the bytes are whole lines: there are none, or the last byte is a line feed
abbrev pub IsLines : List ℕ → Type 0
IsLines bytes = (bytes ≡ []) ⊎ ((front : List ℕ) × (bytes ≡ front ++ 10 ∷ []))

-- the bytes are those of one line, with its line feed or without
abbrev pub IsOfOneLine : List ℕ → Type 0
IsOfOneLine bytes = IsWithoutEnd bytes ⊎ IsWithEnd bytes
